use Rattle.std.proofs.Common.{◌∙◌, refl}
use std.Path.{fun_ext}
use Rattle.pr_core.specs.Seats.{seat_of}
use Rattle.pr_core.proofs.Sitting.{takes_some, takes_owner, takes_fit, takes_progress, senses}
use Rattle.pr_core.proofs.StateLaws.{same_ports}
use Rattle.pr_core.proofs.Owned.{same_owned}
use Rattle.pr_core.proofs.state.State.sense_code.Goals as goal

pub invariant_of-self : goal.invariant_of-self
invariant_of-self c =
    record {
      limit = c.args.self.now.limit;
      same_limit = c.args.self.now.same_limit;
      within = c.args.self.now.within;
      ascending = c.args.self.now.ascending;
      keys = c.args.self.now.keys;
      sound = c.args.self.now.sound;
      seated = λ n is. takes_some (seat_of c.args.self.now.seats) (seat_of c.take_attention.new.self) c.args.nexus c.take_attention.ensures.seat n ∙ c.args.self.now.seated n is;
      ports = same_ports (seat_of c.args.self.now.seats) (seat_of c.take_attention.new.self) (takes_some (seat_of c.args.self.now.seats) (seat_of c.take_attention.new.self) c.args.nexus c.take_attention.ensures.seat) c.args.self.now.ports;
      fits = takes_fit c.args.self.now.blocks (seat_of c.args.self.now.seats) (seat_of c.take_attention.new.self) c.args.nexus c.take_attention.ensures.seat c.args.self.now.fits;
      owned =
          same_owned (seat_of c.args.self.now.seats) (seat_of c.take_attention.new.self) (takes_owner (seat_of c.args.self.now.seats) (seat_of c.take_attention.new.self) c.args.nexus c.take_attention.ensures.seat)
          (takes_progress (seat_of c.args.self.now.seats) (seat_of c.take_attention.new.self) c.args.nexus c.take_attention.ensures.seat) c.args.self.now.owned;
      some = c.args.self.now.some;
      most = c.args.self.now.most;
    }

pub returns-clause-senses : goal.returns-clause-senses
returns-clause-senses c =
    senses c.args.self.now _ c.args.nexus c.args.lun c.take_attention.result c.unwrap_or.result
    (record { standing = refl; seat = c.take_attention.ensures.seat; count = c.take_attention.ensures.count; blocks = refl; known = c.requires.known })
    c.if-lun-ne0.false c.take_attention.ensures.first c.take_attention.ensures.known c.unwrap_or.ensures

pub returns-clause-owner : goal.returns-clause-owner
returns-clause-owner c = fun_ext (takes_owner (seat_of c.args.self.now.seats) (seat_of c.take_attention.new.self) c.args.nexus c.take_attention.ensures.seat)

pub returns-clause-progress : goal.returns-clause-progress
returns-clause-progress c = fun_ext (takes_progress (seat_of c.args.self.now.seats) (seat_of c.take_attention.new.self) c.args.nexus c.take_attention.ensures.seat)
