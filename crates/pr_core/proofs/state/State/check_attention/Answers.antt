use Rattle.std.proofs.Common.{◌∙◌, sym, ap, refl}
use Rattle.pr_grammar.specs.Operations.{unconditional_in}
use std.Path.{fun_ext}
use Rattle.pr_core.specs.Seats.{seat_of}
use Rattle.pr_core.proofs.Sitting.{takes_some, takes_owner, takes_fit, takes_progress, attention_passes, attention_reported, attention_passed_over}
use Rattle.pr_core.proofs.StateLaws.{same_ports}
use Rattle.pr_core.proofs.Owned.{same_owned}
use Rattle.pr_core.proofs.state.State.check_attention.Goals as goal

pub invariant_of-self : goal.invariant_of-self
invariant_of-self c =
    record {
      limit = c.args.self.now.limit;
      same_limit = c.args.self.now.same_limit;
      within = c.args.self.now.within;
      ascending = c.args.self.now.ascending;
      keys = c.args.self.now.keys;
      sound = c.args.self.now.sound;
      seated = λ n is. takes_some (seat_of c.args.self.now.seats) (seat_of c.take_attention.new.self) c.args.nexus c.take_attention.ensures.seat n ∙ c.args.self.now.seated n is;
      ports = same_ports (seat_of c.args.self.now.seats) (seat_of c.take_attention.new.self) (takes_some (seat_of c.args.self.now.seats) (seat_of c.take_attention.new.self) c.args.nexus c.take_attention.ensures.seat) c.args.self.now.ports;
      fits = takes_fit c.args.self.now.blocks (seat_of c.args.self.now.seats) (seat_of c.take_attention.new.self) c.args.nexus c.take_attention.ensures.seat c.args.self.now.fits;
      owned =
          same_owned (seat_of c.args.self.now.seats) (seat_of c.take_attention.new.self) (takes_owner (seat_of c.args.self.now.seats) (seat_of c.take_attention.new.self) c.args.nexus c.take_attention.ensures.seat)
          (takes_progress (seat_of c.args.self.now.seats) (seat_of c.take_attention.new.self) c.args.nexus c.take_attention.ensures.seat) c.args.self.now.owned;
      some = c.args.self.now.some;
      most = c.args.self.now.most;
    }

pub returns-in-Some-clause-passes : goal.returns-in-Some-clause-passes
returns-in-Some-clause-passes c op at =
    attention_reported c.args.self.now _ c.args.nexus op c.in-Some.code
    (record { standing = refl; seat = c.take_attention.ensures.seat; count = c.take_attention.ensures.count; blocks = refl; known = c.requires.known })
    (sym (ap unconditional_in at) ∙ sym c.is_unconditional.ensures ∙ c.if-is_unconditional.false) (sym c.in-Some.is ∙ c.take_attention.ensures.first) c.in-Some.ensures.known

pub returns-in-Some-clause-owner : goal.returns-in-Some-clause-owner
returns-in-Some-clause-owner c =
    fun_ext (takes_owner (seat_of c.args.self.now.seats) (seat_of c.take_attention.new.self) c.args.nexus c.take_attention.ensures.seat)

pub returns-in-Some-clause-known : goal.returns-in-Some-clause-known
returns-in-Some-clause-known c = takes_some (seat_of c.args.self.now.seats) (seat_of c.take_attention.new.self) c.args.nexus c.take_attention.ensures.seat c.args.nexus ∙ c.requires.known

pub returns-in-None-clause-passes : goal.returns-in-None-clause-passes
returns-in-None-clause-passes c op at =
    attention_passes c.args.self.now _ c.args.nexus op
    (record { standing = refl; seat = c.take_attention.ensures.seat; count = c.take_attention.ensures.count; blocks = refl; known = c.requires.known })
    (sym c.in-None.is ∙ c.take_attention.ensures.first)

pub returns-in-None-clause-owner : goal.returns-in-None-clause-owner
returns-in-None-clause-owner c =
    fun_ext (takes_owner (seat_of c.args.self.now.seats) (seat_of c.take_attention.new.self) c.args.nexus c.take_attention.ensures.seat)

pub returns-in-None-clause-known : goal.returns-in-None-clause-known
returns-in-None-clause-known c = takes_some (seat_of c.args.self.now.seats) (seat_of c.take_attention.new.self) c.args.nexus c.take_attention.ensures.seat c.args.nexus ∙ c.requires.known

pub returns-then-is_unconditional-clause-passes : goal.returns-then-is_unconditional-clause-passes
returns-then-is_unconditional-clause-passes c op at =
    attention_passed_over c.args.self.now c.args.nexus op (sym (ap unconditional_in at) ∙ sym c.is_unconditional.ensures ∙ c.if-is_unconditional.true)

pub returns-in-Some-clause-progress : goal.returns-in-Some-clause-progress
returns-in-Some-clause-progress c = fun_ext (takes_progress (seat_of c.args.self.now.seats) (seat_of c.take_attention.new.self) c.args.nexus c.take_attention.ensures.seat)

pub returns-in-None-clause-progress : goal.returns-in-None-clause-progress
returns-in-None-clause-progress c = fun_ext (takes_progress (seat_of c.args.self.now.seats) (seat_of c.take_attention.new.self) c.args.nexus c.take_attention.ensures.seat)
