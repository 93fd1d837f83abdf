use Rattle.std.proofs.Common.{◌≡◌, ◌∙◌, ap, subst, refl, Option, Some, is_some, option_map, arith}
use std.Path.{fun_ext}
use Rattle.pr_words.specs.declared.nexus.Nexus.{Nexus}
use Rattle.pr_model.specs.Worlds.{Task, set_at}
use Rattle.pr_core.specs.declared.seats.Seat.{Seat}
use Rattle.pr_core.specs.Seats.{seat_of}
use Rattle.pr_core.specs.States.{progress_in}
use Rattle.pr_core.specs.Fitting.{Fits}
use Rattle.pr_core.specs.Stepping.{with_task}
use Rattle.pr_core.proofs.Admitting.{task_begins}
use Rattle.pr_core.proofs.StateLaws.{seated_same, same_ports}
use Rattle.pr_core.proofs.Going.{set_stays, set_here, set_owner, progress_is}
use Rattle.pr_core.proofs.Tasked.{retasked, retasked_fits}
use Rattle.pr_core.proofs.Owned.{retasked_owned}
use Rattle.pr_core.proofs.state.State.begin.Goals as goal

pub invariant_of-self-clause-seated : goal.invariant_of-self-clause-seated
invariant_of-self-clause-seated c n is =
    ap (λ (k : Nexus → Option Seat). is_some (k n)) c.begin.ensures.seat ∙ seated_same (with_task (Some c.args.task)) (seat_of c.args.self.now.seats) c.args.nexus n ∙ c.args.self.now.seated n is

pub invariant_of-self-clause-fits : goal.invariant_of-self-clause-fits
invariant_of-self-clause-fits c =
    retasked_fits c.args.self.now.blocks (seat_of c.args.self.now.seats) (seat_of c.begin.new.self) c.args.nexus (Some c.args.task) c.begin.ensures.seat c.args.self.now.fits
    (λ u is. let same : c.args.task ≡ u = cc in subst (Fits c.args.self.now.blocks) same c.requires.fits)

pub invariant_of-self-clause-owned : goal.invariant_of-self-clause-owned
invariant_of-self-clause-owned c =
    retasked_owned (seat_of c.args.self.now.seats) (seat_of c.begin.new.self) c.args.nexus (Some c.args.task) c.begin.ensures.seat c.requires.owned c.args.self.now.owned

pub returns-clause-serves : goal.returns-clause-serves
returns-clause-serves c lun buf w command sent depicts carries =
    let self = c.args.self.now in
    let t = c.args.task in (
      record w { task = set_at w.task c.args.nexus (Some t) },
      retasked self _ c.args.nexus (Some t) w.medium w (record { standing = refl; blocks = refl; seat = c.begin.ensures.seat; count = c.begin.ensures.count; known = c.requires.known }) depicts refl,
      refl,
      task_begins w c.args.nexus lun command sent t c.way-way.result (λ e. c.if-count-eq0.false (omega (arith, c.left-count.ensures, e))) c.requires.fresh c.way-way.ensures carries,
    )

pub returns-clause-owner : goal.returns-clause-owner
returns-clause-owner c = fun_ext (set_owner (seat_of c.args.self.now.seats) (seat_of c.begin.new.self) c.args.nexus (Some c.args.task) c.begin.ensures.seat)

pub returns-clause-begins : goal.returns-clause-begins
returns-clause-begins c =
    let t = c.args.task in
    let none : t.done ≡ 0 = ap (λ (x : Task). x.done) c.requires.fresh in
    ap progress_in (set_here (seat_of c.args.self.now.seats) (seat_of c.begin.new.self) c.args.nexus (Some t) c.requires.known c.begin.ensures.seat)
    ∙ progress_is t c.way-way.result c.left-count.result c.way-way.ensures (omega (arith, c.left-count.ensures, none)) none

pub returns-clause-others : goal.returns-clause-others
returns-clause-others c =
    set_stays (seat_of c.args.self.now.seats) (seat_of c.begin.new.self) c.args.nexus (option_map (with_task (Some c.args.task)) (seat_of c.args.self.now.seats c.args.nexus)) c.begin.ensures.seat

pub returns-clause-begun : goal.returns-clause-begun
returns-clause-begun c =
    let none : c.args.task.done ≡ 0 = ap (λ (x : Task). x.done) c.requires.fresh in (c.way-way.ensures, omega (arith, c.left-count.ensures, none))

pub invariant_of-self-clause-ports : goal.invariant_of-self-clause-ports
invariant_of-self-clause-ports c =
    same_ports (seat_of c.args.self.now.seats) (seat_of c.begin.new.self)
    (λ n. ap (λ (k : Nexus → Option Seat). is_some (k n)) c.begin.ensures.seat ∙ seated_same (with_task (Some c.args.task)) (seat_of c.args.self.now.seats) c.args.nexus n) c.args.self.now.ports
