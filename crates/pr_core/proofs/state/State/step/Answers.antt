use Rattle.std.proofs.Common.{◌≡◌, Option, Some, option_map, is_some, refl, sym, ap, ◌∙◌, subst}
use std.Path.{fun_ext}
use Rattle.pr_words.specs.declared.nexus.Nexus.{Nexus}
use Rattle.pr_model.specs.Worlds.{World, Task, set_at}
use Rattle.pr_model.specs.Steps.{MayStepIn, stepped_in}
use Rattle.pr_model.specs.Histories.{AreBlocksOf}
use Rattle.pr_core.specs.declared.seats.Seat.{Seat}
use Rattle.pr_core.specs.Seats.{seat_of, task_in}
use Rattle.pr_core.specs.States.{progress_in}
use Rattle.pr_core.specs.Stepping.{task_after, with_task}
use Rattle.pr_core.specs.Outs.{step_out, Progresses}
use Rattle.pr_core.proofs.StateLaws.{seated_same, same_ports}
use Rattle.pr_core.proofs.Going.{others_seated, set_stays, set_here, set_owner}
use Rattle.pr_core.proofs.Tasked.{retasked_is, retasked_fits}
use Rattle.pr_core.proofs.StepLaws.{the_task, has_within, seat_there, fits_after, progresses, moves}
use Rattle.pr_core.proofs.Owned.{retasked_owned, runs_owned}
use Rattle.pr_core.proofs.state.State.step.Goals as goal

pub step-requires : goal.step-requires
step-requires g c = has_within _ c.args.self.now.blocks (task_in (seat_of c.args.self.now.seats c.args.nexus)) c.requires.task (c.args.self.now.fits c.args.nexus) c.requires.size

pub invariant_of-self : goal.invariant_of-self
invariant_of-self g c =
    let self = c.args.self.now in
    let f : Nexus → Option Seat = seat_of self.seats in
    let h : Nexus → Option Seat = seat_of c.step.new.self in
    let t = the_task _ _ (task_in (f c.args.nexus)) c.requires.task c.step.ensures.seat c.step.ensures.did in
    record {
      limit = self.limit;
      same_limit = self.same_limit;
      within = self.within;
      ascending = self.ascending;
      keys = self.keys;
      sound = self.sound;
      seated = λ n is. ap (λ (k : Nexus → Option Seat). is_some (k n)) t.2 ∙ seated_same (with_task (task_after c.step.result t.0)) f c.args.nexus n ∙ self.seated n is;
      ports = same_ports f h (λ n. ap (λ (k : Nexus → Option Seat). is_some (k n)) t.2 ∙ seated_same (with_task (task_after c.step.result t.0)) f c.args.nexus n) self.ports;
      fits = retasked_fits self.blocks f h c.args.nexus (task_after c.step.result t.0) t.2 self.fits (λ u e. fits_after self.blocks c.step.result t.0 u (self.fits c.args.nexus t.0 t.1) e);
      owned = retasked_owned f h c.args.nexus (task_after c.step.result t.0) t.2 (runs_owned f c.args.nexus t.0 self.owned t.1) self.owned;
      some = self.some;
      most = self.most;
    }

pub returns-clause-owner : goal.returns-clause-owner
returns-clause-owner g c =
    let f : Nexus → Option Seat = seat_of c.args.self.now.seats in
    let t = the_task _ _ (task_in (f c.args.nexus)) c.requires.task c.step.ensures.seat c.step.ensures.did in
    fun_ext (set_owner f (seat_of c.step.new.self) c.args.nexus (task_after c.step.result t.0) t.2)

pub returns-clause-progress : goal.returns-clause-progress
returns-clause-progress g c =
    let f : Nexus → Option Seat = seat_of c.args.self.now.seats in
    let t = the_task _ _ (task_in (f c.args.nexus)) c.requires.task c.step.ensures.seat c.step.ensures.did in
    let now : task_in (seat_of c.step.new.self c.args.nexus) ≡ task_after c.step.result t.0 = set_here f (seat_of c.step.new.self) c.args.nexus (task_after c.step.result t.0) (seat_there (f c.args.nexus) t.0 t.1) t.2 in
    subst (λ (o : Option Task). Progresses c.step.result (progress_in o) (progress_in (task_in (seat_of c.step.new.self c.args.nexus)))) (sym t.1)
    (subst (λ (o : Option Task). Progresses c.step.result (progress_in (Some t.0)) (progress_in o)) (sym now) (progresses c.step.result t.0 t.3.now t.3.steps))

pub returns-clause-others : goal.returns-clause-others
returns-clause-others g c who owns =
    let f : Nexus → Option Seat = seat_of c.args.self.now.seats in
    let t = the_task _ _ (task_in (f c.args.nexus)) c.requires.task c.step.ensures.seat c.step.ensures.did in
    others_seated who c.args.nexus f (seat_of c.step.new.self) owns (set_owner f (seat_of c.step.new.self) c.args.nexus (task_after c.step.result t.0) t.2)
    (set_stays f (seat_of c.step.new.self) c.args.nexus (option_map (with_task (task_after c.step.result t.0)) (f c.args.nexus)) t.2)

pub returns-clause-enters : goal.returns-clause-enters
returns-clause-enters g c who sent owns carried w depicts holds =
    let self = c.args.self.now in
    let n = c.args.nexus in
    let f : Nexus → Option Seat = seat_of self.seats in
    let t = the_task _ _ (task_in (f n)) c.requires.task c.step.ensures.seat c.step.ensures.did in
    let runs : w.task n ≡ Some t.0 = ap (λ (x : World). x.task n) depicts.world ∙ t.1 in
    let m = moves w n t.0 sent c.step.result (g.M.Medium.contents c.args.medium.now) (g.M.Medium.contents c.step.new.medium) c.args.block.now c.step.new.block t.3 carried holds in
    let is : stepped_in w n (w.task n) sent (step_out c.step.result c.step.new.block) ≡ record w { medium = m.medium; task = set_at w.task n (task_after c.step.result t.0) } =
    ap (λ (o : Option Task). stepped_in w n o sent (step_out c.step.result c.step.new.block)) runs ∙ m.world in (
      (
        ap (λ (x : World). x.owner n) depicts.world ∙ owns,
        subst (λ (o : Option Task). MayStepIn w.medium o sent (step_out c.step.result c.step.new.block)) (sym runs) m.may,
      ),
      retasked_is self _ n (task_after c.step.result t.0) m.medium w _ (record { standing = refl; blocks = refl; seat = t.2; count = c.step.ensures.count; known = seat_there (f n) t.0 t.1 }) depicts m.count is,
      subst (λ (v : World). AreBlocksOf (g.M.Medium.contents c.step.new.medium) v.medium) (sym is) m.holds,
    )

pub returns-clause-kept : goal.returns-clause-kept
returns-clause-kept g c =
    let t = the_task _ _ (task_in (seat_of c.args.self.now.seats c.args.nexus)) c.requires.task c.step.ensures.seat c.step.ensures.did in
    t.3.kept
