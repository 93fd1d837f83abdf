use Rattle.std.proofs.Common.{◌≡◌, ℕ, Some, sym, ap, ◌∙◌, subst}
use Rattle.pr_core.specs.View.{owner_of}
use Rattle.pr_core.specs.Shared.{Stands, ground_in}
use Rattle.pr_gate.specs.Passes.{number_of, seen_of, own_of, ground_of}
use Rattle.pr_session.specs.Sessions.{work_of, lane_of}
use Rattle.pr_session.specs.Coming.{Agrees}
use Rattle.pr_session.proofs.Sharings.{holds_now, right_seen}
use Rattle.pr_session.proofs.Closings.{owner_by, out_stands, out_ground}
use Rattle.pr_session.proofs.held.log_out.Goals as goal

pub logout-requires : goal.logout-requires
logout-requires g c =
    let old = c.args.pass.now in
    let new = c.enter.new.pass in
    let core = c.value.result.now in
    let s = c.args.session.now in
    subst (λ (w : ℕ). owner_of core c.in-Some.nexus ≡ Some w) (sym c.number-who.ensures)
    (owner_by (number_of old) core s.state (work_of s) c.in-Some.nexus c.requires.settled (sym c.nexus.ensures ∙ c.in-Some.is)
    (holds_now (ground_of old) (ground_of new) (number_of old) (number_of new) (seen_of old) (seen_of new) (own_of old) (own_of new) core c.in_ok-turn.turn.value.value (λ k. Agrees (lane_of s).phase (number_of old) k) c.requires.agrees
    c.in_ok-turn.ensures.begins c.enter.ensures.same.4 c.enter.ensures.same.1 old.owned new.owned c.in_ok-turn.ensures.own c.in_ok-turn.ensures.ground c.in_ok-turn.ensures.value c.value.ensures.value))

pub leave-requires-clause-stands : goal.leave-requires-clause-stands
leave-requires-clause-stands g c κs within =
    out_stands c.number-who.result c.in-Some.nexus c.value.result.now c.logout.new.self c.in_ok-turn.turn.value.value (seen_of c.enter.new.pass) c.logout-2.result c.logout.ensures.entry c.logout-2.ensures c.value.ensures.value c.in_ok-turn.ensures.value

pub returns-clause-right : goal.returns-clause-right
returns-clause-right g c k is right =
    let next = c.logout.new.self in
    let given = c.in_ok-turn.turn.value.value in
    let now : Stands next (seen_of c.leave.new.pass) = subst (Stands next) (sym c.leave.ensures.seen)
    (out_stands c.number-who.result c.in-Some.nexus c.value.result.now next given (seen_of c.enter.new.pass) c.logout-2.result c.logout.ensures.entry c.logout-2.ensures c.value.ensures.value c.in_ok-turn.ensures.value) in
    let held : ground_of c.args.pass.now ≡ Some (ground_in next) = sym c.enter.ensures.same.4 ∙ c.in_ok-turn.ensures.ground ∙ ap Some (out_ground c.value.result.now next given _ c.logout.ensures.entry c.value.ensures.value) in
    right_seen next k (ground_of c.args.pass.now) (seen_of c.leave.new.pass) is held now
