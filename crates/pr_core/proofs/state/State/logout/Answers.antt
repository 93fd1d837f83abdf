use Rattle.std.proofs.Common.{◌≡◌, Option, Some, option_map, unwrap_or, refl, sym, ap, ◌∙◌}
use Rattle.pr_words.specs.declared.nexus.Nexus.{Nexus}
use Rattle.pr_core.specs.declared.seats.Seat.{Seat}
use Rattle.pr_core.specs.Seats.{seat_of, owner_in, task_in, logged_out}
use Rattle.pr_core.specs.States.{progress_in}
use Rattle.pr_core.proofs.StateLaws.{logout_depicts, logout_fits, seated_same, others_stay, others_go_on, same_ports}
use Rattle.pr_core.proofs.Owned.{logout_owned}
use Rattle.pr_core.proofs.state.State.logout.Goals as goal

pub invariant_of-self-clause-seated : goal.invariant_of-self-clause-seated
invariant_of-self-clause-seated c n registered = rw c.log_out.ensures.seat (seated_same logged_out (seat_of c.args.self.now.seats) c.args.nexus n ∙ c.args.self.now.seated n registered)

pub invariant_of-self-clause-fits : goal.invariant_of-self-clause-fits
invariant_of-self-clause-fits c = rw c.log_out.ensures.seat (logout_fits c.args.self.now.blocks (seat_of c.args.self.now.seats) c.args.nexus c.args.self.now.fits)

pub invariant_of-self-clause-owned : goal.invariant_of-self-clause-owned
invariant_of-self-clause-owned c = rw c.log_out.ensures.seat (logout_owned (seat_of c.args.self.now.seats) c.args.nexus c.args.self.now.owned)

pub returns-clause-enters : goal.returns-clause-enters
returns-clause-enters c w depicts =
    ((ap (λ v. v.owner c.args.nexus) depicts.world ∙ c.requires, refl), logout_depicts c.args.self.now _ c.args.nexus refl refl c.log_out.ensures.seat c.log_out.ensures.count w depicts)

pub returns-clause-others : goal.returns-clause-others
returns-clause-others c other n differs owned =
    let before = seat_of c.args.self.now.seats in
    let not_here : owner_in (before c.args.nexus) ≡ Some other → ⊥ = λ e. differs (ap (λ o. unwrap_or o other) (sym e ∙ c.requires)) in
    let o = option_map logged_out (before c.args.nexus) in (
      ap (λ (seat : Nexus → Option Seat). owner_in (seat n)) c.log_out.ensures.seat ∙ others_stay before c.args.nexus o other n not_here owned,
      ap (λ (seat : Nexus → Option Seat). progress_in (task_in (seat n))) c.log_out.ensures.seat ∙ others_go_on before c.args.nexus o other n not_here owned,
    )

pub invariant_of-self-clause-ports : goal.invariant_of-self-clause-ports
invariant_of-self-clause-ports c =
    rw c.log_out.ensures.seat (same_ports (seat_of c.args.self.now.seats) _ (λ n. seated_same logged_out (seat_of c.args.self.now.seats) c.args.nexus n) c.args.self.now.ports)
