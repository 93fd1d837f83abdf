use Rattle.std.proofs.Common.{◌≡◌, ◌⊎◌, inl, inr, true, false, is_some, not, nat_lt, Option, Some, refl, sym, ap, ◌∙◌}
use Rattle.std.proofs.lemmas.Bool.{false≢true}
use Rattle.pr_words.specs.declared.nexus.Nexus.{Nexus}
use Rattle.pr_words.specs.declared.limits.TheConstants.{KNOWN}
use Rattle.pr_model.specs.Entries.{Login_code}
use Rattle.pr_model.specs.Histories.{login_code}
use Rattle.pr_core.specs.declared.seats.Seat.{Seat}
use Rattle.pr_core.specs.Seats.{seat_of, count_of, owner_in, task_in, logged_in}
use Rattle.pr_core.specs.States.{owner_at, progress_in}
use Rattle.pr_core.proofs.StateLaws.{login_depicts, stays_seated, others_stay, others_go_on, login_fits, at_same, owner_now, accepted_code, port_by, set_ports}
use Rattle.pr_core.proofs.Owned.{login_owned, login_idle}
use Rattle.pr_core.proofs.state.State.login.Goals as goal
use Rattle.pr_core.proofs.state.State.login.Goals.{else-is_full-via-then-is_full+else-not-is_known, else-is_full-via-else-is_full}

pub invariant_of-self-clause-seated : goal.invariant_of-self-clause-seated
invariant_of-self-clause-seated c n registered =
    let before = seat_of c.args.self.now.seats in
    rw c.log_in.ensures.seat (stays_seated before c.args.nexus (logged_in c.args.who c.args.nexus (before c.args.nexus)) n (c.args.self.now.seated n registered))

pub returns-clause-enters : goal.returns-clause-enters
returns-clause-enters c w depicts =
    let self = c.args.self.now in
    let nobody : is_some (owner_at self c.args.nexus) ≡ false = ap is_some (sym c.owner.ensures) ∙ sym c.is_some.ensures ∙ c.if-is_some.false in
    let room : (is_some (seat_of self.seats c.args.nexus) ≡ true) ⊎ (not (nat_lt (count_of self.seats) KNOWN) ≡ false) = elim c.else-is_full.branch [
      | else-is_full-via-then-is_full+else-not-is_known v ↦ inl (sym v.is_known.ensures ∙ v.if-not-is_known.false)
      | else-is_full-via-else-is_full v ↦ inr (sym c.is_full.ensures ∙ v.if-is_full.false)
    ] in
    let code : login_code w c.args.version c.args.nexus ≡ 0 = accepted_code self w c.args.version c.args.nexus depicts c.if-version-ne1.false c.if-nexus-eq0.false c.if-nexus-gt16.false nobody room in
    (ap Login_code (sym code), rw code (login_depicts self _ c.args.who c.args.nexus refl refl c.log_in.ensures.seat c.log_in.ensures.count w depicts))

pub returns-clause-accepted : goal.returns-clause-accepted
returns-clause-accepted c done =
    let before = seat_of c.args.self.now.seats in
    let o = before c.args.nexus in
    ap (λ (seat : Nexus → Option Seat). owner_in (seat c.args.nexus)) c.log_in.ensures.seat
    ∙ ap owner_in (at_same before c.args.nexus (Some (logged_in c.args.who c.args.nexus o)))
    ∙ owner_now c.args.who c.args.nexus o

pub returns-clause-others : goal.returns-clause-others
returns-clause-others c other n differs owned =
    let before = seat_of c.args.self.now.seats in
    let nobody : is_some (owner_at c.args.self.now c.args.nexus) ≡ false = ap is_some (sym c.owner.ensures) ∙ sym c.is_some.ensures ∙ c.if-is_some.false in
    let not_here : owner_in (before c.args.nexus) ≡ Some other → ⊥ = λ e. false≢true (sym nobody ∙ ap is_some e) in
    let o = Some (logged_in c.args.who c.args.nexus (before c.args.nexus)) in (
      ap (λ (seat : Nexus → Option Seat). owner_in (seat n)) c.log_in.ensures.seat ∙ others_stay before c.args.nexus o other n not_here owned,
      ap (λ (seat : Nexus → Option Seat). progress_in (task_in (seat n))) c.log_in.ensures.seat ∙ others_go_on before c.args.nexus o other n not_here owned,
    )

pub invariant_of-self-clause-fits : goal.invariant_of-self-clause-fits
invariant_of-self-clause-fits c =
    rw c.log_in.ensures.seat (login_fits c.args.self.now.blocks c.args.who (seat_of c.args.self.now.seats) c.args.nexus c.args.self.now.fits)

pub invariant_of-self-clause-owned : goal.invariant_of-self-clause-owned
invariant_of-self-clause-owned c = rw c.log_in.ensures.seat (login_owned c.args.who (seat_of c.args.self.now.seats) c.args.nexus c.args.self.now.owned)

pub returns-clause-idle : goal.returns-clause-idle
returns-clause-idle c done =
    let nobody : is_some (owner_at c.args.self.now c.args.nexus) ≡ false = ap is_some (sym c.owner.ensures) ∙ sym c.is_some.ensures ∙ c.if-is_some.false in
    login_idle c.args.who (seat_of c.args.self.now.seats) (seat_of c.log_in.new.self) c.args.nexus c.log_in.ensures.seat nobody c.args.self.now.owned

pub invariant_of-self-clause-ports : goal.invariant_of-self-clause-ports
invariant_of-self-clause-ports c =
    rw c.log_in.ensures.seat (set_ports (seat_of c.args.self.now.seats) c.args.nexus (Some (logged_in c.args.who c.args.nexus (seat_of c.args.self.now.seats c.args.nexus))) c.args.self.now.ports (port_by c.args.nexus.port c.if-nexus-eq0.false c.if-nexus-gt16.false))
