-- What a run sends, and how it goes on (this project's own; the commands are SPC-4's).
use Rattle.std.specs.Prelude.{◌≡◌, false, Result, Ok, Err}
use Rattle.pr_words.specs.declared.code.TheConstants as code
use Rattle.pr_words.specs.declared.nexus.Nexus.{Nexus}
use Rattle.pr_words.specs.declared.service.OutService.{OutService}
use Rattle.pr_words.specs.declared.service.OutService.TheVariants as outs
use Rattle.pr_initiator.specs.declared.answer.Answer.{Answer}
use Rattle.pr_initiator.specs.declared.link_fault.LinkFault.{LinkFault}
use Rattle.pr_initiator.specs.Commands.{Order, HasAnswered, IsReady, inquiry, out_list, reserve_in, reserve_out}
use Rattle.pr_initiator.specs.Links.{Link}
use Rattle.pr_initiator.specs.Logins.{HasDialled, HasLoggedIn, HasLoggedOut}
use Rattle.pr_persist.specs.declared.asked.Asked.{Asked}
use Rattle.pr_persist.specs.declared.asked.Asked.TheVariants as ask
use Rattle.pr_persist.specs.declared.exit.PersistExit.{PersistExit}
use Rattle.pr_persist.specs.declared.plan.Action.{Action}
use Rattle.pr_persist.specs.declared.plan.Action.TheVariants.{In, Out}
use Rattle.pr_persist.specs.declared.plan.Fields.{Fields}
use Rattle.pr_persist.specs.Asking.{Wanted}
use Rattle.pr_persist.specs.Exits.{judged_by, linked_by}

-- the order of an action; what it doesn't take is zero
abbrev pub changes_by : OutService → Fields → Order
changes_by outs.Register f = reserve_out outs.Register 0 (out_list f.key.0 f.action_key.0 f.aptpl)
changes_by outs.RegisterAndIgnoreExistingKey f = reserve_out outs.RegisterAndIgnoreExistingKey 0 (out_list 0 f.action_key.0 f.aptpl)
changes_by outs.Reserve f = reserve_out outs.Reserve f.kind (out_list f.key.0 0 false)
changes_by outs.Release f = reserve_out outs.Release f.kind (out_list f.key.0 0 false)
changes_by outs.Clear f = reserve_out outs.Clear 0 (out_list f.key.0 0 false)
changes_by outs.Preempt f = reserve_out outs.Preempt f.kind (out_list f.key.0 f.action_key.0 false)
changes_by outs.PreemptAndAbort f = reserve_out outs.PreemptAndAbort f.kind (out_list f.key.0 f.action_key.0 false)

abbrev pub order_of : Action → Fields → Order
order_of (In service) f = reserve_in service
order_of (Out service) f = changes_by service f

-- a step of a run: what came of it, by the state before it and after it
abbrev pub Step : Type 0 → Type 0 → Type 1
Step S T = S → S → Result T PersistExit → Type 0

-- a fault of the link ends the run, and the exit says what was asked
abbrev pub Linked : Asked → (Link → Link → Result Unit LinkFault → Type 0) → Step Link Unit
Linked asked call old new result = (r : Result Unit LinkFault) × call old new r × (result ≡ linked_by asked r)

-- and so does an answer that isn't GOOD
abbrev pub Judged : Asked → (Link → Link → Result Answer LinkFault → Type 0) → Step Link Answer
Judged asked call old new result = (r : Result Answer LinkFault) × call old new r × (result ≡ judged_by asked r)

abbrev pub GoesOn : {S T U : Type 0} → (T → Step S U) → Result T PersistExit → Step S U
GoesOn next (Ok v) mid new result = next v mid new result
GoesOn next (Err e) mid new result = (new ≡ mid) × (result ≡ Err e)

-- one step, and what follows it unless it ends the run
abbrev pub Then : {S T U : Type 0} → Step S T → (T → Step S U) → Step S U
Then {S} {T} first next old new result = (mid : S) × (r : Result T PersistExit) × first old mid r × GoesOn next r mid new result

-- it logs in, and asks until the target is ready
abbrev pub Enters : Nexus → Step Link Answer
Enters nexus = Then (Linked ask.Login (HasLoggedIn nexus)) (λ u. Judged ask.Readiness (IsReady 9 code.Code.NO_SENSE))

-- it dials before
abbrev pub Opens : Wanted → Step Link Answer
Opens w = Then (Linked ask.Connection (HasDialled w.address)) (λ u. Enters w.nexus)

abbrev pub Inquires : Step Link Answer
Inquires = Judged ask.Inquiry (λ old new r. HasAnswered old new inquiry r)

abbrev pub Acts : Wanted → Step Link Answer
Acts w = Judged (ask.Command w.action) (λ old new r. HasAnswered old new (order_of w.action w.fields) r)

abbrev pub Closes : Step Link Unit
Closes = Linked ask.Logout HasLoggedOut
