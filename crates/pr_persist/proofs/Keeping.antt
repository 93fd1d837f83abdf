-- A run keeps the wire that was lent to it.
use Rattle.std.proofs.Common.{◌≡◌, ◌∙◌, Bool, true, false, List, ℕ, ap}
use Rattle.std.specs.Prelude.{Option, Some, Result, Ok, Err}
use Rattle.std.specs.Borrow.{GName}
use Rattle.pr_words.specs.declared.code.TheConstants as code
use Rattle.pr_initiator.specs.declared.answer.Answer.{Answer}
use Rattle.pr_initiator.specs.declared.link_fault.LinkFault.{LinkFault}
use Rattle.pr_initiator.specs.Links.{Link}
use Rattle.pr_initiator.proofs.Readying.{ready_keeps}
use Rattle.pr_persist.specs.declared.asked.Asked.{Asked}
use Rattle.pr_persist.specs.declared.exit.PersistExit.{PersistExit}
use Rattle.pr_persist.specs.declared.plan.Action.{Action}
use Rattle.pr_persist.specs.declared.plan.Action.TheVariants.{In, Out}
use Rattle.pr_persist.specs.Asking.{Wanted}
use Rattle.pr_persist.specs.Runs.{Step, Then, GoesOn, Linked, Judged, Opens, Inquires, Acts, Closes}
use Rattle.pr_persist.specs.Shows.{inquiry_text, reply_text}
use Rattle.pr_persist.specs.Whole.{At, Quiet, Showing, Skips, Looks, Tells, ActsAndTells, Finishes, Runs}

-- a step keeps what is so named
abbrev Keeps : {S T : Type 0} → (S → Option GName) → Step S T → Type 0
Keeps {S} {T} name step = (old new : S) (r : Result T PersistExit) → step old new r → name new ≡ name old

abbrev link_name : Link → Option GName
link_name l = l.reference

abbrev at_name : At → Option GName
at_name a = a.link.reference

goes_on_keeps : {S T U : Type 0} (name : S → Option GName) (next : T → Step S U) → ((v : T) → Keeps name (next v)) → (r : Result T PersistExit) (mid new : S) (s : Result U PersistExit) → GoesOn next r mid new s
    → name new ≡ name mid
goes_on_keeps name next keeps (Ok v) mid new s more = keeps v mid new s more
goes_on_keeps name next keeps (Err e) mid new s (same, is) = ap name same

then_keeps : {S T U : Type 0} (name : S → Option GName) (first : Step S T) (next : T → Step S U) → Keeps name first → ((v : T) → Keeps name (next v)) → Keeps name (Then first next)
then_keeps name first next one more old new s (mid, r, is, goes) = goes_on_keeps name next more r mid new s goes ∙ one old mid r is

linked_keeps : (k : Asked) (call : Link → Link → Result Unit LinkFault → Type 0) → ((old new : Link) (r : Result Unit LinkFault) → call old new r → new.reference ≡ old.reference) → Keeps link_name (Linked k call)
linked_keeps k call keeps old new s (r, is, same) = keeps old new r is

judged_keeps : (k : Asked) (call : Link → Link → Result Answer LinkFault → Type 0) → ((old new : Link) (r : Result Answer LinkFault) → call old new r → new.reference ≡ old.reference) → Keeps link_name (Judged k call)
judged_keeps k call keeps old new s (r, is, same) = keeps old new r is

quiet_keeps : {T : Type 0} (step : Step Link T) → Keeps link_name step → Keeps at_name (Quiet step)
quiet_keeps step keeps old new r is = keeps old.link new.link r is.0

showing_keeps : (k : Asked) (text : List ℕ → Result (List ℕ) ℕ) → Keeps at_name (Showing k text)
showing_keeps k text old new r is = ap link_name is.0

skips_keeps : Keeps at_name Skips
skips_keeps old new r is = ap at_name is.0

looks_keeps : (b : Bool) → Keeps at_name (Looks b)
looks_keeps true = then_keeps at_name (Quiet Inquires) _ (quiet_keeps Inquires (judged_keeps _ _ (λ old new r is. is.reference))) (λ a. showing_keeps _ inquiry_text)
looks_keeps false = skips_keeps

tells_keeps : (a : Action) → Keeps at_name (Tells a)
tells_keeps (In service) = showing_keeps _ (reply_text service)
tells_keeps (Out service) = skips_keeps

pub runs_keep : (w : Wanted) (old new : At) (r : Result Unit PersistExit) → Runs w old new r → new.link.reference ≡ old.link.reference
runs_keep w =
    let enters = λ (u : Unit {0}). then_keeps link_name _ _ (linked_keeps _ _ (λ old new r is. is.reference)) (λ (v : Unit {0}). judged_keeps _ _ (ready_keeps 9 code.Code.NO_SENSE)) in
    let opens : Keeps link_name (Opens w) = then_keeps link_name _ _ (linked_keeps _ _ (λ old new r is. is.reference)) enters in
    let acts : Keeps at_name (ActsAndTells w) = then_keeps at_name (Quiet (Acts w)) _ (quiet_keeps (Acts w) (judged_keeps _ _ (λ old new r is. is.reference))) (λ a. tells_keeps w.action) in
    let finishes : Keeps at_name (Finishes w) = then_keeps at_name (ActsAndTells w) _ acts (λ u. quiet_keeps Closes (linked_keeps _ _ (λ old new r is. is.reference))) in
    then_keeps at_name (Quiet (Opens w)) _ (quiet_keeps (Opens w) opens) (λ a. then_keeps at_name (Looks w.inquires) _ (looks_keeps w.inquires) (λ u. finishes))

pub same_name : {X : Type 0} (a b : X) → Some a ≡ Some b → a ≡ b
same_name a b is = cc
