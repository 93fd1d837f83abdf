-- Steps, one after another.
use Rattle.std.proofs.Common.{◌≡◌, refl, sym, subst}
use Rattle.std.specs.Prelude.{Result, Ok, Err}
use Rattle.pr_initiator.specs.declared.answer.Answer.{Answer}
use Rattle.pr_initiator.specs.declared.link_fault.LinkFault.{LinkFault}
use Rattle.pr_initiator.specs.Links.{Link}
use Rattle.pr_fence.specs.declared.asked.Asked.{Asked}
use Rattle.pr_fence.specs.declared.fence_fault.FenceFault.{FenceFault}
use Rattle.pr_fence.specs.Exits.{linked_by, judged_by}
use Rattle.pr_fence.specs.Steps.{Step, Then, GoesOn, Linked, Judged}

-- the first step went well
pub went : {S E T U : Type 0} (first : Step S E T) (next : T → Step S E U) (old mid new : S) (r : Result T E) (v : T) (s : Result U E) → first old mid r → r ≡ Ok v → next v mid new s → Then first next old new s
went {S} {E} {T} first next old mid new r v s is well more = (mid, r, is, subst (λ (x : Result T E). GoesOn next x mid new s) (sym well) more)

-- it failed
pub failed : {S E T U : Type 0} (first : Step S E T) (next : T → Step S E U) (old mid : S) (r : Result T E) (e : E) → first old mid r → r ≡ Err e → Then first next old mid (Err e)
failed {S} {E} {T} first next old mid r e is ill = (mid, r, is, subst (λ (x : Result T E). GoesOn next x mid mid (Err e)) (sym ill) (refl, refl))

-- a call that was made, and a command
pub linked : (asked : Asked) (call : Link → Link → Result Unit LinkFault → Type 0) (old new : Link) (r : Result Unit LinkFault) (s : Result Unit FenceFault) → call old new r → s ≡ linked_by asked r → Linked asked call old new s
linked asked call old new r s is says = (r, is, says)

pub judged : (asked : Asked) (call : Link → Link → Result Answer LinkFault → Type 0) (old new : Link) (r : Result Answer LinkFault) (s : Result Unit FenceFault) → call old new r → s ≡ judged_by asked r → Judged asked call old new s
judged asked call old new r s is says = (r, is, says)
