-- Steps of a run, one after another.
use Rattle.std.proofs.Common.{◌≡◌, ◌∙◌, refl, sym, subst}
use Rattle.std.specs.Prelude.{Result, Ok, Err}
use Rattle.pr_initiator.specs.declared.link_fault.LinkFault.{LinkFault}
use Rattle.pr_initiator.specs.Links.{Link}
use Rattle.pr_persist.specs.declared.asked.Asked.{Asked}
use Rattle.pr_persist.specs.declared.exit.PersistExit.{PersistExit}
use Rattle.pr_persist.specs.Exits.{linked_by}
use Rattle.pr_persist.specs.Runs.{Step, Then, Linked}

pub ended : {S T U : Type 0} (first : Step S T) (next : T → Step S U) (old mid : S) (e : PersistExit) → first old mid (Err e) → Then first next old mid (Err e)
ended first next old mid e is = (mid, Err e, is, (refl, refl))

pub went : {S T U : Type 0} (first : Step S T) (next : T → Step S U) (old mid new : S) (v : T) (r : Result U PersistExit) → first old mid (Ok v) → next v mid new r → Then first next old new r
went first next old mid new v r is more = (mid, Ok v, is, more)

pub linked : (asked : Asked) (call : Link → Link → Result Unit LinkFault → Type 0) (old mid : Link) (r : Result Unit LinkFault) (is told : Result Unit PersistExit) → call old mid r → is ≡ linked_by asked r → is ≡ told → Linked asked call old mid told
linked asked call old mid r is told called by same = (r, called, sym same ∙ by)

-- a step by the result that it had
pub told : {S T : Type 0} (step : Step S T) (old mid : S) (r s : Result T PersistExit) → r ≡ s → step old mid r → step old mid s
told step old mid r s same is = subst (step old mid) same is
