-- What was shown of an answer's data.
use Rattle.std.proofs.Common.{◌≡◌, ℕ, List, subst, refl}
use Rattle.std.specs.Prelude.{Result, Ok, Err}
use Rattle.pr_io.specs.declared.outside.Failed.{Failed}
use Rattle.pr_io.specs.Told.{ToldSink}
use Rattle.pr_persist.specs.declared.asked.Asked.{Asked}
use Rattle.pr_persist.specs.declared.exit.PersistExit.{PersistExit}
use Rattle.pr_persist.specs.declared.exit.PersistExit.TheVariants.{BadData}
use Rattle.pr_persist.specs.Prints.{HasPrinted}
use Rattle.pr_persist.specs.Shows.{HasShown, written_by}

pub told : (asked : Asked) (t : Result (List ℕ) ℕ) (text : List ℕ) (old new : ToldSink) (p : Result Unit Failed) (r : Result Unit PersistExit) → Ok text ≡ t → HasPrinted old new text p → r ≡ written_by p → HasShown asked t old new r
told asked t text old new p r is printed by = subst (λ (w : Result (List ℕ) ℕ). HasShown asked w old new r) is (p, printed, by)

pub broken : (asked : Asked) (t : Result (List ℕ) ℕ) (place : ℕ) (old : ToldSink) (r : Result Unit PersistExit) → Err place ≡ t → r ≡ Err (BadData asked place) → HasShown asked t old old r
broken asked t place old r is by = subst (λ (w : Result (List ℕ) ℕ). HasShown asked w old old r) is (refl, by)
