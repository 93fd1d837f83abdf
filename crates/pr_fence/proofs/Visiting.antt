-- Devices, one after another.
use Rattle.std.proofs.Common.{◌≡◌, ◌∙◌, ◌+◌, ◌≤◌, ◌||◌, ℕ, suc, Bool, List, ◌∷◌, length, drop, refl, sym, ap, subst, add-one}
use Rattle.std.specs.Prelude.{Result, Ok, Err, Some, slice_get}
use Rattle.std.proofs.Math.Seq.{drop-cons}
use Rattle.std.proofs.lemmas.List.{drop_all}
use Rattle.std.proofs.lemmas.Option.{get_or_from_slice_get, slice_get_within}
use Rattle.pr_fence.specs.declared.exit.FenceExit.{FenceExit}
use Rattle.pr_fence.specs.Whole.{At, Visits, VisitsAll}
use Rattle.pr_fence.specs.Words.{Wanted}
use Rattle.pr_fence.proofs.Stepping.{went, failed}

-- the addresses from one on
from : (ws : List (List ℕ)) (i : ℕ) (a : List ℕ) → slice_get ws i ≡ Some a → drop i ws ≡ a ∷ drop (i + 1) ws
from ws i a at =
    drop-cons ws i a (slice_get_within ws i a at) ∙ ap (λ (x : List ℕ). x ∷ drop (suc i) ws) (get_or_from_slice_get ws i a a at) ∙ ap (λ (n : ℕ). a ∷ drop n ws) (sym (add-one i))

-- one device more
pub visited : (w : Wanted) (ws : List (List ℕ)) (i : ℕ) (found here next : Bool) (a : List ℕ) (old mid new : At) (v r : Result Bool FenceExit) → slice_get ws i ≡ Some a → Visits w i a old mid v → v ≡ Ok here → next ≡ (found || here)
    → VisitsAll w (i + 1) next (drop (i + 1) ws) mid new r → VisitsAll w i found (drop i ws) old new r
visited w ws i found here next a old mid new v r at one well is rest =
    let more = subst (λ (b : Bool). VisitsAll w (i + 1) b (drop (i + 1) ws) mid new r) is rest in
    subst (λ (l : List (List ℕ)). VisitsAll w i found l old new r) (sym (from ws i a at)) (went (Visits w i a) (λ h. VisitsAll w (i + 1) (found || h) (drop (i + 1) ws)) old mid new v here r one well more)

-- the work on a device ended the run
pub stopped : (w : Wanted) (ws : List (List ℕ)) (i : ℕ) (found : Bool) (a : List ℕ) (old mid : At) (v : Result Bool FenceExit) (e : FenceExit) → slice_get ws i ≡ Some a → Visits w i a old mid v → v ≡ Err e → VisitsAll w i found (drop i ws) old mid (Err e)
stopped w ws i found a old mid v e at one ill =
    subst (λ (l : List (List ℕ)). VisitsAll w i found l old mid (Err e)) (sym (from ws i a at)) (failed (Visits w i a) (λ h. VisitsAll w (i + 1) (found || h) (drop (i + 1) ws)) old mid v e one ill)

-- none is left
pub all_visited : (w : Wanted) (ws : List (List ℕ)) (i : ℕ) (found : Bool) (now : At) → length ws ≤ i → VisitsAll w i found (drop i ws) now now (Ok found)
all_visited w ws i found now most = subst (λ (l : List (List ℕ)). VisitsAll w i found l now now (Ok found)) (sym (drop_all i ws most)) (refl, refl)
