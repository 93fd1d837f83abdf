-- Whether one of a list is such a one.
use Rattle.std.proofs.Common.{◌≡◌, ◌∙◌, ◌+◌, ◌≤◌, ◌||◌, ℕ, Bool, true, false, List, length, take, sym, ap, ap₂}
use Rattle.std.specs.Prelude.{Some, slice_get}
use Rattle.std.specs.List.{list_any}
use Rattle.std.proofs.lemmas.List.{take_all}
use Rattle.std.proofs.lemmas.List.Folds.{list_any_at, list_any_more}
use Rattle.std.proofs.lemmas.Option.{get_or_from_slice_get, slice_get_within}

-- one settles it
pub settled : {X : Type 0} (p : X → Bool) (xs : List X) (i : ℕ) (x : X) → slice_get xs i ≡ Some x → p x ≡ true → true ≡ list_any p xs
settled p xs i x at is = sym (list_any_at p xs i x (slice_get_within xs i x at) (ap p (get_or_from_slice_get xs i x x at) ∙ is))

-- one more isn't
pub one_more : {X : Type 0} (p : X → Bool) (xs : List X) (i : ℕ) (x : X) → slice_get xs i ≡ Some x → p x ≡ false → list_any p (take i xs) ≡ false → list_any p (take (i + 1) xs) ≡ false
one_more p xs i x at is none =
    list_any_more p xs i x (slice_get_within xs i x at) ∙ ap₂ (λ (a : Bool) (b : Bool). a || b) none (ap p (get_or_from_slice_get xs i x x at) ∙ is)

-- none is
pub none : {X : Type 0} (p : X → Bool) (xs : List X) (i : ℕ) → length xs ≤ i → list_any p (take i xs) ≡ false → false ≡ list_any p xs
none p xs i most before = sym (ap (list_any p) (sym (take_all i xs most)) ∙ before)
