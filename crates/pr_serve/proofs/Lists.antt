-- Lists some of whose elements are like this, or all.
use Rattle.std.proofs.Common.{◌≡◌, ◌⊎◌, inl, inr, ℕ, zero, suc, ◌+◌, ◌<◌, List, [], ◌∷◌, ◌++◌, length, refl, subst, arith, slice_index_or}
use Rattle.std.specs.Prelude.{remove}
use Rattle.std.specs.List.{AllByRecursion}
use Rattle.std.specs.List.{Contains}
use Rattle.pr_io.specs.Told.{ToldStreams}
use Rattle.pr_serve.specs.Standing.{Has, HasOne}

pub one-map : (P Q : ℕ → ToldStreams → Type 0) → ((n : ℕ) (c : ToldStreams) → P n c → Q n c) → (who : ℕ) (cs : List ToldStreams) → HasOne P who cs → HasOne Q who cs
one-map P Q f who [] h = h
one-map P Q f who (c ∷ cs) (inl p) = inl (f who c p)
one-map P Q f who (c ∷ cs) (inr h) = inr (one-map P Q f (who + 1) cs h)

pub one-front : (P : ℕ → ToldStreams → Type 0) (who : ℕ) (cs : List ToldStreams) (d : ToldStreams) → HasOne P who cs → HasOne P who (cs ++ d ∷ [])
one-front P who [] d h = absurd h
one-front P who (c ∷ cs) d (inl p) = inl p
one-front P who (c ∷ cs) d (inr h) = inr (one-front P (who + 1) cs d h)

pub one-last : (P : ℕ → ToldStreams → Type 0) (who : ℕ) (cs : List ToldStreams) (d : ToldStreams) → P (who + length cs) d → HasOne P who (cs ++ d ∷ [])
one-last P who [] d p = inl (subst (λ n. P n d) (omega arith) p)
one-last P who (c ∷ cs) d p = inr (one-last P (who + 1) cs d (subst (λ n. P n d) (omega arith) p))

module _ {A : Type 0} where
  pub has-map : (P Q : A → Type 0) → ((x : A) → P x → Q x) → (xs : List A) → Has P xs → Has Q xs
  has-map P Q f [] h = h
  has-map P Q f (x ∷ xs) (inl p) = inl (f x p)
  has-map P Q f (x ∷ xs) (inr h) = inr (has-map P Q f xs h)

  pub has-front : (P : A → Type 0) (xs : List A) (y : A) → Has P xs → Has P (xs ++ y ∷ [])
  has-front P [] y h = absurd h
  has-front P (x ∷ xs) y (inl p) = inl p
  has-front P (x ∷ xs) y (inr h) = inr (has-front P xs y h)

  pub has-last : (P : A → Type 0) (xs : List A) (y : A) → P y → Has P (xs ++ y ∷ [])
  has-last P [] y p = inl p
  has-last P (x ∷ xs) y p = inr (has-last P xs y p)

  -- what one of the list is, the one removed is or one that is left
  pub has-removed : (P : A → Type 0) (xs : List A) (k : ℕ) (y : A) → slice_index_or xs k y ≡ y → Has P xs → P y ⊎ Has P (remove xs k)
  has-removed P [] k y is h = absurd h
  has-removed P (x ∷ xs) zero y is (inl p) = inl (subst P is p)
  has-removed P (x ∷ xs) zero y is (inr h) = inr h
  has-removed P (x ∷ xs) (suc k) y is (inl p) = inr (inl p)
  has-removed P (x ∷ xs) (suc k) y is (inr h) = further (has-removed P xs k y is h)
    where
      further : P y ⊎ Has P (remove xs k) → P y ⊎ Has P (remove (x ∷ xs) (suc k))
      further (inl p) = inl p
      further (inr h) = inr (inr h)

  pub all-map : (P Q : A → Type 0) → ((x : A) → P x → Q x) → (xs : List A) → AllByRecursion P xs → AllByRecursion Q xs
  all-map P Q f [] all = tt
  all-map P Q f (x ∷ xs) (p, all) = (f x p, all-map P Q f xs all)

  pub all-last : (P : A → Type 0) (xs : List A) (y : A) → AllByRecursion P xs → P y → AllByRecursion P (xs ++ y ∷ [])
  all-last P [] y all p = (p, tt)
  all-last P (x ∷ xs) y (q, all) p = (q, all-last P xs y all p)

  pub all-front : (P : A → Type 0) (xs : List A) (y : A) → AllByRecursion P (xs ++ y ∷ []) → AllByRecursion P xs
  all-front P [] y all = tt
  all-front P (x ∷ xs) y (p, all) = (p, all-front P xs y all)

  pub all-removed : (P : A → Type 0) (xs : List A) (k : ℕ) → AllByRecursion P xs → AllByRecursion P (remove xs k)
  all-removed P [] zero all = tt
  all-removed P [] (suc k) all = tt
  all-removed P (x ∷ xs) zero (p, all) = all
  all-removed P (x ∷ xs) (suc k) (p, all) = (p, all-removed P xs k all)

  pub all-at : (P : A → Type 0) (xs : List A) (k : ℕ) (y : A) → slice_index_or xs k y ≡ y → k < length xs → AllByRecursion P xs → P y
  all-at P [] k y is lt all = absurd (omega (arith, lt))
  all-at P (x ∷ xs) zero y is lt (p, all) = subst P is p
  all-at P (x ∷ xs) (suc k) y is lt (p, all) = all-at P xs k y is (omega (arith, lt)) all

  pub contains-front : (y x : A) (xs : List A) → Contains xs y → Contains (x ∷ xs) y
  contains-front y x xs (k, lt, is) = (suc k, omega (arith, lt), is)

  pub contains-first : (x : A) (xs : List A) → Contains (x ∷ xs) x
  contains-first x xs = (0, omega arith, refl)
