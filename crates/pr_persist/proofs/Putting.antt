-- Text that is put piece by piece.
use Rattle.std.proofs.Common.{◌≡◌, ◌∙◌, ◌+◌, ◌≤◌, ◌<◌, ℕ, suc, List, [], ◌∷◌, ◌++◌, length, take, drop, get_or, Option, sym, ap, subst, add-one}
use Rattle.std.specs.List.{flat_map}
use Rattle.std.proofs.Math.Seq.{drop-cons, take-suc}
use Rattle.std.proofs.lemmas.Grind.{flat_map-append}
use Rattle.std.proofs.lemmas.List.{append-nil, take-append-drop, take_all}
use Rattle.pr_io.specs.Streams.{Put, PutSome}
use Rattle.pr_io.proofs.Pieces.{put_more}
use Rattle.pr_io.proofs.Sent.{some_first, some_second}

-- a list of texts, cut at one of them
cut_at : {A : Type 0} (f : A → List ℕ) (xs : List A) (i : ℕ) (d : A) → i < length xs → flat_map f xs ≡ flat_map f (take i xs) ++ (f (get_or xs i d) ++ flat_map f (drop (suc i) xs))
cut_at f xs i d less =
    ap (flat_map f) (sym (take-append-drop i xs)) ∙ flat_map-append f (take i xs) (drop i xs) ∙ ap (λ (w : List _). flat_map f (take i xs) ++ flat_map f w) (drop-cons xs i d less)

one_more : {A : Type 0} (f : A → List ℕ) (xs : List A) (i : ℕ) (d : A) → i < length xs → flat_map f (take (i + 1) xs) ≡ flat_map f (take i xs) ++ f (get_or xs i d)
one_more f xs i d less =
    ap (λ (n : ℕ). flat_map f (take n xs)) (add-one i) ∙ ap (flat_map f) (take-suc xs i d less) ∙ flat_map-append f (take i xs) (get_or xs i d ∷ []) ∙ ap (λ (w : List ℕ). flat_map f (take i xs) ++ w) (append-nil (f (get_or xs i d)))

-- the next text was put
pub next_put : {A : Type 0} (f : A → List ℕ) (a b c : Option (List ℕ)) (xs : List A) (i : ℕ) (d : A) → i < length xs → Put a b (flat_map f (take i xs)) → Put b c (f (get_or xs i d)) → Put a c (flat_map f (take (i + 1) xs))
next_put f a b c xs i d less p q = subst (Put a c) (sym (one_more f xs i d less)) (put_more a b c (flat_map f (take i xs)) (f (get_or xs i d)) p q)

-- the sink failed in it
pub next_failed : {A : Type 0} (f : A → List ℕ) (a b c : Option (List ℕ)) (xs : List A) (i : ℕ) (d : A) → i < length xs → Put a b (flat_map f (take i xs)) → PutSome b c (f (get_or xs i d)) → PutSome a c (flat_map f xs)
next_failed f a b c xs i d less p q =
    subst (PutSome a c) (sym (cut_at f xs i d less)) (some_second a b c (flat_map f (take i xs)) (f (get_or xs i d) ++ flat_map f (drop (suc i) xs)) p (some_first b c (f (get_or xs i d)) (flat_map f (drop (suc i) xs)) q))

-- all were put
pub all_put : {A : Type 0} (f : A → List ℕ) (a b : Option (List ℕ)) (xs : List A) (i : ℕ) → length xs ≤ i → Put a b (flat_map f (take i xs)) → Put a b (flat_map f xs)
all_put f a b xs i most p = subst (λ (w : List _). Put a b (flat_map f w)) (take_all i xs most) p
