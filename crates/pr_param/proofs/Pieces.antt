-- A reply's head, and a piece of one size for each registration.
use Rattle.std.proofs.Common.{◌≡◌, ℕ, ◌+◌, ◌*◌, ◌<◌, ◌≤◌, List, [], ◌∷◌, ◌++◌, length, take, drop, ap, sym, ◌∙◌, arith, get_or, append_assoc, ◌⊎◌, inl, inr}
use Rattle.std.specs.Prelude.{slice_get, Some}
use Rattle.std.specs.List.{flat_map}
use Rattle.std.proofs.lemmas.List.{length-append, take-append-le, take-append-drop, drop_all, length-take-le, take_more, flat_map_more, append-nil}
use Rattle.std.proofs.lemmas.Option.{get_or_from_slice_get, slice_get_within}
use Rattle.std.proofs.lemmas.Grind.{flat_map-append}
use Rattle.pr_param.specs.Laid.{laid}

pub length_pieces : {X : Type 0} (f : X → List ℕ) (k : ℕ) → ((x : X) → length (f x) ≡ k) → (xs : List X) → length (flat_map f xs) ≡ k * length xs
length_pieces f k same [] = omega arith
length_pieces f k same (x ∷ xs) = let h = length_pieces f k same xs in simp length-append (omega (arith, h, same x))

-- the length of the head and the first so many pieces
pub length_front : {X : Type 0} (head : List ℕ) (f : X → List ℕ) (k : ℕ) → ((x : X) → length (f x) ≡ k) → (xs : List X) (i : ℕ) → i ≤ length xs → length (head ++ flat_map f (take i xs)) ≡ length head + k * i
length_front head f k same xs i le =
    let n : length (take i xs) ≡ i = length-take-le i xs le in
    let h : length (flat_map f (take i xs)) ≡ k * i = length_pieces f k same (take i xs) ∙ ap (λ m. k * m) n in
    simp length-append (omega (arith, h))

-- one piece more
pub one_more : {X : Type 0} (head : List ℕ) (f : X → List ℕ) (xs : List X) (i : ℕ) (x : X) → slice_get xs i ≡ Some x → (head ++ flat_map f (take i xs)) ++ f x ≡ head ++ flat_map f (take (i + 1) xs)
one_more head f xs i x e =
    let there : get_or xs i x ≡ x = get_or_from_slice_get xs i x x e in
    let more : take (i + 1) xs ≡ take i xs ++ x ∷ [] = take_more xs i x (slice_get_within xs i x e) ∙ ap (λ y. take i xs ++ y ∷ []) there in
    flat_map_more f head (take i xs) x ∙ ap (λ ys. head ++ flat_map f ys) (sym more)

-- what was laid over a buffer that isn't longer is the front of the whole
pub laid_front : {X : Type 0} (head : List ℕ) (f : X → List ℕ) (xs : List X) (n : ℕ) (buffer : List ℕ) → length buffer ≤ length (head ++ flat_map f (take n xs)) → laid (head ++ flat_map f (take n xs)) buffer ≡ take (length buffer) (head ++ flat_map f xs)
laid_front head f xs n buffer le =
    let none : drop (length (head ++ flat_map f (take n xs))) buffer ≡ [] = drop_all _ buffer le in
    let parts : flat_map f xs ≡ flat_map f (take n xs) ++ flat_map f (drop n xs) = ap (flat_map f) (sym (take-append-drop n xs)) ∙ flat_map-append f (take n xs) (drop n xs) in
    let whole : head ++ flat_map f xs ≡ (head ++ flat_map f (take n xs)) ++ flat_map f (drop n xs) = ap (λ ys. head ++ ys) parts ∙ sym (append_assoc head _ _) in
    let short : take (length buffer) ((head ++ flat_map f (take n xs)) ++ flat_map f (drop n xs)) ≡ take (length buffer) (head ++ flat_map f (take n xs)) = take-append-le _ _ _ le in
    ap (λ ys. take (length buffer) (head ++ flat_map f (take n xs)) ++ ys) none ∙ append-nil _ ∙ sym short ∙ ap (λ ys. take (length buffer) ys) (sym whole)

-- a piece put behind those before it
pub put_more : {X : Type 0} (head : List ℕ) (f : X → List ℕ) (k : ℕ) → ((x : X) → length (f x) ≡ k) → (xs : List X) (buffer out new field : List ℕ) (i at : ℕ) (x : X) → slice_get xs i ≡ Some x → f x ≡ field → length head + k * i ≡ at → out ≡ laid (head ++ flat_map f (take i xs)) buffer → ((before kept : List ℕ) → length before ≡ at → out ≡ laid before kept → new ≡ laid (before ++ field) kept) → new ≡ laid (head ++ flat_map f (take (i + 1) xs)) buffer
put_more head f k same xs buffer out new field i at x e fe ae oe put =
    let lt : i < length xs = slice_get_within xs i x e in
    let len : length (head ++ flat_map f (take i xs)) ≡ at = length_front head f k same xs i (omega (arith, lt)) ∙ ae in
    let more : (head ++ flat_map f (take i xs)) ++ field ≡ head ++ flat_map f (take (i + 1) xs) = ap (λ ys. (head ++ flat_map f (take i xs)) ++ ys) (sym fe) ∙ one_more head f xs i x e in
    put (head ++ flat_map f (take i xs)) buffer len oe ∙ ap (λ ys. laid ys buffer) more

-- as many pieces as begin within a buffer that isn't longer than the whole reach its end
pub front_covers : {X : Type 0} (head : List ℕ) (f : X → List ℕ) (k : ℕ) → ((x : X) → length (f x) ≡ k) → (xs : List X) (i : ℕ) (buffer : List ℕ) → length buffer ≤ length (head ++ flat_map f xs) → i ≤ length xs → ((length buffer ≤ length head + k * i) ⊎ (length xs ≤ i)) → length buffer ≤ length (head ++ flat_map f (take i xs))
front_covers head f k same xs i buffer le within reach =
    let front = length_front head f k same xs i within in
    let whole = length_pieces f k same xs in
    let all : length buffer ≤ length head + k * length xs = omega (arith, le, length-append head (flat_map f xs), whole) in
    elim reach [
      | inl h ↦ omega (arith, h, front)
      | inr h ↦ let e : i ≡ length xs = omega (arith, h, within) in omega (arith, all, front, ap (λ n. k * n) e)
    ]
