-- Pairs stay in order where some leave and where one is put in.
use Rattle.std.proofs.Common.{◌≡◌, zero, suc, Bool, true, not, List, [], ◌∷◌, ◌++◌, get_or, arith}
use Rattle.std.specs.List.{All}
use Rattle.std.proofs.lemmas.List.Elements.{All-head, All-tail, All-cons, All-append, filter_passes}
use Rattle.std.proofs.lemmas.List.Kept.{AllPairs-cons, AllPairs-filter}
use Rattle.pr_words.specs.declared.nexus.Pair.{Pair}
use Rattle.pr_words.specs.Orders.{comes_before}
use Rattle.pr_model.specs.Registrants.{with_pair, but_those, IsAscending, is_earlier, is_later}
use Rattle.pr_model.proofs.Orders.{before_through}

pub tail_up : (x : Pair) (xs : List Pair) → IsAscending (x ∷ xs) → IsAscending xs
tail_up x xs up i j d lt le = up (suc i) (suc j) d (omega arith) (omega arith)

pub head_up : (x : Pair) (xs : List Pair) → IsAscending (x ∷ xs) → All (λ p. comes_before x.nexus p.nexus ≡ true) xs
head_up x xs up k d lt = up zero (suc k) d (omega arith) (omega arith)

joined_up : (q : Pair) (xs ys : List Pair) → All (λ p. is_earlier q.nexus p ≡ true) xs → IsAscending xs → All (λ p. is_later q.nexus p ≡ true) ys → IsAscending ys → IsAscending (xs ++ q ∷ ys)
joined_up q [] ys before up after up' = AllPairs-cons (λ a b. comes_before a.nexus b.nexus ≡ true) q ys after up'
joined_up q (x ∷ xs) ys before up after up' =
    let first : comes_before x.nexus q.nexus ≡ true = All-head (λ p. is_earlier q.nexus p ≡ true) x xs before in
    let behind : All (λ p. comes_before x.nexus p.nexus ≡ true) ys = λ k d lt. before_through x.nexus q.nexus (get_or ys k d).nexus first (after k d lt) in
    let all : All (λ p. comes_before x.nexus p.nexus ≡ true) (xs ++ q ∷ ys) =
    All-append (λ p. comes_before x.nexus p.nexus ≡ true) xs (q ∷ ys) (head_up x xs up) (All-cons (λ p. comes_before x.nexus p.nexus ≡ true) q ys first behind) in
    AllPairs-cons (λ a b. comes_before a.nexus b.nexus ≡ true) x (xs ++ q ∷ ys) all
    (joined_up q xs ys (All-tail (λ p. is_earlier q.nexus p ≡ true) x xs before) (tail_up x xs up) after up')

pub with_up : (ps : List Pair) (q : Pair) → IsAscending ps → IsAscending (with_pair ps q)
with_up ps q up =
    joined_up q _ _ (filter_passes (is_earlier q.nexus) ps) (AllPairs-filter (λ a b. comes_before a.nexus b.nexus ≡ true) (is_earlier q.nexus) ps up)
    (filter_passes (is_later q.nexus) ps) (AllPairs-filter (λ a b. comes_before a.nexus b.nexus ≡ true) (is_later q.nexus) ps up)

pub but_up : (ps : List Pair) (goes : Pair → Bool) → IsAscending ps → IsAscending (but_those goes ps)
but_up ps goes up = AllPairs-filter (λ a b. comes_before a.nexus b.nexus ≡ true) (λ p. not (goes p)) ps up
