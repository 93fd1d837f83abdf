-- Blocks in the bytes of a task.
use Rattle.std.proofs.Common.{◌≡◌, ℕ, ◌+◌, ◌-◌, ◌≤◌, ◌<◌, min, Bool, true, false, ltb, ltb-true, refl, List, ◌++◌, length, take, drop, slice_range, sym, ap, ◌∙◌, arith}
use Rattle.std.proofs.lemmas.Bool.{ltb-false}
use Rattle.pr_words.specs.declared.limits.TheConstants.{BLOCK}
use Rattle.pr_session.specs.Places.{block_from}
use Rattle.std.proofs.lemmas.List.{take-take, take_all, drop-take, drop-drop, take-append-drop, take-append-le, length-take, length-drop}
use Rattle.std.proofs.lemmas.Slice.{between_is}

-- how many bytes stand between two places
pub length_between : (xs : List ℕ) (i j : ℕ) → i ≤ j → j ≤ length xs → length (slice_range xs i j) ≡ j - i
length_between xs i j order within = omega (arith, length-take (j - i) (drop i xs), length-drop i xs, order, within)

-- the front of a longer front
take_less : (a b : ℕ) (xs : List ℕ) → a + b ≤ length xs → take a (take (a + b) xs) ≡ take a xs
take_less a b xs within =
    sym (take-append-le a (take (a + b) xs) (drop (a + b) xs) (omega (arith, length-take (a + b) xs, within))) ∙ ap (take a) (take-append-drop (a + b) xs)

-- the first bytes of some that stand between two places, and those behind them
pub first_between : (xs : List ℕ) (i k j : ℕ) → i + k ≤ j → j ≤ length xs → take k (slice_range xs i j) ≡ slice_range xs i (i + k)
first_between xs i k j fits within =
    let whole : j - i ≡ k + (j - (i + k)) = omega (arith, fits) in
    let part : (i + k) - i ≡ k = omega arith in
    ap (λ (n : ℕ). take k (take n (drop i xs))) whole ∙ take_less k (j - (i + k)) (drop i xs) (omega (arith, length-drop i xs, fits, within)) ∙ ap (λ (n : ℕ). take n (drop i xs)) (sym part)

pub rest_between : (xs : List ℕ) (i k j : ℕ) → i + k ≤ j → drop k (slice_range xs i j) ≡ slice_range xs (i + k) j
rest_between xs i k j fits =
    let whole : j - i ≡ k + (j - (i + k)) = omega (arith, fits) in
    ap (λ (n : ℕ). drop k (take n (drop i xs))) whole ∙ drop-take k (j - (i + k)) (drop i xs) ∙ ap (take (j - (i + k))) (drop-drop k i xs)

-- bytes that stand between two places, and more behind them
pub more_between : (xs : List ℕ) (i j k : ℕ) → i ≤ j → j + k ≤ length xs → slice_range xs i j ++ slice_range xs j (j + k) ≡ slice_range xs i (j + k)
more_between xs i j k order within =
    let gap : i + (j - i) ≡ j = omega (arith, order) in
    let front : slice_range xs i j ≡ take (j - i) (slice_range xs i (j + k)) =
    ap (slice_range xs i) (sym gap) ∙ sym (first_between xs i (j - i) (j + k) (omega (arith, order)) within) in
    let back : slice_range xs j (j + k) ≡ drop (j - i) (slice_range xs i (j + k)) =
    ap (λ (n : ℕ). slice_range xs n (j + k)) (sym gap) ∙ sym (rest_between xs i (j - i) (j + k) (omega (arith, order))) in
    ap (λ (a : List ℕ). a ++ slice_range xs j (j + k)) front ∙ ap (λ (b : List ℕ). take (j - i) (slice_range xs i (j + k)) ++ b) back ∙ take-append-drop (j - i) (slice_range xs i (j + k))

-- what stands before a place, where all before it stays
pub same_between : (xs ys : List ℕ) (i j : ℕ) → take j ys ≡ take j xs → slice_range ys i j ≡ slice_range xs i j
same_between xs ys i j same = between_is ys i j ∙ ap (drop i) same ∙ sym (between_is xs i j)

-- the first bytes of those that stand between two places, as many as there are
pub few_between : (xs : List ℕ) (i j k : ℕ) → take (min k (j - i)) (drop i xs) ≡ take k (slice_range xs i j)
few_between xs i j k = by (ltb k (j - i)) refl
  where
    by : (b : Bool) → ltb k (j - i) ≡ b → take (min k (j - i)) (drop i xs) ≡ take k (take (j - i) (drop i xs))
    by true less =
        let lt : k < j - i = ltb-true _ _ less in
        let is : min k (j - i) ≡ k = omega (arith, lt) in
        ap (λ (n : ℕ). take n (drop i xs)) is ∙ sym (take-take k (j - i) (drop i xs) (omega (arith, lt)))
    by false more =
        let le : j - i ≤ k = ltb-false _ _ more in
        let is : min k (j - i) ≡ j - i = omega (arith, le) in
        ap (λ (n : ℕ). take n (drop i xs)) is ∙ sym (take_all k (take (j - i) (drop i xs)) (omega (arith, le, length-take (j - i) (drop i xs))))

-- the block that begins at a place, among the bytes from there on
pub block_behind : (at : ℕ) (work : List ℕ) → take BLOCK (drop at work) ≡ block_from at work
block_behind at work = let same : BLOCK ≡ (at + BLOCK) - at = omega arith in ap (λ (n : ℕ). take n (drop at work)) same
