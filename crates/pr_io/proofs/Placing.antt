-- Blocks that stand one after another, one of which is written.
use Rattle.std.proofs.Common.{◌≡◌, ◌≤◌, ◌<◌, ◌⊎◌, inl, inr, ℕ, ◌+◌, ◌-◌, ◌*◌, List, ◌++◌, length, take, drop, sym, ap, ◌∙◌, arith, slice_range, refl}
use Rattle.std.specs.Prelude.{◌≢◌, ◌/◌, Result, Ok, Err, OnOk}
use Rattle.std.proofs.lemmas.Bool.{cases_lt}
use Rattle.std.proofs.lemmas.List.{take_at, drop_at, drop-drop, drop-append-le, take-append-le, drop-take, take-take, length-take, length-drop}
use Rattle.std.proofs.lemmas.Slice.{take-put_mid_below, drop-put_mid, between_is}
use borrow.Rule.Slice.PartMut.{put_mid, post_of}
use Rattle.pr_io.specs.Contents.{block_at}

-- what stands before the part that was written
before : (xs ys : List ℕ) (at k from to : ℕ) → to ≤ at → at ≤ length xs → slice_range (put_mid at k xs ys) from to ≡ slice_range xs from to
before xs ys at k from to le within =
    between_is (put_mid at k xs ys) from to ∙ ap (drop from) (take-put_mid_below at k xs ys to le within) ∙ sym (between_is xs from to)

-- what stands behind it
behind : (xs ys : List ℕ) (at k from to : ℕ) → at + k ≤ from → at ≤ length xs → length ys ≡ k → slice_range (put_mid at k xs ys) from to ≡ slice_range xs from to
behind xs ys at k from to le within size = ap (take (to - from)) (drop-put_mid at k xs ys from le within size)

-- every other block stands as it did
pub elsewhere : (xs ys : List ℕ) (lba other k : ℕ) → k ≡ 512 → length ys ≡ k → lba * 512 ≤ length xs → other ≢ lba → block_at (put_mid (lba * 512) k xs ys) other ≡ block_at xs other
elsewhere xs ys lba other k is size within differs =
    elim (cases_lt other lba) [
      | inl less ↦ before xs ys (lba * 512) k (other * 512) (other * 512 + 512) (omega (arith, less)) within
      | inr least ↦ behind xs ys (lba * 512) k (other * 512) (other * 512 + 512) (omega (arith, is, least, differs)) within size
    ]

-- and so does every block outside a run of blocks that was written
pub outside : (xs ys : List ℕ) (first count other k : ℕ) → k ≡ count * 512 → length ys ≡ k → first * 512 ≤ length xs → (other < first) ⊎ (first + count ≤ other)
    → block_at (put_mid (first * 512) k xs ys) other ≡ block_at xs other
outside xs ys first count other k is size within side =
    elim side [
      | inl less ↦ before xs ys (first * 512) k (other * 512) (other * 512 + 512) (omega (arith, less)) within
      | inr least ↦ behind xs ys (first * 512) k (other * 512) (other * 512 + 512) (omega (arith, is, least)) within size
    ]

-- the list behind a vector, after all of it was lent out
pub whole_again : (xs ys : List ℕ) (n : ℕ) → length ys ≡ n → take n (ys ++ drop (length ys) xs) ≡ ys
whole_again xs ys n size = take_at ys (drop (length ys) xs) n size

alike : (from to : ℕ) (zs : List ℕ) → to ≡ from + 512 → take (to - from) zs ≡ take 512 zs
alike from to zs is = let size : to - from ≡ 512 = omega (arith, is) in ap (λ (n : ℕ). take n zs) size

-- a block within the part that was written
pub inside : (xs ys : List ℕ) (first i k : ℕ) → length ys ≡ k → i * 512 + 512 ≤ k → first * 512 ≤ length xs → block_at (put_mid (first * 512) k xs ys) (first + i) ≡ block_at ys i
inside xs ys first i k size le within =
    let at : ℕ = first * 512 in
    let post : List ℕ = post_of at k xs in
    let front : length (take at xs) ≡ at = omega (arith, length-take at xs, within) in
    let place : (first + i) * 512 ≡ at + i * 512 = omega arith in
    let behind_front : drop (at + i * 512) (put_mid at k xs ys) ≡ drop (i * 512) (ys ++ post) =
    sym (drop-drop (i * 512) at (put_mid at k xs ys)) ∙ ap (drop (i * 512)) (drop_at (take at xs) (ys ++ post) at front) in
    let dropped : drop ((first + i) * 512) (put_mid at k xs ys) ≡ drop (i * 512) ys ++ post =
    ap (λ (n : ℕ). drop n (put_mid at k xs ys)) place ∙ behind_front ∙ drop-append-le (i * 512) ys post (omega (arith, size, le)) in
    let some : 512 ≤ length (drop (i * 512) ys) = omega (arith, length-drop (i * 512) ys, size, le) in
    alike ((first + i) * 512) ((first + i) * 512 + 512) (drop ((first + i) * 512) (put_mid at k xs ys)) refl
    ∙ ap (take 512) dropped ∙ take-append-le 512 (drop (i * 512) ys) post some
    ∙ sym (alike (i * 512) (i * 512 + 512) (drop (i * 512) ys) refl)

-- a block of a part
pub of_part : (xs : List ℕ) (lba i n : ℕ) → i * 512 + 512 ≤ n → block_at (take n (drop (lba * 512) xs)) i ≡ block_at xs (lba + i)
of_part xs lba i n le =
    let from : List ℕ = drop (lba * 512) xs in
    let m : ℕ = n - i * 512 in
    let whole : n ≡ i * 512 + m = omega (arith, le) in
    let dropped : drop (i * 512) (take n from) ≡ take m (drop (i * 512) from) = ap (λ (k : ℕ). drop (i * 512) (take k from)) whole ∙ drop-take (i * 512) m from in
    let place : lba * 512 + i * 512 ≡ (lba + i) * 512 = omega arith in
    alike (i * 512) (i * 512 + 512) (drop (i * 512) (take n from)) refl
    ∙ ap (take 512) dropped ∙ take-take 512 m (drop (i * 512) from) (omega (arith, le))
    ∙ ap (take 512) (drop-drop (i * 512) (lba * 512) xs ∙ ap (λ (k : ℕ). drop k xs) place)
    ∙ sym (alike ((lba + i) * 512) ((lba + i) * 512 + 512) (drop ((lba + i) * 512) xs) refl)

-- blocks that were read into a part stand there
pub read_into : {T E : Type 0} (whole xs ys : List ℕ) (first count lba k : ℕ) (held : ℕ → List ℕ) (result : Result T E) → whole ≡ put_mid (first * 512) k xs ys → k ≡ count * 512
    → length ys ≡ k → first * 512 ≤ length xs → OnOk result ((i : ℕ) → i < length ys / 512 → block_at ys i ≡ held (lba + i))
    → OnOk result ((i : ℕ) → i < count → block_at whole (first + i) ≡ held (lba + i))
read_into whole xs ys first count lba k held (Ok u) is room size within given =
    λ i less. ap (λ (w : List ℕ). block_at w (first + i)) is ∙ inside xs ys first i k size (omega (arith, room, less)) within ∙ given i (omega (arith, size, room, less))
read_into whole xs ys first count lba k held (Err e) is room size within given = tt
