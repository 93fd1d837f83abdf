-- The first bytes of a record are those that more bytes can make one.
use Rattle.std.proofs.Common.{◌⊎◌, ◌≡◌, ℕ, ◌+◌, ◌*◌, ◌-◌, ◌≤◌, ◌<◌, ◌^◌, true, false, ltb, List, [], ◌∷◌, ◌++◌, length, take, drop, slice_index, All, refl, sym, ap, ◌∙◌, arith, inl, inr, subst, replicate, lit<}
use Rattle.std.specs.Int.{w16, from_be_bytes, to_be_bytes}
use Rattle.std.proofs.lemmas.Bool.{lt-ltb, cases_lt}
use Rattle.std.proofs.lemmas.List.{length-take-le, length-replicate, length-append, take-append-drop, get_or_append_left, get_or-append_right, get_or-replicate, get_or_past}
use Rattle.std.proofs.lemmas.List.Elements.{All-append, All-replicate}
use Rattle.pr_grammar.specs.Schedules.{Record, Arrival, Step_of, Close_of, Power_loss, IsRecord, spelled_record, can_begin}
use Rattle.pr_grammar.specs.Laws.{Becomes, NeverBecomes}
use Rattle.pr_grammar.proofs.Records.{Begins, begins, begun_before}
use Rattle.pr_grammar.proofs.Spellings.{IsByte, two_bytes, part_small, small_at}

begun_spelled : (lanes : ℕ) (r : Record) (rest : List ℕ) → IsRecord lanes r → can_begin lanes (spelled_record r ++ rest) ≡ true
begun_spelled lanes (Arrival lane bytes) rest valid = let known : ltb lane lanes ≡ true = lt-ltb lane lanes valid.0 in rw known refl
begun_spelled lanes (Step_of lane) rest valid = let known : ltb lane lanes ≡ true = lt-ltb lane lanes valid in rw known refl
begun_spelled lanes (Close_of lane) rest valid = let known : ltb lane lanes ≡ true = lt-ltb lane lanes valid in rw known refl
begun_spelled lanes Power_loss rest valid = let known : ltb 0 lanes ≡ true = lt-ltb 0 lanes valid in rw known refl

pub never_becomes : NeverBecomes
never_becomes lanes bytes not_begun more r rest valid is =
    let begun : can_begin lanes bytes ≡ true = begun_before lanes bytes more (ap (can_begin lanes) is ∙ begun_spelled lanes r rest valid) in
    absurd (let no : true ≡ false = sym begun ∙ not_begun in cc)

-- a whole record at the front of bytes
abbrev pub StartsWhole : ℕ → List ℕ → Type 0
StartsWhole lanes bytes = (r : Record) × (rest : List ℕ) × IsRecord lanes r × (bytes ≡ spelled_record r ++ rest)

-- the length that the head says, where a byte that hasn't come is zero
abbrev said : List ℕ → ℕ
said bytes = slice_index bytes 2 * 256 + slice_index bytes 3

arrival_whole : (lanes p r s n : ℕ) (tail : List ℕ) → p < lanes → All IsByte (r ∷ s ∷ []) → n ≡ from_be_bytes w16 (r ∷ s ∷ []) → n < 2 ^ 16 → n ≤ length tail → StartsWhole lanes (p ∷ 0 ∷ r ∷ s ∷ tail)
arrival_whole lanes p r s n tail known small is low fits =
    let size : length (take n tail) ≡ n = length-take-le n tail fits in
    let two : to_be_bytes w16 (length (take n tail)) ≡ r ∷ s ∷ [] = ap (to_be_bytes w16) (size ∙ is) ∙ two_bytes r s small in
    let text : tail ≡ take n tail ++ drop n tail = sym (take-append-drop n tail) in (
      Arrival p (take n tail),
      drop n tail,
      (known, omega (arith, size, low)),
      ap (λ (w : List ℕ). p ∷ 0 ∷ r ∷ s ∷ w) text ∙ ap (λ (w : List ℕ). p ∷ 0 ∷ (w ++ (take n tail ++ drop n tail))) (sym two),
    )

-- a record without bytes
bare_whole : (lanes p q r s : ℕ) (tail : List ℕ) → p < lanes → 1 ≤ q → q < 4 → (q < 3) ⊎ (p ≡ 0) → (r ≡ 0) × (s ≡ 0) → StartsWhole lanes (p ∷ q ∷ r ∷ s ∷ tail)
bare_whole lanes p q r s tail known some few where_power empty = elim (cases_lt q 2) [
  | inl step ↦ (
      let one : q ≡ 1 = omega (arith, some) in
      let text : p ∷ q ∷ r ∷ s ∷ tail ≡ p ∷ 1 ∷ 0 ∷ 0 ∷ tail = cc (one, empty.0, empty.1) in
      (Step_of p, tail, known, text)
      )
  | inr behind ↦ (
      elim (cases_lt q 3) [
        | inl close ↦ (
            let two : q ≡ 2 = omega (arith, close, behind) in
            let text : p ∷ q ∷ r ∷ s ∷ tail ≡ p ∷ 2 ∷ 0 ∷ 0 ∷ tail = cc (two, empty.0, empty.1) in
            (Close_of p, tail, known, text)
            )
        | inr power ↦ (
            let three : q ≡ 3 = omega (arith, few, power) in
            let first : p ≡ 0 = elim where_power [ inl less ↦ absurd (omega (arith, less, power)) | inr first ↦ first ] in
            let text : p ∷ q ∷ r ∷ s ∷ tail ≡ 0 ∷ 3 ∷ 0 ∷ 0 ∷ tail = cc (first, three, empty.0, empty.1) in
            (Power_loss, tail, omega (arith, known, first), text)
            )
      ]
      )
]

starts_whole : (lanes : ℕ) (bytes : List ℕ) → All IsByte bytes → can_begin lanes bytes ≡ true → 4 + said bytes ≤ length bytes → StartsWhole lanes bytes
starts_whole lanes (p ∷ q ∷ r ∷ s ∷ tail) small begun whole =
    let known : Begins lanes p q r s = begins lanes p q r s begun in
    let two : All IsByte (r ∷ s ∷ []) = part_small 2 2 (p ∷ q ∷ r ∷ s ∷ tail) small in
    let r_low : r < 256 = small_at (r ∷ s ∷ []) two 0 in
    let s_low : s < 256 = small_at (r ∷ s ∷ []) two 1 in
    elim (cases_lt q 1) [
      | inl arrival ↦ (
          let zero : 0 ≡ q = omega arith in
          subst (λ (k : ℕ). StartsWhole lanes (p ∷ k ∷ r ∷ s ∷ tail)) zero (arrival_whole lanes p r s (r * 256 + s) tail known.0 two refl (omega arith) (omega (arith, whole)))
          )
      | inr other ↦ (
          let empty : (r ≡ 0) × (s ≡ 0) = elim known.2 [ inl arrival ↦ absurd (omega (arith, arrival, other)) | inr both ↦ both ] in
          bare_whole lanes p q r s tail known.0 other known.1 known.3 empty
          )
    ]
starts_whole lanes _ small begun whole = absurd (omega (arith, whole))

-- a zero is read past zeros too
zero_at : (k i : ℕ) → slice_index (replicate k 0) i ≡ 0
zero_at k i = elim (cases_lt i k) [
  | inl within ↦ get_or-replicate k i 0 0 within
  | inr past ↦ get_or_past (replicate k 0) i 0 (omega (arith, length-replicate {A = ℕ} k 0, past))
]

-- zeros behind bytes are read as nothing is
zeros_behind : (bytes : List ℕ) (k i : ℕ) → slice_index (bytes ++ replicate k 0) i ≡ slice_index bytes i
zeros_behind bytes k i = elim (cases_lt i (length bytes)) [
  | inl within ↦ get_or_append_left bytes (replicate k 0) 0 i within
  | inr past ↦ get_or-append_right bytes (replicate k 0) (length bytes) i 0 refl past ∙ zero_at k (i - length bytes) ∙ sym (get_or_past bytes i 0 past)
]

pub becomes : Becomes
becomes lanes bytes small begun =
    let more : List ℕ = replicate (4 + said bytes) 0 in
    let zero_bytes : All IsByte more = All-replicate IsByte (4 + said bytes) 0 (lit< tt) in
    let same = zeros_behind bytes (4 + said bytes) in
    let still : can_begin lanes (bytes ++ more) ≡ true = rw (same 0, same 1, same 2, same 3) begun in
    let size : length (bytes ++ more) ≡ length bytes + (4 + said bytes) = omega (arith, length-append bytes more, length-replicate {A = ℕ} (4 + said bytes) 0) in
    let says : said (bytes ++ more) ≡ said bytes = rw (same 2, same 3) refl in
    let whole : StartsWhole lanes (bytes ++ more) = starts_whole lanes (bytes ++ more) (All-append IsByte bytes more small zero_bytes) still (omega (arith, size, says)) in
    (more, whole.0, whole.1, zero_bytes, whole.2, whole.3)
