-- Records of a schedule are read as they are spelled, so a schedule is cut in one way, and ends in one way.
use Rattle.std.proofs.Common.{◌≡◌, ℕ, ◌+◌, ◌-◌, ◌≤◌, ◌<◌, Bool, true, false, not, cond, ltb, eqb, ◌||◌, ◌&&◌, ◌⊎◌, List, [], ◌∷◌, ◌++◌, length, take, drop, slice_index, refl, sym, ap, ◌∙◌, arith, append_assoc, inl, inr, subst}
use Rattle.std.specs.List.{flat_map}
use Rattle.std.specs.Int.{w16, from_be_bytes}
use Rattle.std.proofs.lemmas.Bool.Decides.{nat_tests}
use Rattle.std.proofs.lemmas.Bool.{lt-ltb, le-ltb}
use Rattle.std.proofs.lemmas.List.{take_at, drop_at, take_all, length-append, drop-drop}
use Rattle.std.proofs.lemmas.List.Elements.{All-cons, All-head, All-tail}
use Rattle.std.proofs.Math.Seq.{take-append-add}
use Rattle.std.proofs.lemmas.Nat.{from_be_bytes-to_be_bytes_2}
use Rattle.pr_words.specs.Fields.{number16_at}
use Rattle.pr_grammar.specs.Schedules.{Record, Arrival, Step_of, Close_of, Power_loss, IsRecord, spelled_record, RecordFront, Partial, Faulty, Entire, can_begin, record_at, record_front, IsUnfinished, AreRecords, IsWhole, IsBrokenAt, IsLong}

arrival_front : (lanes lane a b : ℕ) (body rest : List ℕ) → from_be_bytes w16 (a ∷ b ∷ []) ≡ length body → lane < lanes
    → record_front lanes (lane ∷ 0 ∷ a ∷ b ∷ (body ++ rest)) ≡ Entire (Arrival lane body) rest
unfolding record_front
arrival_front lanes lane a b body rest size fits =
    let bytes : List ℕ = lane ∷ 0 ∷ a ∷ b ∷ (body ++ rest) in
    let known : ltb lane lanes ≡ true = lt-ltb lane lanes fits in
    let four : ltb (length bytes) 4 ≡ false = le-ltb _ _ (omega arith) in
    let there : ltb (length bytes) (4 + length body) ≡ false = le-ltb _ _ (omega (arith, length-append body rest)) in
    let content : take (length body) (body ++ rest) ≡ body = take_at body rest (length body) refl in
    let back : 4 + length body - 4 ≡ length body = omega arith in
    let left : drop (4 + length body) bytes ≡ rest = sym (drop-drop (length body) 4 bytes) ∙ drop_at body rest (length body) refl in
    rw (known, size, four, there, back, content, left) refl

step_front : (lanes lane : ℕ) (rest : List ℕ) → lane < lanes → record_front lanes (lane ∷ 1 ∷ 0 ∷ 0 ∷ rest) ≡ Entire (Step_of lane) rest
unfolding record_front
step_front lanes lane rest fits =
    let known : ltb lane lanes ≡ true = lt-ltb lane lanes fits in
    let bytes : List ℕ = lane ∷ 1 ∷ 0 ∷ 0 ∷ rest in
    let four : ltb (length bytes) 4 ≡ false = le-ltb _ _ (omega arith) in
    rw (known, four) refl

close_front : (lanes lane : ℕ) (rest : List ℕ) → lane < lanes → record_front lanes (lane ∷ 2 ∷ 0 ∷ 0 ∷ rest) ≡ Entire (Close_of lane) rest
unfolding record_front
close_front lanes lane rest fits =
    let known : ltb lane lanes ≡ true = lt-ltb lane lanes fits in
    let bytes : List ℕ = lane ∷ 2 ∷ 0 ∷ 0 ∷ rest in
    let four : ltb (length bytes) 4 ≡ false = le-ltb _ _ (omega arith) in
    rw (known, four) refl

power_front : (lanes : ℕ) (rest : List ℕ) → 0 < lanes → record_front lanes (0 ∷ 3 ∷ 0 ∷ 0 ∷ rest) ≡ Entire Power_loss rest
unfolding record_front
power_front lanes rest some =
    let known : ltb 0 lanes ≡ true = lt-ltb 0 lanes some in
    let bytes : List ℕ = 0 ∷ 3 ∷ 0 ∷ 0 ∷ rest in
    let four : ltb (length bytes) 4 ≡ false = le-ltb _ _ (omega arith) in
    rw (known, four) refl

-- a record that is spelled and then read, with anything behind it
pub record_front-spelled : (lanes : ℕ) (r : Record) (rest : List ℕ) → IsRecord lanes r → record_front lanes (spelled_record r ++ rest) ≡ Entire r rest
record_front-spelled lanes (Arrival lane bytes) rest valid = arrival_front lanes lane _ _ bytes rest (from_be_bytes-to_be_bytes_2 (length bytes) valid.1) valid.0
record_front-spelled lanes (Step_of lane) rest valid = step_front lanes lane rest valid
record_front-spelled lanes (Close_of lane) rest valid = close_front lanes lane rest valid
record_front-spelled lanes Power_loss rest valid = power_front lanes rest valid

-- no record stands at the front of nothing
pub nothing_unfinished : (lanes : ℕ) → IsUnfinished (record_front lanes [])
unfolding record_front
nothing_unfinished lanes = elim (can_begin lanes []) as (λ b. IsUnfinished (cond (not b) Faulty Partial)) [ true ↦ tt | false ↦ tt ]

-- what is no record yet, by the bytes that have come

pub front_faulty : (lanes : ℕ) (bytes : List ℕ) → can_begin lanes bytes ≡ false → record_front lanes bytes ≡ Faulty
unfolding record_front
front_faulty lanes bytes not_begun = rw not_begun refl

or_true : (a : Bool) → (a || true) ≡ true
or_true true = refl
or_true false = refl

pub front_partial : (lanes : ℕ) (bytes : List ℕ) → can_begin lanes bytes ≡ true → length bytes < 4 + number16_at bytes 2 → record_front lanes bytes ≡ Partial
unfolding record_front
front_partial lanes bytes begun short =
    let there : ltb (length bytes) (4 + number16_at bytes 2) ≡ true = lt-ltb _ _ short in
    let both : (ltb (length bytes) 4 || ltb (length bytes) (4 + number16_at bytes 2)) ≡ true = rw there (or_true _) in
    rw (begun, both) refl

pub short_partial : (lanes : ℕ) (bytes : List ℕ) → can_begin lanes bytes ≡ true → length bytes < 4 → record_front lanes bytes ≡ Partial
short_partial lanes bytes begun short = front_partial lanes bytes begun (omega arith)

not_faulty : (short : Bool) (r : Record) (rest : List ℕ) → cond short Partial (Entire r rest) ≡ Faulty → ⊥
not_faulty true r rest is = cc
not_faulty false r rest is = cc

begun_not_faulty : (lanes : ℕ) (bytes : List ℕ) → can_begin lanes bytes ≡ true → record_front lanes bytes ≡ Faulty → ⊥
unfolding record_front
begun_not_faulty lanes bytes begun fault = not_faulty (ltb (length bytes) 4 || ltb (length bytes) (4 + number16_at bytes 2)) (record_at bytes) (drop (4 + number16_at bytes 2) bytes) (rw begun at fault)

unfinished_when : (begun : Bool) (lanes : ℕ) (bytes : List ℕ) → can_begin lanes bytes ≡ begun → length bytes < 4 → IsUnfinished (record_front lanes bytes)
unfinished_when true lanes bytes is short = rw (short_partial lanes bytes is short) tt
unfinished_when false lanes bytes is short = rw (front_faulty lanes bytes is) tt

faulty_not_begun : (begun : Bool) (lanes : ℕ) (bytes : List ℕ) → can_begin lanes bytes ≡ begun → record_front lanes bytes ≡ Faulty → can_begin lanes bytes ≡ false
faulty_not_begun true lanes bytes is fault = absurd (begun_not_faulty lanes bytes is fault)
faulty_not_begun false lanes bytes is fault = is

pub short_unfinished : (lanes : ℕ) (bytes : List ℕ) → length bytes < 4 → IsUnfinished (record_front lanes bytes)
short_unfinished lanes bytes short = unfinished_when (can_begin lanes bytes) lanes bytes refl short

-- the first four bytes, as far as they have come, can become a record's head
abbrev pub Begins : ℕ → ℕ → ℕ → ℕ → ℕ → Type 0
Begins lanes a b c d = (a < lanes) × (b < 4) × ((b ≡ 0) ⊎ ((c ≡ 0) × (d ≡ 0))) × ((b < 3) ⊎ (a ≡ 0))

pub begins : (lanes a b c d : ℕ) → (ltb a lanes && ltb b 4 && (eqb b 0 || (eqb c 0 && eqb d 0)) && (ltb b 3 || eqb a 0)) ≡ true → Begins lanes a b c d
begins lanes a b c d is = grind (arith, nat_tests)

begun : (lanes a b c d : ℕ) → Begins lanes a b c d → (ltb a lanes && ltb b 4 && (eqb b 0 || (eqb c 0 && eqb d 0)) && (ltb b 3 || eqb a 0)) ≡ true
begun lanes a b c d is = grind (arith, nat_tests)

-- each field may be zero, so the front of what can become a record can become one
pub begun_before : (lanes : ℕ) (bytes more : List ℕ) → can_begin lanes (bytes ++ more) ≡ true → can_begin lanes bytes ≡ true
begun_before lanes [] more is = let known : Begins lanes (slice_index more 0) (slice_index more 1) (slice_index more 2) (slice_index more 3) = begins lanes (slice_index more 0) (slice_index more 1) (slice_index more 2) (slice_index more 3) is in begun lanes 0 0 0 0 (omega (arith, known.0), omega arith, inl refl, inr refl)
begun_before lanes (a ∷ []) more is = let known : Begins lanes a (slice_index more 0) (slice_index more 1) (slice_index more 2) = begins lanes a (slice_index more 0) (slice_index more 1) (slice_index more 2) is in begun lanes a 0 0 0 (known.0, omega arith, inl refl, inl (omega arith))
begun_before lanes (a ∷ b ∷ []) more is = let known : Begins lanes a b (slice_index more 0) (slice_index more 1) = begins lanes a b (slice_index more 0) (slice_index more 1) is in begun lanes a b 0 0 (known.0, known.1, inr (refl, refl), known.3)
begun_before lanes (a ∷ b ∷ c ∷ []) more is =
    let known : Begins lanes a b c (slice_index more 0) = begins lanes a b c (slice_index more 0) is in begun lanes a b c 0 (known.0, known.1, elim known.2 [ inl arrival ↦ inl arrival | inr step ↦ inr (step.0, refl) ], known.3)
begun_before lanes (a ∷ b ∷ c ∷ d ∷ bytes) more is = is

faulty_when : (is_begun : Bool) (lanes : ℕ) (bytes more : List ℕ) → can_begin lanes (bytes ++ more) ≡ is_begun → can_begin lanes bytes ≡ false → can_begin lanes (bytes ++ more) ≡ false
faulty_when true lanes bytes more is fault = absurd (let before : can_begin lanes bytes ≡ true = begun_before lanes bytes more is in cc)
faulty_when false lanes bytes more is fault = is

-- what can't become a record can't with more behind it
pub faulty_more : (lanes : ℕ) (bytes more : List ℕ) → record_front lanes bytes ≡ Faulty → record_front lanes (bytes ++ more) ≡ Faulty
faulty_more lanes bytes more fault = front_faulty lanes (bytes ++ more) (faulty_when (can_begin lanes (bytes ++ more)) lanes bytes more refl (faulty_not_begun (can_begin lanes bytes) lanes bytes refl fault))

-- a whole record more before what was cut
pub cut_more : (lanes : ℕ) (bytes : List ℕ) (r : Record) (records : List Record) (tail : List ℕ) → IsRecord lanes r → AreRecords lanes bytes records tail → AreRecords lanes (spelled_record r ++ bytes) (r ∷ records) tail
cut_more lanes bytes r records tail valid cut =
    record {
      spelling = ap (λ (w : List ℕ). spelled_record r ++ w) cut.spelling ∙ sym (append_assoc (spelled_record r) (flat_map spelled_record records) tail);
      valid = All-cons (IsRecord lanes) r records valid cut.valid;
      unfinished = cut.unfinished;
    }

-- what stands at the front of bytes that are cut into a record and others
front_of_cut : (lanes : ℕ) (bytes : List ℕ) (r : Record) (records : List Record) (tail : List ℕ) → AreRecords lanes bytes (r ∷ records) tail
    → record_front lanes bytes ≡ Entire r (flat_map spelled_record records ++ tail)
front_of_cut lanes bytes r records tail cut =
    ap (record_front lanes) (cut.spelling ∙ append_assoc (spelled_record r) (flat_map spelled_record records) tail)
    ∙ record_front-spelled lanes r (flat_map spelled_record records ++ tail) (All-head (IsRecord lanes) r records cut.valid)

-- what is left of a cut behind its first record
cut_less : (lanes : ℕ) (bytes : List ℕ) (r : Record) (records : List Record) (tail : List ℕ) → AreRecords lanes bytes (r ∷ records) tail
    → AreRecords lanes (flat_map spelled_record records ++ tail) records tail
cut_less lanes bytes r records tail cut = record { spelling = refl; valid = All-tail (IsRecord lanes) r records cut.valid; unfinished = cut.unfinished }

unfinished_entire : (front : RecordFront) (r : Record) (rest : List ℕ) → IsUnfinished front → front ≡ Entire r rest → ⊥
unfinished_entire Partial r rest unread is = cc
unfinished_entire Faulty r rest unread is = cc
unfinished_entire (Entire first behind) r rest unread is = unread

same_first : (a b : Record) (s t : List ℕ) → Entire a s ≡ Entire b t → (a ≡ b) × (s ≡ t)
same_first a b s t e = (cc, cc)

-- bytes are cut in one way
pub cut_once : (lanes : ℕ) (bytes : List ℕ) (records others : List Record) (tail end : List ℕ) → AreRecords lanes bytes records tail → AreRecords lanes bytes others end → (records ≡ others) × (tail ≡ end)
cut_once lanes bytes [] [] tail end one two = (refl, sym one.spelling ∙ two.spelling)
cut_once lanes bytes [] (r ∷ others) tail end one two =
    absurd (unfinished_entire _ r _ one.unfinished (ap (record_front lanes) (sym one.spelling) ∙ front_of_cut lanes bytes r others end two))
cut_once lanes bytes (r ∷ records) [] tail end one two =
    absurd (unfinished_entire _ r _ two.unfinished (ap (record_front lanes) (sym two.spelling) ∙ front_of_cut lanes bytes r records tail one))
cut_once lanes bytes (r ∷ records) (q ∷ others) tail end one two =
    let same = same_first r q _ _ (sym (front_of_cut lanes bytes r records tail one) ∙ front_of_cut lanes bytes q others end two) in
    let rest = cut_once lanes (flat_map spelled_record records ++ tail) records others tail end (cut_less lanes bytes r records tail one)
    (subst (λ (w : List ℕ). AreRecords lanes w others end) (sym same.1) (cut_less lanes bytes q others end two)) in
    (cc, rest.1)

-- a schedule of one lane or more ends in one way

faulty_nothing : (lanes : ℕ) → 0 < lanes → record_front lanes [] ≡ Faulty → ⊥
unfolding record_front
faulty_nothing lanes some is = let known : ltb 0 lanes ≡ true = lt-ltb 0 lanes some in let partial = rw known at is in cc

pub not_whole_and_broken : (lanes budget place : ℕ) (all : List ℕ) → 0 < lanes → IsWhole lanes budget all → IsBrokenAt lanes budget all place → ⊥
not_whole_and_broken lanes budget place all some whole broken =
    let is : take budget all ≡ all = take_all budget all whole.0 in
    let same = cut_once lanes all whole.1.0 broken.0 [] broken.1 whole.1.1 (subst (λ (w : List ℕ). AreRecords lanes w broken.0 broken.1) is broken.2) in
    elim broken.4 [
      | inl fault ↦ faulty_nothing lanes some (ap (record_front lanes) same.1 ∙ fault)
      | inr short ↦ absurd (omega (arith, ap length same.1, short.1))
    ]

pub not_whole_and_long : (lanes budget : ℕ) (all : List ℕ) → IsWhole lanes budget all → IsLong lanes budget all → ⊥
not_whole_and_long lanes budget all whole long = omega (arith, whole.0, long.0)

pub not_broken_and_long : (lanes budget place : ℕ) (all : List ℕ) → IsBrokenAt lanes budget all place → IsLong lanes budget all → ⊥
not_broken_and_long lanes budget place all broken long =
    let same = cut_once lanes (take budget all) broken.0 long.1.0 broken.1 long.1.1 broken.2 long.1.2 in
    elim broken.4 [
      | inl fault ↦ let partial = long.1.3 in let e : record_front lanes broken.1 ≡ record_front lanes long.1.1 = ap (record_front lanes) same.1 in cc
      | inr short ↦ absurd (omega (arith, short.0, long.0))
    ]

-- it is broken at one place
pub broken_once : (lanes budget one two : ℕ) (all : List ℕ) → IsBrokenAt lanes budget all one → IsBrokenAt lanes budget all two → one ≡ two
broken_once lanes budget one two all first second =
    let same = cut_once lanes (take budget all) first.0 second.0 first.1 second.1 first.2 second.2 in
    first.3 ∙ ap (λ (records : List Record). length (flat_map spelled_record records)) same.0 ∙ sym second.3

-- what ends the bytes behind a whole record ends all

looked_at : (budget : ℕ) (r : Record) (later : List ℕ) → length (spelled_record r) ≤ budget → take budget (spelled_record r ++ later) ≡ spelled_record r ++ take (budget - length (spelled_record r)) later
looked_at budget r later fits =
    let parts : budget ≡ length (spelled_record r) + (budget - length (spelled_record r)) = omega arith in
    ap (λ (n : ℕ). take n (spelled_record r ++ later)) parts ∙ take-append-add (spelled_record r) later (budget - length (spelled_record r))

-- a whole record at the front of a schedule, within the budget
pub record StandsFirst (lanes budget : ℕ) (r : Record) (later all : List ℕ) : Type 0 where
  pub spelling : all ≡ spelled_record r ++ later
  pub valid : IsRecord lanes r
  pub fits : length (spelled_record r) ≤ budget

pub whole_more : (lanes budget : ℕ) (r : Record) (later all : List ℕ) → StandsFirst lanes budget r later all → IsWhole lanes (budget - length (spelled_record r)) later → IsWhole lanes budget all
whole_more lanes budget r later all first whole =
    let fits = first.fits in
    let size : length all ≡ length (spelled_record r) + length later = ap length first.spelling ∙ length-append (spelled_record r) later in
    (omega (arith, size, fits, whole.0), (r ∷ whole.1.0, subst (λ (w : List ℕ). AreRecords lanes w (r ∷ whole.1.0) []) (sym first.spelling) (cut_more lanes later r whole.1.0 [] first.valid whole.1.1)))

cut_first : (lanes budget : ℕ) (r : Record) (later all : List ℕ) (records : List Record) (tail : List ℕ) → StandsFirst lanes budget r later all → AreRecords lanes (take (budget - length (spelled_record r)) later) records tail
    → AreRecords lanes (take budget all) (r ∷ records) tail
cut_first lanes budget r later all records tail first cut =
    let is : take budget all ≡ spelled_record r ++ take (budget - length (spelled_record r)) later = ap (take budget) first.spelling ∙ looked_at budget r later first.fits in
    subst (λ (w : List ℕ). AreRecords lanes w (r ∷ records) tail) (sym is) (cut_more lanes _ r records tail first.valid cut)

pub broken_more : (lanes budget place : ℕ) (r : Record) (later all : List ℕ) → StandsFirst lanes budget r later all → IsBrokenAt lanes (budget - length (spelled_record r)) later place
    → IsBrokenAt lanes budget all (length (spelled_record r) + place)
broken_more lanes budget place r later all first broken =
    let fits = first.fits in
    let size : length all ≡ length (spelled_record r) + length later = ap length first.spelling ∙ length-append (spelled_record r) later in
    let behind : length (spelled_record r) + place ≡ length (flat_map spelled_record (r ∷ broken.0)) = omega (arith, length-append (spelled_record r) (flat_map spelled_record broken.0), broken.3) in (
      r ∷ broken.0,
      broken.1,
      cut_first lanes budget r later all broken.0 broken.1 first broken.2,
      behind,
      elim broken.4 [ inl fault ↦ inl fault | inr short ↦ inr (omega (arith, size, fits, short.0), short.1) ],
    )

pub long_more : (lanes budget : ℕ) (r : Record) (later all : List ℕ) → StandsFirst lanes budget r later all → IsLong lanes (budget - length (spelled_record r)) later → IsLong lanes budget all
long_more lanes budget r later all first long =
    let fits = first.fits in
    let size : length all ≡ length (spelled_record r) + length later = ap length first.spelling ∙ length-append (spelled_record r) later in
    (omega (arith, size, fits, long.0), (r ∷ long.1.0, long.1.1, cut_first lanes budget r later all long.1.0 long.1.1 first long.1.2, long.1.3))
