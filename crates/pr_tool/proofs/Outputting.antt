-- Output that is written record by record.
use Rattle.std.proofs.Common.{◌≡◌, ℕ, suc, zero, ◌+◌, ◌-◌, ◌≤◌, ◌<◌, false, eqb, List, [], ◌++◌, length, take, drop, Option, min, refl, sym, ap, ◌∙◌, append_assoc, subst, arith, inl, inr}
use Rattle.std.proofs.lemmas.List.{append-nil, take_all, drop_all, drop-drop, length-take, length-drop, length-append}
use Rattle.std.proofs.Math.Seq.{take-add}
use Rattle.std.proofs.lemmas.Bool.{ne_eqb, eq-eqb, cases_lt}
use Rattle.pr_io.specs.Streams.{Put, PutSome}
use Rattle.pr_io.proofs.Pieces.{put_more, put_nothing}
use Rattle.pr_words.specs.declared.limits.TheConstants.{PIECE}
use Rattle.pr_grammar.specs.Outputs.{output_record, output_records, output_of}
use Rattle.pr_model.proofs.Outputs.{output_of-nil, output_of-short}

none_left : (most who : ℕ) (xs : List ℕ) → length xs ≡ 0 → output_records most who xs ≡ []
none_left zero who xs none = refl
none_left (suc most) who xs none = rw (eq-eqb (length xs) 0 none) refl

-- more than enough records make no difference
enough : (n m who : ℕ) (xs : List ℕ) → length xs ≤ n → length xs ≤ m → output_records n who xs ≡ output_records m who xs
enough zero m who xs a b = sym (none_left m who xs (omega (arith, a)))
enough (suc n) zero who xs a b = none_left (suc n) who xs (omega (arith, b))
enough (suc n) (suc m) who xs a b =
    elim (cases_lt 0 (length xs)) [
      | inr none ↦ none_left (suc n) who xs (omega (arith, none)) ∙ sym (none_left (suc m) who xs (omega (arith, none)))
      | inl some ↦
          let is : eqb (length xs) 0 ≡ false = ne_eqb (length xs) 0 (λ e. absurd (omega (arith, e, some))) in
          rw is (ap (λ (w : List ℕ). output_record who (take PIECE xs) ++ w) (enough n m who (drop PIECE xs) (omega (arith, length-drop PIECE xs, a, some)) (omega (arith, length-drop PIECE xs, b, some))))
    ]

first_record : (n who : ℕ) (xs : List ℕ) → length xs ≡ suc n → output_records (suc n) who xs ≡ output_record who (take PIECE xs) ++ output_records (length (drop PIECE xs)) who (drop PIECE xs)
first_record n who xs size =
    let is : eqb (length xs) 0 ≡ false = ne_eqb (length xs) 0 (λ e. absurd (omega (arith, e, size))) in
    rw is (ap (λ (w : List ℕ). output_record who (take PIECE xs) ++ w) (enough n (length (drop PIECE xs)) who (drop PIECE xs) (omega (arith, length-drop PIECE xs, size)) (omega arith)))

pub output_of-step : (who : ℕ) (xs : List ℕ) → 0 < length xs → output_of who xs ≡ output_record who (take PIECE xs) ++ output_of who (drop PIECE xs)
unfolding output_of
output_of-step who xs some =
    let size : length xs ≡ suc (length xs - 1) = omega arith in
    ap (λ (k : ℕ). output_records k who xs) size ∙ first_record (length xs - 1) who xs size

-- a piece of what is left, and what is left behind it
piece_is : (xs : List ℕ) (n : ℕ) → n ≡ min (length xs) PIECE → take n xs ≡ take PIECE xs
piece_is xs n is =
    elim (cases_lt PIECE (length xs)) [
      | inr short ↦ take_all n xs (omega (arith, is, short)) ∙ sym (take_all PIECE xs short)
      | inl long ↦ let all : n ≡ PIECE = omega (arith, is, long) in ap (λ (k : ℕ). take k xs) all
    ]

rest_is : (xs : List ℕ) (n : ℕ) → n ≡ min (length xs) PIECE → drop n xs ≡ drop PIECE xs
rest_is xs n is =
    elim (cases_lt PIECE (length xs)) [
      | inr short ↦ drop_all n xs (omega (arith, is, short)) ∙ sym (drop_all PIECE xs short)
      | inl long ↦ let all : n ≡ PIECE = omega (arith, is, long) in ap (λ (k : ℕ). drop k xs) all
    ]

-- how far the writing has come
abbrev pub HasWritten : Option (List ℕ) → Option (List ℕ) → ℕ → List ℕ → ℕ → Type 0
HasWritten before now who bytes at = (sent : List ℕ) × Put before now sent × (output_of who bytes ≡ sent ++ output_of who (drop at bytes))

pub written_none : (before : Option (List ℕ)) (who : ℕ) (bytes : List ℕ) → HasWritten before before who bytes 0
written_none before who bytes = ([], put_nothing before, refl)

step_text : (who : ℕ) (bytes : List ℕ) (at n : ℕ) → at < length bytes → n ≡ min (length bytes - at) PIECE → output_of who (drop at bytes) ≡ output_record who (take n (drop at bytes)) ++ output_of who (drop (at + n) bytes)
step_text who bytes at n less is =
    let xs : List ℕ = drop at bytes in
    let size : length xs ≡ length bytes - at = length-drop at bytes in
    let same : n ≡ min (length xs) PIECE = is ∙ ap (λ (k : ℕ). min k PIECE) (sym size) in
    let later : drop n xs ≡ drop (at + n) bytes = drop-drop n at bytes in
    output_of-step who xs (omega (arith, size, less))
    ∙ ap (λ (w : List ℕ). output_record who w ++ output_of who (drop PIECE xs)) (sym (piece_is xs n same))
    ∙ ap (λ (w : List ℕ). output_record who (take n xs) ++ output_of who w) (sym (rest_is xs n same) ∙ later)

pub written_more : (before mid now : Option (List ℕ)) (who : ℕ) (bytes : List ℕ) (at n : ℕ) → at < length bytes → n ≡ min (length bytes - at) PIECE
    → HasWritten before mid who bytes at → Put mid now (output_record who (take n (drop at bytes))) → HasWritten before now who bytes (at + n)
written_more before mid now who bytes at n less is has put =
    let piece : List ℕ = output_record who (take n (drop at bytes)) in (
      has.0 ++ piece,
      put_more before mid now has.0 piece has.1 put,
      has.2 ∙ ap (λ (w : List ℕ). has.0 ++ w) (step_text who bytes at n less is) ∙ sym (append_assoc has.0 piece (output_of who (drop (at + n) bytes))),
    )

pub written_some : (before mid now : Option (List ℕ)) (who : ℕ) (bytes : List ℕ) (at n : ℕ) → at < length bytes → n ≡ min (length bytes - at) PIECE
    → HasWritten before mid who bytes at → PutSome mid now (output_record who (take n (drop at bytes))) → PutSome before now (output_of who bytes)
written_some before mid now who bytes at n less is has put =
    let rest : List ℕ = output_of who (drop (at + n) bytes) in (
      has.0 ++ put.0,
      put.1 ++ rest,
      has.2 ∙ ap (λ (w : List ℕ). has.0 ++ w) (step_text who bytes at n less is ∙ ap (λ (w : List ℕ). w ++ rest) put.2 ∙ append_assoc put.0 put.1 rest) ∙ sym (append_assoc has.0 put.0 (put.1 ++ rest)),
      put_more before mid now has.0 put.0 has.1 put.3,
      omega (arith, length-append put.1 rest, put.4),
    )

pub written_all : (before now : Option (List ℕ)) (who : ℕ) (bytes : List ℕ) (at : ℕ) → length bytes ≤ at → HasWritten before now who bytes at → Put before now (output_of who bytes)
written_all before now who bytes at all has =
    let none : drop at bytes ≡ [] = drop_all at bytes all in
    let text : output_of who bytes ≡ has.0 = has.2 ∙ ap (λ (w : List ℕ). has.0 ++ output_of who w) none ∙ ap (λ (w : List ℕ). has.0 ++ w) (output_of-nil who) ∙ append-nil has.0 in
    subst (λ (w : List ℕ). Put before now w) (sym text) has.1

-- a reply that one record has room for, behind its head
pub short_text : (who len : ℕ) (work : List ℕ) → 4 + len ≤ length work → 0 < len → len ≤ PIECE
    → ((bytes : List ℕ) → length bytes ≡ len → len ≤ PIECE → take 4 work ++ bytes ≡ output_record who bytes) → take (4 + len) work ≡ output_of who (take len (drop 4 work))
short_text who len work room some short head =
    let bytes : List ℕ = take len (drop 4 work) in
    let size : length bytes ≡ len = omega (arith, length-take len (drop 4 work), length-drop 4 work, room) in
    take-add 4 len work ∙ head bytes size short ∙ sym (output_of-short who bytes (omega (arith, size, some)) (omega (arith, size, short)))
