-- Numbers among the words.
use Rattle.std.proofs.Common.{◌≡◌, ◌∙◌, ◌-◌, ◌^◌, ◌≤◌, ◌<◌, ℕ, Bool, true, false, cond, ltb, ◌&&◌, ◌||◌, ◌==◌, not, List, [], ◌∷◌, ◌++◌, length, take, drop, replicate, slice_index, ap, sym, subst, refl, arith}
use Rattle.std.specs.Prelude.{Result, Ok, Err, Some, None, MatchResult, nat_lt}
use Rattle.std.specs.Result.{result_ok, OkIff}
use Rattle.std.specs.List.{list_all}
use Rattle.std.specs.Int.{w64, from_be_bytes}
use Rattle.std.specs.Char.{digit_value}
use Rattle.std.specs.Str.Parse.{AllDigits, ParsesUnsigned, IsNumeral, digits_value, without_leading_plus}
use Rattle.std.proofs.lemmas.Bool.{lt-ltb, ltb-true, le-ltb}
use Rattle.std.proofs.lemmas.List.{take-replicate, length-drop, drop_all, append-nil}
use borrow.Rule.Slice.PartMut.{put_mid}
use Rattle.hex.specs.Hex.{decode_sized}
use Rattle.hex.specs.declared.error.FromHexError.{FromHexError}
use Rattle.pr_numbers.specs.Numbers.{digits_of, hex_in, number_by, is_decimal_digit, is_bare_text, decimal_in}

-- zeros before the digits, sixteen in all
pub padded : (digits : List ℕ) → length digits ≤ 16 → put_mid (16 - length digits) (16 - (16 - length digits)) (replicate 16 48) digits ≡ replicate (16 - length digits) 48 ++ digits
padded digits few =
    let k : ℕ = 16 - length digits in
    let zero : ℕ = 48 in
    let sixteen : List ℕ = replicate 16 zero in
    let count : length sixteen ≡ 16 = refl in
    let zeros : take k sixteen ≡ replicate k zero = take-replicate k 16 zero (omega arith) in
    let none : drop (16 - k) (drop k sixteen) ≡ [] = drop_all (16 - k) (drop k sixteen) (omega (arith, length-drop k sixteen, count)) in
    ap (λ (w : List ℕ). w ++ (digits ++ drop (16 - k) (drop k sixteen))) zeros ∙ ap (λ (w : List ℕ). replicate k zero ++ (digits ++ w)) none ∙ ap (λ (w : List ℕ). replicate k zero ++ w) (append-nil digits)

number_of : (d : Result (List ℕ) FromHexError) (r : Result Unit FromHexError) (out : List ℕ) → MatchResult d (λ bytes. (r ≡ Ok tt) × (out ≡ bytes)) (λ e. r ≡ Err e) → r ≡ Ok tt → Some (from_be_bytes w64 out) ≡ number_by d
number_of (Ok bytes) r out is ok = ap (λ (w : List ℕ). Some (from_be_bytes w64 w)) is.1
number_of (Err e) r out is ok = absurd (let never : Err e ≡ Ok tt = sym is ∙ ok in cc)

no_number : (d : Result (List ℕ) FromHexError) (r : Result Unit FromHexError) (out : List ℕ) (e : FromHexError) → MatchResult d (λ bytes. (r ≡ Ok tt) × (out ≡ bytes)) (λ e. r ≡ Err e) → r ≡ Err e → None ≡ number_by d
no_number (Ok bytes) r out e is err = absurd (let never : Err e ≡ Ok tt = sym err ∙ is.0 in cc)
no_number (Err x) r out e is err = refl

-- the tests before the digits are decoded
fits : (most n : ℕ) → (n == 0) ≡ false → n ≤ most → (n == 0 || nat_lt most n) ≡ false
fits most n some few = rw (some, le-ltb most n few) refl

pub hex_is : (most : ℕ) (text digits sixteen : List ℕ) (r : Result Unit FromHexError) (out : List ℕ) → digits ≡ digits_of text → (length digits == 0) ≡ false → length digits ≤ most → most ≤ 16
    → sixteen ≡ put_mid (16 - length digits) (16 - (16 - length digits)) (replicate 16 48) digits → MatchResult (decode_sized sixteen 8) (λ bytes. (r ≡ Ok tt) × (out ≡ bytes)) (λ e. r ≡ Err e)
    → r ≡ Ok tt → Some (from_be_bytes w64 out) ≡ hex_in most text
hex_is most text digits sixteen r out is some few most16 laid decodes ok =
    let tests : (length (digits_of text) == 0 || nat_lt most (length (digits_of text))) ≡ false = subst (λ (w : List ℕ). (length w == 0 || nat_lt most (length w)) ≡ false) is (fits most (length digits) some few) in
    let same : sixteen ≡ replicate (16 - length (digits_of text)) 48 ++ digits_of text = laid ∙ padded digits (omega (arith, few, most16)) ∙ ap (λ (w : List ℕ). replicate (16 - length w) 48 ++ w) is in
    let value = number_of (decode_sized sixteen 8) r out decodes ok ∙ ap (λ (w : List ℕ). number_by (decode_sized w 8)) same in
    rw tests value

pub hex_not : (most : ℕ) (text digits sixteen : List ℕ) (r : Result Unit FromHexError) (out : List ℕ) (e : FromHexError) → digits ≡ digits_of text → (length digits == 0) ≡ false → length digits ≤ most → most ≤ 16
    → sixteen ≡ put_mid (16 - length digits) (16 - (16 - length digits)) (replicate 16 48) digits → MatchResult (decode_sized sixteen 8) (λ bytes. (r ≡ Ok tt) × (out ≡ bytes)) (λ e. r ≡ Err e)
    → r ≡ Err e → None ≡ hex_in most text
hex_not most text digits sixteen r out e is some few most16 laid decodes err =
    let tests : (length (digits_of text) == 0 || nat_lt most (length (digits_of text))) ≡ false = subst (λ (w : List ℕ). (length w == 0 || nat_lt most (length w)) ≡ false) is (fits most (length digits) some few) in
    let same : sixteen ≡ replicate (16 - length (digits_of text)) 48 ++ digits_of text = laid ∙ padded digits (omega (arith, few, most16)) ∙ ap (λ (w : List ℕ). replicate (16 - length w) 48 ++ w) is in
    let value = no_number (decode_sized sixteen 8) r out e decodes err ∙ ap (λ (w : List ℕ). number_by (decode_sized w 8)) same in
    rw tests value

-- decimal digits, as a test and as a fact
pass_digits : (ds : List ℕ) → AllDigits 10 ds → list_all is_decimal_digit ds ≡ true
pass_digits [] all = refl
pass_digits (d ∷ ds) all = let one : ltb (digit_value d) 10 ≡ true = lt-ltb _ _ all.0 in rw one (pass_digits ds all.1)

digits_by : (b : Bool) (ds : List ℕ) (P : Type 0) → (b && list_all is_decimal_digit ds) ≡ true → (b ≡ true → P) → (list_all is_decimal_digit ds ≡ true → AllDigits 10 ds) → P × AllDigits 10 ds
digits_by true ds P is first rest = (first refl, rest is)
digits_by false ds P is first rest = absurd cc

digits_pass : (ds : List ℕ) → list_all is_decimal_digit ds ≡ true → AllDigits 10 ds
digits_pass [] is = tt
digits_pass (d ∷ ds) is = digits_by (ltb (digit_value d) 10) ds (digit_value d < 10) is (λ e. ltb-true _ _ e) (digits_pass ds)

record Bare (text : List ℕ) : Type 0 where
  pub some : 0 < length text
  pub unsigned : (slice_index text 0 == 43) ≡ false

bare_by : (a b c : Bool) → (a && (not b && c)) ≡ true → (a ≡ true) × (b ≡ false)
bare_by true false c is = (refl, refl)
bare_by true true c is = absurd cc
bare_by false b c is = absurd cc

bare : (text : List ℕ) → is_bare_text text ≡ true → Bare text
bare text is =
    let parts = bare_by (ltb 0 (length text)) (slice_index text 0 == 43) (not (slice_index text 0 == 48) || length text == 1) is in
    record { some = ltb-true _ _ parts.0; unsigned = parts.1 }

none_by : (b c : Bool) (n : ℕ) → (b ≡ true → c ≡ true → ⊥) → None ≡ cond (b && c) (Some n) None
none_by true true n never = absurd (never refl refl)
none_by true false n never = refl
none_by false c n never = refl

parsed : {E : Type 0} (text : List ℕ) (r : Result ℕ E) → 0 < length text → OkIff r (IsNumeral 10 text × (digits_value 10 text < 2 ^ 16)) (digits_value 10 text)
    → result_ok r ≡ cond (list_all is_decimal_digit text && ltb (digits_value 10 text) (2 ^ 16)) (Some (digits_value 10 text)) None
parsed text (Ok n) some is =
    let all : list_all is_decimal_digit text ≡ true = pass_digits text is.0.0.1 in
    let few : ltb (digits_value 10 text) (2 ^ 16) ≡ true = lt-ltb _ _ is.0.1 in
    rw (all, few) (ap Some is.1)
parsed text (Err e) some is =
    none_by (list_all is_decimal_digit text) (ltb (digits_value 10 text) (2 ^ 16)) (digits_value 10 text) (λ all few. is ((some, digits_pass text all), ltb-true _ _ few))

pub decimal_is : {E : Type 0} (text : List ℕ) (r : Result ℕ E) → is_bare_text text ≡ true → ParsesUnsigned 16 10 text r → result_ok r ≡ decimal_in text
decimal_is text r is parses =
    let b : Bare text = bare text is in
    let same : without_leading_plus text ≡ text = ap (λ (k : Bool). drop (cond k 1 0) text) b.unsigned in
    let found = parsed text r b.some (subst (λ (w : List ℕ). OkIff r (IsNumeral 10 w × (digits_value 10 w < 2 ^ 16)) (digits_value 10 w)) same parses) in
    rw is found
