-- Numbers of connections among the words.
use Rattle.std.proofs.Common.{◌≡◌, ◌^◌, ◌≤◌, ◌<◌, ℕ, Bool, true, false, cond, ltb, leb, ◌&&◌, ◌==◌, List, [], ◌∷◌, length, drop, slice_index, ap, subst, refl, arith}
use Rattle.std.specs.Prelude.{Result, Ok, Err, Some, None}
use Rattle.std.specs.Result.{result_ok, OkIff}
use Rattle.std.specs.List.{list_all}
use Rattle.std.specs.Char.{digit_value}
use Rattle.std.specs.Str.Parse.{AllDigits, ParsesUnsigned, IsNumeral, digits_value, without_leading_plus}
use Rattle.std.proofs.lemmas.Bool.{lt-ltb, ltb-true, leb-true}
use Rattle.pr_serve.specs.Words.{is_decimal_digit, is_bare_text, number_in}

-- decimal digits, as a test and as a fact
pass_digits : (ds : List ℕ) → AllDigits 10 ds → list_all is_decimal_digit ds ≡ true
pass_digits [] all = refl
pass_digits (d ∷ ds) all = let one : ltb (digit_value d) 10 ≡ true = lt-ltb _ _ all.0 in rw one (pass_digits ds all.1)

digits_by : (b : Bool) (ds : List ℕ) (P : Type 0) → (b && list_all is_decimal_digit ds) ≡ true → (b ≡ true → P) → (list_all is_decimal_digit ds ≡ true → AllDigits 10 ds) → P × AllDigits 10 ds
digits_by true ds P is first rest = (first refl, rest is)
digits_by false ds P is first rest = absurd cc

digits_pass : (ds : List ℕ) → list_all is_decimal_digit ds ≡ true → AllDigits 10 ds
digits_pass [] is = tt
digits_pass (d ∷ ds) is = digits_by (ltb (digit_value d) 10) ds (digit_value d < 10) is (λ e. ltb-true _ _ e) (digits_pass ds)

record Bare (text : List ℕ) : Type 0 where
  pub some : 0 < length text
  pub unsigned : (slice_index text 0 == 43) ≡ false

bare_by : (a b c : Bool) → (a && (b && c)) ≡ true → (a ≡ true) × (b ≡ true)
bare_by true true c is = (refl, refl)
bare_by true false c is = absurd cc
bare_by false b c is = absurd cc

no_sign : (n : ℕ) → leb 49 n ≡ true → (n == 43) ≡ false
no_sign n is = let more : 49 ≤ n = leb-true 49 n is in grind (arith, more)

bare : (text : List ℕ) → is_bare_text text ≡ true → Bare text
bare text is =
    let parts = bare_by (ltb 0 (length text)) (leb 49 (slice_index text 0)) (leb (slice_index text 0) 57) is in
    record { some = ltb-true _ _ parts.0; unsigned = no_sign _ parts.1 }

none_by : (b c : Bool) (n : ℕ) → (b ≡ true → c ≡ true → ⊥) → None ≡ cond (b && c) (Some n) None
none_by true true n never = absurd (never refl refl)
none_by true false n never = refl
none_by false c n never = refl

parsed : {E : Type 0} (most : ℕ) (text : List ℕ) (r : Result ℕ E) → 0 < length text → OkIff r (IsNumeral 10 text × (digits_value 10 text < most)) (digits_value 10 text)
    → result_ok r ≡ cond (list_all is_decimal_digit text && ltb (digits_value 10 text) most) (Some (digits_value 10 text)) None
parsed most text (Ok n) some is =
    let all : list_all is_decimal_digit text ≡ true = pass_digits text is.0.0.1 in
    let few : ltb (digits_value 10 text) most ≡ true = lt-ltb _ _ is.0.1 in
    rw (all, few) (ap Some is.1)
parsed most text (Err e) some is =
    none_by (list_all is_decimal_digit text) (ltb (digits_value 10 text) most) (digits_value 10 text) (λ all few. is ((some, digits_pass text all), ltb-true _ _ few))

pub number_is : {E : Type 0} (text : List ℕ) (r : Result ℕ E) → is_bare_text text ≡ true → ParsesUnsigned 64 10 text r → result_ok r ≡ number_in text
number_is text r is parses =
    let b : Bare text = bare text is in
    let same : without_leading_plus text ≡ text = ap (λ (k : Bool). drop (cond k 1 0) text) b.unsigned in
    let found = parsed (2 ^ 64) text r b.some (subst (λ (w : List ℕ). OkIff r (IsNumeral 10 w × (digits_value 10 w < 2 ^ 64)) (digits_value 10 w)) same parses) in
    rw is found
