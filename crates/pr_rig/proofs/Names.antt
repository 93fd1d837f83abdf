-- A name that was read from hexadecimal digits fits its field.
use Rattle.std.proofs.Common.{◌≡◌, ◌+◌, ◌-◌, ◌*◌, ◌/◌, ◌%◌, ◌^◌, ◌<◌, ◌==◌, ◌&&◌, ◌||◌, nat_lt, nat_le, ℕ, zero, suc, Bool, true, false, List, [], ◌∷◌, ◌++◌, length, Option, Some, None, replicate, refl, subst, arith}
use Rattle.std.specs.Prelude.{Result, Ok, Err, slice_index, if◌then◌else◌}
use Rattle.std.proofs.lemmas.Bool.{leb-true}
use Rattle.std.specs.Int.{w64, from_be_bytes}
use Rattle.hex.specs.Hex.{◌>>=◌, decode_pairs, decode_sized, digit_or_error, hex_digit_value, pair_value}
use Rattle.hex.specs.declared.error.FromHexError.{FromHexError}
use Rattle.hex.specs.declared.error.FromHexError.TheVariants.{InvalidStringLength, OddLength}
use Rattle.pr_numbers.specs.Numbers.{digits_of, hex_in, number_by}

digit_small : (c d : ℕ) → hex_digit_value c ≡ Some d → d < 16
digit_small c d is = by (nat_le 65 c) (nat_le c 70) (nat_le 97 c) (nat_le c 102) (nat_le 48 c) (nat_le c 57) refl refl refl is
  where
    by : (p q r s t u : Bool) → nat_le c 70 ≡ q → nat_le c 102 ≡ s → nat_le c 57 ≡ u → (if p && q then Some (c - 55) else if r && s then Some (c - 87) else if t && u then Some (c - 48) else None) ≡ Some d → d < 16
    by true true r s t u below b e same = let value : c - 55 ≡ d = cc in omega (arith, leb-true c 70 below, value)
    by true false true true t u a below e same = let value : c - 87 ≡ d = cc in omega (arith, leb-true c 102 below, value)
    by true false true false true true a b below same = let value : c - 48 ≡ d = cc in omega (arith, leb-true c 57 below, value)
    by true false true false true false a b e same = absurd cc
    by true false true false false u a b e same = absurd cc
    by true false false s true true a b below same = let value : c - 48 ≡ d = cc in omega (arith, leb-true c 57 below, value)
    by true false false s true false a b e same = absurd cc
    by true false false s false u a b e same = absurd cc
    by false q true true t u a below e same = let value : c - 87 ≡ d = cc in omega (arith, leb-true c 102 below, value)
    by false q true false true true a b below same = let value : c - 48 ≡ d = cc in omega (arith, leb-true c 57 below, value)
    by false q true false true false a b e same = absurd cc
    by false q true false false u a b e same = absurd cc
    by false q false s true true a b below same = let value : c - 48 ≡ d = cc in omega (arith, leb-true c 57 below, value)
    by false q false s true false a b e same = absurd cc
    by false q false s false u a b e same = absurd cc

pair_small : (high low i v : ℕ) → pair_value high low i ≡ Ok v → v < 256
pair_small high low i v is = by (hex_digit_value high) refl (hex_digit_value low) refl is
  where
    by : (h : Option ℕ) → hex_digit_value high ≡ h → (l : Option ℕ) → hex_digit_value low ≡ l → (digit_or_error high i h >>= (λ x. digit_or_error low (i + 1) l >>= (λ y. Ok (x * 16 + y)))) ≡ Ok v → v < 256
    by None one l two same = absurd cc
    by (Some h) one None two same = absurd cc
    by (Some h) one (Some l) two same = let value : h * 16 + l ≡ v = cc in omega (arith, digit_small high h one, digit_small low l two, value)

abbrev AreBytes : List ℕ → Type 0
AreBytes bytes = (j : ℕ) → slice_index bytes j < 256

one_more : (b : ℕ) (bytes : List ℕ) → b < 256 → AreBytes bytes → AreBytes (b ∷ bytes)
one_more b bytes small all zero = small
one_more b bytes small all (suc j) = all j

none_there : AreBytes []
none_there j = omega arith

pairs_small : (s : List ℕ) (i : ℕ) (bytes : List ℕ) → decode_pairs i s ≡ Ok bytes → AreBytes bytes
unfolding decode_pairs
pairs_small [] i bytes is = let none : [] ≡ bytes = cc in subst AreBytes none none_there
pairs_small (d ∷ []) i bytes is = absurd cc
pairs_small (high ∷ (low ∷ rest)) i bytes is = by (pair_value high low i) refl (decode_pairs (i + 2) rest) refl is (λ more decoded. pairs_small rest (i + 2) more decoded)
  where
    by : (b : Result ℕ FromHexError) → pair_value high low i ≡ b → (r : Result (List ℕ) FromHexError) → decode_pairs (i + 2) rest ≡ r → (b >>= (λ x. r >>= (λ xs. Ok (x ∷ xs)))) ≡ Ok bytes → ((more : List ℕ) → decode_pairs (i + 2) rest ≡ Ok more → AreBytes more) → AreBytes bytes
    by (Err e) one r two same later = absurd cc
    by (Ok b) one (Err e) two same later = absurd cc
    by (Ok b) one (Ok more) two same later = let whole : b ∷ more ≡ bytes = cc in subst AreBytes whole (one_more b more (pair_small high low i b one) (later more two))

number_small : (bytes : List ℕ) → AreBytes bytes → from_be_bytes w64 bytes < 2 ^ 64
number_small bytes all = omega (arith, all 0, all 1, all 2, all 3, all 4, all 5, all 6, all 7)

decoded_small : (text : List ℕ) (n : ℕ) → number_by (decode_sized text 8) ≡ Some n → n < 2 ^ 64
decoded_small text n is = by (length text % 2 == 1) (length text / 2 == 8) (decode_pairs 0 text) refl is
  where
    by : (b c : Bool) (r : Result (List ℕ) FromHexError) → decode_pairs 0 text ≡ r → number_by (if b then Err OddLength else if c then r else Err InvalidStringLength) ≡ Some n → n < 2 ^ 64
    by true c r decoded same = absurd cc
    by false false r decoded same = absurd cc
    by false true (Err e) decoded same = absurd cc
    by false true (Ok bytes) decoded same = let value : from_be_bytes w64 bytes ≡ n = cc in subst (λ (x : ℕ). x < 2 ^ 64) value (number_small bytes (pairs_small text 0 bytes decoded))

pub hex_small : (text : List ℕ) (n : ℕ) → hex_in 16 text ≡ Some n → n < 2 ^ 64
hex_small text n is = by (length (digits_of text) == 0 || nat_lt 16 (length (digits_of text))) is
  where
    by : (b : Bool) → (if b then None else number_by (decode_sized (replicate (16 - length (digits_of text)) 48 ++ digits_of text) 8)) ≡ Some n → n < 2 ^ 64
    by true same = absurd cc
    by false same = decoded_small (replicate (16 - length (digits_of text)) 48 ++ digits_of text) n same
