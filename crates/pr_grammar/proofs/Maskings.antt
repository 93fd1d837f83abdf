-- What a mask leaves of the bytes of a layout, field by field.
use Rattle.std.proofs.Common.{◌≡◌, ℕ, zero, suc, ◌+◌, ◌*◌, ◌/◌, ◌%◌, ◌==◌, ◌≤◌, ◌<◌, Bool, true, ◌&&◌, List, [], ◌∷◌, ◌++◌, length, take, drop, slice_index, nat_lt, replicate, All, inl, inr, refl, sym, ap, ◌∙◌, arith}
use Rattle.std.specs.Int.{w16, w32, w64, to_be_bytes}
use Rattle.std.specs.Int.Bits.{bit_and}
use Rattle.std.proofs.lemmas.Bool.{eqb-true, and_parts, cases_lt}
use Rattle.std.proofs.lemmas.Nat.{be_bytes_2, be_bytes_4, be_bytes_8}
use Rattle.pr_words.specs.Fields.{number16_at, number32_at, number64_at}
use Rattle.pr_grammar.specs.Masks.{masked}
use Rattle.pr_grammar.specs.Cdbs.{bit, control_byte}
use Rattle.pr_grammar.proofs.Spellings.{IsByte, part_small, small_at}

-- Bytes at places

-- so many bytes from a place on
abbrev pub places : ℕ → ℕ → List ℕ → List ℕ
places zero at bytes = []
places (suc n) at bytes = slice_index bytes at ∷ places n (suc at) bytes

-- what a mask leaves of them
abbrev pub kept : List ℕ → ℕ → List ℕ → List ℕ
kept [] at bytes = []
kept (mask ∷ masks) at bytes = bit_and mask (slice_index bytes at) ∷ kept masks (suc at) bytes

peel : (at : ℕ) (bytes : List ℕ) → at < length bytes → drop at bytes ≡ slice_index bytes at ∷ drop (suc at) bytes
peel at [] lt = absurd (omega (arith, lt))
peel zero (b ∷ bs) lt = refl
peel (suc at) (b ∷ bs) lt = peel at bs (omega (arith, lt))

taken : (n at : ℕ) (bytes : List ℕ) → at + n ≤ length bytes → take n (drop at bytes) ≡ places n at bytes
taken zero at bytes le = refl
taken (suc n) at bytes le =
    ap (λ ys. take (suc n) ys) (peel at bytes (omega (arith, le)))
    ∙ ap (λ ys. slice_index bytes at ∷ ys) (taken n (suc at) bytes (omega (arith, le)))

kept_from : (masks : List ℕ) (at : ℕ) (bytes : List ℕ) → at + length masks ≤ length bytes → masked masks (drop at bytes) ≡ kept masks at bytes
kept_from [] at bytes le = refl
kept_from (mask ∷ masks) at bytes le =
    ap (λ ys. masked (mask ∷ masks) ys) (peel at bytes (omega (arith, le)))
    ∙ ap (λ ys. bit_and mask (slice_index bytes at) ∷ ys) (kept_from masks (suc at) bytes (omega (arith, le)))

pub masked_kept : (masks bytes : List ℕ) → length masks ≤ length bytes → masked masks bytes ≡ kept masks 0 bytes
masked_kept masks bytes le = kept_from masks 0 bytes (omega (arith, le))

-- Bits of a byte, tried on each of the 256

abbrev every_below : ℕ → (ℕ → Bool) → Bool
every_below zero test = true
every_below (suc n) test = test n && every_below n test

one_below : (n : ℕ) (test : ℕ → Bool) (b : ℕ) → every_below n test ≡ true → b < n → test b ≡ true
one_below zero test b all lt = absurd (omega (arith, lt))
one_below (suc n) test b all lt = elim (cases_lt b n) [
  | inl under ↦ one_below n test b (and_parts (test n) (every_below n test) all).1 under
  | inr over ↦ let at : n ≡ b = omega (arith, lt, over) in ap test (sym at) ∙ (and_parts (test n) (every_below n test) all).0
]

pub every_bit : (b : ℕ) → b < 256 → bit_and 0xFF b ≡ b
every_bit b small = eqb-true _ _ (one_below 256 (λ b. bit_and 0xFF b == b) b refl small)

pub low_five_bits : (b : ℕ) → b < 256 → bit_and 0x1F b ≡ b % 32
low_five_bits b small = eqb-true _ _ (one_below 256 (λ b. bit_and 0x1F b == b % 32) b refl small)

pub high_three_bits : (b : ℕ) → b < 256 → bit_and 0xE0 b ≡ b / 32 * 32
high_three_bits b small = eqb-true _ _ (one_below 256 (λ b. bit_and 0xE0 b == b / 32 * 32) b refl small)

pub low_bit : (b : ℕ) → b < 256 → bit_and 0x01 b ≡ bit (b % 2 == 1)
low_bit b small = eqb-true _ _ (one_below 256 (λ b. bit_and 0x01 b == bit (b % 2 == 1)) b refl small)

pub both_halves : (b : ℕ) → b < 256 → bit_and 0xFF b ≡ b / 16 * 16 + b % 16
both_halves b small = eqb-true _ _ (one_below 256 (λ b. bit_and 0xFF b == b / 16 * 16 + b % 16) b refl small)

pub naca_bit : (b : ℕ) → b < 256 → bit_and 0x04 b ≡ control_byte (nat_lt 3 (b % 8))
naca_bit b small = eqb-true _ _ (one_below 256 (λ b. bit_and 0x04 b == control_byte (nat_lt 3 (b % 8))) b refl small)

-- SPEC_I_PT, ALL_TG_PT and APTPL
pub list_bits : (b : ℕ) → b < 256 → bit_and 0x0D b ≡ 8 * bit (b / 8 % 2 == 1) + 4 * bit (b / 4 % 2 == 1) + bit (b % 2 == 1)
list_bits b small = eqb-true _ _ (one_below 256 (λ b. bit_and 0x0D b == 8 * bit (b / 8 % 2 == 1) + 4 * bit (b / 4 % 2 == 1) + bit (b % 2 == 1)) b refl small)

pub low_four_bits : (b : ℕ) → b < 256 → bit_and 0x0F b ≡ b % 16
low_four_bits b small = eqb-true _ _ (one_below 256 (λ b. bit_and 0x0F b == b % 16) b refl small)

-- they fit a byte
pub low_four_fit : (b : ℕ) → b < 256 → bit_and 0x0F b ≡ bit_and 0xFF (b % 16)
low_four_fit b small = eqb-true _ _ (one_below 256 (λ b. bit_and 0x0F b == bit_and 0xFF (b % 16)) b refl small)

pub low_seven_bits : (b : ℕ) → b < 256 → bit_and 0x7F b ≡ b % 128
low_seven_bits b small = eqb-true _ _ (one_below 256 (λ b. bit_and 0x7F b == b % 128) b refl small)

-- Pieces: a byte or a field, and what stands behind it

pub byte_then : {a b : ℕ} {xs ys : List ℕ} → a ≡ b → xs ≡ ys → a ∷ xs ≡ b ∷ ys
byte_then {a = a} {b = b} {xs = xs} {ys = ys} here behind = ap (λ n. n ∷ xs) here ∙ ap (λ zs. b ∷ zs) behind

pub kept_whole : (n at : ℕ) (bytes : List ℕ) → All IsByte bytes → kept (replicate n 0xFF) at bytes ≡ places n at bytes
kept_whole zero at bytes small = refl
kept_whole (suc n) at bytes small = byte_then (every_bit _ (small_at bytes small at)) (kept_whole n (suc at) bytes small)

pub number16_spelled : (at : ℕ) (bytes : List ℕ) → All IsByte bytes → at + 2 ≤ length bytes → kept (replicate 2 0xFF) at bytes ≡ to_be_bytes w16 (number16_at bytes at)
number16_spelled at bytes small le =
    let field : take 2 (drop at bytes) ≡ places 2 at bytes = taken 2 at bytes le in
    let bytewise : (i : ℕ) → slice_index (take 2 (drop at bytes)) i < 256 = small_at _ (part_small 2 at bytes small) in
    kept_whole 2 at bytes small ∙ sym field ∙ sym (be_bytes_2 (take 2 (drop at bytes)) _ (ap length field) bytewise refl)

pub number32_spelled : (at : ℕ) (bytes : List ℕ) → All IsByte bytes → at + 4 ≤ length bytes → kept (replicate 4 0xFF) at bytes ≡ to_be_bytes w32 (number32_at bytes at)
number32_spelled at bytes small le =
    let field : take 4 (drop at bytes) ≡ places 4 at bytes = taken 4 at bytes le in
    let bytewise : (i : ℕ) → slice_index (take 4 (drop at bytes)) i < 256 = small_at _ (part_small 4 at bytes small) in
    kept_whole 4 at bytes small ∙ sym field ∙ sym (be_bytes_4 (take 4 (drop at bytes)) _ (ap length field) bytewise refl)

pub number64_spelled : (at : ℕ) (bytes : List ℕ) → All IsByte bytes → at + 8 ≤ length bytes → kept (replicate 8 0xFF) at bytes ≡ to_be_bytes w64 (number64_at bytes at)
number64_spelled at bytes small le =
    let field : take 8 (drop at bytes) ≡ places 8 at bytes = taken 8 at bytes le in
    let bytewise : (i : ℕ) → slice_index (take 8 (drop at bytes)) i < 256 = small_at _ (part_small 8 at bytes small) in
    kept_whole 8 at bytes small ∙ sym field ∙ sym (be_bytes_8 (take 8 (drop at bytes)) _ (ap length field) bytewise refl)

pub number16_places : (at : ℕ) (bytes : List ℕ) → All IsByte bytes → at + 2 ≤ length bytes → to_be_bytes w16 (number16_at bytes at) ≡ places 2 at bytes
number16_places at bytes small le = sym (number16_spelled at bytes small le) ∙ kept_whole 2 at bytes small

pub number32_places : (at : ℕ) (bytes : List ℕ) → All IsByte bytes → at + 4 ≤ length bytes → to_be_bytes w32 (number32_at bytes at) ≡ places 4 at bytes
number32_places at bytes small le = sym (number32_spelled at bytes small le) ∙ kept_whole 4 at bytes small

pub number64_places : (at : ℕ) (bytes : List ℕ) → All IsByte bytes → at + 8 ≤ length bytes → to_be_bytes w64 (number64_at bytes at) ≡ places 8 at bytes
number64_places at bytes small le = sym (number64_spelled at bytes small le) ∙ kept_whole 8 at bytes small

pub number16_then : (at : ℕ) (bytes : List ℕ) → All IsByte bytes → at + 2 ≤ length bytes → {xs ys : List ℕ} → xs ≡ ys → kept (replicate 2 0xFF) at bytes ++ xs ≡ to_be_bytes w16 (number16_at bytes at) ++ ys
number16_then at bytes small le {xs = xs} {ys = ys} behind = ap (λ zs. zs ++ xs) (number16_spelled at bytes small le) ∙ ap (λ zs. to_be_bytes w16 (number16_at bytes at) ++ zs) behind

pub number32_then : (at : ℕ) (bytes : List ℕ) → All IsByte bytes → at + 4 ≤ length bytes → {xs ys : List ℕ} → xs ≡ ys → kept (replicate 4 0xFF) at bytes ++ xs ≡ to_be_bytes w32 (number32_at bytes at) ++ ys
number32_then at bytes small le {xs = xs} {ys = ys} behind = ap (λ zs. zs ++ xs) (number32_spelled at bytes small le) ∙ ap (λ zs. to_be_bytes w32 (number32_at bytes at) ++ zs) behind

pub number64_then : (at : ℕ) (bytes : List ℕ) → All IsByte bytes → at + 8 ≤ length bytes → {xs ys : List ℕ} → xs ≡ ys → kept (replicate 8 0xFF) at bytes ++ xs ≡ to_be_bytes w64 (number64_at bytes at) ++ ys
number64_then at bytes small le {xs = xs} {ys = ys} behind = ap (λ zs. zs ++ xs) (number64_spelled at bytes small le) ∙ ap (λ zs. to_be_bytes w64 (number64_at bytes at) ++ zs) behind
