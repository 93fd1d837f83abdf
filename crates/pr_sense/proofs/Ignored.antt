-- What is read of sense data is what a mask leaves of it.
use Rattle.std.proofs.Common.{◌≡◌, ℕ, ◌≤◌, Bool, true, false, cond, List, [], ◌∷◌, ◌++◌, length, take, slice_index, All, refl, sym, ap, ◌∙◌, arith}
use Rattle.std.specs.Prelude.{Option, Some, None, Result, Ok, Err, ◌==◌, nat_lt, if◌then◌else◌}
use Rattle.std.specs.Int.Bits.{bit_and}
use Rattle.std.proofs.lemmas.Bool.{ltb-false, ltb-true}
use Rattle.pr_words.specs.Fields.{number32_at}
use Rattle.pr_words.specs.declared.code.Sense.{Sense}
use Rattle.pr_grammar.specs.declared.sense.SenseFault.{SenseFault}
use Rattle.pr_grammar.specs.declared.sense.SenseFault.TheVariants.{Cut, Format}
use Rattle.pr_grammar.specs.Senses.{fixed_sense, descriptor_sense, fixed_code, descriptor_code, information_of, response_code, read_fixed, read_descriptor, read_sense}
use Rattle.pr_grammar.specs.Masks.{masked, fixed_mask, fixed_fields, descriptor_mask, FixedIsSpelled, DescriptorIsSpelled}
use Rattle.pr_grammar.proofs.Spellings.{IsByte, small_at}
use Rattle.pr_grammar.proofs.Maskings.{kept, masked_kept, every_bit, low_four_bits, low_four_fit, low_seven_bits, byte_then, number32_places}

long_enough : (b : Bool) (fault : SenseFault) (there sense : Sense) → cond b (Err fault) (Ok there) ≡ Ok sense → (b ≡ false) × (there ≡ sense)
long_enough true fault there sense e = absurd cc
long_enough false fault there sense e = (refl, cc)

not_empty : (b : Bool) (fault : SenseFault) (there : Result Sense SenseFault) (sense : Sense) → cond b (Err fault) there ≡ Ok sense → there ≡ Ok sense
not_empty true fault there sense e = absurd cc
not_empty false fault there sense e = e

-- by the response code
abbrev by_format : List ℕ → ℕ → Result Sense SenseFault
by_format bytes format =
    if format == 0x70 then read_fixed bytes else
    if format == 0x72 then read_descriptor bytes else
    Err (Format (slice_index bytes 0))

read_as : (bytes : List ℕ) (format : ℕ) (sense : Sense) → response_code bytes ≡ format → read_sense bytes ≡ Ok sense → by_format bytes format ≡ Ok sense
read_as bytes format sense is e =
    ap (λ n. by_format bytes n) (sym is) ∙ not_empty (length bytes == 0) (Cut 0) (by_format bytes (response_code bytes)) sense e

-- the fixed format, by VALID
abbrev by_valid : Bool → List ℕ → Option ℕ
by_valid b bytes = cond b None (Some (number32_at bytes 3))

abbrev fixed_of : Option ℕ → List ℕ → Sense
fixed_of info bytes = record { code = fixed_code bytes; info = info }

mask_size : (info : Option ℕ) → length (fixed_mask info) ≡ 14
mask_size None = refl
mask_size (Some n) = refl

fixed_kept : (b : Bool) (bytes : List ℕ) → All IsByte bytes → response_code bytes ≡ 0x70 → 14 ≤ length bytes → nat_lt (slice_index bytes 0) 128 ≡ b
    → kept (fixed_mask (by_valid b bytes)) 0 bytes ≡ masked fixed_fields (fixed_sense (fixed_of (by_valid b bytes) bytes))
fixed_kept true bytes small format long valid =
    let first : slice_index bytes 0 ≡ 0x70 = omega (arith, format, ltb-true (slice_index bytes 0) 128 valid) in
    byte_then (ap (λ n. bit_and 0xFF n) first) (byte_then refl (byte_then (low_four_fit _ (small_at bytes small 2)) refl))
fixed_kept false bytes small format long valid =
    let first : slice_index bytes 0 ≡ 0xF0 = omega (arith, format, ltb-false (slice_index bytes 0) 128 valid, small_at bytes small 0) in
    let masks : List ℕ = 0xFF ∷ 0xFF ∷ 0xFF ∷ 0xFF ∷ 0 ∷ 0xFF ∷ 0xFF ∷ 0xFF ∷ 0xFF ∷ 0xFF ∷ 0xFF ∷ [] in
    let behind : List ℕ = 0x0A ∷ 0 ∷ 0 ∷ 0 ∷ 0 ∷ slice_index bytes 12 ∷ slice_index bytes 13 ∷ 0 ∷ 0 ∷ 0 ∷ 0 ∷ [] in
    byte_then (ap (λ n. bit_and 0xFF n) first) (byte_then refl (byte_then (low_four_fit _ (small_at bytes small 2))
    (ap (λ (ys : List ℕ). masked masks (ys ++ behind)) (sym (number32_places 3 bytes small (omega (arith, long)))))))

pub fixed_spelled : FixedIsSpelled
fixed_spelled bytes sense small format e =
    let read : read_fixed bytes ≡ Ok sense = read_as bytes 0x70 sense format e in
    let right : (nat_lt (length bytes) 14 ≡ false) × (fixed_of (information_of bytes) bytes ≡ sense) = long_enough _ _ (fixed_of (information_of bytes) bytes) sense read in
    let long : 14 ≤ length bytes = ltb-false (length bytes) 14 right.0 in
    ap (λ (s : Sense). masked (fixed_mask s.info) bytes) (sym right.1)
    ∙ masked_kept (fixed_mask (information_of bytes)) bytes (omega (arith, mask_size (information_of bytes), long))
    ∙ fixed_kept (nat_lt (slice_index bytes 0) 128) bytes small format long refl
    ∙ ap (λ (s : Sense). masked fixed_fields (fixed_sense s)) right.1

-- the descriptor format

descriptor_kept : (bytes : List ℕ) → All IsByte bytes → response_code bytes ≡ 0x72 → kept descriptor_mask 0 bytes ≡ take 4 (descriptor_sense (descriptor_code bytes))
descriptor_kept bytes small format =
    byte_then (low_seven_bits _ (small_at bytes small 0) ∙ format) (byte_then (low_four_bits _ (small_at bytes small 1)) (byte_then (every_bit _ (small_at bytes small 2)) (byte_then (every_bit _ (small_at bytes small 3)) refl)))

pub descriptor_spelled : DescriptorIsSpelled
descriptor_spelled bytes sense small format e =
    let read : read_descriptor bytes ≡ Ok sense = read_as bytes 0x72 sense format e in
    let there : Sense = record { code = descriptor_code bytes; info = None } in
    let right : (nat_lt (length bytes) 4 ≡ false) × (there ≡ sense) = long_enough _ _ there sense read in
    let long : 4 ≤ length bytes = ltb-false (length bytes) 4 right.0 in
    masked_kept descriptor_mask bytes (omega (arith, long)) ∙ descriptor_kept bytes small format
    ∙ ap (λ (s : Sense). take 4 (descriptor_sense s.code)) right.1
