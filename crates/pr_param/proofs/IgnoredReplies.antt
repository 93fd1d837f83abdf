-- What is read of the data of PERSISTENT RESERVE IN is what a mask leaves of it.
use Rattle.std.proofs.Common.{◌≡◌, ℕ, zero, suc, ◌+◌, ◌*◌, ◌/◌, ◌%◌, ◌≤◌, Bool, true, false, cond, List, [], ◌∷◌, ◌++◌, length, drop, slice_index, All, refl, sym, ap, ◌∙◌, arith}
use Rattle.std.specs.Prelude.{Some, None, Result, Ok, Err, ◌==◌, nat_lt, not}
use Rattle.std.specs.List.{flat_map}
use Rattle.std.specs.Int.{w16, w32, w64, to_be_bytes}
use Rattle.std.proofs.lemmas.Bool.{eqb-true, not-false, ltb-false}
use Rattle.std.proofs.lemmas.List.{drop-drop}
use Rattle.pr_words.specs.Fields.{number16_at, number32_at, number64_at}
use Rattle.pr_grammar.specs.declared.param.Held.{Held}
use Rattle.pr_grammar.specs.declared.param.Capabilities.{Capabilities}
use Rattle.pr_grammar.specs.declared.param.ReplyFault.{ReplyFault}
use Rattle.pr_grammar.specs.declared.param.ReplyFault.TheVariants.{BadLength, Cut}
use Rattle.pr_grammar.specs.InReplies.{KeyList, keys_from, read_keys, reservation_sized, read_reservation, read_capabilities}
use Rattle.pr_grammar.specs.Masks.{masked}
use Rattle.pr_grammar.specs.ReplyMasks.{IsSpelled, key_mask, keys_mask, spelled_key, spelled_keys, reservation_mask, spelled_reservation, capabilities_mask, spelled_capabilities}
use Rattle.pr_grammar.proofs.Spellings.{IsByte, small_at}
use Rattle.pr_grammar.proofs.Maskings.{kept, masked_kept, every_bit, byte_then, number32_spelled, number16_then, number32_then, number64_then}
use Rattle.pr_param.proofs.Readings.{length_keys}

-- what no test refuses

pub past : {A : Type 0} (b : Bool) (fault : ReplyFault) (there : Result A ReplyFault) (told : A) → cond b (Err fault) there ≡ Ok told → (b ≡ false) × (there ≡ Ok told)
past true fault there told e = absurd cc
past false fault there told e = (refl, e)

abbrev pub found : {A : Type 0} → A → Result A ReplyFault
found told = Ok told

pub inside : {A : Type 0} (there told : A) → found there ≡ found told → there ≡ told
inside there told e = cc

-- REPORT CAPABILITIES

abbrev capabilities_of : List ℕ → Capabilities
capabilities_of bytes = record { flags = slice_index bytes 2; more = slice_index bytes 3; mask = number16_at bytes 4 }

capabilities_kept : (bytes : List ℕ) → All IsByte bytes → 8 ≤ length bytes → number16_at bytes 0 ≡ 8 → kept (capabilities_mask (capabilities_of bytes)) 0 bytes ≡ spelled_capabilities (capabilities_of bytes)
capabilities_kept bytes small long eight =
    number16_then 0 bytes small (omega (arith, long)) (byte_then (every_bit _ (small_at bytes small 2)) (byte_then (every_bit _ (small_at bytes small 3))
    (number16_then 4 bytes small (omega (arith, long)) refl)))
    ∙ ap (λ n. to_be_bytes w16 n ++ ((slice_index bytes 2 ∷ slice_index bytes 3 ∷ []) ++ to_be_bytes w16 (number16_at bytes 4) ++ (0 ∷ 0 ∷ []))) eight

pub capabilities_spelled : IsSpelled read_capabilities capabilities_mask spelled_capabilities
capabilities_spelled bytes told small e =
    let first = past (nat_lt (length bytes) 2) _ _ told e in
    let second = past (not (number16_at bytes 0 == 8)) _ _ told first.1 in
    let third = past (nat_lt (length bytes) 8) _ _ told second.1 in
    let same : capabilities_of bytes ≡ told = inside (capabilities_of bytes) told third.1 in
    let eight : number16_at bytes 0 ≡ 8 = eqb-true (number16_at bytes 0) 8 (not-false _ second.0) in
    let long : 8 ≤ length bytes = ltb-false (length bytes) 8 third.0 in
    masked_kept (capabilities_mask told) bytes (omega (arith, long)) ∙ capabilities_kept bytes small long eight ∙ ap spelled_capabilities same

-- READ RESERVATION

abbrev held_of : List ℕ → Held
held_of bytes = record { generation = number32_at bytes 0; held = Some (record { 0 = number64_at bytes 8 }, slice_index bytes 21) }

abbrev free_of : List ℕ → Held
free_of bytes = record { generation = number32_at bytes 0; held = None }

free_kept : (bytes : List ℕ) → All IsByte bytes → 8 ≤ length bytes → number32_at bytes 4 ≡ 0 → kept (reservation_mask (free_of bytes)) 0 bytes ≡ spelled_reservation (free_of bytes)
free_kept bytes small long none =
    number32_then 0 bytes small (omega (arith, long)) (number32_spelled 4 bytes small (omega (arith, long)) ∙ ap (λ n. to_be_bytes w32 n) none)

held_kept : (bytes : List ℕ) → All IsByte bytes → 24 ≤ length bytes → number32_at bytes 4 ≡ 16 → kept (reservation_mask (held_of bytes)) 0 bytes ≡ spelled_reservation (held_of bytes)
held_kept bytes small long sixteen =
    number32_then 0 bytes small (omega (arith, long)) (number32_then 4 bytes small (omega (arith, long)) (number64_then 8 bytes small (omega (arith, long))
    (ap (λ ys. 0 ∷ 0 ∷ 0 ∷ 0 ∷ 0 ∷ ys) (byte_then (every_bit _ (small_at bytes small 21)) refl))))
    ∙ ap (λ n. to_be_bytes w32 (number32_at bytes 0) ++ (to_be_bytes w32 n ++ (to_be_bytes w64 (number64_at bytes 8) ++ (0 ∷ 0 ∷ 0 ∷ 0 ∷ 0 ∷ slice_index bytes 21 ∷ 0 ∷ 0 ∷ [])))) sixteen

by_length : (b : Bool) (bytes : List ℕ) (told : Held) → All IsByte bytes → 8 ≤ length bytes → (number32_at bytes 4 == 0) ≡ b → reservation_sized (number32_at bytes 4) bytes ≡ Ok told → masked (reservation_mask told) bytes ≡ spelled_reservation told
by_length true bytes told small long is e =
    let none : number32_at bytes 4 ≡ 0 = eqb-true _ _ is in
    let same : free_of bytes ≡ told = inside (free_of bytes) told (sym (ap (λ n. reservation_sized n bytes) none) ∙ e) in
    ap (λ (t : Held). masked (reservation_mask t) bytes) (sym same)
    ∙ masked_kept (reservation_mask (free_of bytes)) bytes long ∙ free_kept bytes small long none ∙ ap spelled_reservation same
by_length false bytes told small eight is e =
    let there : Result Held ReplyFault = cond (not (number32_at bytes 4 == 16)) (Err (BadLength 4 (number32_at bytes 4))) (cond (nat_lt (length bytes) 24) (Err (Cut (length bytes))) (Ok (held_of bytes))) in
    let other : there ≡ Ok told = sym (ap (λ b. cond b (Ok (free_of bytes)) there) is) ∙ e in
    let first = past (not (number32_at bytes 4 == 16)) _ _ told other in
    let second = past (nat_lt (length bytes) 24) _ _ told first.1 in
    let same : held_of bytes ≡ told = inside (held_of bytes) told second.1 in
    let sixteen : number32_at bytes 4 ≡ 16 = eqb-true (number32_at bytes 4) 16 (not-false _ first.0) in
    let long : 24 ≤ length bytes = ltb-false (length bytes) 24 second.0 in
    ap (λ (t : Held). masked (reservation_mask t) bytes) (sym same)
    ∙ masked_kept (reservation_mask (held_of bytes)) bytes long ∙ held_kept bytes small long sixteen ∙ ap spelled_reservation same

pub reservation_spelled : IsSpelled read_reservation reservation_mask spelled_reservation
reservation_spelled bytes told small e =
    let first = past (nat_lt (length bytes) 8) _ _ told e in
    by_length (number32_at bytes 4 == 0) bytes told small (ltb-false (length bytes) 8 first.0) refl first.1

-- READ KEYS

-- the place behind a key
abbrev behind_key : ℕ → ℕ
behind_key at = suc (suc (suc (suc (suc (suc (suc (suc at)))))))

drop_behind : (at : ℕ) (bytes : List ℕ) → drop (behind_key at) bytes ≡ drop 8 (drop at bytes)
drop_behind at bytes =
    let turned : behind_key at ≡ at + 8 = omega arith in
    ap (λ m. drop m bytes) turned ∙ sym (drop-drop 8 at bytes)

-- so many keys, each its eight bytes
keys_kept : (n at : ℕ) (bytes : List ℕ) → All IsByte bytes → at + 8 * n ≤ length bytes
    → kept (flat_map key_mask (keys_from n (drop at bytes))) at bytes ≡ flat_map spelled_key (keys_from n (drop at bytes))
keys_kept zero at bytes small long = refl
keys_kept (suc n) at bytes small long =
    number64_then at bytes small (omega (arith, long))
    (ap (λ ys. kept (flat_map key_mask (keys_from n ys)) (behind_key at) bytes) (sym (drop_behind at bytes))
    ∙ keys_kept n (behind_key at) bytes small (omega (arith, long))
    ∙ ap (λ ys. flat_map spelled_key (keys_from n ys)) (drop_behind at bytes))

abbrev keys_of : ℕ → List ℕ → KeyList
keys_of n bytes = record { generation = number32_at bytes 0; keys = keys_from n (drop 8 bytes) }

length_mask : (n : ℕ) (ys : List ℕ) → length (flat_map key_mask (keys_from n ys)) ≡ 8 * n
length_mask zero ys = refl
length_mask (suc n) ys = let h = length_mask n (drop 8 ys) in omega (arith, h)

listed_kept : (n : ℕ) (bytes : List ℕ) → All IsByte bytes → 8 + 8 * n ≤ length bytes → number32_at bytes 4 ≡ 8 * n → kept (keys_mask (keys_of n bytes)) 0 bytes ≡ spelled_keys (keys_of n bytes)
listed_kept n bytes small long size =
    number32_then 0 bytes small (omega (arith, long)) (number32_then 4 bytes small (omega (arith, long)) (keys_kept n 8 bytes small long))
    ∙ ap (λ m. to_be_bytes w32 (number32_at bytes 0) ++ (to_be_bytes w32 m ++ flat_map spelled_key (keys_from n (drop 8 bytes))))
    (size ∙ ap (λ m. 8 * m) (sym (length_keys n (drop 8 bytes))))

pub keys_spelled : IsSpelled read_keys keys_mask spelled_keys
keys_spelled bytes told small e =
    let size : ℕ = number32_at bytes 4 in
    let n : ℕ = size / 8 in
    let first = past (nat_lt (length bytes) 8) _ _ told e in
    let second = past (not (size % 8 == 0)) _ _ told first.1 in
    let third = past (nat_lt (length bytes) (8 + size)) _ _ told second.1 in
    let same : keys_of n bytes ≡ told = inside (keys_of n bytes) told third.1 in
    let even : size % 8 ≡ 0 = eqb-true (size % 8) 0 (not-false _ second.0) in
    let whole : size ≡ 8 * n = omega (arith, even) in
    let long : 8 + 8 * n ≤ length bytes = omega (arith, ltb-false (length bytes) (8 + size) third.0, whole) in
    let count : length (keys_mask (keys_of n bytes)) ≤ length bytes = omega (arith, length_mask n (drop 8 bytes), long) in
    ap (λ (t : KeyList). masked (keys_mask t) bytes) (sym same)
    ∙ masked_kept (keys_mask (keys_of n bytes)) bytes count ∙ listed_kept n bytes small long whole ∙ ap spelled_keys same
