-- What is read of READ FULL STATUS is what masks leave of it, descriptor by descriptor.
use Rattle.std.proofs.Common.{◌≡◌, ℕ, zero, suc, ◌+◌, ◌*◌, ◌/◌, ◌%◌, ◌≤◌, Bool, true, false, cond, List, [], ◌∷◌, ◌++◌, length, take, drop, replicate, All, refl, sym, ap, subst, ◌∙◌, arith}
use Rattle.std.specs.Prelude.{Option, Some, None, Ok, ◌==◌, nat_lt, not}
use Rattle.std.specs.List.{flat_map}
use Rattle.std.specs.Int.{w32, from_be_bytes, to_be_bytes}
use Rattle.std.specs.Int.Bits.{bit_and}
use Rattle.std.proofs.lemmas.Bool.{eqb-true, not-false, ltb-false, le-ltb}
use Rattle.std.proofs.lemmas.List.{drop-drop, length-drop}
use Rattle.std.proofs.lemmas.List.Elements.{All-drop}
use Rattle.pr_words.specs.Fields.{number32_at}
use Rattle.pr_grammar.specs.declared.param.ReplyFault.{ReplyFault}
use Rattle.pr_grammar.specs.InReplies.{FullList, entry_of, entries_from, first_odd, entries_sized, read_full}
use Rattle.pr_grammar.specs.Masks.{masked}
use Rattle.pr_grammar.specs.ReplyMasks.{IsSpelled, entry_mask, full_mask, spelled_entry, spelled_full}
use Rattle.pr_grammar.proofs.Spellings.{IsByte, small_at}
use Rattle.pr_grammar.proofs.Maskings.{kept, masked_kept, every_bit, low_bit, byte_then, number32_spelled, number16_then, number32_then, number64_then}
use Rattle.pr_param.proofs.Readings.{length_entries}
use Rattle.pr_param.proofs.IgnoredReplies.{past, inside}

masked_append : (masks more ys : List ℕ) → length masks ≤ length ys → masked (masks ++ more) ys ≡ masked masks ys ++ masked more (drop (length masks) ys)
masked_append [] more ys le = refl
masked_append (mask ∷ masks) more [] le = absurd (omega (arith, le))
masked_append (mask ∷ masks) more (y ∷ ys) le = ap (λ zs. bit_and mask y ∷ zs) (masked_append masks more ys (omega (arith, le)))

-- ADDITIONAL DESCRIPTOR LENGTH, and what stands behind it
size_then : (ys : List ℕ) → All IsByte ys → 48 ≤ length ys → number32_at ys 20 ≡ 24 → {xs zs : List ℕ} → xs ≡ zs → kept (replicate 4 0xFF) 20 ys ++ xs ≡ to_be_bytes w32 24 ++ zs
size_then ys small long size {zs = zs} behind = number32_then 20 ys small (omega (arith, long)) behind ∙ ap (λ n. to_be_bytes w32 n ++ zs) size

entry_kept : (ys : List ℕ) → All IsByte ys → 48 ≤ length ys → number32_at ys 20 ≡ 24 → kept (entry_mask (entry_of ys)) 0 ys ≡ spelled_entry (entry_of ys)
entry_kept ys small long size =
    number64_then 0 ys small (omega (arith, long)) (ap (λ zs. 0 ∷ 0 ∷ 0 ∷ 0 ∷ zs)
    (byte_then (low_bit _ (small_at ys small 12)) (byte_then (every_bit _ (small_at ys small 13)) (ap (λ zs. 0 ∷ 0 ∷ 0 ∷ 0 ∷ zs)
    (number16_then 18 ys small (omega (arith, long)) (size_then ys small long size (ap (λ zs. 0 ∷ 0 ∷ 0 ∷ 0 ∷ zs)
    (number64_then 28 ys small (omega (arith, long)) refl))))))))

-- a descriptor that isn't odd, and those behind it
not_odd : (a b : Bool) (rest : Option ReplyFault) (fault : ReplyFault) → a ≡ false → cond a None (cond b rest (Some fault)) ≡ None → (b ≡ true) × (rest ≡ None)
not_odd true b rest fault is e = absurd cc
not_odd false true rest fault is e = (refl, e)
not_odd false false rest fault is e = absurd cc

abbrev AreSpelled : ℕ → List ℕ → Type 0
AreSpelled n ys = masked (flat_map entry_mask (entries_from n ys)) ys ≡ flat_map spelled_entry (entries_from n ys)

entries_kept : (n place : ℕ) (bytes : List ℕ) → All IsByte bytes → place + 48 * n ≤ length bytes → first_odd n place bytes ≡ None → AreSpelled n (drop place bytes)
entries_kept zero place bytes small long none = refl
entries_kept (suc n) place bytes small long none =
    let ys : List ℕ = drop place bytes in
    let there : nat_lt (length bytes) (place + 24) ≡ false = le-ltb (length bytes) (place + 24) (omega (arith, long)) in
    let parts = not_odd (nat_lt (length bytes) (place + 24)) (number32_at bytes (place + 20) == 24) (first_odd n (place + 48) bytes) _ there none in
    let same : number32_at bytes (place + 20) ≡ 24 = eqb-true (number32_at bytes (place + 20)) 24 parts.0 in
    let size : number32_at ys 20 ≡ 24 = ap (λ zs. from_be_bytes w32 (take 4 zs)) (drop-drop 20 place bytes) ∙ same in
    let bytewise : All IsByte ys = All-drop IsByte place bytes small in
    let whole : 48 ≤ length ys = omega (arith, length-drop place bytes, long) in
    let behind : AreSpelled n (drop (place + 48) bytes) = entries_kept n (place + 48) bytes small (omega (arith, long)) parts.1 in
    let next : AreSpelled n (drop 48 ys) = subst (λ (zs : List ℕ). AreSpelled n zs) (sym (drop-drop 48 place bytes)) behind in
    masked_append (entry_mask (entry_of ys)) (flat_map entry_mask (entries_from n (drop 48 ys))) ys whole
    ∙ ap (λ zs. zs ++ masked (flat_map entry_mask (entries_from n (drop 48 ys))) (drop 48 ys)) (masked_kept (entry_mask (entry_of ys)) ys whole ∙ entry_kept ys bytewise whole size)
    ∙ ap (λ zs. spelled_entry (entry_of ys) ++ zs) next

-- the whole reply

abbrev full_of : ℕ → List ℕ → FullList
full_of n bytes = record { generation = number32_at bytes 0; entries = entries_from n (drop 8 bytes) }

head_kept : (bytes : List ℕ) → All IsByte bytes → 8 ≤ length bytes → masked (replicate 8 0xFF) bytes ≡ to_be_bytes w32 (number32_at bytes 0) ++ to_be_bytes w32 (number32_at bytes 4)
head_kept bytes small long =
    masked_kept (replicate 8 0xFF) bytes long ∙ number32_then 0 bytes small (omega (arith, long)) (number32_spelled 4 bytes small (omega (arith, long)))

list_kept : (n : ℕ) (bytes : List ℕ) → All IsByte bytes → 8 + 48 * n ≤ length bytes → number32_at bytes 4 ≡ 48 * n → first_odd n 8 bytes ≡ None → masked (full_mask (full_of n bytes)) bytes ≡ spelled_full (full_of n bytes)
list_kept n bytes small long size none =
    let es = entries_from n (drop 8 bytes) in
    let head : 8 ≤ length bytes = omega (arith, long) in
    let count : number32_at bytes 4 ≡ 48 * length es = size ∙ ap (λ m. 48 * m) (sym (length_entries n (drop 8 bytes))) in
    masked_append (replicate 8 0xFF) (flat_map entry_mask es) bytes head
    ∙ ap (λ zs. zs ++ masked (flat_map entry_mask es) (drop 8 bytes)) (head_kept bytes small head)
    ∙ ap (λ m. to_be_bytes w32 (number32_at bytes 0) ++ (to_be_bytes w32 m ++ masked (flat_map entry_mask es) (drop 8 bytes))) count
    ∙ ap (λ zs. to_be_bytes w32 (number32_at bytes 0) ++ (to_be_bytes w32 (48 * length es) ++ zs)) (entries_kept n 8 bytes small long none)

none_odd : (odd : Option ReplyFault) (size : ℕ) (bytes : List ℕ) (told : FullList) → entries_sized odd size bytes ≡ Ok told → (odd ≡ None) × (entries_sized None size bytes ≡ Ok told)
none_odd None size bytes told e = (refl, e)
none_odd (Some fault) size bytes told e = absurd cc

pub full_spelled : IsSpelled read_full full_mask spelled_full
full_spelled bytes told small e =
    let size : ℕ = number32_at bytes 4 in
    let n : ℕ = size / 48 in
    let first = past (nat_lt (length bytes) 8) _ _ told e in
    let second = past (not (size % 48 == 0)) _ _ told first.1 in
    let third : (first_odd n 8 bytes ≡ None) × (entries_sized None size bytes ≡ Ok told) = none_odd (first_odd n 8 bytes) size bytes told second.1 in
    let fourth = past (nat_lt (length bytes) (8 + size)) _ _ told third.1 in
    let same : full_of n bytes ≡ told = inside (full_of n bytes) told fourth.1 in
    let even : size % 48 ≡ 0 = eqb-true (size % 48) 0 (not-false _ second.0) in
    let whole : size ≡ 48 * n = omega (arith, even) in
    let long : 8 + 48 * n ≤ length bytes = omega (arith, ltb-false (length bytes) (8 + size) fourth.0, whole) in
    ap (λ (t : FullList). masked (full_mask t) bytes) (sym same) ∙ list_kept n bytes small long whole third.0 ∙ ap spelled_full same
