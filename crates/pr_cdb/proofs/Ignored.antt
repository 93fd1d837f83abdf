-- What is read of a CDB is what a mask leaves of it.
use Rattle.std.proofs.Common.{◌≡◌, ℕ, ◌-◌, ◌*◌, ◌≤◌, Bool, true, false, cond, List, [], ◌∷◌, ◌++◌, length, slice_index, All, refl, sym, ap, ◌∙◌, arith}
use Rattle.std.specs.Prelude.{Option, Some, None, Ok, Err, nat_lt}
use Rattle.std.specs.Int.{w16, w32, w64, to_be_bytes}
use Rattle.std.specs.Int.Bits.{bit_and}
use Rattle.pr_words.specs.Fields.{number16_at, number32_at, number64_at}
use Rattle.std.proofs.lemmas.Bool.{ltb-false}
use Rattle.pr_grammar.specs.declared.cdb.Cdb.{Cdb}
use Rattle.pr_grammar.specs.declared.cdb.CdbFault.{CdbFault}
use Rattle.pr_grammar.specs.declared.operation.OperationCode.{OperationCode}
use Rattle.pr_grammar.specs.declared.operation.OperationCode.TheVariants as operations
use Rattle.pr_grammar.specs.Operations.{row_of, operation_at}
use Rattle.pr_grammar.specs.Cdbs.{operation_code, command_by, is_naca, control_byte, protection, read_by, spelled_cdb}
use Rattle.pr_grammar.specs.Masks.{masked, cdb_mask, mask_in, CdbsAreSpelled}
use Rattle.pr_grammar.proofs.Coding.{found_has_its_byte}
use Rattle.pr_grammar.proofs.Spellings.{IsByte, small_at}
use Rattle.pr_grammar.proofs.Maskings.{kept, masked_kept, every_bit, low_five_bits, high_three_bits, low_bit, both_halves, naca_bit, byte_then, number16_then, number32_then, number64_then}

-- a CDB as it is read where it is whole
abbrev whole : OperationCode → List ℕ → Cdb
whole o bytes = record { command = command_by o bytes; naca = is_naca ((row_of o).size - 1) bytes }

-- the operation code, and what stands behind it
code_then : (o : OperationCode) (bytes : List ℕ) → All IsByte bytes → (row_of o).byte ≡ operation_code bytes → {xs ys : List ℕ} → xs ≡ ys → bit_and 0xFF (slice_index bytes 0) ∷ xs ≡ (row_of o).byte ∷ ys
code_then o bytes small code behind = byte_then (every_bit _ (small_at bytes small 0) ∙ sym code) behind

-- NACA, in the last byte
naca_last : (last : ℕ) (bytes : List ℕ) → All IsByte bytes → bit_and 0x04 (slice_index bytes last) ∷ [] ≡ control_byte (is_naca last bytes) ∷ []
naca_last last bytes small = byte_then (naca_bit _ (small_at bytes small last)) refl

mask_size : (o : OperationCode) → length (cdb_mask o) ≡ (row_of o).size
mask_size operations.TestUnitReady = refl
mask_size operations.RequestSense = refl
mask_size operations.Inquiry = refl
mask_size operations.ReadCapacity10 = refl
mask_size operations.Read10 = refl
mask_size operations.Write10 = refl
mask_size operations.SynchronizeCache10 = refl
mask_size operations.ReserveIn = refl
mask_size operations.ReserveOut = refl
mask_size operations.Read16 = refl
mask_size operations.Write16 = refl
mask_size operations.ReadCapacity16 = refl
mask_size operations.ReportLuns = refl

-- READ, WRITE and SYNCHRONIZE CACHE of 10 bytes, behind the operation code
narrow_then : (mask protect : ℕ) (bytes : List ℕ) → All IsByte bytes → 10 ≤ length bytes → bit_and mask (slice_index bytes 1) ≡ protect
    → kept (mask ∷ 0xFF ∷ 0xFF ∷ 0xFF ∷ 0xFF ∷ 0 ∷ 0xFF ∷ 0xFF ∷ 0x04 ∷ []) 1 bytes
    ≡ (protect ∷ []) ++ to_be_bytes w32 (number32_at bytes 2) ++ (0 ∷ []) ++ to_be_bytes w16 (number16_at bytes 7) ++ (control_byte (is_naca 9 bytes) ∷ [])
narrow_then mask protect bytes small le first =
    byte_then first (number32_then 2 bytes small (omega (arith, le)) (byte_then refl (number16_then 7 bytes small (omega (arith, le)) (naca_last 9 bytes small))))

-- READ and WRITE of 16 bytes, likewise
wide_then : (bytes : List ℕ) → All IsByte bytes → 16 ≤ length bytes
    → kept (0xE0 ∷ 0xFF ∷ 0xFF ∷ 0xFF ∷ 0xFF ∷ 0xFF ∷ 0xFF ∷ 0xFF ∷ 0xFF ∷ 0xFF ∷ 0xFF ∷ 0xFF ∷ 0xFF ∷ 0 ∷ 0x04 ∷ []) 1 bytes
    ≡ (protection bytes * 32 ∷ []) ++ to_be_bytes w64 (number64_at bytes 2) ++ to_be_bytes w32 (number32_at bytes 10) ++ (0 ∷ control_byte (is_naca 15 bytes) ∷ [])
wide_then bytes small le =
    byte_then (high_three_bits _ (small_at bytes small 1)) (number64_then 2 bytes small (omega (arith, le)) (number32_then 10 bytes small (omega (arith, le)) (byte_then refl (naca_last 15 bytes small))))

kept_spelled : (o : OperationCode) (bytes : List ℕ) → All IsByte bytes → (row_of o).byte ≡ operation_code bytes → (row_of o).size ≤ length bytes → kept (cdb_mask o) 0 bytes ≡ spelled_cdb (whole o bytes)
kept_spelled operations.TestUnitReady bytes small code le =
    code_then operations.TestUnitReady bytes small code (byte_then refl (byte_then refl (byte_then refl (byte_then refl (naca_last 5 bytes small)))))
kept_spelled operations.RequestSense bytes small code le =
    code_then operations.RequestSense bytes small code (byte_then (low_bit _ (small_at bytes small 1)) (byte_then refl (byte_then refl (byte_then (every_bit _ (small_at bytes small 4)) (naca_last 5 bytes small)))))
kept_spelled operations.Inquiry bytes small code le =
    code_then operations.Inquiry bytes small code (byte_then (low_bit _ (small_at bytes small 1)) (byte_then (every_bit _ (small_at bytes small 2))
    (number16_then 3 bytes small (omega (arith, le)) (naca_last 5 bytes small))))
kept_spelled operations.ReadCapacity10 bytes small code le =
    code_then operations.ReadCapacity10 bytes small code (ap (λ ys. 0 ∷ 0 ∷ 0 ∷ 0 ∷ 0 ∷ 0 ∷ 0 ∷ 0 ∷ ys) (naca_last 9 bytes small))
kept_spelled operations.Read10 bytes small code le =
    code_then operations.Read10 bytes small code (narrow_then 0xE0 (protection bytes * 32) bytes small le (high_three_bits _ (small_at bytes small 1)))
kept_spelled operations.Write10 bytes small code le =
    code_then operations.Write10 bytes small code (narrow_then 0xE0 (protection bytes * 32) bytes small le (high_three_bits _ (small_at bytes small 1)))
kept_spelled operations.SynchronizeCache10 bytes small code le =
    code_then operations.SynchronizeCache10 bytes small code (narrow_then 0 0 bytes small le refl)
kept_spelled operations.ReserveIn bytes small code le =
    code_then operations.ReserveIn bytes small code (byte_then (low_five_bits _ (small_at bytes small 1))
    (ap (λ ys. 0 ∷ 0 ∷ 0 ∷ 0 ∷ 0 ∷ ys) (number16_then 7 bytes small (omega (arith, le)) (naca_last 9 bytes small))))
kept_spelled operations.ReserveOut bytes small code le =
    code_then operations.ReserveOut bytes small code (byte_then (low_five_bits _ (small_at bytes small 1)) (byte_then (both_halves _ (small_at bytes small 2))
    (ap (λ ys. 0 ∷ 0 ∷ ys) (number32_then 5 bytes small (omega (arith, le)) (naca_last 9 bytes small)))))
kept_spelled operations.Read16 bytes small code le =
    code_then operations.Read16 bytes small code (wide_then bytes small le)
kept_spelled operations.Write16 bytes small code le =
    code_then operations.Write16 bytes small code (wide_then bytes small le)
kept_spelled operations.ReadCapacity16 bytes small code le =
    code_then operations.ReadCapacity16 bytes small code (byte_then (low_five_bits _ (small_at bytes small 1))
    (ap (λ ys. 0 ∷ 0 ∷ 0 ∷ 0 ∷ 0 ∷ 0 ∷ 0 ∷ 0 ∷ ys) (number32_then 10 bytes small (omega (arith, le)) (byte_then refl (naca_last 15 bytes small)))))
kept_spelled operations.ReportLuns bytes small code le =
    code_then operations.ReportLuns bytes small code (byte_then refl (byte_then (every_bit _ (small_at bytes small 2))
    (ap (λ ys. 0 ∷ 0 ∷ 0 ∷ ys) (number32_then 6 bytes small (omega (arith, le)) (byte_then refl (naca_last 11 bytes small))))))

-- what is read was long enough
long_enough : (b : Bool) (fault : CdbFault) (there cdb : Cdb) → cond b (Err fault) (Ok there) ≡ Ok cdb → (b ≡ false) × (there ≡ cdb)
long_enough true fault there cdb e = absurd cc
long_enough false fault there cdb e = (refl, cc)

sized_spelled : (o : OperationCode) (bytes : List ℕ) (cdb : Cdb) → All IsByte bytes → (row_of o).byte ≡ operation_code bytes → read_by (Some o) bytes ≡ Ok cdb → masked (cdb_mask o) bytes ≡ spelled_cdb cdb
sized_spelled o bytes cdb small code e =
    let long : (nat_lt (length bytes) (row_of o).size ≡ false) × (whole o bytes ≡ cdb) = long_enough _ _ (whole o bytes) cdb e in
    let le : (row_of o).size ≤ length bytes = ltb-false (length bytes) (row_of o).size long.0 in
    masked_kept (cdb_mask o) bytes (omega (arith, mask_size o, le)) ∙ kept_spelled o bytes small code le ∙ ap spelled_cdb long.1

found_spelled : (found : Option OperationCode) (bytes : List ℕ) (cdb : Cdb) → All IsByte bytes → operation_at (operation_code bytes) ≡ found → read_by found bytes ≡ Ok cdb → masked (mask_in found) bytes ≡ spelled_cdb cdb
found_spelled None bytes cdb small is e = absurd cc
found_spelled (Some o) bytes cdb small is e =
    sized_spelled o bytes cdb small (found_has_its_byte (operation_code bytes) o is) e

pub cdbs_are_spelled : CdbsAreSpelled
cdbs_are_spelled bytes cdb small e = found_spelled (operation_at (operation_code bytes)) bytes cdb small refl e
