-- Command descriptor blocks (SPC-4, command descriptor block; the commands' own layouts in SPC-4 and SBC-3).
use Rattle.std.specs.Prelude.{ℕ, ◌+◌, ◌-◌, ◌*◌, ◌/◌, ◌%◌, ◌<◌, ◌^◌, ◌==◌, nat_lt, Bool, true, false, List, [], ◌∷◌, ◌++◌, length, slice_index, Option, Some, None, Result, Ok, Err, if◌then◌else◌}
use Rattle.std.specs.Int.{w16, w32, w64, to_be_bytes}
use Rattle.pr_words.specs.Fields.{number16_at, number32_at, number64_at}
use Rattle.pr_grammar.specs.declared.cdb.Command.{Command}
use Rattle.pr_grammar.specs.declared.cdb.Command.TheVariants.{TestUnitReady, RequestSense, Inquiry, ReadCapacity10, ReadCapacity16, ReportLuns, Read, Write, SynchronizeCache, ReserveIn, ReserveOut}
use Rattle.pr_grammar.specs.declared.cdb.Cdb.{Cdb}
use Rattle.pr_grammar.specs.declared.cdb.CdbFault.{CdbFault}
use Rattle.pr_grammar.specs.declared.cdb.CdbFault.TheVariants.{Unknown, Short}
use Rattle.pr_grammar.specs.declared.operation.OperationCode.{OperationCode}
use Rattle.pr_grammar.specs.declared.operation.OperationCode.TheVariants as operations
use Rattle.pr_grammar.specs.Operations.{row_of, operation_at}

-- Fields

abbrev pub operation_code : List ℕ → ℕ
operation_code cdb = slice_index cdb 0

-- bits 4 to 0 of byte 1
abbrev pub service_action : List ℕ → ℕ
service_action cdb = slice_index cdb 1 % 32

-- RDPROTECT or WRPROTECT, bits 7 to 5 of byte 1
abbrev pub protection : List ℕ → ℕ
protection cdb = slice_index cdb 1 / 32

-- bit 0 of byte 1: DESC of REQUEST SENSE, EVPD of INQUIRY
abbrev pub lowest_bit : List ℕ → Bool
lowest_bit cdb = slice_index cdb 1 % 2 == 1

-- NACA, bit 2 of the control byte, which is the last of a CDB of this length
abbrev pub is_naca : ℕ → List ℕ → Bool
is_naca last cdb = nat_lt 3 (slice_index cdb last % 8)

-- PERSISTENT RESERVE IN: how many bytes of the reply are wanted
abbrev pub reserve_in_allocation : List ℕ → ℕ
reserve_in_allocation cdb = number16_at cdb 7

-- PERSISTENT RESERVE OUT: how long the parameter list is
abbrev pub reserve_out_length : List ℕ → ℕ
reserve_out_length cdb = number32_at cdb 5

-- Reading: bits and bytes that no field has are ignored

-- the command of a CDB that is whole, by its operation code
abbrev pub command_by : OperationCode → List ℕ → Command
command_by operations.TestUnitReady cdb = TestUnitReady
command_by operations.RequestSense cdb = RequestSense (lowest_bit cdb) (slice_index cdb 4)
command_by operations.Inquiry cdb = Inquiry (lowest_bit cdb) (slice_index cdb 2) (number16_at cdb 3)
command_by operations.ReadCapacity10 cdb = ReadCapacity10
command_by operations.Read10 cdb = Read false (protection cdb) (number32_at cdb 2) (number16_at cdb 7)
command_by operations.Write10 cdb = Write false (protection cdb) (number32_at cdb 2) (number16_at cdb 7)
command_by operations.SynchronizeCache10 cdb = SynchronizeCache (number32_at cdb 2) (number16_at cdb 7)
command_by operations.ReserveIn cdb = ReserveIn (service_action cdb) (reserve_in_allocation cdb)
command_by operations.ReserveOut cdb = ReserveOut (service_action cdb) (slice_index cdb 2 / 16) (slice_index cdb 2 % 16) (reserve_out_length cdb)
command_by operations.Read16 cdb = Read true (protection cdb) (number64_at cdb 2) (number32_at cdb 10)
command_by operations.Write16 cdb = Write true (protection cdb) (number64_at cdb 2) (number32_at cdb 10)
command_by operations.ReadCapacity16 cdb = ReadCapacity16 (service_action cdb) (number32_at cdb 10)
command_by operations.ReportLuns cdb = ReportLuns (slice_index cdb 2) (number32_at cdb 6)

-- the same by the operation code's byte; where no command has it, the value says nothing
abbrev pub command_in : Option OperationCode → List ℕ → Command
command_in None cdb = TestUnitReady
command_in (Some operation) cdb = command_by operation cdb

abbrev pub command_of : ℕ → List ℕ → Command
command_of op cdb = command_in (operation_at op) cdb

-- a CDB with an operation code, or none; what stands behind a CDB is ignored
abbrev pub read_by : Option OperationCode → List ℕ → Result Cdb CdbFault
read_by None bytes = Err (Unknown (operation_code bytes))
read_by (Some operation) bytes =
    if nat_lt (length bytes) (row_of operation).size then Err (Short (row_of operation).size (length bytes)) else
    Ok (record { command = command_by operation bytes; naca = is_naca ((row_of operation).size - 1) bytes })

-- a CDB, or the fault: the operation code is looked at first, then the length
abbrev pub read_cdb : List ℕ → Result Cdb CdbFault
read_cdb bytes = read_by (operation_at (operation_code bytes)) bytes

-- Spelling: reserved and ignored bits are zero

-- the control byte
abbrev pub control_byte : Bool → ℕ
control_byte naca = if naca then 4 else 0

-- a bit as a number
abbrev pub bit : Bool → ℕ
bit b = if b then 1 else 0

-- READ and WRITE, of 10 bytes
abbrev pub narrow_transfer : ℕ → ℕ → ℕ → ℕ → ℕ → List ℕ
narrow_transfer op protect lba count control =
    (op ∷ (protect * 32) ∷ []) ++ to_be_bytes w32 lba ++ (0 ∷ []) ++ to_be_bytes w16 count ++ (control ∷ [])

-- READ and WRITE, of 16 bytes
abbrev pub wide_transfer : ℕ → ℕ → ℕ → ℕ → ℕ → List ℕ
wide_transfer op protect lba count control =
    (op ∷ (protect * 32) ∷ []) ++ to_be_bytes w64 lba ++ to_be_bytes w32 count ++ (0 ∷ control ∷ [])

-- a command, with its control byte
abbrev pub spelled_command : Command → ℕ → List ℕ
spelled_command TestUnitReady control = 0x00 ∷ 0 ∷ 0 ∷ 0 ∷ 0 ∷ control ∷ []
spelled_command (RequestSense descriptor allocation) control = 0x03 ∷ bit descriptor ∷ 0 ∷ 0 ∷ allocation ∷ control ∷ []
spelled_command (Inquiry vital page allocation) control =
    (0x12 ∷ bit vital ∷ page ∷ []) ++ to_be_bytes w16 allocation ++ (control ∷ [])
spelled_command ReadCapacity10 control = 0x25 ∷ 0 ∷ 0 ∷ 0 ∷ 0 ∷ 0 ∷ 0 ∷ 0 ∷ 0 ∷ control ∷ []
spelled_command (ReadCapacity16 action allocation) control =
    (0x9E ∷ action ∷ 0 ∷ 0 ∷ 0 ∷ 0 ∷ 0 ∷ 0 ∷ 0 ∷ 0 ∷ []) ++ to_be_bytes w32 allocation ++ (0 ∷ control ∷ [])
spelled_command (ReportLuns select allocation) control =
    (0xA0 ∷ 0 ∷ select ∷ 0 ∷ 0 ∷ 0 ∷ []) ++ to_be_bytes w32 allocation ++ (0 ∷ control ∷ [])
spelled_command (Read false protect lba count) control = narrow_transfer 0x28 protect lba count control
spelled_command (Read true protect lba count) control = wide_transfer 0x88 protect lba count control
spelled_command (Write false protect lba count) control = narrow_transfer 0x2A protect lba count control
spelled_command (Write true protect lba count) control = wide_transfer 0x8A protect lba count control
spelled_command (SynchronizeCache lba count) control =
    (0x35 ∷ 0 ∷ []) ++ to_be_bytes w32 lba ++ (0 ∷ []) ++ to_be_bytes w16 count ++ (control ∷ [])
spelled_command (ReserveIn action allocation) control =
    (0x5E ∷ action ∷ 0 ∷ 0 ∷ 0 ∷ 0 ∷ 0 ∷ []) ++ to_be_bytes w16 allocation ++ (control ∷ [])
spelled_command (ReserveOut action scope kind list) control =
    (0x5F ∷ action ∷ (scope * 16 + kind) ∷ 0 ∷ 0 ∷ []) ++ to_be_bytes w32 list ++ (control ∷ [])

abbrev pub spelled_cdb : Cdb → List ℕ
spelled_cdb cdb = spelled_command cdb.command (control_byte cdb.naca)

-- each field fits its bits
abbrev pub FitsFields : Command → Type 0
FitsFields (Read false protect lba count) = (protect < 8) × (lba < 2 ^ 32) × (count < 2 ^ 16)
FitsFields (Read true protect lba count) = protect < 8
FitsFields (Write false protect lba count) = (protect < 8) × (lba < 2 ^ 32) × (count < 2 ^ 16)
FitsFields (Write true protect lba count) = protect < 8
FitsFields (ReadCapacity16 action allocation) = action < 32
FitsFields (ReserveIn action allocation) = action < 32
FitsFields (ReserveOut action scope kind list) = (action < 32) × (scope < 16) × (kind < 16)
FitsFields _ = Unit {0}
