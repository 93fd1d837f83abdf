-- The commands that are served, by their operation codes (SPC-4 and SBC-3).
use Rattle.std.specs.Prelude.{ℕ, ◌/◌, ◌==◌, Bool, true, false, List, [], ◌∷◌, find, Option, Some, None, if◌then◌else◌}
use Rattle.pr_grammar.specs.declared.operation.OperationCode.{OperationCode}
use Rattle.pr_grammar.specs.declared.operation.OperationCode.TheVariants.{TestUnitReady, RequestSense, Inquiry, ReadCapacity10, Read10, Write10, SynchronizeCache10, ReserveIn, ReserveOut, Read16, Write16, ReadCapacity16, ReportLuns}
use Rattle.pr_grammar.specs.declared.cdb.Class.{Class}
use Rattle.pr_grammar.specs.declared.cdb.Class.TheVariants.{Reads, Writes, Free}

-- The table

-- a row: the operation code's byte; how many bytes its CDB has (SPC-4, SBC-3); what reservations ask of
-- it (SPC-4 and SBC-3, conflict tables); and whether the command is for every logical unit and passes a
-- unit attention (SPC-4, SAM-5)
pub record Operation : Type 0 where
  pub byte : ℕ
  pub size : ℕ
  pub asks : Class
  pub unconditional : Bool

abbrev pub row : ℕ → ℕ → Class → Bool → Operation
row byte size asks unconditional = record { byte = byte; size = size; asks = asks; unconditional = unconditional }

abbrev pub row_of : OperationCode → Operation
row_of TestUnitReady = row 0x00 6 Free false
row_of RequestSense = row 0x03 6 Free true
row_of Inquiry = row 0x12 6 Free true
row_of ReadCapacity10 = row 0x25 10 Free false
row_of Read10 = row 0x28 10 Reads false
row_of Write10 = row 0x2A 10 Writes false
row_of SynchronizeCache10 = row 0x35 10 Writes false
row_of ReserveIn = row 0x5E 10 Free false
row_of ReserveOut = row 0x5F 10 Free false
row_of Read16 = row 0x88 16 Reads false
row_of Write16 = row 0x8A 16 Writes false
row_of ReadCapacity16 = row 0x9E 16 Free false
row_of ReportLuns = row 0xA0 12 Free true

abbrev pub every_operation : List OperationCode
every_operation =
    TestUnitReady ∷ RequestSense ∷ Inquiry ∷ ReadCapacity10 ∷ Read10 ∷ Write10 ∷ SynchronizeCache10 ∷ ReserveIn ∷ ReserveOut
    ∷ Read16 ∷ Write16 ∷ ReadCapacity16 ∷ ReportLuns ∷ []

-- By the byte

-- the operation code with a byte; none where no command of it is served
abbrev pub operation_at : ℕ → Option OperationCode
operation_at op = find (λ o. (row_of o).byte == op) every_operation

-- how many bytes a CDB has by the group code, the top three bits of its operation code (SPC-4)
abbrev pub group_length : ℕ → ℕ
group_length group =
    if group == 0 then 6 else
    if group == 4 then 16 else
    if group == 5 then 12 else 10

-- how many bytes a CDB has: as the table says, and with an operation code that isn't in it by the group code
abbrev pub length_in : Option OperationCode → ℕ → ℕ
length_in None op = group_length (op / 32)
length_in (Some o) op = (row_of o).size

abbrev pub length_of : ℕ → ℕ
length_of op = length_in (operation_at op) op

-- what reservations ask of a command; nothing of one that isn't served
abbrev pub class_in : Option OperationCode → Class
class_in None = Free
class_in (Some o) = (row_of o).asks

abbrev pub class_of : ℕ → Class
class_of op = class_in (operation_at op)

abbrev pub unconditional_in : Option OperationCode → Bool
unconditional_in None = false
unconditional_in (Some o) = (row_of o).unconditional

abbrev pub is_unconditional : ℕ → Bool
is_unconditional op = unconditional_in (operation_at op)
