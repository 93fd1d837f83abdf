-- Which bits of which byte a reader looks at: all others are ignored (SPC-4 and SBC-3, each layout).
use Rattle.std.specs.Prelude.{◌≡◌, ℕ, ◌<◌, List, [], ◌∷◌, ◌++◌, replicate, take, All, Option, Some, None, Ok}
use Rattle.std.specs.Int.Bits.{bit_and}
use Rattle.pr_words.specs.declared.code.Sense.{Sense}
use Rattle.pr_grammar.specs.declared.param.OutList.{OutList}
use Rattle.pr_grammar.specs.declared.cdb.Cdb.{Cdb}
use Rattle.pr_grammar.specs.declared.operation.OperationCode.{OperationCode}
use Rattle.pr_grammar.specs.declared.operation.OperationCode.TheVariants.{TestUnitReady, RequestSense, Inquiry, ReadCapacity10, Read10, Write10, SynchronizeCache10, ReserveIn, ReserveOut, Read16, Write16, ReadCapacity16, ReportLuns}
use Rattle.pr_grammar.specs.Operations.{operation_at}
use Rattle.pr_grammar.specs.Cdbs.{operation_code, read_cdb, spelled_cdb}
use Rattle.pr_grammar.specs.OutLists.{read_list, spelled_list}
use Rattle.pr_grammar.specs.Senses.{fixed_sense, descriptor_sense, response_code, read_sense}

-- a mask has a byte for each byte of a layout, and in it the bits that are read; what a mask leaves of
-- as many bytes has zeros in the ignored places
abbrev pub masked : List ℕ → List ℕ → List ℕ
masked [] bytes = []
masked (mask ∷ masks) [] = []
masked (mask ∷ masks) (byte ∷ bytes) = bit_and mask byte ∷ masked masks bytes

-- CDBs: of the control byte NACA, bit 2, is read

-- READ and WRITE, of 10 bytes
abbrev pub narrow_transfer_mask : List ℕ
narrow_transfer_mask = 0xFF ∷ 0xE0 ∷ 0xFF ∷ 0xFF ∷ 0xFF ∷ 0xFF ∷ 0 ∷ 0xFF ∷ 0xFF ∷ 0x04 ∷ []

-- READ and WRITE, of 16 bytes
abbrev pub wide_transfer_mask : List ℕ
wide_transfer_mask =
    0xFF ∷ 0xE0 ∷ 0xFF ∷ 0xFF ∷ 0xFF ∷ 0xFF ∷ 0xFF ∷ 0xFF ∷ 0xFF ∷ 0xFF ∷ 0xFF ∷ 0xFF ∷ 0xFF ∷ 0xFF ∷ 0 ∷ 0x04 ∷ []

abbrev pub cdb_mask : OperationCode → List ℕ
cdb_mask TestUnitReady = 0xFF ∷ 0 ∷ 0 ∷ 0 ∷ 0 ∷ 0x04 ∷ []
cdb_mask RequestSense = 0xFF ∷ 0x01 ∷ 0 ∷ 0 ∷ 0xFF ∷ 0x04 ∷ []
cdb_mask Inquiry = 0xFF ∷ 0x01 ∷ 0xFF ∷ 0xFF ∷ 0xFF ∷ 0x04 ∷ []
cdb_mask ReadCapacity10 = 0xFF ∷ 0 ∷ 0 ∷ 0 ∷ 0 ∷ 0 ∷ 0 ∷ 0 ∷ 0 ∷ 0x04 ∷ []
cdb_mask Read10 = narrow_transfer_mask
cdb_mask Write10 = narrow_transfer_mask
cdb_mask SynchronizeCache10 = 0xFF ∷ 0 ∷ 0xFF ∷ 0xFF ∷ 0xFF ∷ 0xFF ∷ 0 ∷ 0xFF ∷ 0xFF ∷ 0x04 ∷ []
cdb_mask ReserveIn = 0xFF ∷ 0x1F ∷ 0 ∷ 0 ∷ 0 ∷ 0 ∷ 0 ∷ 0xFF ∷ 0xFF ∷ 0x04 ∷ []
cdb_mask ReserveOut = 0xFF ∷ 0x1F ∷ 0xFF ∷ 0 ∷ 0 ∷ 0xFF ∷ 0xFF ∷ 0xFF ∷ 0xFF ∷ 0x04 ∷ []
cdb_mask Read16 = wide_transfer_mask
cdb_mask Write16 = wide_transfer_mask
cdb_mask ReadCapacity16 =
    0xFF ∷ 0x1F ∷ 0 ∷ 0 ∷ 0 ∷ 0 ∷ 0 ∷ 0 ∷ 0 ∷ 0 ∷ 0xFF ∷ 0xFF ∷ 0xFF ∷ 0xFF ∷ 0 ∷ 0x04 ∷ []
cdb_mask ReportLuns = 0xFF ∷ 0 ∷ 0xFF ∷ 0 ∷ 0 ∷ 0 ∷ 0xFF ∷ 0xFF ∷ 0xFF ∷ 0xFF ∷ 0 ∷ 0x04 ∷ []

abbrev pub mask_in : Option OperationCode → List ℕ
mask_in None = []
mask_in (Some operation) = cdb_mask operation

-- a CDB that is read, with its ignored places zeroed, is the spelling of what was read
abbrev pub CdbsAreSpelled : Type 0
CdbsAreSpelled =
    (bytes : List ℕ) (cdb : Cdb) → All (λ b. b < 256) bytes → read_cdb bytes ≡ Ok cdb
    → masked (mask_in (operation_at (operation_code bytes))) bytes ≡ spelled_cdb cdb

-- The parameter list of PERSISTENT RESERVE OUT: of byte 20 SPEC_I_PT, ALL_TG_PT and APTPL are read

abbrev pub list_mask : List ℕ
list_mask = replicate 16 0xFF ++ (0 ∷ 0 ∷ 0 ∷ 0 ∷ 0x0D ∷ 0 ∷ 0 ∷ 0 ∷ [])

-- a parameter list that is read, with its ignored places zeroed, is the spelling of what was read
abbrev pub ListsAreSpelled : Type 0
ListsAreSpelled =
    (bytes : List ℕ) (list : OutList) → All (λ b. b < 256) bytes → read_list bytes ≡ Ok list
    → masked list_mask bytes ≡ spelled_list list

-- Sense data

-- the fixed format: VALID and response code, sense key, INFORMATION where VALID is one, ASC and ASCQ
abbrev pub fixed_mask : Option ℕ → List ℕ
fixed_mask None = 0xFF ∷ 0 ∷ 0x0F ∷ 0 ∷ 0 ∷ 0 ∷ 0 ∷ 0 ∷ 0 ∷ 0 ∷ 0 ∷ 0 ∷ 0xFF ∷ 0xFF ∷ []
fixed_mask (Some n) = 0xFF ∷ 0 ∷ 0x0F ∷ 0xFF ∷ 0xFF ∷ 0xFF ∷ 0xFF ∷ 0 ∷ 0 ∷ 0 ∷ 0 ∷ 0 ∷ 0xFF ∷ 0xFF ∷ []

-- the descriptor format: response code, sense key, ASC and ASCQ
abbrev pub descriptor_mask : List ℕ
descriptor_mask = 0x7F ∷ 0x0F ∷ 0xFF ∷ 0xFF ∷ []

-- all of the fixed format's spelling but ADDITIONAL SENSE LENGTH, byte 7, which a reader ignores
abbrev pub fixed_fields : List ℕ
fixed_fields = replicate 7 0xFF ++ (0 ∷ []) ++ replicate 6 0xFF

-- sense data that is read, with its ignored places zeroed, is the spelling of what was read, as far as
-- its format needs
abbrev pub FixedIsSpelled : Type 0
FixedIsSpelled =
    (bytes : List ℕ) (sense : Sense) → All (λ b. b < 256) bytes → response_code bytes ≡ 0x70 → read_sense bytes ≡ Ok sense
    → masked (fixed_mask sense.info) bytes ≡ masked fixed_fields (fixed_sense sense)

abbrev pub DescriptorIsSpelled : Type 0
DescriptorIsSpelled =
    (bytes : List ℕ) (sense : Sense) → All (λ b. b < 256) bytes → response_code bytes ≡ 0x72 → read_sense bytes ≡ Ok sense
    → masked descriptor_mask bytes ≡ take 4 (descriptor_sense sense.code)
