-- Sense data (SPC-4, sense data).
use Rattle.std.specs.Prelude.{ℕ, ◌%◌, ◌==◌, nat_lt, List, [], ◌∷◌, ◌++◌, length, slice_index, Option, Some, None, Result, Ok, Err, if◌then◌else◌}
use Rattle.std.specs.Int.{w32, to_be_bytes}
use Rattle.pr_words.specs.Fields.{number32_at}
use Rattle.pr_words.specs.declared.code.Code.{Code}
use Rattle.pr_words.specs.declared.code.Sense.{Sense}
use Rattle.pr_grammar.specs.declared.sense.SenseFault.{SenseFault}
use Rattle.pr_grammar.specs.declared.sense.SenseFault.TheVariants.{Cut, Format}

-- The fixed format (SPC-4, fixed format sense data)

-- the first byte, whose highest bit is VALID
abbrev pub fixed_format : Option ℕ → ℕ
fixed_format None = 0x70
fixed_format (Some n) = 0xF0

-- INFORMATION
abbrev pub information : Option ℕ → List ℕ
information None = 0 ∷ 0 ∷ 0 ∷ 0 ∷ []
information (Some n) = to_be_bytes w32 n

-- the 18 bytes of the fixed format
abbrev pub fixed_sense : Sense → List ℕ
fixed_sense s =
    (fixed_format s.info ∷ 0 ∷ s.code.key ∷ []) ++ information s.info
    ++ (0x0A ∷ 0 ∷ 0 ∷ 0 ∷ 0 ∷ s.code.asc ∷ s.code.ascq ∷ 0 ∷ 0 ∷ 0 ∷ 0 ∷ [])

-- The descriptor format (SPC-4, descriptor format sense data)

-- its 8 bytes, with no sense data descriptor
abbrev pub descriptor_sense : Code → List ℕ
descriptor_sense c = 0x72 ∷ c.key ∷ c.asc ∷ c.ascq ∷ 0 ∷ 0 ∷ 0 ∷ 0 ∷ []

-- Reading (SPC-4, sense data): byte 0 tells the format, and reserved and vendor specific bytes are ignored

-- INFORMATION, where VALID is one
abbrev pub information_of : List ℕ → Option ℕ
information_of bytes = if nat_lt (slice_index bytes 0) 128 then None else Some (number32_at bytes 3)

-- sense key, additional sense code and its qualifier of the fixed format
abbrev pub fixed_code : List ℕ → Code
fixed_code bytes =
    record { key = slice_index bytes 2 % 16; asc = slice_index bytes 12; ascq = slice_index bytes 13 }

-- the same of the descriptor format
abbrev pub descriptor_code : List ℕ → Code
descriptor_code bytes =
    record { key = slice_index bytes 1 % 16; asc = slice_index bytes 2; ascq = slice_index bytes 3 }

-- the fixed format, of which everything up to ASCQ is needed
abbrev pub read_fixed : List ℕ → Result Sense SenseFault
read_fixed bytes =
    if nat_lt (length bytes) 14 then Err (Cut (length bytes)) else
    Ok (record { code = fixed_code bytes; info = information_of bytes })

-- the descriptor format, likewise
abbrev pub read_descriptor : List ℕ → Result Sense SenseFault
read_descriptor bytes =
    if nat_lt (length bytes) 4 then Err (Cut (length bytes)) else
    Ok (record { code = descriptor_code bytes; info = None })

-- the response code, without VALID
abbrev pub response_code : List ℕ → ℕ
response_code bytes = slice_index bytes 0 % 128

-- sense data of either format, or the fault
abbrev pub read_sense : List ℕ → Result Sense SenseFault
read_sense bytes =
    if length bytes == 0 then Err (Cut 0) else
    if response_code bytes == 0x70 then read_fixed bytes else
    if response_code bytes == 0x72 then read_descriptor bytes else
    Err (Format (slice_index bytes 0))
