-- What brackets spell.
use Rattle.std.specs.Prelude.{◌++◌, ◌∷◌, ◌-◌, ℕ, List, [], length, replicate}
use Rattle.std.specs.Int.{to_be_bytes, w32}

-- a frame: the length of what comes behind it, in four bytes (this project's own)
abbrev pub framed : List ℕ → List ℕ
framed body = to_be_bytes w32 (length body) ++ body

-- a CDB as a Command has it: its length, three zeros, and 16 bytes that are zero behind its end
-- (this project's own)
abbrev pub padded : List ℕ → List ℕ
padded cdb = (length cdb ∷ 0 ∷ 0 ∷ 0 ∷ []) ++ cdb ++ replicate (16 - length cdb) 0
