-- The records of a schedule and of an output.
use Rattle.std.specs.Prelude.{◌++◌, ◌∷◌, ℕ, List, [], length}
use Rattle.std.specs.Int.{to_be_bytes, w16}

-- a lane, a kind, a length of two bytes and so many bytes (this project's own)
abbrev pub record_of : ℕ → ℕ → List ℕ → List ℕ
record_of lane kind bytes = (lane ∷ kind ∷ []) ++ to_be_bytes w16 (length bytes) ++ bytes
