-- Data written over the front of a buffer (this project's own).
use Rattle.std.specs.Prelude.{ℕ, List, ◌++◌, length, drop, Option, Some, None}

-- behind the data the buffer stays as it was, and whole where there is no data
abbrev pub over : Option (List ℕ) → List ℕ → List ℕ
over None buffer = buffer
over (Some bytes) buffer = bytes ++ drop (length bytes) buffer

-- how long the data is, where there is any
abbrev pub length_in : Option (List ℕ) → Option ℕ
length_in None = None
length_in (Some bytes) = Some (length bytes)
