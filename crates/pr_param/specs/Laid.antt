-- Bytes laid over the front of a buffer, and cut where the buffer ends (this project's own).
use Rattle.std.specs.Prelude.{ℕ, List, ◌++◌, length, take, drop}

abbrev pub laid : List ℕ → List ℕ → List ℕ
laid bytes buffer = take (length buffer) bytes ++ drop (length bytes) buffer
