-- What a reader's bytes are while some of them are read ahead (this project's own).
use Rattle.std.specs.Prelude.{ℕ, List, Option, slice_range}
use Rattle.std.specs.Io.KnownBytes.{prepend_known}

-- what is held ahead, and then what the reader has left, where that is known (this project's own)
abbrev pub left_of : List ℕ → ℕ → ℕ → Option (List ℕ) → Option (List ℕ)
left_of ahead start stop rest = prepend_known (slice_range ahead start stop) rest
