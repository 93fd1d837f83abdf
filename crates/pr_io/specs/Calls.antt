-- Calls that are counted, and those of them that are to fail (this project's own).
use Rattle.std.specs.Prelude.{ℕ, ◌+◌, ◌-◌, ◌^◌, min, List, Contains}

-- the number of the next call, where this many were made; the first is 1, and the count stands still at its last value (this project's own)
abbrev pub next_call : ℕ → ℕ
next_call made = min (made + 1) (2 ^ 64 - 1)

-- the next call is on the list of those that are to fail (this project's own)
abbrev pub IsToFail : List ℕ → ℕ → Type 0
IsToFail failing made = Contains failing (next_call made)
