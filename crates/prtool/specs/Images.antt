-- What the program's medium and disk hold at first.
use Rattle.std.specs.Prelude.{◌≡◌, ℕ, List, ◌++◌, All}

-- every byte is zero (this project's own)
abbrev pub AreZero : List ℕ → Type 0
AreZero bytes = All (λ b. b ≡ 0) bytes

-- a head, and then zeros (this project's own)
abbrev pub BeginsWith : List ℕ → List ℕ → Type 0
BeginsWith head bytes = (rest : List ℕ) × (bytes ≡ head ++ rest) × AreZero rest
