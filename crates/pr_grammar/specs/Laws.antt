-- What makes bytes the beginning of a record (this project's own).
use Rattle.std.specs.Prelude.{◌≡◌, ℕ, ◌<◌, ◌++◌, true, false, List, All}
use Rattle.pr_grammar.specs.Schedules.{Record, IsRecord, spelled_record, can_begin}

-- bytes that can begin a record become one by some more bytes (this project's own)
abbrev pub Becomes : Type 0
Becomes =
    (lanes : ℕ) (bytes : List ℕ) → All (λ b. b < 256) bytes → can_begin lanes bytes ≡ true
    → (more : List ℕ) × (r : Record) × (rest : List ℕ) × All (λ b. b < 256) more × IsRecord lanes r × (bytes ++ more ≡ spelled_record r ++ rest)

-- bytes that can't begin a record don't become one by any more bytes (this project's own)
abbrev pub NeverBecomes : Type 0
NeverBecomes =
    (lanes : ℕ) (bytes : List ℕ) → can_begin lanes bytes ≡ false
    → (more : List ℕ) (r : Record) (rest : List ℕ) → IsRecord lanes r → bytes ++ more ≡ spelled_record r ++ rest → ⊥
