-- Lists of entries, and the numbers that they name. All of this is this project's own.
use Rattle.std.specs.Prelude.{ℕ, ◌^◌, ◌<◌, ◌==◌, List, length, if◌then◌else◌, nat_lt}
use Rattle.std.specs.List.{filter, All}

-- at this ticket no turn is given any more, and this many passes can be made beside the first; written once, so that no proof counts up to it (this project's own)
unfoldable pub ticket_limit : ℕ
ticket_limit = 2 ^ 62

-- the entries that name n, in order (this project's own)
abbrev pub own : {E : Type 0} → (E → ℕ) → ℕ → List E → List E
own number n h = filter (λ e. number e == n) h

-- each entry names a number below n (this project's own)
abbrev pub NamesBelow : {E : Type 0} → (E → ℕ) → ℕ → List E → Type 0
NamesBelow number n h = All (λ e. number e < n) h

-- the longer of two lists, the first where they are equally long (this project's own)
abbrev pub longer : {E : Type 0} → List E → List E → List E
longer xs ys = if nat_lt (length xs) (length ys) then ys else xs

-- the other of the two (this project's own)
abbrev pub shorter : {E : Type 0} → List E → List E → List E
shorter xs ys = if nat_lt (length xs) (length ys) then xs else ys
