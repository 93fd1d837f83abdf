-- Bytes that are told, as they move in and out (this project's own).
use Rattle.std.specs.Prelude.{◌≡◌, ℕ, ◌<◌, List, [], ◌++◌, length, take, Option, Some, None, Result, Ok, Err}
use Rattle.pr_io.specs.declared.outside.Failed.{Failed}

-- the piece was taken from the front of what is left (this project's own)
abbrev pub Took : Option (List ℕ) → Option (List ℕ) → List ℕ → Type 0
Took None now piece = now ≡ None
Took (Some before) None piece = ⊥
Took (Some before) (Some now) piece = before ≡ piece ++ now

-- fewer bytes than there is room for, maybe none, were taken from the front of what is left (this project's own)
abbrev pub TookFewer : Option (List ℕ) → Option (List ℕ) → ℕ → Type 0
TookFewer before now room = (piece : List ℕ) × Took before now piece × (length piece < room)

-- the piece was put at the end of what is written (this project's own)
abbrev pub Put : Option (List ℕ) → Option (List ℕ) → List ℕ → Type 0
Put None now piece = now ≡ None
Put (Some before) None piece = ⊥
Put (Some before) (Some now) piece = now ≡ before ++ piece

-- a front of the piece, maybe none of it, was put, and the rest, which is something, wasn't (this project's own)
abbrev pub PutSome : Option (List ℕ) → Option (List ℕ) → List ℕ → Type 0
PutSome before now piece = (sent : List ℕ) × (lost : List ℕ) × (piece ≡ sent ++ lost) × Put before now sent × (0 < length lost)

-- no bytes into a buffer that has room: nothing is left (this project's own)
abbrev pub HasEnded : Option (List ℕ) → ℕ → ℕ → Type 0
HasEnded None n room = Unit {0}
HasEnded (Some rest) n room = 0 < room → n ≡ 0 → rest ≡ []

-- fewer bytes than there is room for: nothing is left (this project's own)
abbrev pub EndedShort : Option (List ℕ) → ℕ → ℕ → Type 0
EndedShort None n room = Unit {0}
EndedShort (Some rest) n room = n < room → rest ≡ []

-- a call of a source gave the first n bytes of the buffer, or moved nothing (this project's own)
abbrev pub MovesInto : Option (List ℕ) → Option (List ℕ) → Result ℕ Failed → List ℕ → Type 0
MovesInto before now (Ok n) buf = Took before now (take n buf)
MovesInto before now (Err e) buf = now ≡ before

-- a call of a sink took the first n bytes of the piece, or none (this project's own)
abbrev pub Reaches : Option (List ℕ) → Option (List ℕ) → Result ℕ Failed → List ℕ → Type 0
Reaches before now (Ok n) piece = Put before now (take n piece)
Reaches before now (Err e) piece = now ≡ before
