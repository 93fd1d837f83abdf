-- What a device in memory has heard and said, connection by connection (this project's own).
use Rattle.std.specs.Prelude.{ℕ, ◌==◌, ◌&&◌, not, Bool, false, List, [], ◌∷◌, ◌++◌, take}

-- the bytes of one connection, both ways, and whether the device, when it was asked last, had nothing more to say, and has heard
-- nothing since (this project's own)
pub record Exchange : Type 0 where
  pub heard : List ℕ
  pub said : List ℕ
  pub quiet : Bool

-- the connections that were hung up, oldest first, and the last one, of which there may be nothing yet (this project's own)
pub record Line : Type 0 where
  pub past : List Exchange
  pub last : Exchange

abbrev pub nothing_said : Exchange
nothing_said = record { heard = []; said = []; quiet = false }

-- one connection, on which nothing was said yet (this project's own)
abbrev pub new_line : Line
new_line = record { past = []; last = nothing_said }

-- bytes are heard, to which there may be something to say (this project's own)
abbrev pub hearing : Line → List ℕ → Line
hearing l bytes = record { past = l.past; last = record { heard = l.last.heard ++ bytes; said = l.last.said; quiet = false } }

-- so many bytes are said into a buffer with this room: none, where there is any, tell that there is nothing more to say (this
-- project's own)
abbrev pub saying : Line → ℕ → ℕ → List ℕ → Line
saying l n room buf = record { past = l.past; last = record { heard = l.last.heard; said = l.last.said ++ take n buf; quiet = n == 0 && not (room == 0) } }

abbrev pub hung_up : Line → Line
hung_up l = record { past = l.past ++ l.last ∷ []; last = nothing_said }
