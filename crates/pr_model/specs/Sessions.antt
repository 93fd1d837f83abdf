-- One session from its first byte on: the entries that its bytes ask for, and the replies to them (this project's own).
use Rattle.std.specs.Prelude.{◌≡◌, ℕ, zero, suc, List, [], ◌++◌}
use Rattle.pr_model.specs.Entries.{History}
use Rattle.pr_model.specs.Lanes.{Lane, Fresh, lane, Idle, turn}
use Rattle.pr_model.specs.Runs.{Makes, closing}

-- so many turns of a lane, with the entries that they made and the replies, in order
abbrev pub AreTurns : ℕ → ℕ → Lane → History → List ℕ → Lane → Type 0
AreTurns zero who l es replies m = (es ≡ []) × (replies ≡ []) × (m ≡ l)
AreTurns (suc turns) who l es replies m =
    (first : History) × (reply : List ℕ) × (mid : Lane) × (rest : History) × (others : List ℕ)
    × Makes who l (turn l) first reply mid × AreTurns turns who mid rest others m × (es ≡ first ++ rest) × (replies ≡ reply ++ others)

-- a connection all of whose bytes are there
abbrev pub connection : List ℕ → Lane
connection bytes = lane bytes Fresh 0

-- what a connection's bytes ask for, as far as so many turns take it, and the replies so far
pub record AsksFor (who : ℕ) (bytes : List ℕ) (es : History) (replies : List ℕ) (last : Lane) : Type 0 where
  pub turns : ℕ
  pub taken : AreTurns turns who (connection bytes) es replies last

-- the whole of it: the lane that is left has nothing more to do
pub record IsAsked (who : ℕ) (bytes : List ℕ) (es : History) (replies : List ℕ) : Type 0 where
  pub last : Lane
  pub asks : AsksFor who bytes es replies last
  pub idle : turn last ≡ Idle

-- a front of it, behind which the connection ended: a nexus that is logged in is logged out, which nobody asked for
pub record IsCutShort (who : ℕ) (bytes : List ℕ) (es : History) (replies : List ℕ) : Type 0 where
  pub asked : History
  pub last : Lane
  pub asks : AsksFor who bytes asked replies last
  pub ends : es ≡ asked ++ closing who last.phase

-- turns that go on from where others ended are turns from where those began
abbrev pub TurnsJoin : Type 0
TurnsJoin =
    (n m who : ℕ) (l mid last : Lane) (es fs : History) (a b : List ℕ)
    → AreTurns n who l es a mid → AreTurns m who mid fs b last → (k : ℕ) × AreTurns k who l (es ++ fs) (a ++ b) last
