-- A stream of frames that one side receives (this project's own).
use Rattle.std.specs.Prelude.{◌≡◌, ℕ, ◌+◌, ◌-◌, ◌%◌, ◌^◌, ◌≤◌, ◌++◌, true, List, [], length, take, min, Option, Some, None, Result, Ok, Err}
use Rattle.pr_words.specs.declared.limits.TheConstants.{BODY, HELD}
use Rattle.pr_words.specs.declared.nexus.Side.{Side}
use Rattle.pr_grammar.specs.Frames.{Front, Lacking, Broken, Whole, front, frame, frame_size, is_kind, is_body}
use Rattle.pr_grammar.specs.Frames as grammar
use Rattle.pr_link.specs.declared.frame.Frame.{Frame}
use Rattle.pr_link.specs.declared.frame.Got.{Got}
use Rattle.pr_link.specs.declared.frame.Got.TheVariants as got

-- who receives it, how many of its bytes came before the held ones, the held ones, and the rule that was broken
pub record Stream : Type 0 where
  pub side : Side
  pub place : ℕ
  pub held : List ℕ
  pub broken : Option ℕ

-- what is taken, by whether a rule was broken before: as many of the first bytes as there is room for, or all of them
abbrev pub FeedsIf : Option ℕ → Stream → List ℕ → ℕ → Stream → Type 0
FeedsIf None old bytes count new = (count ≡ min (length bytes) (HELD - length old.held)) × (new ≡ record old { held = old.held ++ take count bytes })
FeedsIf (Some r) old bytes count new = (count ≡ length bytes) × (new ≡ old)

-- what is taken of bytes that arrive, and the stream afterwards: what is taken is held behind the others, or dropped
abbrev pub Feeds : Stream → List ℕ → ℕ → Stream → Type 0
Feeds old bytes count new = FeedsIf old.broken old bytes count new

-- the frame of a head and a body
abbrev pub frame_of : Frame → List ℕ → grammar.Frame
frame_of g body = frame g.kind g.lun g.tag body

-- a frame of a kind that the side receives, whose body keeps the rules
abbrev pub IsFormed : Side → Frame → List ℕ → Type 0
IsFormed side g buf =
    (g.body ≤ BODY) × (is_body side g.kind (take g.body buf) ≡ true) × (is_kind side g.kind ≡ true)

-- what is answered by what stands at the front
abbrev pub GivesAt : Stream → Front → Got → Stream → List ℕ → Type 0
GivesAt old (Lacking k) (got.Need n) new buf = (n ≡ k) × (new ≡ old)
GivesAt old (Broken r) (got.Bad place reason) new buf = (place ≡ old.place) × (reason ≡ r) × (new ≡ record old { held = []; broken = Some r })
GivesAt old (Whole f rest) (got.Frame g) new buf =
    (f ≡ frame_of g (take g.body buf)) × (new ≡ record old { place = (old.place + frame_size f) % 2 ^ 64; held = rest }) × IsFormed old.side g buf
GivesAt old _ _ new buf = ⊥

-- what is answered after a broken rule
abbrev pub GivesAgain : Stream → ℕ → Got → Stream → Type 0
GivesAgain old r (got.Bad place reason) new = (place ≡ old.place) × (reason ≡ r) × (new ≡ old)
GivesAgain old r _ new = ⊥

-- what is answered, by whether a rule was broken before
abbrev pub GivesIf : Option ℕ → Stream → Got → Stream → List ℕ → Type 0
GivesIf None old answer new buf = GivesAt old (front old.side old.held) answer new buf
GivesIf (Some r) old answer new buf = GivesAgain old r answer new

-- what is answered when the next frame is asked for, the stream afterwards, and the buffer with the body
abbrev pub Gives : Stream → Got → Stream → List ℕ → Type 0
Gives old answer new buf = GivesIf old.broken old answer new buf

-- what a whole frame is found to be
abbrev pub Checks : Side → Front → Result Frame ℕ → List ℕ → List ℕ → Type 0
Checks side (Broken r) (Err reason) left buf = reason ≡ r
Checks side (Whole f rest) (Ok g) left buf = (f ≡ frame_of g (take g.body buf)) × (left ≡ rest) × IsFormed side g buf
Checks side _ _ left buf = ⊥
