-- The calls of a stream's reader, one after the other (this project's own).
use Rattle.std.specs.Prelude.{◌≡◌, ℕ, ◌+◌, ◌%◌, ◌^◌, List, [], ◌∷◌, ◌++◌, take, Option, Some, None}
use Rattle.pr_words.specs.declared.nexus.Side.{Side}
use Rattle.pr_grammar.specs.Frames as grammar
use Rattle.pr_grammar.specs.Frames.{Lacking, Broken, front, frame_size}
use Rattle.pr_grammar.specs.Shows.{AreFrames}
use Rattle.pr_link.specs.declared.frame.Got.{Got}
use Rattle.pr_link.specs.declared.frame.Got.TheVariants as got
use Rattle.pr_link.specs.Streams.{Stream, Feeds, Gives, frame_of}

-- bytes are fed, of which so many are taken; or the next frame is asked for, with the answer and what the buffer holds
pub data Call : Type 0 where
  Feed : (bytes : List ℕ) → (count : ℕ) → Call
  Next : (answer : Got) → (buf : List ℕ) → Call

-- a stream, calls in order with what they answer, and the stream behind the last
abbrev pub Runs : Stream → List Call → Stream → Type 0
Runs old [] new = new ≡ old
Runs old (Feed bytes count ∷ more) new = (mid : Stream) × Feeds old bytes count mid × Runs mid more new
Runs old (Next answer buf ∷ more) new = (mid : Stream) × Gives old answer mid buf × Runs mid more new

-- all bytes that calls take
abbrev pub fed : List Call → List ℕ
fed [] = []
fed (Feed bytes count ∷ more) = take count bytes ++ fed more
fed (Next answer buf ∷ more) = fed more

-- the frames that calls give
abbrev pub given : List Call → List grammar.Frame
given [] = []
given (Feed bytes count ∷ more) = given more
given (Next (got.Frame g) buf ∷ more) = frame_of g (take g.body buf) ∷ given more
given (Next _ buf ∷ more) = given more

-- the place behind frames, modulo 2^64
abbrev pub behind : ℕ → List grammar.Frame → ℕ
behind place [] = place
behind place (f ∷ more) = behind ((place + frame_size f) % 2 ^ 64) more

-- frames stand at the front of bytes, and behind them is what is held; or the frame that breaks the rule
abbrev pub StandAt : Option ℕ → Side → List ℕ → List grammar.Frame → List ℕ → Type 0
StandAt None side bytes frames held = AreFrames side bytes frames held
StandAt (Some r) side bytes frames held =
    (tail : List ℕ) × AreFrames side bytes frames tail × (front side tail ≡ Broken r) × (held ≡ [])

-- what calls leave of a stream in which no rule was broken before them
pub record Leaves (old : Stream) (calls : List Call) (new : Stream) : Type 0 where
  pub side : new.side ≡ old.side
  pub place : new.place ≡ behind old.place (given calls)
  pub frames : StandAt new.broken old.side (old.held ++ fed calls) (given calls) new.held

-- whatever calls are made, the frames that they give are those at the front of all bytes: the held ones and those taken
abbrev pub FramesAreAtTheFront : Type 0
FramesAreAtTheFront = (old new : Stream) (calls : List Call) → old.broken ≡ None → Runs old calls new → Leaves old calls new

-- all is asked: bytes lack at the front of what is held, so no frame and no broken rule is left to be told
abbrev pub IsAsked : Stream → Type 0
IsAsked s = (lacks : ℕ) × (front s.side s.held ≡ Lacking lacks)

-- two lists of calls that take the same bytes, cut and asked for as they may be, give the same frames and leave the same
-- stream, once each has asked for all
abbrev pub CutsAreAlike : Type 0
CutsAreAlike =
    (old x y : Stream) (a b : List Call) → old.broken ≡ None → Runs old a x → Runs old b y → fed a ≡ fed b
    → IsAsked x → IsAsked y → (given a ≡ given b) × (x ≡ y)
