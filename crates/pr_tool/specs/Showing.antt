-- What `show` has done, and what its exit says (this project's own).
use Rattle.std.specs.Prelude.{◌≡◌, ℕ, ◌+◌, ◌%◌, ◌<◌, ◌≤◌, ◌^◌, ◌⊎◌, List, ◌++◌, length, take, vec_len, vec_capacity, Option, Some, None}
use Rattle.std.specs.List.{flat_map}
use Rattle.pr_io.specs.Streams.{Took, Put, PutSome}
use Rattle.pr_io.specs.Causes.{next_fault}
use Rattle.pr_words.specs.declared.nexus.Side.TheVariants.{Target}
use Rattle.pr_words.specs.declared.limits.TheConstants.{HELD}
use Rattle.pr_grammar.specs.Frames.{Frame, Lacking, Broken, Whole, front, frame_size}
use Rattle.pr_grammar.specs.Shows.{AreFrames, Framed, HasBroken, JustBroken, size_of_all, line_of, text_of}
use Rattle.pr_link.specs.Streams.{Stream, IsFormed, frame_of}
use Rattle.pr_link.specs.declared.frame.Got.{Got}
use Rattle.pr_link.specs.declared.frame.Got.TheVariants as got
use Rattle.pr_link.specs.Deframer.{stream_of, held_of}
use Rattle.pr_tool.specs.declared.exit.Exit.{Exit}
use Rattle.pr_tool.specs.declared.exit.Exit.TheVariants.{Done, ReadFault, WriteFault, NoMemory, TooLong}
use Rattle.pr_tool.specs.declared.show.Viewer.{Viewer}
use Rattle.pr_tool.specs.Reading.{IsAtEnd}
use Rattle.pr_tool.specs.declared.lines.TheConstants.{LINE}
use Rattle.pr_tool.specs.declared.show.TheConstants.{TEXT}

-- the frames of what was read; where one of them breaks a rule, the last byte read shows it
pub record HasRead (rest_old rest : Option (List ℕ)) : Type 0 where
  pub read : List ℕ
  pub frames : List Frame
  pub tail : List ℕ
  pub took : Took rest_old rest read
  pub framed : Framed Target read frames tail
  pub tight : HasBroken Target read → JustBroken Target read

-- no frame of what was read breaks a rule
abbrev pub IsUnbroken : {ra rb : Option (List ℕ)} → HasRead ra rb → Type 0
IsUnbroken r = (lacks : ℕ) × (front Target r.tail ≡ Lacking lacks)

-- what was read and written at each exit: at Done the text of all that the source held, or of a stream up to a frame that breaks a rule; at a fault a front of such a text; nothing where no memory was there. There is no other exit
abbrev pub Shows : Exit → Option (List ℕ) → Option (List ℕ) → Option (List ℕ) → Option (List ℕ) → Type 0
Shows Done ra rb wa wb = (r : HasRead ra rb) × Put wa wb (text_of r.frames r.tail) × (IsAtEnd rb ⊎ HasBroken Target r.read)
Shows ReadFault ra rb wa wb = (r : HasRead ra rb) × Put wa wb (flat_map line_of r.frames) × IsUnbroken r
Shows WriteFault ra rb wa wb = (r : HasRead ra rb) × PutSome wa wb (text_of r.frames r.tail)
Shows NoMemory ra rb wa wb = (rb ≡ ra) × (wb ≡ wa)
Shows TooLong ra rb wa wb =
    (looked : Option (List ℕ)) × (more : List ℕ) × (r : HasRead ra looked) × Put wa wb (flat_map line_of r.frames) × IsUnbroken r
    × Took looked rb more × (length more ≡ 1)
Shows _ ra rb wa wb = ⊥

-- no more of a stream than so many bytes is looked at

-- it ends there, or shows a frame that breaks a rule
abbrev pub EndsWithin : ℕ → List ℕ → Type 0
EndsWithin budget all = (length all ≤ budget) ⊎ HasBroken Target (take budget all)

-- it goes on, and shows no such frame
abbrev pub RunsOver : ℕ → List ℕ → Type 0
RunsOver budget all = (budget < length all) × (HasBroken Target (take budget all) → ⊥)

-- the cause of an exit that the stream alone brings, where the source tells it
abbrev pub ShowCauses : Exit → ℕ → Option (List ℕ) → Type 0
ShowCauses Done budget (Some all) = EndsWithin budget all
ShowCauses TooLong budget (Some all) = RunsOver budget all
ShowCauses _ budget _ = Unit {0}

-- the exits that come before what the stream alone brings
abbrev pub PrecedesStream : Exit → Type 0
PrecedesStream ReadFault = Unit {0}
PrecedesStream WriteFault = Unit {0}
PrecedesStream NoMemory = Unit {0}
PrecedesStream _ = ⊥

-- what the stream alone brings is the exit, but where an earlier one came
abbrev pub ShowDecides : Exit → ℕ → Option (List ℕ) → Type 0
ShowDecides exit budget None = Unit {0}
ShowDecides exit budget (Some all) = (EndsWithin budget all → PrecedesStream exit ⊎ (exit ≡ Done)) × (RunsOver budget all → PrecedesStream exit ⊎ (exit ≡ TooLong))

-- a viewer that can go on: no rule is broken, and there is room for the next line
pub record Ready (v : Viewer) : Type 0 where
  pub side : (stream_of v.deframer).side ≡ Target
  pub unbroken : (stream_of v.deframer).broken ≡ None
  pub short : front Target (held_of v.deframer) ≡ Lacking v.need
  pub work : length v.work.items ≡ HELD
  pub taken : TEXT ≤ vec_capacity v.text
  pub room : vec_len v.text + LINE ≤ TEXT
  pub count : v.frames + v.left < 2 ^ 64

-- how far a viewer has come, by its stream, the text that waits, its count of frames, and how many bytes may still be looked at: the frames that were read, and their lines, of which the last ones wait
pub record Going (budget : ℕ) (rest_old rest written_old written : Option (List ℕ)) (s : Stream) (text : List ℕ) (count left : ℕ) : Type 0 where
  pub read : List ℕ
  pub frames : List Frame
  pub sent : List ℕ
  pub took : Took rest_old rest read
  pub parts : AreFrames Target read frames s.held
  pub puts : Put written_old written sent
  pub lines : flat_map line_of frames ≡ sent ++ text
  pub counted : count ≡ length frames
  pub placed : s.place ≡ size_of_all frames
  pub looked : length read + left ≡ budget
  pub bound : budget < 2 ^ 64

-- the same of a viewer as it stands
abbrev pub ViewerGoes : ℕ → Option (List ℕ) → Option (List ℕ) → Option (List ℕ) → Option (List ℕ) → Viewer → Type 0
ViewerGoes budget ra rb wa wb v = Going budget ra rb wa wb (stream_of v.deframer) v.text.items v.frames v.left

-- an exit of a run that has begun
abbrev pub IsBegun : Exit → Type 0
IsBegun NoMemory = ⊥
IsBegun _ = Unit {0}

-- how a viewer stands where it has ended
abbrev pub ViewerEnds : ℕ → Option (List ℕ) → Option (List ℕ) → Option (List ℕ) → Option (List ℕ) → Exit → Type 0
ViewerEnds budget ra rb wa wb exit = Shows exit ra rb wa wb × ShowCauses exit budget ra × IsBegun exit

-- a viewer goes on, or ends
abbrev pub Steps : ℕ → Option (List ℕ) → Option (List ℕ) → Option (List ℕ) → Option (List ℕ) → Viewer → Option Exit → Type 0
Steps budget ra rb wa wb v None = ViewerGoes budget ra rb wa wb v
Steps budget ra rb wa wb v (Some exit) = ViewerEnds budget ra rb wa wb exit

-- a text was put, and the exit is this one; or the sink failed
abbrev pub EndsWith : Exit → Exit → Option (List ℕ) → Option (List ℕ) → List ℕ → ℕ → ℕ → Type 0
EndsWith exit result wa wb text fa fb =
    ((result ≡ exit) × Put wa wb text × (fb ≡ fa)) ⊎ ((result ≡ WriteFault) × PutSome wa wb text × (fb ≡ next_fault fa))

-- what stands at the front of a target's stream once a piece has come, and the stream afterwards; a body stands in the buffer
abbrev pub Finds : Stream → List ℕ → Got → Stream → List ℕ → Type 0
Finds old piece (got.Need n) new buf = (front Target (old.held ++ piece) ≡ Lacking n) × (new ≡ record old { held = old.held ++ piece })
Finds old piece (got.Bad place reason) new buf = (front Target (old.held ++ piece) ≡ Broken reason) × (place ≡ old.place)
Finds old piece (got.Frame g) new buf =
    (rest : List ℕ) × (front Target (old.held ++ piece) ≡ Whole (frame_of g (take g.body buf)) rest)
    × (new ≡ record old { place = (old.place + frame_size (frame_of g (take g.body buf))) % 2 ^ 64; held = rest }) × IsFormed Target g buf
