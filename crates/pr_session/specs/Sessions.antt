-- The lane for which a session stands, and its reply. Owners cite these words and don't look into them.
use Rattle.std.specs.Prelude.{◌≡◌, ℕ, ◌-◌, List, slice_range, Option, Some}
use Rattle.pr_words.specs.declared.nexus.Nexus.{Nexus}
use Rattle.pr_link.specs.Deframer.{held_of, place_of}
use Rattle.pr_model.specs.Lanes.{Lane, Turned, lane}
use Rattle.pr_session.specs.declared.act.Out.{Out}
use Rattle.pr_session.specs.declared.state.Rejection.{Rejection}
use Rattle.pr_session.specs.declared.state.State.TheVariants.{Busy}
use Rattle.pr_session.specs.declared.session.Session.{Session}
use Rattle.pr_session.specs.declared.asked.Asked.{Asked}
use Rattle.pr_session.specs.declared.job.Job.{Job}
use Rattle.pr_session.specs.Acts.{Fits}
use Rattle.pr_session.specs.States.{IsSettledIn, phase_of, nexus_at, rejection_at, asked_in, next_at}
use Rattle.pr_session.specs.declared.work.TheConstants.{ROOM}
use Rattle.pr_session.specs.Works.{bytes_of}

abbrev pub IsSettled : Session → Type 0
IsSettled s = IsSettledIn s.state

abbrev pub work_of : Session → List ℕ
work_of s = bytes_of s.work

-- the lane, where no turn is under way
abbrev pub lane_of : Session → Lane
lane_of s = lane (held_of s.deframer) (phase_of s.state (work_of s)) (place_of s.deframer)

-- what the turn under way makes of an outcome
abbrev pub next_of : Session → Out → Turned
next_of s out = next_at s.state (work_of s) (held_of s.deframer) (place_of s.deframer) out

-- the bytes of the reply that aren't sent yet
abbrev pub reply_of : Session → List ℕ
reply_of s = slice_range (work_of s) s.start s.stop

-- the four bytes in front of it
abbrev pub room_of : Session → List ℕ
room_of s = slice_range (work_of s) (s.start - ROOM) s.start

abbrev pub nexus_of : Session → Option Nexus
nexus_of s = nexus_at s.state

abbrev pub rejection_of : Session → Option Rejection
rejection_of s = rejection_at s.state

-- a turn was made: the session stands for the lane after it, and its reply waits
pub record HasTurned (s : Session) (t : Turned) : Type 0 where
  pub settled : IsSettled s
  pub lane : lane_of s ≡ t.lane
  pub reply : reply_of s ≡ t.reply

-- its turn under way is a step of a task
abbrev pub IsStepping : Session → Type 0
IsStepping s = (n : Nexus) × (j : Job) × (s.state ≡ Busy n j)

-- its turn under way has an outcome like this
abbrev pub IsAnswer : Session → Out → Type 0
IsAnswer s out = (a : Asked) × (asked_in s.state ≡ Some a) × Fits a out

-- but for the reply all is as it was
abbrev pub IsKept : Session → Session → Type 0
IsKept before now = (now.state ≡ before.state) × (lane_of now ≡ lane_of before)
