-- How a session takes the turns of its lane.
use Rattle.std.specs.Prelude.{◌≡◌, ℕ, ◌≤◌, List, [], Option, Some, None}
use Rattle.pr_words.specs.declared.nexus.Nexus.{Nexus}
use Rattle.pr_words.specs.declared.nexus.Side.TheVariants.{Target}
use Rattle.pr_grammar.specs.Frames.{Front, Lacking, front}
use Rattle.pr_model.specs.Entries.{Out}
use Rattle.pr_model.specs.Entries as entries
use Rattle.pr_model.specs.Lanes.{Lane, Phase, Turn, Turned, turned, rejected, Idle, Silent, Asks}
use Rattle.pr_model.specs.Lanes as lanes
use Rattle.pr_session.specs.declared.act.Want.{Want}
use Rattle.pr_session.specs.declared.act.Want.TheVariants as want
use Rattle.pr_session.specs.declared.session.Session.{Session}
use Rattle.pr_session.specs.declared.state.State.{State}
use Rattle.pr_session.specs.declared.state.State.TheVariants.{Asking, Busy as Running}
use Rattle.pr_session.specs.declared.asked.Asked.{Asked}
use Rattle.pr_session.specs.declared.asked.Asked.TheVariants.{Login, Command, Step, Logout, Reject}
use Rattle.pr_words.specs.declared.limits.TheConstants.{DATA}
use Rattle.pr_link.specs.Deframer.{held_of, place_of}
use Rattle.pr_session.specs.Jobs.{job_of}
use Rattle.pr_session.specs.Acts.{act_by}
use Rattle.pr_session.specs.Asking.{nexus_in, want_of, next_by}
use Rattle.pr_session.specs.States.{asked_in}
use Rattle.pr_session.specs.declared.state.Rejection.{Rejection}
use Rattle.pr_session.specs.Sessions.{HasTurned, work_of, rejection_of}

-- what an idle lane wants: more bytes, or nothing any more
abbrev pub AwaitsAt : Phase → Front → Want → Type 0
AwaitsAt lanes.Dead f w = w ≡ want.Dead
AwaitsAt phase (Lacking k) w = w ≡ want.Need k
AwaitsAt phase f w = ⊥

abbrev pub Awaits : Lane → Want → Type 0
Awaits l w = AwaitsAt l.phase (front Target l.bytes) w

-- a session asks for an act only in its state: a login where it is fresh, a step where a task runs, else for the nexus that is logged in; a command has no more data-out than a frame can carry
abbrev pub IsFor : Phase → Asked → List ℕ → Type 0
IsFor lanes.Fresh (Login head n version) work = Unit {0}
IsFor (lanes.In m) (Command head n cdb sent) work = (m ≡ n) × (sent ≤ DATA)
IsFor (lanes.In m) (Logout head n) work = m ≡ n
IsFor (lanes.In m) (Reject n r) work = m ≡ n
IsFor (lanes.Busy m k) (Step n j) work = (m ≡ n) × (k ≡ job_of j work)
IsFor _ a work = ⊥

-- the act of a turn is wanted: whatever its outcome is, the session makes the turn
pub record IsAsked (from : Phase) (n : Nexus) (a : entries.Act) (follows : Out → Turned) (w : Want) (s : Session) : Type 0 where
  pub what : Asked
  pub state : asked_in s.state ≡ Some what
  pub want : w ≡ want_of what
  pub nexus : nexus_in what ≡ n
  pub act : act_by what (work_of s) ≡ a
  pub phase : IsFor from what (work_of s)
  pub next : (out : Out) → next_by what (work_of s) (held_of s.deframer) (place_of s.deframer) out ≡ follows out

-- a turn ends with this Reject
abbrev pub IsRejection : Option Rejection → Turned → Type 0
IsRejection None next = ⊥
IsRejection (Some r) next = next ≡ rejected r.reason r.place

-- a turn of the lane for which the session stands is begun: an idle one leaves it as it is, one without an entry is made, which is a Reject's, and else its act is wanted
abbrev pub Begins : Lane → Turn → Want → Session → Type 0
Begins l Idle w s = Awaits l w × HasTurned s (turned l [])
Begins l (Silent next) w s = (w ≡ want.Dead) × HasTurned s next × IsRejection (rejection_of s) next
Begins l (Asks n a next) w s = IsAsked l.phase n a next w s

-- asked again, a turn under way wants the same
abbrev pub Continues : State → Want → Session → Session → Type 0
Continues (Asking a) w old new = (w ≡ want_of a) × (new ≡ old)
Continues (Running n j) w old new = (w ≡ want_of (Step n j)) × (new ≡ old)
Continues _ w old new = Unit {0}
