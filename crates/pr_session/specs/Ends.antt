-- How far a connection was served, and how that ended (this project's own).
use Rattle.std.specs.Prelude.{◌≡◌, ◌⊎◌, ℕ, ◌+◌, ◌<◌, ◌≤◌, ◌^◌, ◌==◌, if◌then◌else◌, Bool, true, false, List, [], ◌∷◌, ◌++◌, length, Option, Some, None}
use Rattle.pr_grammar.specs.Bodies.{login_reply}
use Rattle.pr_grammar.specs.Frames.{Frame, frame, spelled}
use Rattle.pr_model.specs.Entries as entries
use Rattle.pr_model.specs.Entries.{Out, History}
use Rattle.pr_model.specs.Lanes.{Dead, AwaitsFrame, Lane, Turn, Idle, Silent, Asks, turn, arrived, after_logout, rejected}
use Rattle.pr_model.specs.Runs.{Makes, closing}
use Rattle.pr_model.specs.Sessions.{AreTurns, AsksFor, connection}
use Rattle.pr_io.specs.Causes.{Rose}
use Rattle.pr_io.specs.Streams.{Took, Put}
use Rattle.pr_session.specs.declared.state.Rejection.{Rejection}
use Rattle.pr_session.specs.declared.session.Session.{Session}
use Rattle.pr_session.specs.Sessions.{lane_of, reply_of, rejection_of}
use Rattle.pr_session.specs.declared.session_end.SessionEnd.{SessionEnd}
use Rattle.pr_session.specs.declared.session_end.SessionEnd.TheVariants.{Closed, Cut, Rejected, ReadFault, WriteFault, SpentFrames, SpentTicket, NoMemory}

-- a turn that does something
abbrev pub IsMade : Turn → Type 0
IsMade Idle = ⊥
IsMade (Silent next) = Unit {0}
IsMade (Asks n act next) = Unit {0}

-- whether an outcome comes with the reply to a frame: all do but a task's beginning and its moves
abbrev pub replies_by : Out → ℕ
replies_by (entries.Login_code code) = 1
replies_by (entries.Ended status sense data_in) = 1
replies_by (entries.Started way) = 0
replies_by entries.Wrote = 0
replies_by (entries.Read block) = 0
replies_by entries.Done = 1
replies_by entries.Aborted = 1
replies_by (entries.Fault code) = 1
replies_by entries.Left = 1
replies_by (entries.Restored value) = 0

-- how many frames were replied to
abbrev pub replies_in : History → ℕ
replies_in [] = 0
replies_in (e ∷ es) = replies_by e.out + replies_in es

-- to how many frames these bytes reply, of one turn: to one, where there are any
abbrev pub frames_by : List ℕ → ℕ
frames_by [] = 0
frames_by (b ∷ bs) = 1

-- and a turn that says whether it replied to one
abbrev pub frames_if : Bool → ℕ
frames_if true = 1
frames_if false = 0

-- turns from a new connection on made these entries and replies, whatever bytes come behind those that were read
pub record Serves (who : ℕ) (read : List ℕ) (es : History) (replies : List ℕ) (l : Lane) : Type 0 where
  pub turns_with : (more : List ℕ) → (turns : ℕ) × AreTurns turns who (connection (read ++ more)) es replies (arrived l more)

-- a turn that answers a Logout
abbrev pub IsLogout : Turn → Type 0
IsLogout Idle = ⊥
IsLogout (Silent next) = ⊥
IsLogout (Asks n act next) = (act ≡ entries.Logout) × ((f : Frame) × ((out : Out) → next out ≡ after_logout f))

-- a turn that ends with a Reject, of the frame at a place, for a reason
abbrev pub IsReject : ℕ → ℕ → Turn → Type 0
IsReject place reason Idle = ⊥
IsReject place reason (Silent next) = next ≡ rejected reason place
IsReject place reason (Asks n act next) = (act ≡ entries.Logout) × ((out : Out) → next out ≡ rejected reason place)

-- by its Reject, or by none
abbrev pub EndsTurn : Option Rejection → Turn → Type 0
EndsTurn None t = IsLogout t
EndsTurn (Some r) t = IsReject r.place r.reason t

-- what the bytes asked for, up to and with a turn like this, with which the session ended
pub record EndsBy (Last : Turn → Type 0) (who : ℕ) (read : List ℕ) (es : History) (replies : List ℕ) (m : Lane) : Type 0 where
  pub before : Lane
  pub earlier : History
  pub answers : List ℕ
  pub asks : AsksFor who read earlier answers before
  pub entries : History
  pub reply : List ℕ
  pub makes : Makes who before (turn before) entries reply m
  pub last : Last (turn before)
  pub all : es ≡ earlier ++ entries
  pub said : replies ≡ answers ++ reply

-- all that the bytes asked for, up to a frame that isn't whole
pub record RestsAt (who : ℕ) (read : List ℕ) (es : History) (replies : List ℕ) (m : Lane) : Type 0 where
  pub asks : AsksFor who read es replies m
  pub idle : turn m ≡ Idle
  pub awaits : AwaitsFrame m.phase

-- what the bytes asked for, as far as some turns took it, of whose replies a front was written: something was lost
abbrev pub LosesReply : ℕ → List ℕ → History → List ℕ → Lane → Type 0
LosesReply who read es sent m = (lost : List ℕ) × AsksFor who read es (sent ++ lost) m × (0 < length lost)

-- what was made and written at each end, before a nexus that is logged in is logged out
abbrev pub Row : SessionEnd → ℕ → List ℕ → History → List ℕ → Lane → Type 0
Row Closed who read es sent m = EndsBy IsLogout who read es sent m ⊎ (RestsAt who read es sent m × (m.bytes ≡ []))
Row (Cut place) who read es sent m = RestsAt who read es sent m × (0 < length m.bytes) × (m.place ≡ place)
Row (Rejected place reason) who read es sent m = EndsBy (IsReject place reason) who read es sent m
Row ReadFault who read es sent m = RestsAt who read es sent m
Row WriteFault who read es sent m = LosesReply who read es sent m
Row SpentFrames who read es sent m = AsksFor who read es sent m
Row (SpentTicket ticket) who read es sent m = (l : Lane) × (AsksFor who read es sent l ⊎ LosesReply who read es sent l)
Row NoMemory who read es sent m = ⊥

-- a session was served since its connection began, from these states of source, sink and own entries to those: what was read asked for the entries, and the replies to it are what was sent and the reply that waits
pub record Since (who : ℕ) (rest rest_now written written_now : Option (List ℕ)) (own own_now : History) (s : Session) : Type 0 where
  pub read : List ℕ
  pub asked : History
  pub sent : List ℕ
  pub took : Took rest rest_now read
  pub put : Put written written_now sent
  pub published : own_now ≡ own ++ asked
  pub serves : Serves who read asked (sent ++ reply_of s) (lane_of s)
  pub ended : (lane_of s).phase ≡ Dead → EndsBy (EndsTurn (rejection_of s)) who read asked (sent ++ reply_of s) (lane_of s)

-- and serving it ended so, before a nexus that is logged in is logged out
pub record Over (end : SessionEnd) (who : ℕ) (rest rest_now written written_now : Option (List ℕ)) (own own_now : History) (m : Lane) : Type 0 where
  pub read : List ℕ
  pub asked : History
  pub sent : List ℕ
  pub took : Took rest rest_now read
  pub put : Put written written_now sent
  pub published : own_now ≡ own ++ asked
  pub row : Row end who read asked sent m

-- how a lane's connection ends where its source ends: inside the frame in front, or between two frames
abbrev pub end_at : Lane → SessionEnd
end_at l = if length l.bytes == 0 then Closed else Cut l.place

-- how a session has ended
abbrev pub end_after : Option Rejection → SessionEnd
end_after None = Closed
end_after (Some r) = Rejected r.place r.reason

-- nothing is left of a source, where it tells that
abbrev pub HasNoMore : Option (List ℕ) → Type 0
HasNoMore None = Unit {0}
HasNoMore (Some rest) = rest ≡ []

-- of an end inside a frame, and of one between two frames that no Logout brought, the end of the source is the cause
abbrev pub ComesOfEnd : SessionEnd → Lane → Option (List ℕ) → Type 0
ComesOfEnd (Cut place) l rest = HasNoMore rest
ComesOfEnd Closed l rest = (l.phase ≡ Dead → ⊥) → HasNoMore rest
ComesOfEnd _ l rest = Unit {0}

-- an end has its cause, by these counts of faults of the source and of the sink before and afterwards
abbrev pub IsCaused : SessionEnd → ℕ → ℕ → ℕ → ℕ → Type 0
IsCaused ReadFault source source_now sink sink_now = Rose source source_now
IsCaused WriteFault source source_now sink sink_now = Rose sink sink_now
IsCaused (SpentTicket ticket) source source_now sink sink_now = 2 ^ 62 ≤ ticket
IsCaused _ source source_now sink sink_now = Unit {0}

-- how many replies were made before a turn and with it, with which serving ended so: it made one at the most, and none where the connection was over before
abbrev pub MakesLast : SessionEnd → Lane → ℕ → ℕ → Type 0
MakesLast Closed l before now = (now ≤ 1 + before) × ((l.phase ≡ Dead → ⊥) → now ≡ before)
MakesLast (Rejected place reason) l before now = now ≤ 1 + before
MakesLast WriteFault l before now = now ≤ 1 + before
MakesLast SpentFrames l before now = ⊥
MakesLast _ l before now = now ≡ before

-- how many frames were replied to where serving ended so: all that one connection may have where they are spent, and fewer where it could have gone on but for its source
abbrev pub IsWithin : SessionEnd → Lane → ℕ → Type 0
IsWithin SpentFrames l n = n ≡ 2 ^ 32
IsWithin (Cut place) l n = n < 2 ^ 32
IsWithin ReadFault l n = n < 2 ^ 32
IsWithin Closed l n = (n ≤ 2 ^ 32) × ((l.phase ≡ Dead → ⊥) → n < 2 ^ 32)
IsWithin _ l n = n ≤ 2 ^ 32

-- but for an end where the gate gave no turn
abbrev pub UnlessSpent : SessionEnd → Type 0 → Type 0
UnlessSpent (SpentTicket ticket) Holds = Unit {0}
UnlessSpent _ Holds = Holds

-- the Logout that nobody asked for, of a nexus that is logged in when serving has ended so
abbrev pub closing_at : SessionEnd → ℕ → Lane → History
closing_at (SpentTicket ticket) who l = []
closing_at _ who l = closing who l.phase

-- a connection was served, from these states of source, sink and own entries to those, and ended so: what was read asked for the entries, as the end's row says, what was sent replies to them, and a nexus that was still logged in then got its Logout
pub record Served (end : SessionEnd) (who : ℕ) (rest rest_now written written_now : Option (List ℕ)) (own own_now : History) : Type 0 where
  pub read : List ℕ
  pub asked : History
  pub sent : List ℕ
  pub last : Lane
  pub took : Took rest rest_now read
  pub put : Put written written_now sent
  pub row : Row end who read asked sent last
  pub within : IsWithin end last (replies_in asked)
  pub comes : ComesOfEnd end last rest_now
  pub published : own_now ≡ own ++ (asked ++ closing_at end who last)

-- the reply with code 5 to a Login that wasn't read, from a target that has no memory for a session
abbrev pub refusal : List ℕ
refusal = spelled (frame 0x81 0 0 (login_reply 5))

-- no memory: all else is as it was, but that a front of the refusal, maybe none of it, was sent
pub record Refuses (written written_now : Option (List ℕ)) (own own_now : History) : Type 0 where
  pub sent : List ℕ
  pub lost : List ℕ
  pub all : refusal ≡ sent ++ lost
  pub put : Put written written_now sent
  pub none : own_now ≡ own

-- a connection was served, or there was no memory for it
abbrev pub Answered : SessionEnd → ℕ → Option (List ℕ) → Option (List ℕ) → Option (List ℕ) → Option (List ℕ) → History → History → Type 0
Answered NoMemory who rest rest_now written written_now own own_now = Refuses written written_now own own_now
Answered end who rest rest_now written written_now own own_now = Served end who rest rest_now written written_now own own_now

-- bytes that keep the link's rules, whatever comes of what they ask for: no front of them asks for a Reject or is replied to 2^32 times, and behind all of them no frame has begun
pub record KeepsRules (who : ℕ) (bytes : List ℕ) : Type 0 where
  pub right : (read more : List ℕ) (es : History) (replies : List ℕ) (l : Lane) (place reason : ℕ) → bytes ≡ read ++ more → EndsBy (IsReject place reason) who read es replies l → ⊥
  pub few : (read more : List ℕ) (es : History) (replies : List ℕ) (l : Lane) → bytes ≡ read ++ more → AsksFor who read es replies l → replies_in es < 2 ^ 32
  pub whole : (es : History) (replies : List ℕ) (l : Lane) → RestsAt who bytes es replies l → l.bytes ≡ []

-- it ended with a Logout or between two frames, or else for want of turns or of memory
abbrev pub EndsWell : SessionEnd → Type 0
EndsWell Closed = Unit {0}
EndsWell (SpentTicket ticket) = Unit {0}
EndsWell NoMemory = Unit {0}
EndsWell _ = ⊥

-- so a connection ends whose bytes are told and keep the rules, where neither its source nor its sink fails
abbrev pub Completes : SessionEnd → ℕ → Option (List ℕ) → ℕ → ℕ → ℕ → ℕ → Type 0
Completes end who rest source source_now sink sink_now =
    (bytes : List ℕ) → rest ≡ Some bytes → KeepsRules who bytes → (Rose source source_now → ⊥) → (Rose sink sink_now → ⊥) → EndsWell end
