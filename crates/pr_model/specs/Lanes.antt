-- What a session asks for, turn by turn, and what it replies (this project's own).
use Rattle.std.specs.Prelude.{ℕ, ◌+◌, ◌%◌, ◌^◌, ◌==◌, List, [], ◌++◌, take, drop, Option, Some, None, if◌then◌else◌}
use Rattle.pr_words.specs.declared.nexus.Nexus.{Nexus}
use Rattle.pr_words.specs.declared.nexus.Side.TheVariants.{Target}
use Rattle.pr_words.specs.declared.code.Sense.{Sense}
use Rattle.pr_words.specs.declared.code.Status.{Status}
use Rattle.pr_words.specs.declared.code.Status.TheVariants as status
use Rattle.pr_words.specs.declared.task.Way.{Way}
use Rattle.pr_words.specs.declared.task.Way.TheVariants as ways
use Rattle.pr_words.specs.declared.limits.TheConstants.{BLOCK}
use Rattle.pr_grammar.specs.Bodies.{login_version, login_nexus, command_cdb, command_data, login_reply, command_reply, reject}
use Rattle.pr_grammar.specs.Frames.{Frame, Front, Lacking, Broken, Whole, front, frame, frame_size, spelled}
use Rattle.pr_model.specs.Entries.{Act, Login, Command, Step, Logout, Out, Login_code, Ended, Started, Wrote, Read, Done, Aborted, Fault}

-- a task of the session: the LUN and the tag that its reply repeats, and the bytes that a WRITE has yet to carry, or that a READ has read so far
pub record Job : Type 0 where
  pub lun : ℕ
  pub tag : ℕ
  pub way : Way
  pub bytes : List ℕ

-- not logged in, logged in, logged in with a task that runs, or ended
pub data Phase : Type 0 where
  Fresh : Phase
  In : (nexus : Nexus) → Phase
  Busy : (nexus : Nexus) → (job : Job) → Phase
  Dead : Phase

-- the session looks at the frame in front
abbrev pub AwaitsFrame : Phase → Type 0
AwaitsFrame Fresh = Unit {0}
AwaitsFrame (In nexus) = Unit {0}
AwaitsFrame (Busy nexus job) = ⊥
AwaitsFrame Dead = ⊥

-- the bytes not yet asked for, the state of the session, and how many bytes of the connection came before these, modulo 2^64
pub record Lane : Type 0 where
  pub bytes : List ℕ
  pub phase : Phase
  pub place : ℕ

abbrev pub lane : List ℕ → Phase → ℕ → Lane
lane bytes phase place = record { bytes = bytes; phase = phase; place = place }

-- a new connection
abbrev pub fresh : Lane
fresh = lane [] Fresh 0

abbrev pub dead : Lane
dead = lane [] Dead 0

-- the lane after a turn, and the bytes that it replies
pub record Turned : Type 0 where
  pub lane : Lane
  pub reply : List ℕ

abbrev pub turned : Lane → List ℕ → Turned
turned l reply = record { lane = l; reply = reply }

-- what one turn does: nothing, a reply alone, or an entry, whose outcome gives the rest
pub data Turn : Type 0 where
  Idle : Turn
  Silent : (next : Turned) → Turn
  Asks : (nexus : Nexus) → (act : Act) → (next : Out → Turned) → Turn

-- the frame at a place breaks a rule: the session ends with a Reject
abbrev pub rejected : ℕ → ℕ → Turned
rejected reason place = turned dead (spelled (frame 0xFF 0 0 (reject reason place)))

-- a reply repeats the LUN and tag of its request
abbrev pub replied : Frame → ℕ → List ℕ → List ℕ
replied f kind body = spelled (frame kind f.lun f.tag body)

abbrev pub place_after : ℕ → Frame → ℕ
place_after place f = (place + frame_size f) % 2 ^ 64

-- a refused login leaves the session fresh
abbrev pub phase_after_login : Nexus → ℕ → Phase
phase_after_login n code = if code == 0 then In n else Fresh

abbrev pub after_login : Frame → List ℕ → ℕ → Out → Turned
after_login f rest place (Login_code code) =
    turned (lane rest (phase_after_login (login_nexus f.body) code) place) (replied f 0x81 (login_reply code))
after_login f rest place _ = turned dead []

-- the task that a command began: a WRITE carries its data-out
abbrev pub first_bytes : Way → List ℕ → List ℕ
first_bytes ways.Read data_out = []
first_bytes ways.Write data_out = data_out

abbrev pub begun : Frame → Way → Job
begun f way = record { lun = f.lun; tag = f.tag; way = way; bytes = first_bytes way (command_data f.body) }

-- a command that begins a task is answered when that ends
abbrev pub after_command : Nexus → Frame → List ℕ → ℕ → Out → Turned
after_command n f rest place (Ended status sense data_in) =
    turned (lane rest (In n) place) (replied f 0x82 (command_reply status sense data_in))
after_command n f rest place (Started way) = turned (lane rest (Busy n (begun f way)) place) []
after_command n f rest place _ = turned dead []

-- the bytes that a task's next step carries: of a WRITE the next block of its data-out
abbrev pub carried_by : Way → List ℕ → List ℕ
carried_by ways.Read bytes = []
carried_by ways.Write bytes = take BLOCK bytes

abbrev pub carried : Job → List ℕ
carried j = carried_by j.way j.bytes

-- the data-in of a task that has moved all its blocks: of a READ what was read, in order
abbrev pub read_by : Way → List ℕ → List ℕ
read_by ways.Read bytes = bytes
read_by ways.Write bytes = []

abbrev pub with_bytes : Job → List ℕ → Job
with_bytes j bytes = record j { bytes = bytes }

-- the reply to a task's command
abbrev pub answered_task : Nexus → Job → List ℕ → ℕ → Status → Option Sense → List ℕ → Turned
answered_task n j rest place status sense data_in =
    turned (lane rest (In n) place) (spelled (frame 0x82 j.lun j.tag (command_reply status sense data_in)))

-- a step: its task goes on, or has ended, and its command is answered; data comes with GOOD alone
abbrev pub after_step : Nexus → Job → List ℕ → ℕ → Out → Turned
after_step n j rest place Wrote = turned (lane rest (Busy n (with_bytes j (drop BLOCK j.bytes))) place) []
after_step n j rest place (Read block) = turned (lane rest (Busy n (with_bytes j (j.bytes ++ block))) place) []
after_step n j rest place Done = answered_task n j rest place status.Good None (read_by j.way j.bytes)
after_step n j rest place Aborted = answered_task n j rest place status.TaskAborted None []
after_step n j rest place (Fault c) = answered_task n j rest place status.CheckCondition (Some (record { code = c; info = None })) []
after_step n j rest place _ = turned dead []

abbrev pub after_logout : Frame → Turned
after_logout f = turned dead (replied f 0x83 [])

-- a frame that is whole, at its place; the first accepted frame is a Login, and no Login follows an accepted one (rule 5); while a task runs, no frame is looked at
abbrev pub asked : Phase → ℕ → Frame → List ℕ → Turn
asked Dead place f rest = Idle
asked (Busy n j) place f rest = Idle
asked Fresh place f rest =
    if f.kind == 0x01 then Asks (login_nexus f.body) (Login (login_version f.body)) (after_login f rest (place_after place f)) else
    Silent (rejected 5 place)
asked (In n) place f rest =
    if f.kind == 0x02 then Asks n (Command f.lun (command_cdb f.body) (command_data f.body)) (after_command n f rest (place_after place f)) else
    if f.kind == 0x03 then Asks n Logout (λ _. after_logout f) else
    Asks n Logout (λ _. rejected 5 place)

-- a frame that breaks a rule, at its place; a nexus that is logged in is logged out first
abbrev pub broken : Phase → ℕ → ℕ → Turn
broken Dead place reason = Idle
broken (Busy n j) place reason = Idle
broken Fresh place reason = Silent (rejected reason place)
broken (In n) place reason = Asks n Logout (λ _. rejected reason place)

abbrev pub turn_at : Phase → ℕ → Front → Turn
turn_at phase place (Lacking lacks) = Idle
turn_at phase place (Broken reason) = broken phase place reason
turn_at phase place (Whole f rest) = asked phase place f rest

-- a task that runs takes its steps, one a turn, before the frame in front is looked at
abbrev pub turn_by : Phase → List ℕ → ℕ → Turn
turn_by (Busy n j) bytes place = Asks n (Step (carried j)) (after_step n j bytes place)
turn_by phase bytes place = turn_at phase place (front Target bytes)

abbrev pub turn : Lane → Turn
turn l = turn_by l.phase l.bytes l.place

-- bytes that come behind the others; a dead lane keeps none
abbrev pub arrived_at : Phase → Lane → List ℕ → Lane
arrived_at Dead l bytes = l
arrived_at phase l bytes = record l { bytes = l.bytes ++ bytes }

abbrev pub arrived : Lane → List ℕ → Lane
arrived l bytes = arrived_at l.phase l bytes
