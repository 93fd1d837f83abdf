-- What a target answers, as a value and its spelling (this project's own).
use Rattle.std.specs.Prelude.{◌≡◌, ℕ, ◌<◌, ◌≤◌, ◌-◌, ◌==◌, ◌||◌, Bool, false, List, [], ◌∷◌, length, slice_index, slice_range, Option, Some, None, Result, Ok, Err, if◌then◌else◌}
use Rattle.pr_words.specs.Fields.{number64_at}
use Rattle.pr_words.specs.declared.limits.TheConstants.{DATA}
use Rattle.pr_words.specs.declared.code.Sense.{Sense}
use Rattle.pr_words.specs.declared.code.Status.{Status}
use Rattle.pr_words.specs.declared.code.Status.TheVariants as status
use Rattle.pr_grammar.specs.declared.sense.SenseFault.{SenseFault}
use Rattle.pr_grammar.specs.Senses.{read_sense}
use Rattle.pr_grammar.specs.Bodies.{login_reply, command_reply, reject}
use Rattle.pr_grammar.specs.Frames.{Frame, frame}
use Rattle.pr_link.specs.declared.reply.Reply.{Reply}
use Rattle.pr_link.specs.declared.reply.Reply.TheVariants.{Login, Good, CheckCondition, Other, Logout, Reject}

-- a CHECK CONDITION by its sense data, or why they can't be read
abbrev pub checked_by : Result Sense SenseFault → Result Reply SenseFault
checked_by (Ok s) = Ok (CheckCondition s)
checked_by (Err e) = Err e

-- what a Command reply says, by its body
abbrev pub command_reply_of : List ℕ → Result Reply SenseFault
command_reply_of body =
    if slice_index body 0 == 0x00 then Ok (Good (length body - 4)) else
    if slice_index body 0 == 0x02 then checked_by (read_sense (slice_range body 4 22)) else
    Ok (Other (slice_index body 0))

-- what a frame of a kind that an initiator receives says, by its body
abbrev pub reply_of : ℕ → List ℕ → Result Reply SenseFault
reply_of kind body =
    if kind == 0x81 then Ok (Login (slice_index body 0)) else
    if kind == 0x82 then command_reply_of body else
    if kind == 0x83 then Ok Logout else
    Ok (Reject (slice_index body 0) (number64_at body 4))

abbrev pub reply_kind : Reply → ℕ
reply_kind (Login code) = 0x81
reply_kind (Good count) = 0x82
reply_kind (CheckCondition sense) = 0x82
reply_kind (Other code) = 0x82
reply_kind Logout = 0x83
reply_kind (Reject reason place) = 0xFF

-- its body, where the data-in is given apart
abbrev pub reply_body : Reply → List ℕ → List ℕ
reply_body (Login code) bytes = login_reply code
reply_body (Good count) bytes = command_reply status.Good None bytes
reply_body (CheckCondition sense) bytes = command_reply status.CheckCondition (Some sense) []
reply_body (Other code) bytes = code ∷ 0 ∷ 0 ∷ 0 ∷ []
reply_body Logout bytes = []
reply_body (Reject reason place) bytes = reject reason place

-- how many bytes of data-in it has
abbrev pub data_in_of : Reply → ℕ
data_in_of (Good count) = count
data_in_of _ = 0

-- its frame, where the data-in is given apart
abbrev pub reply_frame : Reply → ℕ → ℕ → List ℕ → Frame
reply_frame r lun tag bytes = frame (reply_kind r) lun tag (reply_body r bytes)

-- the status bytes of GOOD and of CHECK CONDITION have values of their own
abbrev pub is_spoken_for : ℕ → Bool
is_spoken_for code = code == 0x00 || code == 0x02

-- values that can be written: data-in of at most 524,288 bytes, and a sense key of four bits
abbrev pub IsWritable : Reply → Type 0
IsWritable (Good count) = count ≤ DATA
IsWritable (CheckCondition sense) = sense.code.key < 16
IsWritable (Other code) = is_spoken_for code ≡ false
IsWritable _ = Unit {0}

-- a command's answer: sense, whose key has four bits, with CHECK CONDITION alone, and data-in with GOOD alone
abbrev pub IsAnswer : Status → Option Sense → ℕ → Type 0
IsAnswer status.Good None count = count ≤ DATA
IsAnswer status.CheckCondition (Some s) count = (count ≡ 0) × (s.code.key < 16)
IsAnswer status.ReservationConflict None count = count ≡ 0
IsAnswer status.TaskAborted None count = count ≡ 0
IsAnswer _ _ count = ⊥
