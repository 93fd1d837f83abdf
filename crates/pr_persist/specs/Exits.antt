-- The exits of `persist` (this project's own).
use Rattle.std.specs.Prelude.{ℕ, ◌==◌, Option, Some, None, Result, Ok, Err, if◌then◌else◌}
use Rattle.pr_words.specs.declared.code.Sense.{Sense}
use Rattle.pr_initiator.specs.declared.answer.Answer.{Answer}
use Rattle.pr_initiator.specs.declared.link_fault.LinkFault.{LinkFault}
use Rattle.pr_initiator.specs.declared.link_fault.LinkFault.TheVariants as fault
use Rattle.pr_persist.specs.declared.asked.Asked.{Asked}
use Rattle.pr_persist.specs.declared.exit.PersistExit.{PersistExit}
use Rattle.pr_persist.specs.declared.exit.PersistExit.TheVariants.{Done, BadWords, Link, WriteFault, NoMemory, Conflict, Check, OddStatus, BadData}

abbrev pub link_status : LinkFault → ℕ
link_status fault.Down = 3
link_status (fault.Ended place) = 5
link_status (fault.BadReply place reason) = 5
link_status (fault.Rejected place reason) = 5
link_status (fault.Refused code) = 10
link_status (fault.Attention code) = 13

abbrev pub status_of : PersistExit → ℕ
status_of Done = 0
status_of BadWords = 2
status_of (Link asked fault) = link_status fault
status_of WriteFault = 4
status_of NoMemory = 7
status_of (Conflict asked) = 11
status_of (Check asked code) = 12
status_of (OddStatus asked status) = 15
status_of (BadData asked place) = 14

-- a CHECK CONDITION by its sense data, where they can be read; where they can't, their format is a wrong one
abbrev pub checked_by : Asked → Option Sense → PersistExit
checked_by asked (Some s) = Check asked s.code
checked_by asked None = BadData asked 0

-- an answer that is GOOD, or how the run ends (SAM-5, status codes)
abbrev pub good_by : Asked → Answer → Result Answer PersistExit
good_by asked a =
    if a.status == 0x00 then Ok a else
    if a.status == 0x02 then Err (checked_by asked a.sense) else
    if a.status == 0x18 then Err (Conflict asked) else
    Err (OddStatus asked a.status)

abbrev pub judged_by : Asked → Result Answer LinkFault → Result Answer PersistExit
judged_by asked (Ok a) = good_by asked a
judged_by asked (Err f) = Err (Link asked f)

abbrev pub linked_by : Asked → Result Unit LinkFault → Result Unit PersistExit
linked_by asked (Ok u) = Ok tt
linked_by asked (Err f) = Err (Link asked f)
