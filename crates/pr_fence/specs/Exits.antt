-- The exits of `fence`, and why the work on one device ends early (this project's own).
use Rattle.std.specs.Prelude.{ℕ, ◌==◌, Bool, Option, Some, None, Result, Ok, Err, if◌then◌else◌}
use Rattle.pr_words.specs.declared.code.Sense.{Sense}
use Rattle.pr_initiator.specs.declared.answer.Answer.{Answer}
use Rattle.pr_initiator.specs.declared.link_fault.LinkFault.{LinkFault}
use Rattle.pr_initiator.specs.declared.link_fault.LinkFault.TheVariants as link
use Rattle.pr_fence.specs.declared.asked.Asked.{Asked}
use Rattle.pr_fence.specs.declared.exit.FenceExit.{FenceExit}
use Rattle.pr_fence.specs.declared.exit.FenceExit.TheVariants as exit
use Rattle.pr_fence.specs.declared.fence_fault.FenceFault.{FenceFault}
use Rattle.pr_fence.specs.declared.fence_fault.FenceFault.TheVariants as fault
use Rattle.pr_fence.specs.declared.plan.Errand.{Errand}
use Rattle.pr_fence.specs.declared.plan.Errand.TheVariants.{On, Off, Status}

abbrev pub link_status : LinkFault → ℕ
link_status link.Down = 3
link_status (link.Ended place) = 5
link_status (link.BadReply place reason) = 5
link_status (link.Rejected place reason) = 5
link_status (link.Refused code) = 10
link_status (link.Attention code) = 13

abbrev pub status_of : FenceExit → ℕ
status_of exit.Done = 0
status_of exit.Present = 0
status_of exit.Absent = 2
status_of exit.BadWords = 1
status_of exit.SelfFence = 9
status_of (exit.StillThere device) = 16
status_of (exit.Link device asked fault) = link_status fault
status_of exit.WriteFault = 4
status_of exit.NoMemory = 7
status_of (exit.Conflict device asked) = 11
status_of (exit.Check device asked code) = 12
status_of (exit.OddStatus device asked status) = 15
status_of (exit.BadData device asked place) = 14

-- the work on a device ended early
abbrev pub exit_at : ℕ → FenceFault → FenceExit
exit_at device (fault.Link asked f) = exit.Link device asked f
exit_at device (fault.Conflict asked) = exit.Conflict device asked
exit_at device (fault.Check asked code) = exit.Check device asked code
exit_at device (fault.OddStatus asked status) = exit.OddStatus device asked status
exit_at device (fault.BadData asked place) = exit.BadData device asked place
exit_at device fault.StillThere = exit.StillThere device

-- every device was gone through; the key was found on one, or on none
abbrev pub ended : Errand → Bool → FenceExit
ended On found = exit.Done
ended (Off victim) found = exit.Done
ended (Status key) found = if found then exit.Present else exit.Absent

-- a CHECK CONDITION by its sense data, where they can be read; where they can't, their format is a wrong one
abbrev pub checked_by : Asked → Option Sense → FenceFault
checked_by asked (Some s) = fault.Check asked s.code
checked_by asked None = fault.BadData asked 0

-- an answer that is GOOD, or the fault that it is (SAM-5, status codes)
abbrev pub good_by : Asked → Answer → Result Unit FenceFault
good_by asked a =
    if a.status == 0x00 then Ok tt else
    if a.status == 0x02 then Err (checked_by asked a.sense) else
    if a.status == 0x18 then Err (fault.Conflict asked) else
    Err (fault.OddStatus asked a.status)

abbrev pub judged_by : Asked → Result Answer LinkFault → Result Unit FenceFault
judged_by asked (Ok a) = good_by asked a
judged_by asked (Err f) = Err (fault.Link asked f)

abbrev pub linked_by : Asked → Result Unit LinkFault → Result Unit FenceFault
linked_by asked (Ok u) = Ok tt
linked_by asked (Err f) = Err (fault.Link asked f)
