-- Tasks as a session keeps them, and as the definitions have them.
use Rattle.std.specs.Prelude.{◌≡◌, ℕ, ◌+◌, ◌-◌, ◌/◌, ◌≤◌, ◌<◌, List, slice_range, min}
use Rattle.pr_words.specs.declared.limits.TheConstants.{BLOCK, COMMAND_HEAD, DATA, HELD}
use Rattle.pr_words.specs.declared.task.Way.{Way}
use Rattle.pr_words.specs.declared.task.Way.TheVariants as ways
use Rattle.pr_model.specs.Lanes as lanes
use Rattle.pr_model.specs.Lanes.{first_bytes}
use Rattle.pr_link.specs.declared.frame.Frame.{Frame}
use Rattle.pr_tasks.specs.declared.step_out.StepOut.{StepOut}
use Rattle.pr_tasks.specs.declared.step_out.StepOut.TheVariants.{Wrote, Read, Done, Aborted, Fault}
use Rattle.pr_session.specs.declared.job.Job.{Job}
use Rattle.pr_session.specs.Places.{block_from}

-- a task with its bytes, which stand in the work buffer
abbrev pub job_of : Job → List ℕ → lanes.Job
job_of j work = record { lun = j.lun; tag = j.tag; way = j.way; bytes = slice_range work j.start j.stop }

-- the task of a command with this data-out
abbrev pub begun_by : Frame → Way → List ℕ → lanes.Job
begun_by head way sent = record { lun = head.lun; tag = head.tag; way = way; bytes = first_bytes way sent }

abbrev pub first_stop : Way → ℕ → ℕ
first_stop ways.Read sent = COMMAND_HEAD
first_stop ways.Write sent = COMMAND_HEAD + sent

abbrev pub next_place : Way → ℕ → ℕ → ℕ
next_place ways.Read start stop = stop
next_place ways.Write start stop = start

-- where the block of its next step stands, with room for it
abbrev pub block_place : Job → ℕ
block_place j = min (next_place j.way j.start j.stop) (HELD - BLOCK)

-- the block of its next step
abbrev pub block_in : Job → List ℕ → List ℕ
block_in j work = block_from (block_place j) work

abbrev pub data_in_by : Way → ℕ → ℕ → ℕ
data_in_by ways.Read start stop = stop - start
data_in_by ways.Write start stop = 0

abbrev pub data_in_of : Job → ℕ
data_in_of j = data_in_by j.way j.start j.stop

-- how many blocks are moved of a task: what was read, or what of its data-out was carried
abbrev pub moved_by : Way → ℕ → ℕ → ℕ
moved_by ways.Read start stop = (stop - start) / BLOCK
moved_by ways.Write start stop = (start - COMMAND_HEAD) / BLOCK

abbrev pub moved_of : Job → ℕ
moved_of j = moved_by j.way j.start j.stop

-- how many bytes a task's next step carries
abbrev pub carried_in : Way → ℕ → ℕ → ℕ
carried_in ways.Read start stop = 0
carried_in ways.Write start stop = min BLOCK (stop - start)

abbrev pub carried_of : Job → ℕ
carried_of j = carried_in j.way j.start j.stop

-- a step of it can have come out so
abbrev pub FitsStep : Job → StepOut → Type 0
FitsStep j (Wrote lba) = (j.way ≡ ways.Write) × (j.start + BLOCK ≤ j.stop)
FitsStep j (Read lba) = (j.way ≡ ways.Read) × (j.stop + BLOCK ≤ COMMAND_HEAD + DATA)
FitsStep j (Fault code) = code.key < 16
FitsStep j Done = Unit {0}
FitsStep j Aborted = Unit {0}
