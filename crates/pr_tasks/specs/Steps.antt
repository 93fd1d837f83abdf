-- How tasks begin, and what a step of one does.
use Rattle.std.specs.Prelude.{◌≡◌, ◌+◌, ℕ, List, true, false, Result, Ok, Err, nat_lt, if◌then◌else◌}
use Rattle.pr_words.specs.declared.code.Code.{Code}
use Rattle.pr_words.specs.declared.task.Way.{Way}
use Rattle.pr_words.specs.declared.task.Way.TheVariants as ways
use Rattle.pr_words.specs.declared.code.TheConstants.Code.{INVALID_FIELD_IN_CDB, LOGICAL_BLOCK_ADDRESS_OUT_OF_RANGE}
use Rattle.pr_words.specs.declared.limits.TheConstants.{TRANSFER}
use Rattle.pr_model.specs.Worlds.{Task}
use Rattle.pr_model.specs.Tasks.{new_task, next_block, IsUnderWay, advanced, medium_error}
use Rattle.pr_tasks.specs.declared.step_out.StepOut.{StepOut}
use Rattle.pr_tasks.specs.declared.step_out.StepOut.TheVariants.{Wrote, Read, Done, Aborted, Fault}

-- a task of these blocks, or how its command is refused: too many at once (this project's own), or not all within the medium (SBC-3; at no blocks too, which is this project's own)
abbrev pub begun : Way → ℕ → ℕ → ℕ → Result Task Code
begun way lba count blocks =
    if nat_lt TRANSFER count then Err INVALID_FIELD_IN_CDB else
    if nat_lt blocks (lba + count) then Err LOGICAL_BLOCK_ADDRESS_OUT_OF_RANGE else
    Ok (new_task way lba count)

-- which step of a task has this outcome, and the task behind it (this project's own)
abbrev pub Steps : Task → StepOut → Task → Type 0
Steps t (Wrote lba) now = IsUnderWay t × (t.way ≡ ways.Write) × (lba ≡ next_block t) × (now ≡ advanced t)
Steps t (Read lba) now = IsUnderWay t × (t.way ≡ ways.Read) × (lba ≡ next_block t) × (now ≡ advanced t)
Steps t (Fault code) now = IsUnderWay t × (code ≡ medium_error t.way) × (now ≡ t)
Steps t Done now = (t.aborted ≡ false) × (t.done ≡ t.count) × (now ≡ t)
Steps t Aborted now = (t.aborted ≡ true) × (now ≡ t)

-- what the medium answered in a step with this outcome: an error where it failed (this project's own)
abbrev pub answered : StepOut → Result (Unit {0}) Code
answered (Fault code) = Err code
answered _ = Ok tt

-- a step leaves its block as it was, but where it was read, or the medium failed (this project's own)
abbrev pub LeavesBlock : StepOut → List ℕ → List ℕ → Type 0
LeavesBlock (Wrote lba) old new = new ≡ old
LeavesBlock (Read lba) old new = Unit {0}
LeavesBlock (Fault code) old new = Unit {0}
LeavesBlock Done old new = new ≡ old
LeavesBlock Aborted old new = new ≡ old
