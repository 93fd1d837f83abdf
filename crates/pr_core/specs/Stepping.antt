-- What a step of a task did to the medium and to its block.
use Rattle.std.specs.Prelude.{◌≡◌, ◌⊎◌, ℕ, ◌+◌, ◌≤◌, Bool, true, false, List, length, Option, Some, None}
use Rattle.pr_words.specs.declared.task.Way.TheVariants as ways
use Rattle.pr_words.specs.declared.limits.TheConstants.{BLOCK}
use Rattle.pr_model.specs.Worlds.{Task}
use Rattle.pr_model.specs.Tasks.{IsUnderWay, next_block, advanced}
use Rattle.pr_io.specs.Causes.{HasCause}
use Rattle.pr_io.specs.Contents.{ReadsBlock, WritesBlock}
use Rattle.pr_io.specs.declared.outside.Medium as media
use Rattle.pr_tasks.specs.declared.step_out.StepOut.{StepOut}
use Rattle.pr_tasks.specs.declared.step_out.StepOut.TheVariants.{Wrote, Read, Done, Aborted, Fault}
use Rattle.pr_tasks.specs.Steps.{Steps, LeavesBlock, answered}
use Rattle.pr_core.specs.declared.seats.Seat.{Seat}

-- there is a task, whose blocks all lie within so many
abbrev pub HasWithin : ℕ → Option Task → Type 0
HasWithin blocks None = ⊥
HasWithin blocks (Some t) = t.lba + t.count ≤ blocks

-- the task goes on
abbrev pub is_moving : StepOut → Bool
is_moving (Wrote lba) = true
is_moving (Read lba) = true
is_moving (Fault code) = false
is_moving Done = false
is_moving Aborted = false

abbrev pub task_after : StepOut → Task → Option Task
task_after (Wrote lba) t = Some (advanced t)
task_after (Read lba) t = Some (advanced t)
task_after (Fault code) t = None
task_after Done t = None
task_after Aborted t = None

-- a step of a task, between a medium with these contents before and after, and a block that was given and is left
pub record Did (t : Task) (out : StepOut) (before after : Option (ℕ → List ℕ)) (given left : List ℕ) : Type 0 where
  pub now : Task
  pub steps : Steps t out now
  pub writes : IsUnderWay t → t.way ≡ ways.Write → WritesBlock before after (next_block t) (answered out) given
  pub reads : IsUnderWay t → t.way ≡ ways.Read → ReadsBlock before (next_block t) (answered out) left
  pub held : t.way ≡ ways.Read → after ≡ before
  pub idle : (t.aborted ≡ true) ⊎ (t.done ≡ t.count) → after ≡ before
  pub given_long : length given ≡ BLOCK
  pub left_long : length left ≡ BLOCK
  pub kept : LeavesBlock out given left

-- the medium has as many blocks as before, is the same one, and has failed as often, but once more in a step that failed
pub record Keeps {M : Type 0} (of : media.Ghosts M) (before after : M) (out : StepOut) : Type 0 where
  pub count : of.count after ≡ of.count before
  pub reference : of.reference after ≡ of.reference before
  pub cause : HasCause (of.faults before) (of.faults after) (answered out)

-- the seat with another task, or none
abbrev pub with_task : Option Task → Seat → Seat
with_task t s = record { nexus = s.nexus; owner = s.owner; attentions = s.attentions; task = t }
