-- The outcome for which a command's answer stands.
use Rattle.std.specs.Prelude.{◌≡◌, ℕ, ◌+◌, ◌<◌, ◌≤◌, List, take, Option, Some, None}
use Rattle.pr_words.specs.declared.code.Sense.{Sense}
use Rattle.pr_words.specs.declared.code.Status.{Status}
use Rattle.pr_words.specs.declared.code.Status.TheVariants as status
use Rattle.pr_words.specs.declared.task.Way.TheVariants as ways
use Rattle.pr_words.specs.declared.limits.TheConstants.{TRANSFER, DATA}
use Rattle.pr_model.specs.Entries.{Out, Ended, Started, Wrote, Read, Done, Aborted, Fault}
use Rattle.pr_tasks.specs.declared.step_out.StepOut.{StepOut}
use Rattle.pr_tasks.specs.declared.step_out.StepOut.TheVariants as steps
use Rattle.pr_core.specs.States.{Progress}
use Rattle.pr_core.specs.Feeding.{announced}
use Rattle.pr_core.specs.declared.answers.CommandOut.{CommandOut}
use Rattle.pr_core.specs.declared.answers.CommandOut.TheVariants as outs

-- the data-in of a command that has ended stands at the front of the buffer
abbrev pub out_of : CommandOut → List ℕ → Out
out_of (outs.Ended s sense len) buf = Ended s sense (take len buf)
out_of (outs.Started way count) buf = Started way

-- sense, whose key has four bits, comes with CHECK CONDITION alone, and data-in, of at most so many bytes as a command moves, with GOOD alone
abbrev pub IsProperly : Status → Option Sense → ℕ → Type 0
IsProperly status.Good None len = len ≤ DATA
IsProperly status.CheckCondition (Some s) len = (len ≡ 0) × (s.code.key < 16)
IsProperly status.ReservationConflict None len = len ≡ 0
IsProperly status.TaskAborted None len = len ≡ 0
IsProperly _ _ len = ⊥

abbrev pub IsProper : CommandOut → Type 0
IsProper (outs.Ended s sense len) = IsProperly s sense len
IsProper (outs.Started way count) = (0 < count) × (count ≤ TRANSFER)

-- how far the task of a nexus has come after its command: at its beginning, or there is none
abbrev pub Begins : CommandOut → Option Progress → Type 0
Begins (outs.Ended s sense len) now = now ≡ None
Begins (outs.Started way count) now = now ≡ Some (record { way = way; count = count; done = 0 })

-- a READ or WRITE that has begun came with the data-out of its blocks
abbrev pub IsFed : CommandOut → ℕ → Type 0
IsFed (outs.Ended s sense len) size = Unit {0}
IsFed (outs.Started way count) size = size ≡ announced way count

-- a READ or WRITE that has begun leaves the buffer as it was
abbrev pub LeavesData : CommandOut → List ℕ → List ℕ → Type 0
LeavesData (outs.Ended s sense len) old new = Unit {0}
LeavesData (outs.Started way count) old new = new ≡ old

-- no task has begun
abbrev pub IsEnded : CommandOut → Type 0
IsEnded (outs.Ended s sense len) = Unit {0}
IsEnded (outs.Started way count) = ⊥

-- the outcome of a step, whose block is left with these bytes
abbrev pub step_out : StepOut → List ℕ → Out
step_out (steps.Wrote lba) block = Wrote
step_out (steps.Read lba) block = Read block
step_out (steps.Fault code) block = Fault code
step_out steps.Done block = Done
step_out steps.Aborted block = Aborted

-- bytes that an entry may carry for a step that was given this block: those, where they were written
abbrev pub IsCarried : StepOut → List ℕ → List ℕ → Type 0
IsCarried (steps.Wrote lba) sent block = sent ≡ block
IsCarried _ sent block = Unit {0}

-- how far a task has come after a step: one block further, or it has ended; it is done with all its blocks alone
abbrev pub Progresses : StepOut → Option Progress → Option Progress → Type 0
Progresses out None now = ⊥
Progresses (steps.Wrote lba) (Some p) now = (p.way ≡ ways.Write) × (p.done < p.count) × (now ≡ Some (record p { done = p.done + 1 }))
Progresses (steps.Read lba) (Some p) now = (p.way ≡ ways.Read) × (p.done < p.count) × (now ≡ Some (record p { done = p.done + 1 }))
Progresses (steps.Fault code) (Some p) now = (code.key < 16) × (now ≡ None)
Progresses steps.Done (Some p) now = (p.done ≡ p.count) × (now ≡ None)
Progresses steps.Aborted (Some p) now = now ≡ None
