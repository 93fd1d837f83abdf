-- What a step of a task may do, and the world that it leaves (this project's own; SBC-3, READ and WRITE; SAM-5, aborting commands).
use Rattle.std.specs.Prelude.{◌≡◌, ℕ, ◌==◌, true, false, List, length, Option, Some, None, if◌then◌else◌}
use Rattle.pr_words.specs.declared.nexus.Nexus.{Nexus}
use Rattle.pr_words.specs.declared.task.Way.{Way}
use Rattle.pr_words.specs.declared.task.Way.TheVariants as ways
use Rattle.pr_words.specs.declared.limits.TheConstants.{BLOCK}
use Rattle.pr_model.specs.Worlds.{Blocks, World, Task, set_at}
use Rattle.pr_model.specs.Tasks.{IsUnderWay, next_block, advanced, medium_error}
use Rattle.pr_model.specs.Entries.{Out, Login_code, Ended, Started, Wrote, Read, Done, Aborted, Fault, Left, Restored}

-- bytes that a read of a block may give: those that stand there, where they are known and a read is known to give them
abbrev pub MayGive : Blocks → ℕ → List ℕ → Type 0
MayGive m lba bytes = m.tells ≡ true → (known : List ℕ) → m.at lba ≡ Some known → bytes ≡ known

-- which outcomes a step of a task may have, with the bytes that it carries: a marked task ends with Aborted; else a block is moved, or the medium fails, while blocks are left; else the task is done
abbrev pub MayStep : Blocks → Task → List ℕ → Out → Type 0
MayStep m t sent Wrote = IsUnderWay t × (t.way ≡ ways.Write) × (length sent ≡ BLOCK)
MayStep m t sent (Read bytes) = IsUnderWay t × (t.way ≡ ways.Read) × (length bytes ≡ BLOCK) × MayGive m (next_block t) bytes
MayStep m t sent (Fault code) = IsUnderWay t × (code ≡ medium_error t.way)
MayStep m t sent Done = (t.aborted ≡ false) × (t.done ≡ t.count)
MayStep m t sent Aborted = t.aborted ≡ true
MayStep m t sent (Login_code code) = ⊥
MayStep m t sent (Ended status sense data_in) = ⊥
MayStep m t sent (Started way) = ⊥
MayStep m t sent Left = ⊥
MayStep m t sent (Restored value) = ⊥

-- there is no step without a task
abbrev pub MayStepIn : Blocks → Option Task → List ℕ → Out → Type 0
MayStepIn m None sent out = ⊥
MayStepIn m (Some t) sent out = MayStep m t sent out

-- the medium with other bytes in one block, or with nothing known of it
abbrev pub with_block : Blocks → ℕ → Option (List ℕ) → Blocks
with_block m lba bytes = record m { at = λ other. if other == lba then bytes else m.at other }

-- a block was moved, and this is what stands there now
abbrev pub moved_block : World → Nexus → Task → List ℕ → World
moved_block w n t bytes = record w { medium = with_block w.medium (next_block t) (Some bytes); task = set_at w.task n (Some (advanced t)) }

abbrev pub ended : World → Nexus → World
ended w n = record w { task = set_at w.task n None }

-- a write that fails leaves in its block what nobody knows
abbrev pub failed_block : Way → Blocks → ℕ → Blocks
failed_block ways.Read m lba = m
failed_block ways.Write m lba = with_block m lba None

abbrev pub failed : World → Nexus → Task → World
failed w n t = record w { medium = failed_block t.way w.medium (next_block t); task = set_at w.task n None }

-- the world after a step of a task that carries these bytes
abbrev pub stepped : World → Nexus → Task → List ℕ → Out → World
stepped w n t sent Wrote = moved_block w n t sent
stepped w n t sent (Read bytes) = moved_block w n t bytes
stepped w n t sent (Fault code) = failed w n t
stepped w n t sent Done = ended w n
stepped w n t sent Aborted = ended w n
stepped w n t sent (Login_code code) = w
stepped w n t sent (Ended status sense data_in) = w
stepped w n t sent (Started way) = w
stepped w n t sent Left = w
stepped w n t sent (Restored value) = w

abbrev pub stepped_in : World → Nexus → Option Task → List ℕ → Out → World
stepped_in w n None sent out = w
stepped_in w n (Some t) sent out = stepped w n t sent out
