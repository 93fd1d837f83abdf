-- Tasks: a READ or WRITE under way (SBC-3, READ and WRITE; SAM-5, aborting commands).
use Rattle.std.specs.Prelude.{◌≡◌, ℕ, ◌+◌, ◌==◌, ◌&&◌, ◌<◌, true, false, List, Option, option_map, if◌then◌else◌}
use Rattle.pr_words.specs.declared.nexus.Nexus.{Nexus}
use Rattle.pr_words.specs.declared.nexus.Pair.{Pair}
use Rattle.pr_words.specs.declared.code.Code.{Code}
use Rattle.pr_words.specs.declared.task.Way.{Way}
use Rattle.pr_words.specs.declared.task.Way.TheVariants as ways
use Rattle.pr_words.specs.declared.code.TheConstants.Code.{UNRECOVERED_READ_ERROR, WRITE_ERROR}
use Rattle.pr_grammar.specs.Standings.{is_registered}
use Rattle.pr_model.specs.Worlds.{Task}

-- a task that moves so many blocks from this one on, of which none was moved yet
abbrev pub new_task : Way → ℕ → ℕ → Task
new_task way lba count = record { way = way; lba = lba; count = count; done = 0; aborted = false }

-- the block that is moved next
abbrev pub next_block : Task → ℕ
next_block t = t.lba + t.done

-- blocks are left, and the task isn't marked
pub record IsUnderWay (t : Task) : Type 0 where
  pub unmarked : t.aborted ≡ false
  pub more : t.done < t.count

-- one block more was moved
abbrev pub advanced : Task → Task
advanced t = record t { done = t.done + 1 }

-- marked, so that the next step ends it
abbrev pub aborted : Task → Task
aborted t = record t { aborted = true }

-- the tasks after a service action of PERSISTENT RESERVE OUT that removed these registrations: PREEMPT AND ABORT, 05h, marks the task of each removed nexus, and no other action marks any (SPC-4, PREEMPT AND ABORT)
abbrev pub marked : ℕ → List Pair → (Nexus → Option Task) → Nexus → Option Task
marked action removed tasks = λ n. if action == 5 && is_registered removed n then option_map aborted (tasks n) else tasks n

-- how a transfer ends that the medium fails (SPC-4, sense codes)
abbrev pub medium_error : Way → Code
medium_error ways.Read = UNRECOVERED_READ_ERROR
medium_error ways.Write = WRITE_ERROR
