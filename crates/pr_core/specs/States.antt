-- The worlds for which the core's state stands.
use Rattle.std.specs.Prelude.{◌≡◌, ℕ, false, List, Option, Some, None}
use Rattle.pr_words.specs.declared.nexus.Nexus.{Nexus}
use Rattle.pr_words.specs.declared.task.Way.{Way}
use Rattle.pr_words.specs.Orders.{same_nexus}
use Rattle.pr_grammar.specs.Standings.{Standing}
use Rattle.pr_model.specs.Worlds.{World, Task}
use Rattle.pr_model.specs.Entries.{Entry}
use Rattle.pr_model.specs.Histories.{MayFollow, AreBlocksOf, moved}
use Rattle.pr_table.specs.Tables.{standing_of}
use Rattle.pr_core.specs.declared.seats.Seat.{Seat}
use Rattle.pr_core.specs.declared.state.State.{State}
use Rattle.pr_core.specs.Seats.{seat_of, attentions_in, owner_in, task_in, Lists}

-- a world like this one, with these registrations and these seats, whose nexuses became known in this order
abbrev pub world_with : World → Standing → (Nexus → Option Seat) → List Nexus → World
world_with w standing seat known =
    record w {
      standing = standing;
      known = known;
      attentions = λ n. attentions_in (seat n);
      owner = λ n. owner_in (seat n);
      task = λ n. task_in (seat n);
    }

-- the state has the registrations and the nexuses of the world, over any medium of its number of blocks, and whatever is in doubt; it keeps no order among the known nexuses
pub record Depicts (s : State) (w : World) : Type 0 where
  pub blocks : w.medium.count ≡ s.blocks
  pub known : List Nexus
  pub lists : Lists known s.seats
  pub world : w ≡ world_with w (standing_of s.table) (seat_of s.seats) known

-- each world for which it stood may be followed by the entry, and leads to one for which it stands now
abbrev pub Enters : State → State → Entry → Type 0
Enters old new e = (w : World) → Depicts old w → MayFollow w e × Depicts new (moved w e)

-- the same where what stands on a medium changes, or is looked at: from these contents, told or not, to those
abbrev pub EntersOver : Option (ℕ → List ℕ) → Option (ℕ → List ℕ) → State → State → Entry → Type 0
EntersOver before after old new e =
    (w : World) → Depicts old w → AreBlocksOf before w.medium
    → MayFollow w e × Depicts new (moved w e) × AreBlocksOf after (moved w e).medium

abbrev pub owner_at : State → Nexus → Option ℕ
owner_at s n = owner_in (seat_of s.seats n)

abbrev pub task_at : State → Nexus → Option Task
task_at s n = task_in (seat_of s.seats n)

-- how far a task has come, whether it is marked or not
pub record Progress : Type 0 where
  pub way : Way
  pub count : ℕ
  pub done : ℕ

abbrev pub progress_in : Option Task → Option Progress
progress_in None = None
progress_in (Some t) = Some (record { way = t.way; count = t.count; done = t.done })

abbrev pub progress_at : State → Nexus → Option Progress
progress_at s n = progress_in (task_at s n)

-- the nexuses that other numbers have logged in stay so, and their tasks as far as they had come
abbrev pub KeepsOthersAt : ℕ → State → State → Type 0
KeepsOthersAt who old new =
    (other : ℕ) (n : Nexus) → (other ≡ who → ⊥) → owner_at old n ≡ Some other
    → (owner_at new n ≡ Some other) × (progress_at new n ≡ progress_at old n)

-- the tasks of all nexuses but one have come as far as before
abbrev pub TasksStay : Nexus → State → State → Type 0
TasksStay nexus old new = (n : Nexus) → same_nexus n nexus ≡ false → progress_at new n ≡ progress_at old n
