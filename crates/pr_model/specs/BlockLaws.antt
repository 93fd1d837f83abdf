-- What stands in a block after a history, by the last entry that touched it (SBC-3, READ and WRITE; this project's own).
use Rattle.std.specs.Prelude.{◌≡◌, ℕ, List, [], ◌∷◌, ◌++◌, Option, Some, None}
use Rattle.pr_words.specs.declared.task.Way.{Way}
use Rattle.pr_words.specs.declared.task.Way.TheVariants as ways
use Rattle.pr_model.specs.Worlds.{World, Task}
use Rattle.pr_model.specs.Tasks.{next_block}
use Rattle.pr_model.specs.Entries.{Act, Login, Command, Step, Logout, Power, Out, Login_code, Ended, Started, Wrote, Read, Done, Aborted, Fault, Left, Restored, Entry, History}
use Rattle.pr_model.specs.Histories.{moved, after}

-- what a step of a task leaves in the task's next block: a write the bytes that it carries, a read those that it gave, and a write that fails what nobody knows; no other step touches it
abbrev pub Leaves : Way → List ℕ → Out → Option (List ℕ) → Type 0
Leaves way sent Wrote now = now ≡ Some sent
Leaves way sent (Read bytes) now = now ≡ Some bytes
Leaves ways.Write sent (Fault code) now = now ≡ None
Leaves ways.Read sent (Fault code) now = ⊥
Leaves way sent Done now = ⊥
Leaves way sent Aborted now = ⊥
Leaves way sent (Login_code code) now = ⊥
Leaves way sent (Ended status sense data_in) now = ⊥
Leaves way sent (Started other) now = ⊥
Leaves way sent Left now = ⊥
Leaves way sent (Restored value) now = ⊥

abbrev pub ActLeaves : Way → Act → Out → Option (List ℕ) → Type 0
ActLeaves way (Step sent) out now = Leaves way sent out now
ActLeaves way (Login version) out now = ⊥
ActLeaves way (Command lun cdb data_out) out now = ⊥
ActLeaves way Logout out now = ⊥
ActLeaves way Power out now = ⊥

-- an entry that follows a world touched a block, and left this there
pub record Touches (w : World) (e : Entry) (lba : ℕ) (now : Option (List ℕ)) : Type 0 where
  pub task : Task
  pub runs : w.task e.nexus ≡ Some task
  pub here : next_block task ≡ lba
  pub leaves : ActLeaves task.way e.act e.out now

-- none of the entries that follow a world touches a block
abbrev pub Spare : World → History → ℕ → Type 0
Spare w [] lba = Unit {0}
Spare w (e ∷ es) lba = ((now : Option (List ℕ)) → Touches w e lba now → ⊥) × Spare (moved w e) es lba

-- a block that no entry touches stands as it did
abbrev pub SparedStay : Type 0
SparedStay = (w : World) (h : History) (lba : ℕ) → Spare w h lba → (after w h).medium.at lba ≡ w.medium.at lba

-- the last entry that touched a block decides
abbrev pub LastDecides : Type 0
LastDecides =
    (w : World) (before : History) (e : Entry) (behind : History) (lba : ℕ) (now : Option (List ℕ))
    → Touches (after w before) e lba now → Spare (moved (after w before) e) behind lba
    → (after w (before ++ e ∷ behind)).medium.at lba ≡ now
