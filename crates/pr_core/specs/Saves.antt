-- What the core's keeper stands for, and what the save of a command makes of it.
use Rattle.std.specs.Prelude.{◌≡◌, ◌⊎◌, ℕ, not, true, List, [], Result, Ok, Err}
use Rattle.pr_io.specs.Spans.{Goes}
use Rattle.pr_io.specs.declared.outside.Disk as disks
use Rattle.pr_model.specs.Keeping.{is_empty}
use Rattle.pr_model.specs.Worlds.{World}
use Rattle.pr_model.specs.Entries.{Entry, Out}
use Rattle.pr_model.specs.Commands.{Answer, answer, good}
use Rattle.pr_model.specs.Saving.{restorable, asks_to_save, doubted, settled, MayAnswer}
use Rattle.pr_model.specs.Histories.{MayFollow, moved, failures_by}
use Rattle.pr_model.specs.Stamps.{Restores}
use Rattle.pr_aptpl.specs.declared.keeper.Keeper.{Keeper}
use Rattle.pr_aptpl.specs.Keepers.{StandsFor, story_of, disk_of, is_in_doubt, is_told}
use Rattle.pr_core.specs.declared.answers.CommandOut.{CommandOut}
use Rattle.pr_core.specs.declared.state.State.{State}
use Rattle.pr_core.specs.Counting.{faults_after}
use Rattle.pr_core.specs.Outs.{out_of}
use Rattle.pr_core.specs.States.{Depicts}

module _ {D : Type 0} {gd : disks.Ghosts D} where
  -- its disk restores what may be restored in the world, and its last save failed just where something is in doubt
  pub record Holds (k : Keeper D gd) (w : World) : Type 0 where
    pub stands : StandsFor k (restorable w)
    pub doubt : is_in_doubt k ≡ not (is_empty w.doubts)

  -- its disk tells what a read gives, where the file is known to tell it
  pub record Tells (k : Keeper D gd) (w : World) : Type 0 where
    pub told : w.file_tells ≡ true → is_told k ≡ true

  -- a call leads from one world to another: whatever a power loss leaves since then restores what may be restored in one of the two, and in the end in the second
  pub record Leads (before now : Keeper D gd) (w v : World) : Type 0 where
    pub holds : Holds now v
    pub goes : Goes (story_of before) (story_of now) (λ c. Restores w c ⊎ Restores v c)

  -- a save that is asked for where what is kept changes or something is in doubt, on the way to a world in which nothing is; where it fails the world stays, but for the doubt
  abbrev pub SavesTo : {T E : Type 0} → Keeper D gd → Keeper D gd → World → World → Result T E → Type 0
  SavesTo before now w v (Ok done) = Leads before now w v
  SavesTo before now w v (Err e) = Leads before now w (doubted w (answer v (good []))) × (asks_to_save w (answer v (good [])) ≡ true)

  -- a command has ended or begun its task: its save succeeded, wasn't asked for, or failed
  pub record Ends (before now : Keeper D gd) (new : State) (w : World) (a : Answer) (out : Out) : Type 0 where
    pub may : MayAnswer w a out
    pub depicts : Depicts new (settled w a out)
    pub leads : Leads before now w (settled w a out)

  -- it is over the same disk, which tells as much and has failed as often, but once more where the save failed
  pub record Counts (before now : Keeper D gd) (result : CommandOut) : Type 0 where
    pub reference : gd.reference (disk_of now) ≡ gd.reference (disk_of before)
    pub told : is_told now ≡ is_told before
    pub faults : (buf : List ℕ) → gd.faults (disk_of now) ≡ faults_after (failures_by (out_of result buf)) (gd.faults (disk_of before))

  -- each world for which state and keeper stood may be followed by the entry, which leads to one for which they stand now
  abbrev pub EntersSaving : State → State → Keeper D gd → Keeper D gd → Entry → Type 0
  EntersSaving old new before now e = (w : World) → Depicts old w → Holds before w → MayFollow w e × Depicts new (moved w e) × Leads before now w (moved w e)
