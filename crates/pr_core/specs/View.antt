-- Which worlds a core stands for, and which entries it has made.
use Rattle.std.specs.Prelude.{◌≡◌, ℕ, ◌≤◌, List, Option, Some, None}
use Rattle.pr_words.specs.declared.nexus.Nexus.{Nexus}
use Rattle.pr_grammar.specs.Files.{Keeps, file_restores}
use Rattle.pr_model.specs.Keeping.{Kept}
use Rattle.pr_model.specs.Worlds.{World}
use Rattle.pr_model.specs.Entries.{History}
use Rattle.pr_model.specs.Histories.{after, faults_in, failures_in, AreBlocksOf, IsLegalFrom}
use Rattle.pr_model.specs.Stamps.{RestoresSome, AreAcknowledged}
use Rattle.pr_io.specs.Images.{Image, Story, Stays}
use Rattle.pr_io.specs.Spans.{Goes}
use Rattle.pr_io.specs.declared.outside.Medium as media
use Rattle.pr_io.specs.declared.outside.Disk as disks
use Rattle.pr_core.specs.declared.target.Core.{Core}
use Rattle.pr_aptpl.specs.Keepers as keepers
use Rattle.pr_aptpl.specs.declared.fault.OpenFault.{OpenFault}
use Rattle.pr_aptpl.specs.declared.fault.OpenFault.TheVariants.{BadFile}
pub use Rattle.pr_core.specs.Counting.{faults_after}
use Rattle.pr_core.specs.Saves.{Holds, Tells}
use Rattle.pr_core.specs.States.{Depicts, Progress, owner_at, progress_at, KeepsOthersAt}

-- crates above cite these words and don't look into them

-- the world's medium has as many blocks as the core's, which holds what is known of them; what may be restored in it is what the core's disk restores; and the file is known to tell what it holds only where that disk tells it
abbrev pub StandsFor : {M D : Type 0} {gm : media.Ghosts M} {gd : disks.Ghosts D} → Core M D gm gd → World → Type 0
StandsFor {M} {D} {gm} {gd} c w =
    Depicts c.state w × AreBlocksOf (gm.contents c.medium) w.medium × Holds c.keeper w × Tells c.keeper w

abbrev pub medium_of : {M D : Type 0} {gm : media.Ghosts M} {gd : disks.Ghosts D} → Core M D gm gd → M
medium_of c = c.medium

abbrev pub disk_of : {M D : Type 0} {gm : media.Ghosts M} {gd : disks.Ghosts D} → Core M D gm gd → D
disk_of c = keepers.disk_of c.keeper

-- the medium's number of blocks
abbrev pub blocks_of : {M D : Type 0} {gm : media.Ghosts M} {gd : disks.Ghosts D} → Core M D gm gd → ℕ
blocks_of c = c.state.blocks

-- what was kept when it was opened, which no call changes
abbrev pub opening_of : {M D : Type 0} {gm : media.Ghosts M} {gd : disks.Ghosts D} → Core M D gm gd → Kept
opening_of c = c.opening.kept

-- the number that has a nexus logged in
abbrev pub owner_of : {M D : Type 0} {gm : media.Ghosts M} {gd : disks.Ghosts D} → Core M D gm gd → Nexus → Option ℕ
owner_of c n = owner_at c.state n

-- how far the task of a nexus has come, where one runs
abbrev pub progress_of : {M D : Type 0} {gm : media.Ghosts M} {gd : disks.Ghosts D} → Core M D gm gd → Nexus → Option Progress
progress_of c n = progress_at c.state n

-- the nexuses that other numbers have logged in stay so, and their tasks have come as far as before
abbrev pub KeepsOthers : {M D : Type 0} {gm : media.Ghosts M} {gd : disks.Ghosts D} → ℕ → Core M D gm gd → Core M D gm gd → Type 0
KeepsOthers who old new = KeepsOthersAt who old.state new.state

-- what a core's disk tells
abbrev pub story_of : {M D : Type 0} {gm : media.Ghosts M} {gd : disks.Ghosts D} → Core M D gm gd → Story
story_of {M} {D} {gm} {gd} c = gd.story (disk_of c)

-- a file that breaks the grammar is found after a power loss only where the disk doesn't tell what it holds
abbrev pub IsUntold : OpenFault → Option Image → Type 0
IsUntold (BadFile place) now = now ≡ None
IsUntold fault now = Unit {0}

-- a disk was opened and this was kept: what was read restores it, and so does whatever a power loss leaves since a moment of the opening; nothing was written
pub record Opens (old new : Story) (k : Kept) : Type 0 where
  pub read : (image : Image) → old.now ≡ Some image → file_restores image ≡ Keeps k
  pub since_sync : (t : ℕ) × (old.moment ≤ t) × (t ≤ new.moment) × ((c : Image) → new.may t c → file_restores c ≡ Keeps k)
  pub stays : Stays old new

-- entries from a world on have these moments, between the states of a disk before and after them: whatever a power loss leaves since the first state restores what may be restored before them or after some of them
pub record Stamped (old new : Story) (w : World) (es : History) (stamps : List ℕ) : Type 0 where
  pub goes : Goes old new (RestoresSome w es)
  pub acknowledged : AreAcknowledged new.may old.moment new.moment w es stamps

-- the core made these entries, over the same medium and the same disk, of which the one failed once for each fault among them and the other for each save that failed: each world for which it stood leads by them, legally, to one for which it stands now
pub record Extends {M D : Type 0} {gm : media.Ghosts M} {gd : disks.Ghosts D} (old new : Core M D gm gd) (es : History) : Type 0 where
  pub blocks : blocks_of new ≡ blocks_of old
  pub opening : opening_of new ≡ opening_of old
  pub medium : gm.reference (medium_of new) ≡ gm.reference (medium_of old)
  pub counted : gm.faults (medium_of new) ≡ faults_after (faults_in es) (gm.faults (medium_of old))
  pub disk : gd.reference (disk_of new) ≡ gd.reference (disk_of old)
  pub saved : gd.faults (disk_of new) ≡ faults_after (failures_in es) (gd.faults (disk_of old))
  pub legal : (w : World) → StandsFor old w → IsLegalFrom w es
  pub leads : (w : World) → StandsFor old w → StandsFor new (after w es)
  pub stamps : List ℕ
  pub stamped : (w : World) → StandsFor old w → Stamped (story_of old) (story_of new) w es stamps
