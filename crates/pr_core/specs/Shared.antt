-- For which histories a target stands that threads share (this project's own). What its medium held when it was opened isn't known.
use Rattle.std.specs.Prelude.{◌≡◌, ℕ, Bool, true, false, None, IsSome}
use Rattle.std.specs.List.{AllByRecursion}
use Rattle.pr_words.specs.declared.limits.TheConstants.{LIMIT}
use Rattle.pr_model.specs.Worlds.{Blocks, World, opened}
use Rattle.pr_model.specs.Registrants.{IsWellFormed}
use Rattle.pr_model.specs.Entries.{Act, Login, Command, Step, Logout, Power, Entry, History}
use Rattle.pr_model.specs.Histories.{after, faults_in, failures_in, IsLegalFrom}
use Rattle.pr_model.specs.Fencing.{IsFenced}
use Rattle.pr_io.specs.declared.outside.Medium as media
use Rattle.pr_io.specs.declared.outside.Disk as disks
use Rattle.pr_core.specs.declared.ground.Ground.{Ground}
use Rattle.pr_core.specs.declared.target.Core.{Core}
use Rattle.pr_core.specs.View.{StandsFor, medium_of, disk_of, blocks_of, opening_of, faults_after}

-- a medium of so many blocks, of which nothing is known
abbrev pub unknown : ℕ → Bool → Blocks
unknown count tells = record { count = count; tells = tells; at = λ lba. None }

-- the world of a target that was opened with this, over such a medium. Nobody loses power there, so it doesn't matter what a read of the file is known to give
abbrev pub opened_on : Ground → Bool → World
opened_on g tells = opened (unknown g.blocks tells) false g.kept

-- media of this kind always tell what they hold
abbrev pub AlwaysTells : {M : Type 0} → media.Ghosts M → Type 0
AlwaysTells {M} gm = (medium : M) → IsSome (gm.contents medium)

-- a read is known to give what stands in a block only of media that always tell that
abbrev pub MayTell : {M : Type 0} → media.Ghosts M → Bool → Type 0
MayTell gm tells = tells ≡ true → AlwaysTells gm

-- of each world with which a target over such a medium may have been opened
abbrev pub OnOpening : {M : Type 0} → media.Ghosts M → Ground → (World → Type 0) → Type 0
OnOpening gm g Holds = (tells : Bool) → MayTell gm tells → Holds (opened_on g tells)

abbrev pub IsLegalOn : {M : Type 0} → media.Ghosts M → Ground → History → Type 0
IsLegalOn gm g h = OnOpening gm g (λ w. IsLegalFrom w h)

-- no loss of power
abbrev pub IsPowered : Act → Type 0
IsPowered (Login version) = Unit {0}
IsPowered (Command lun cdb data_out) = Unit {0}
IsPowered (Step block) = Unit {0}
IsPowered Logout = Unit {0}
IsPowered Power = ⊥

abbrev pub ArePowered : History → Type 0
ArePowered h = AllByRecursion (λ (e : Entry). IsPowered e.act) h

-- media, and disks, of this kind never fail
abbrev pub MediaNeverFail : {M : Type 0} → media.Ghosts M → Type 0
MediaNeverFail {M} gm = (medium : M) → gm.faults medium ≡ 0

abbrev pub DisksNeverFail : {D : Type 0} → disks.Ghosts D → Type 0
DisksNeverFail {D} gd = (disk : D) → gd.faults disk ≡ 0

-- what a target that was opened with this may have done since: the registrants with which it was opened are well formed, and the history is legal and fenced, without a loss of power. It has no fault of a medium that never fails, and no save that failed on a disk that never does
pub record IsRightOn {M D : Type 0} (gm : media.Ghosts M) (gd : disks.Ghosts D) (g : Ground) (h : History) : Type 0 where
  pub formed : OnOpening gm g (λ w. IsWellFormed LIMIT w.standing)
  pub legal : IsLegalOn gm g h
  pub fenced : OnOpening gm g (λ w. IsFenced w h)
  pub powered : ArePowered h
  pub faults : MediaNeverFail gm → faults_in h ≡ 0
  pub failures : DisksNeverFail gd → failures_in h ≡ 0

-- with what the core was opened
abbrev pub ground_in : {M D : Type 0} {gm : media.Ghosts M} {gd : disks.Ghosts D} → Core M D gm gd → Ground
ground_in c = record { kept = opening_of c; blocks = blocks_of c }

-- the history is legal from a well formed opening, without a loss of power, and the core stands for the world after it; since some count its medium has failed once for each fault in it, and since some count its disk once for each save that failed
pub record Stands {M D : Type 0} {gm : media.Ghosts M} {gd : disks.Ghosts D} (c : Core M D gm gd) (h : History) : Type 0 where
  pub formed : OnOpening gm (ground_in c) (λ w. IsWellFormed LIMIT w.standing)
  pub legal : IsLegalOn gm (ground_in c) h
  pub stands : OnOpening gm (ground_in c) (λ w. StandsFor c (after w h))
  pub powered : ArePowered h
  pub faults : (since : ℕ) × (gm.faults (medium_of c) ≡ faults_after (faults_in h) since)
  pub failures : (since : ℕ) × (gd.faults (disk_of c) ≡ faults_after (failures_in h) since)

-- this number made none of these entries
abbrev pub AreOthers : ℕ → History → Type 0
AreOthers who h = AllByRecursion (λ (e : Entry). e.who ≡ who → ⊥) h
