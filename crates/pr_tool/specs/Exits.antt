-- What a run of a schedule has done, and what its exit says.
use Rattle.std.specs.Prelude.{◌≡◌, ℕ, ◌+◌, ◌-◌, ◌^◌, ◌<◌, ◌≤◌, ◌⊎◌, List, [], ◌++◌, length, replicate, All, Option, Some, None, is_some}
use Rattle.std.specs.List.{flat_map}
use Rattle.pr_io.specs.Streams.{Took, Put}
use Rattle.pr_io.specs.Causes.{next_fault}
use Rattle.pr_io.specs.Images.{Image, Story, Stays}
use Rattle.pr_io.specs.Told.{ToldMedium, ToldDisk, ToldSink, ToldStreams, Told, NoneFailed, SourceFailed, SinkFailed}
use Rattle.pr_grammar.specs.Schedules.{Record, Power_loss, IsRecord, spelled_record, Partial, Faulty, record_front, IsUnfinished, IsWhole, IsBrokenAt, IsLong}
use Rattle.pr_grammar.specs.Files.{Keeps, Bad, file_restores}
use Rattle.pr_model.specs.Keeping.{Kept}
use Rattle.pr_model.specs.Worlds.{Blocks, World, opened}
use Rattle.pr_model.specs.Entries.{History}
use Rattle.pr_model.specs.Histories.{AreBlocksOf, IsLegalFrom, after, faults_in, failures_in}
use Rattle.pr_model.specs.Stamps.{RestoresSome, KeepsSome, AreStamps, AreStampsOfKept}
use Rattle.pr_model.specs.Fencing.{IsFenced}
use Rattle.pr_model.specs.Lanes.{Lane, fresh}
use Rattle.pr_model.specs.Runs.{Deed, deed, IsRun, IsCutRun}
use Rattle.pr_io.specs.declared.outside.Medium as media
use Rattle.pr_io.specs.declared.outside.Disk as disks
use Rattle.pr_core.specs.declared.target.Core.{Core}
use Rattle.pr_core.specs.View.{StandsFor, IsUntold, Extends, medium_of, disk_of, story_of, faults_after}
use Rattle.pr_aptpl.specs.declared.fault.OpenFault.{OpenFault}
use Rattle.pr_aptpl.specs.declared.fault.OpenFault.TheVariants as faults
use Rattle.pr_aptpl.specs.Opens.{IsFaultOf}
use Rattle.pr_tool.specs.Reading.{IsAtEnd}
use Rattle.pr_tool.specs.declared.exit.Exit.{Exit}
use Rattle.pr_tool.specs.declared.exit.Exit.TheVariants.{Done, BadWords, ReadFault, WriteFault, BadSchedule, BadFile, NoMemory, DiskFault, TooLong}

-- the worlds of an opening that restored a kept value: whatever stands on a medium where that isn't told, and a file that tells what it holds where the disk does
abbrev pub OnOpened : ToldMedium → Story → Kept → (World → Type 0) → Type 0
OnOpened told story kept Holds = (m : Blocks) → m.count ≡ told.blocks → AreBlocksOf told.contents m → Holds (opened m (is_some story.now) kept)

-- no call of the disk has failed, whose count hadn't come to its end
abbrev pub NeverFailed : ToldDisk → ToldDisk → Type 0
NeverFailed before now = (now.faults ≡ before.faults) × (before.faults < 2 ^ 64 - 1)

-- a history that a target made from its opening on, over a medium and a disk that were so and are so now: the opening restored what the disk held as it was read; the history is legal, and fenced; the medium, which has as many blocks as before, ends with what the history says, block by block, wherever that is known; medium and disk failed once for each fault and for each failed save in the history, and the disk so often more
pub record IsServedOn (more : ℕ) (old new : ToldMedium) (disk disk_now : ToldDisk) (story story_now : Story) (h : History) : Type 0 where
  pub kept : Kept
  pub restores : (image : Image) → story.now ≡ Some image → file_restores image ≡ Keeps kept
  pub legal : OnOpened old story kept (λ w. IsLegalFrom w h)
  pub fenced : OnOpened old story kept (λ w. IsFenced w h)
  pub holds : OnOpened old story kept (λ w. AreBlocksOf new.contents (after w h).medium)
  pub blocks : new.blocks ≡ old.blocks
  pub faults : new.faults ≡ faults_after (faults_in h) old.faults
  pub failures : disk_now.faults ≡ faults_after (failures_in h + more) disk.faults
  -- power may be lost at any moment: since the first sync of the opening, and where nothing was pending since the start, it restores what some prefix of the history left; since an entry's moment, what a prefix with that entry left; and at the end, what the whole history left
  pub start : ℕ
  pub later : story.moment ≤ start
  pub stamps : List ℕ
  pub stamped : OnOpened old story kept (λ w. AreStamps story_now.now story_now.may start story_now.moment w h stamps)
  pub since_start : ((image : Image) → story.may story.moment image → story.now ≡ Some image) → OnOpened old story kept (λ w. (image : Image) → story_now.may story.moment image → RestoresSome w h image)
  -- where no call of the disk failed, power that is lost at any moment restores what SPC-4 preserves after a prefix that holds every entry whose moment has passed, and nothing else
  pub exact : NeverFailed disk disk_now → OnOpened old story kept (λ w. AreStampsOfKept story_now.now story_now.may start story_now.moment w h stamps)
  pub exact_since : NeverFailed disk disk_now → ((image : Image) → story.may story.moment image → story.now ≡ Some image) → OnOpened old story kept (λ w. (image : Image) → story_now.may story.moment image → KeepsSome w h image)

-- there is one history, served so, whose run over the records that were read, which lie within the budget, makes of so many fresh lanes the last ones and writes all that was written; what was read ends with a tail behind the records
pub record HasRun (Run : List Lane → List Record → Deed → List Lane → Type 0) (Served : History → Type 0) (lanes budget : ℕ) (before after : ToldStreams) (last : List Lane) (tail : List ℕ) : Type 0 where
  pub records : List Record
  pub entries : History
  pub output : List ℕ
  pub read : List ℕ
  pub took : Took before.source.rest after.source.rest read
  pub spelling : read ≡ flat_map spelled_record records ++ tail
  pub valid : All (IsRecord lanes) records
  pub within : length (flat_map spelled_record records) ≤ budget
  pub puts : Put before.sink.written after.sink.written output
  pub served : Served entries
  pub runs : Run (replicate lanes fresh) records (deed entries output) last

-- power was lost and the target couldn't be opened again: that record was read, and did nothing
abbrev pub EndsUnpowered : (History → Type 0) → ℕ → ℕ → ToldStreams → ToldStreams → Type 0
EndsUnpowered Served lanes budget before after =
    (last : List Lane) × (run : HasRun IsRun Served lanes budget before after last (spelled_record Power_loss))
    × (length (flat_map spelled_record run.records) + length (spelled_record Power_loss) ≤ budget) × NoneFailed before after

-- how a run of so many lanes that has begun ends at each exit
abbrev pub RunEnds : (History → Type 0) → ℕ → ℕ → Exit → ToldStreams → ToldStreams → Type 0
RunEnds Served lanes budget Done before after =
    (last : List Lane) × HasRun IsRun Served lanes budget before after last []
    × IsAtEnd after.source.rest × NoneFailed before after
RunEnds Served lanes budget ReadFault before after =
    (last : List Lane) × (tail : List ℕ) × (run : HasRun IsRun Served lanes budget before after last tail)
    × IsUnfinished (record_front lanes tail) × (length (flat_map spelled_record run.records) + length tail ≤ budget)
    × SourceFailed before after
RunEnds Served lanes budget WriteFault before after =
    (last : List Lane) × HasRun IsCutRun Served lanes budget before after last [] × SinkFailed before after
RunEnds Served lanes budget (BadSchedule place) before after =
    (last : List Lane) × (tail : List ℕ) × (run : HasRun IsRun Served lanes budget before after last tail)
    × (place ≡ length (flat_map spelled_record run.records)) × (place + length tail ≤ budget)
    × IsUnfinished (record_front lanes tail)
    × ((record_front lanes tail ≡ Faulty) ⊎ ((0 < length tail) × IsAtEnd after.source.rest))
    × NoneFailed before after
RunEnds Served lanes budget TooLong before after =
    (last : List Lane) × (tail : List ℕ) × (more : List ℕ) × (run : HasRun IsRun Served lanes budget before after last (tail ++ more))
    × (record_front lanes tail ≡ Partial) × (length (flat_map spelled_record run.records) + length tail ≡ budget)
    × (length more ≡ 1) × NoneFailed before after
RunEnds Served lanes budget BadWords before after = ⊥
RunEnds Served lanes budget NoMemory before after = EndsUnpowered Served lanes budget before after
RunEnds Served lanes budget (BadFile place) before after = EndsUnpowered Served lanes budget before after
RunEnds Served lanes budget DiskFault before after = EndsUnpowered Served lanes budget before after

-- the disk failed once, and nothing else was called
abbrev pub DiskFailed : Told → Told → Type 0
DiskFailed before after = (after.streams ≡ before.streams) × (after.medium ≡ before.medium) × (after.disk.faults ≡ next_fault before.disk.faults)

-- a run has begun and ended, and the disk failed so often more than saves did
abbrev pub HasEnded : ℕ → ℕ → ℕ → Exit → Told → Told → Story → Story → Type 0
HasEnded more lanes budget exit before after story story_now =
    RunEnds (IsServedOn more before.medium after.medium before.disk after.disk story story_now) lanes budget exit before.streams after.streams

-- how all stands at each exit. Where no run began, source, sink and medium are untouched and nothing was written to the disk; else power was lost and the target couldn't be opened again, which a disk that tells what it holds never is for what stands on it
abbrev pub Stands : Type 0 → ℕ → ℕ → Exit → Told → Told → Story → Story → Type 0
Stands Untouched lanes budget BadWords before after story story_now = after ≡ before
Stands Untouched lanes budget NoMemory before after story story_now =
    (Untouched × (after ≡ before) × Stays story story_now) ⊎ HasEnded 0 lanes budget NoMemory before after story story_now
Stands Untouched lanes budget (BadFile place) before after story story_now =
    (Untouched × (after ≡ before) × Stays story story_now × ((image : Image) → story.now ≡ Some image → file_restores image ≡ Bad place))
    ⊎ ((story_now.now ≡ None) × HasEnded 0 lanes budget (BadFile place) before after story story_now)
Stands Untouched lanes budget DiskFault before after story story_now =
    (Untouched × DiskFailed before after × Stays story story_now) ⊎ HasEnded 1 lanes budget DiskFault before after story story_now
Stands Untouched lanes budget exit before after story story_now = HasEnded 0 lanes budget exit before after story story_now

-- the cause of an exit that the schedule alone brings, where the source tells it; no more than so many bytes are looked at
abbrev pub Causes : ℕ → Exit → ℕ → Option (List ℕ) → Type 0
Causes lanes Done budget (Some all) = IsWhole lanes budget all
Causes lanes (BadSchedule place) budget (Some all) = IsBrokenAt lanes budget all place
Causes lanes TooLong budget (Some all) = IsLong lanes budget all
Causes lanes _ budget _ = Unit {0}

-- the exits that come before what the schedule alone brings
abbrev pub IsEarlier : Exit → Type 0
IsEarlier BadWords = Unit {0}
IsEarlier ReadFault = Unit {0}
IsEarlier WriteFault = Unit {0}
IsEarlier NoMemory = Unit {0}
IsEarlier (BadFile place) = Unit {0}
IsEarlier DiskFault = Unit {0}
IsEarlier _ = ⊥

-- what the schedule alone brings is the exit, but where an earlier one came
abbrev pub Decides : ℕ → Exit → ℕ → Option (List ℕ) → Type 0
Decides lanes exit budget None = Unit {0}
Decides lanes exit budget (Some all) =
    (IsWhole lanes budget all → IsEarlier exit ⊎ (exit ≡ Done))
    × ((place : ℕ) → IsBrokenAt lanes budget all place → IsEarlier exit ⊎ (exit ≡ BadSchedule place))
    × (IsLong lanes budget all → IsEarlier exit ⊎ (exit ≡ TooLong))

-- what a core and a lane, or a core and all lanes, did together: entries, and bytes put
pub record Ran {M D X : Type 0} {gm : media.Ghosts M} {gd : disks.Ghosts D} (Acts : X → Deed → X → Type 0) (before after : ToldSink) (old : Core M D gm gd) (l : X) (new : Core M D gm gd) (m : X) : Type 0 where
  pub entries : History
  pub output : List ℕ
  pub acts : Acts l (deed entries output) m
  pub extends : Extends old new entries
  pub puts : Put before.written after.written output

-- a run that goes on: what its core did, and its lanes, and how many bytes of the budget its records have left
pub record GoesOn {M D : Type 0} {gm : media.Ghosts M} {gd : disks.Ghosts D} (lanes budget left : ℕ) (start core : Core M D gm gd) (before here : ToldStreams) (now : List Lane) : Type 0 where
  pub run : HasRun IsRun (λ h. Extends start core h) lanes budget before here now []
  pub counted : length (flat_map spelled_record run.records) + left ≡ budget
  pub calm : NoneFailed before here

-- a core's disk that couldn't be opened again
pub record Reopened {M D : Type 0} {gm : media.Ghosts M} {gd : disks.Ghosts D} (fault : OpenFault) (core : Core M D gm gd) (disk : D) : Type 0 where
  pub reference : gd.reference disk ≡ gd.reference (disk_of core)
  pub stays : Stays (story_of core) (gd.story disk)
  pub untold : (w : World) → StandsFor core w → IsUntold fault (story_of core).now
  pub counted : IsFaultOf fault (gd.faults (disk_of core)) (gd.faults disk)

-- the disk that a run leaves: its core's, which couldn't be opened again where that is the exit
abbrev pub LeavesDisk : {M D : Type 0} {gm : media.Ghosts M} {gd : disks.Ghosts D} → Exit → Core M D gm gd → D → Type 0
LeavesDisk (BadFile place) core disk = Reopened (faults.BadFile place) core disk
LeavesDisk NoMemory core disk = Reopened faults.OutOfMemory core disk
LeavesDisk DiskFault core disk = Reopened faults.DiskFault core disk
LeavesDisk _ core disk = disk ≡ disk_of core

-- what a run leaves whose core made these entries from its start on
pub record Leaves {M D : Type 0} {gm : media.Ghosts M} {gd : disks.Ghosts D} (start : Core M D gm gd) (exit : Exit) (disk : D) (medium : M) (h : History) : Type 0 where
  pub core : Core M D gm gd
  pub extends : Extends start core h
  pub same : medium ≡ medium_of core
  pub left : LeavesDisk exit core disk
