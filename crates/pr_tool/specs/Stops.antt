-- What one record of a schedule did, and why a run stops.
use Rattle.std.specs.Prelude.{◌≡◌, ℕ, ◌≤◌, List, length, Result, Ok, Err}
use Rattle.pr_io.specs.Streams.{Took}
use Rattle.pr_io.specs.Told.{ToldStreams, NoneFailed, SinkFailed}
use Rattle.pr_grammar.specs.Schedules.{Record, Power_loss, IsRecord, spelled_record}
use Rattle.pr_model.specs.Lanes.{Lane}
use Rattle.pr_model.specs.Runs.{ActsOn, RunsOn, CutsRecord}
use Rattle.pr_io.specs.declared.outside.Medium as media
use Rattle.pr_io.specs.declared.outside.Disk as disks
use Rattle.pr_core.specs.declared.target.Core.{Core}
use Rattle.pr_aptpl.specs.declared.fault.OpenFault.{OpenFault}
use Rattle.pr_aptpl.specs.declared.fault.OpenFault.TheVariants as faults
use Rattle.pr_tool.specs.Reading.{Stops}
use Rattle.pr_tool.specs.Counting.{faults_at}
use Rattle.pr_tool.specs.Exits.{Ran}
use Rattle.pr_tool.specs.declared.exit.Exit.{Exit}
use Rattle.pr_tool.specs.declared.exit.Exit.TheVariants as exits
use Rattle.pr_tool.specs.declared.schedule.End.{End}
use Rattle.pr_tool.specs.declared.schedule.End.TheVariants.{Done, ReadFault, Broken, TooLong}
use Rattle.pr_tool.specs.declared.replay.Event.{Event}
use Rattle.pr_tool.specs.declared.replay.Event.TheVariants as events
use Rattle.pr_tool.specs.declared.replay.Stop.{Stop}
use Rattle.pr_tool.specs.declared.replay.Stop.TheVariants as stop

abbrev pub exit_at : End → ℕ → Exit
exit_at Done place = exits.Done
exit_at ReadFault place = exits.ReadFault
exit_at Broken place = exits.BadSchedule place
exit_at TooLong place = exits.TooLong

-- the exit with which a run stops behind so many bytes of whole records
abbrev pub exit_of : Stop → ℕ → Exit
exit_of (stop.Read end) place = exit_at end place
exit_of stop.Write place = exits.WriteFault

-- the exit of a target that couldn't be opened
abbrev pub unopened_of : OpenFault → Exit
unopened_of (faults.BadFile place) = exits.BadFile place
unopened_of faults.DiskFault = exits.DiskFault
unopened_of faults.OutOfMemory = exits.NoMemory

-- a record that was read, and what it did on its lane, of so many, or on all
pub record Did {M D : Type 0} {gm : media.Ghosts M} {gd : disks.Ghosts D} (lanes left : ℕ) (before after : ToldStreams) (old : Core M D gm gd) (earlier : List Lane) (new : Core M D gm gd) (now : List Lane) (size : ℕ) : Type 0 where
  pub first : Record
  pub took : Took before.source.rest after.source.rest (spelled_record first)
  pub valid : IsRecord lanes first
  pub within : length (spelled_record first) ≤ left
  pub ran : Ran (RunsOn first) before.sink after.sink old earlier new now
  pub counted : size ≡ length (spelled_record first)
  pub some : 4 ≤ size
  pub calm : NoneFailed before after

-- power is lost, as was read, and nothing has come of it yet
pub record LosesPower {M D : Type 0} {gm : media.Ghosts M} {gd : disks.Ghosts D} (lanes left : ℕ) (before after : ToldStreams) (old : Core M D gm gd) (earlier : List Lane) (new : Core M D gm gd) (now : List Lane) : Type 0 where
  pub took : Took before.source.rest after.source.rest (spelled_record Power_loss)
  pub valid : IsRecord lanes Power_loss
  pub within : length (spelled_record Power_loss) ≤ left
  pub faults : after.source.faults ≡ before.source.faults
  pub sink : after.sink ≡ before.sink
  pub core : new ≡ old
  pub lanes_stay : now ≡ earlier

-- a record that was read, and acted until a reply couldn't be written
pub record WasCut {M D : Type 0} {gm : media.Ghosts M} {gd : disks.Ghosts D} (lanes left : ℕ) (before after : ToldStreams) (old : Core M D gm gd) (earlier : List Lane) (new : Core M D gm gd) : Type 0 where
  pub first : Record
  pub took : Took before.source.rest after.source.rest (spelled_record first)
  pub valid : IsRecord lanes first
  pub within : length (spelled_record first) ≤ left
  pub last : List Lane
  pub ran : Ran (ActsOn CutsRecord first) before.sink after.sink old earlier new last
  pub failed : SinkFailed before after

abbrev pub StopsBy : {M D : Type 0} {gm : media.Ghosts M} {gd : disks.Ghosts D} → ℕ → ℕ → Stop → ToldStreams → ToldStreams → Core M D gm gd → List Lane → Core M D gm gd → Type 0
StopsBy lanes left (stop.Read end) before after old earlier new =
    Stops lanes left end before.source.rest after.source.rest
    × (after.source.faults ≡ faults_at end before.source.faults) × (after.sink ≡ before.sink) × (new ≡ old)
StopsBy lanes left stop.Write before after old earlier new = WasCut lanes left before after old earlier new

-- what one record did, of so many bytes that may still be looked at, or why the run stops
abbrev pub RunsOne : {M D : Type 0} {gm : media.Ghosts M} {gd : disks.Ghosts D} → ℕ → ℕ → Result Event Stop → ToldStreams → ToldStreams → Core M D gm gd → List Lane → Core M D gm gd → List Lane → Type 0
RunsOne lanes left (Ok (events.Acted size)) before after old earlier new now = Did lanes left before after old earlier new now size
RunsOne lanes left (Ok events.PowerLoss) before after old earlier new now = LosesPower lanes left before after old earlier new now
RunsOne lanes left (Err s) before after old earlier new now = StopsBy lanes left s before after old earlier new
