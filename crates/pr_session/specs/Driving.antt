-- A session and a core that go on together.
use Rattle.std.specs.Prelude.{◌≡◌, ℕ, suc, ◌-◌, ◌<◌, List, [], ◌∷◌, length, slice_get, Some}
use Rattle.pr_words.specs.declared.limits.TheConstants.{DATA}
use Rattle.pr_words.specs.declared.task.Way.{Way}
use Rattle.pr_words.specs.declared.task.Way.TheVariants as ways
use Rattle.pr_model.specs.Entries.{History, entry}
use Rattle.pr_model.specs.Lanes.{Lane, Phase, Fresh, In, Busy, Dead, Turn}
use Rattle.pr_model.specs.Runs.{Makes}
use Rattle.pr_io.specs.declared.outside.Medium as media
use Rattle.pr_io.specs.declared.outside.Disk as disks
use Rattle.pr_core.specs.declared.target.Core.{Core}
use Rattle.pr_core.specs.View.{Extends}
use Rattle.pr_session.specs.declared.act.Out.{Out}
use Rattle.pr_session.specs.declared.session.Session.{Session}
use Rattle.pr_session.specs.declared.asked.Asked.{Asked}
use Rattle.pr_session.specs.declared.asked.Asked.TheVariants.{Step}
use Rattle.pr_session.specs.Jobs.{job_of}
use Rattle.pr_session.specs.Acts.{act_by, outcome_by, Fits}
use Rattle.pr_session.specs.Asking.{nexus_in, next_by}
use Rattle.pr_session.specs.States.{asked_in}
use Rattle.pr_session.specs.Sessions.{work_of}
use Rattle.pr_session.specs.Coming.{IsReady}
pub use Rattle.pr_session.specs.Coming.{Agrees}

-- the core has what each lane has reached, by the number of its place
abbrev pub AllAgree : {M D : Type 0} {gm : media.Ghosts M} {gd : disks.Ghosts D} → List Lane → Core M D gm gd → Type 0
AllAgree lanes c = (place : ℕ) (l : Lane) → slice_get lanes place ≡ Some l → Agrees l.phase place c

-- a turn waits for the outcome of its act, for which the core has what it needs
abbrev pub IsReadyIn : {M D : Type 0} {gm : media.Ghosts M} {gd : disks.Ghosts D} → Session → Core M D gm gd → ℕ → Type 0
IsReadyIn s c who = (a : Asked) × (asked_in s.state ≡ Some a) × IsReady a (work_of s) c who

-- how much of its lane's task is left at the most: its bytes, and its last step
abbrev pub left_by : Way → ℕ → ℕ
left_by ways.Read size = suc (DATA - size)
left_by ways.Write size = suc size

abbrev pub left_of : Phase → ℕ
left_of Fresh = 0
left_of (In n) = 0
left_of (Busy n j) = left_by j.way (length j.bytes)
left_of Dead = 0

-- a step leaves less of its task
abbrev pub GoesOn : Asked → List ℕ → Phase → Type 0
GoesOn (Step n j) work next = left_of next < left_by j.way (length (job_of j work).bytes)
GoesOn _ work next = Unit {0}

-- where a task ran, less of it is left
abbrev pub LeavesLess : Phase → Phase → Type 0
LeavesLess (Busy n j) next = left_of next < left_of (Busy n j)
LeavesLess _ next = Unit {0}

-- an act that was asked for was done by a core, with these bytes in the work buffer and then those: by just its entry; the turn that it ends is the same over both, the core has what the lane has then reached, and of a task less is left
pub record Does {M D : Type 0} {gm : media.Ghosts M} {gd : disks.Ghosts D} (a : Asked) (who : ℕ) (old : Core M D gm gd) (work : List ℕ) (out : Out) (new : Core M D gm gd) (left : List ℕ) : Type 0 where
  pub made : Extends old new (entry who (nexus_in a) (act_by a work) (outcome_by a out left) ∷ [])
  pub fits : Fits a out
  pub goes : (held : List ℕ) (place : ℕ) → next_by a left held place (outcome_by a out left) ≡ next_by a work held place (outcome_by a out left)
  pub agrees : (held : List ℕ) (place : ℕ) → Agrees (next_by a left held place (outcome_by a out left)).lane.phase who new
  pub onward : (held : List ℕ) (place : ℕ) → GoesOn a work (next_by a left held place (outcome_by a out left)).lane.phase

-- a turn of a lane was made, by entries of the core
pub record Follows {M D : Type 0} {gm : media.Ghosts M} {gd : disks.Ghosts D} (who : ℕ) (old : Core M D gm gd) (l : Lane) (t : Turn) (new : Core M D gm gd) (m : Lane) (reply : List ℕ) : Type 0 where
  pub entries : History
  pub makes : Makes who l t entries reply m
  pub extends : Extends old new entries
