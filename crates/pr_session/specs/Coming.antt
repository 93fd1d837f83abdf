-- What a core has of a session's nexus.
use Rattle.std.specs.Prelude.{◌≡◌, ℕ, ◌+◌, ◌*◌, ◌≤◌, List, length, Some, None}
use Rattle.pr_words.specs.declared.nexus.Nexus.{Nexus}
use Rattle.pr_words.specs.declared.limits.TheConstants.{BLOCK, DATA, TRANSFER}
use Rattle.pr_words.specs.declared.task.Way.{Way}
use Rattle.pr_words.specs.declared.task.Way.TheVariants as ways
use Rattle.pr_model.specs.Lanes.{Job, Phase, Fresh, In, Busy, Dead}
use Rattle.pr_io.specs.declared.outside.Medium as media
use Rattle.pr_io.specs.declared.outside.Disk as disks
use Rattle.pr_core.specs.declared.target.Core.{Core}
use Rattle.pr_core.specs.States.{Progress}
use Rattle.pr_core.specs.View.{owner_of, progress_of}
use Rattle.pr_session.specs.declared.asked.Asked.{Asked}
use Rattle.pr_session.specs.declared.asked.Asked.TheVariants.{Login, Command, Step, Logout, Reject}
use Rattle.pr_session.specs.Jobs.{job_of}

-- the nexus is logged in under the number, and no task of it runs
abbrev pub IsIdleIn : {M D : Type 0} {gm : media.Ghosts M} {gd : disks.Ghosts D} → Core M D gm gd → ℕ → Nexus → Type 0
IsIdleIn c who n = (owner_of c n ≡ Some who) × (progress_of c n ≡ None)

-- so many bytes of a task have come, of a READ, or are still to be carried, of a WRITE
abbrev pub HasCome : Way → Progress → ℕ → Type 0
HasCome ways.Read p size = (size ≡ BLOCK * p.done) × (p.done ≤ p.count)
HasCome ways.Write p size = size + BLOCK * p.done ≡ BLOCK * p.count

-- the nexus is logged in under the number, and its task has come as far as the session has
pub record RunsTask {M D : Type 0} {gm : media.Ghosts M} {gd : disks.Ghosts D} (c : Core M D gm gd) (who : ℕ) (n : Nexus) (j : Job) : Type 0 where
  pub owner : owner_of c n ≡ Some who
  pub progress : Progress
  pub runs : progress_of c n ≡ Some progress
  pub way : progress.way ≡ j.way
  pub come : HasCome j.way progress (length j.bytes)
  pub few : progress.count ≤ TRANSFER

-- the core has what a lane has reached
abbrev pub Agrees : {M D : Type 0} {gm : media.Ghosts M} {gd : disks.Ghosts D} → Phase → ℕ → Core M D gm gd → Type 0
Agrees Fresh who c = Unit {0}
Agrees (In n) who c = IsIdleIn c who n
Agrees (Busy n j) who c = RunsTask c who n j
Agrees Dead who c = Unit {0}

-- the core has what an act needs that is asked for
abbrev pub IsReady : {M D : Type 0} {gm : media.Ghosts M} {gd : disks.Ghosts D} → Asked → List ℕ → Core M D gm gd → ℕ → Type 0
IsReady (Login head n version) work c who = Unit {0}
IsReady (Command head n cdb sent) work c who = IsIdleIn c who n × (sent ≤ DATA)
IsReady (Step n j) work c who = RunsTask c who n (job_of j work)
IsReady (Logout head n) work c who = owner_of c n ≡ Some who
IsReady (Reject n r) work c who = owner_of c n ≡ Some who
