-- What a session has reached.
use Rattle.std.specs.Prelude.{◌≡◌, ℕ, Bool, true, false, List, [], Option, Some, None}
use Rattle.pr_words.specs.declared.nexus.Nexus.{Nexus}
use Rattle.pr_model.specs.Lanes as lanes
use Rattle.pr_model.specs.Lanes.{Turned, turned, dead}
use Rattle.pr_session.specs.declared.state.Rejection.{Rejection}
use Rattle.pr_session.specs.declared.state.State.{State}
use Rattle.pr_session.specs.declared.state.State.TheVariants.{Fresh, In, Busy, Dead, Asking}
use Rattle.pr_session.specs.declared.asked.Asked.{Asked}
use Rattle.pr_session.specs.declared.asked.Asked.TheVariants as asked
use Rattle.pr_session.specs.declared.act.Out as acts
use Rattle.pr_session.specs.Jobs.{job_of, moved_of}
use Rattle.pr_session.specs.Acts.{outcome_by}
use Rattle.pr_session.specs.Asking.{next_by, rejection_by}

-- no turn is under way
abbrev pub is_settled : State → Bool
is_settled Fresh = true
is_settled (In n) = true
is_settled (Busy n j) = true
is_settled (Dead r) = true
is_settled (Asking a) = false

abbrev pub IsSettledIn : State → Type 0
IsSettledIn s = is_settled s ≡ true

-- what a session has reached, where no turn is under way, with these bytes in the work buffer
abbrev pub phase_of : State → List ℕ → lanes.Phase
phase_of Fresh work = lanes.Fresh
phase_of (In n) work = lanes.In n
phase_of (Busy n j) work = lanes.Busy n (job_of j work)
phase_of (Dead r) work = lanes.Dead
phase_of (Asking a) work = lanes.Dead

-- a task runs
abbrev pub is_busy : State → Bool
is_busy (Busy n j) = true
is_busy _ = false

-- whose task runs, and how many blocks of it are moved
abbrev pub moved_in : State → Option (Nexus × ℕ)
moved_in (Busy n j) = Some (n, moved_of j)
moved_in _ = None

abbrev pub nexus_by : Asked → Option Nexus
nexus_by (asked.Login head n version) = None
nexus_by (asked.Command head n cdb sent) = Some n
nexus_by (asked.Step n j) = Some n
nexus_by (asked.Logout head n) = Some n
nexus_by (asked.Reject n r) = Some n

-- the nexus that is logged in
abbrev pub nexus_at : State → Option Nexus
nexus_at Fresh = None
nexus_at (In n) = Some n
nexus_at (Busy n j) = Some n
nexus_at (Dead r) = None
nexus_at (Asking a) = nexus_by a

-- the Reject that was made
abbrev pub rejection_at : State → Option Rejection
rejection_at (Dead r) = r
rejection_at _ = None

-- what the turn under way asks for: by a frame that came, or by the task that runs
abbrev pub asked_in : State → Option Asked
asked_in (Asking a) = Some a
asked_in (Busy n j) = Some (asked.Step n j)
asked_in _ = None

-- what the turn under way makes of an outcome
abbrev pub next_for : Option Asked → List ℕ → List ℕ → ℕ → acts.Out → Turned
next_for (Some a) work held place out = next_by a work held place (outcome_by a out work)
next_for None work held place out = turned dead []

abbrev pub next_at : State → List ℕ → List ℕ → ℕ → acts.Out → Turned
next_at s work held place out = next_for (asked_in s) work held place out

-- the Reject with which the turn under way ends
abbrev pub rejection_in : State → Option Rejection
rejection_in (Asking a) = rejection_by a
rejection_in _ = None

-- a session that lives, where this nexus is logged in
abbrev pub living : Option Nexus → State
living None = Fresh
living (Some n) = In n

-- what it has then reached
abbrev pub phase_in : Option Nexus → lanes.Phase
phase_in None = lanes.Fresh
phase_in (Some n) = lanes.In n
