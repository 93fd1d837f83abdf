-- What acts and outcomes mean, over the bytes of the work buffer.
use Rattle.std.specs.Prelude.{ℕ, List, [], take}
use Rattle.pr_model.specs.Entries as entries
use Rattle.pr_model.specs.Lanes.{carried}
use Rattle.pr_core.specs.Outs.{out_of, step_out, IsProper, IsFed}
use Rattle.pr_session.specs.declared.act.Out.{Out}
use Rattle.pr_session.specs.declared.act.Out.TheVariants as outs
use Rattle.pr_session.specs.declared.asked.Asked.{Asked}
use Rattle.pr_session.specs.declared.asked.Asked.TheVariants.{Login, Command, Step, Logout, Reject}
use Rattle.pr_session.specs.Places.{data_in}
use Rattle.pr_session.specs.Jobs.{job_of, block_in, FitsStep}

-- the act that is asked for
abbrev pub act_by : Asked → List ℕ → entries.Act
act_by (Login head n version) work = entries.Login version
act_by (Command head n cdb sent) work = entries.Command head.lun cdb (take sent (data_in work))
act_by (Step n j) work = entries.Step (carried (job_of j work))
act_by (Logout head n) work = entries.Logout
act_by (Reject n r) work = entries.Logout

-- the block that a step moves
abbrev pub block_by : Asked → List ℕ → List ℕ
block_by (Step n j) work = block_in j work
block_by _ work = []

abbrev pub outcome_by : Asked → Out → List ℕ → entries.Out
outcome_by a (outs.Login code) work = entries.Login_code code
outcome_by a (outs.Command out) work = out_of out (data_in work)
outcome_by a (outs.Step out) work = step_out out (block_by a work)
outcome_by a outs.Logout work = entries.Left

-- an outcome that what is asked for can have
abbrev pub Fits : Asked → Out → Type 0
Fits (Login head n version) (outs.Login code) = Unit {0}
Fits (Command head n cdb sent) (outs.Command out) = IsProper out × IsFed out sent
Fits (Step n j) (outs.Step out) = FitsStep j out
Fits (Logout head n) outs.Logout = Unit {0}
Fits (Reject n r) outs.Logout = Unit {0}
Fits _ _ = ⊥
