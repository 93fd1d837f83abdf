use Rattle.pr_fence.specs.Steps.{Checks, Leaves}
use Rattle.pr_fence.proofs.Stepping.{went, failed}
use Rattle.pr_fence.proofs.devices.check_and_leave.Goals as goal

pub returns-in-Ok-clause-step : goal.returns-in-Ok-clause-step
returns-in-Ok-clause-step g c = went (Checks c.args.victim) (λ u. Leaves c.args.was) _ _ _ c.check.result tt _ (c.check.ensures.step) c.in-Ok.is c.leave.ensures.step

pub returns-in-Err-clause-step : goal.returns-in-Err-clause-step
returns-in-Err-clause-step g c = failed (Checks c.args.victim) (λ u. Leaves c.args.was) _ _ c.check.result c.in-Err.fault (c.check.ensures.step) c.in-Err.is
