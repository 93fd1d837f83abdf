use Rattle.pr_fence.specs.Steps.{Finds, Leaves}
use Rattle.pr_fence.proofs.Stepping.{went, failed}
use Rattle.pr_fence.proofs.devices.find_and_leave.Goals as goal

pub returns-in-Ok-clause-step : goal.returns-in-Ok-clause-step
returns-in-Ok-clause-step g c = went (Finds c.args.key) (Leaves) _ _ _ c.find.result c.in-Ok.found _ (c.find.ensures.step) c.in-Ok.is c.leave.ensures.step

pub returns-in-Err-clause-step : goal.returns-in-Err-clause-step
returns-in-Err-clause-step g c = failed (Finds c.args.key) (Leaves) _ _ c.find.result c.in-Err.fault (c.find.ensures.step) c.in-Err.is
