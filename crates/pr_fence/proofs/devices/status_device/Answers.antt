use Rattle.pr_fence.specs.Steps.{Opens}
use Rattle.pr_fence.specs.Devices.{FindsAndLeaves}
use Rattle.pr_fence.proofs.Stepping.{went, failed}
use Rattle.pr_fence.proofs.devices.status_device.Goals as goal

pub returns-in-Ok-clause-step : goal.returns-in-Ok-clause-step
returns-in-Ok-clause-step g c = went (Opens c.args.address.now c.args.nexus) (λ u. FindsAndLeaves c.args.key) _ _ _ c.open.result tt _ (c.open.ensures.step) c.in-Ok.is c.find_and_leave.ensures.step

pub returns-in-Err-clause-step : goal.returns-in-Err-clause-step
returns-in-Err-clause-step g c = failed (Opens c.args.address.now c.args.nexus) (λ u. FindsAndLeaves c.args.key) _ _ c.open.result c.in-Err.fault (c.open.ensures.step) c.in-Err.is
