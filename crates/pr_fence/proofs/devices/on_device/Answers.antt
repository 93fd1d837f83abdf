use Rattle.pr_fence.specs.Steps.{Opens}
use Rattle.pr_fence.specs.Devices.{Joins}
use Rattle.pr_fence.proofs.Stepping.{went, failed}
use Rattle.pr_fence.proofs.devices.on_device.Goals as goal

pub returns-in-Ok-clause-step : goal.returns-in-Ok-clause-step
returns-in-Ok-clause-step g c = went (Opens c.args.address.now c.args.nexus) (λ u. Joins c.args.own c.args.aptpl) _ _ _ c.open.result tt _ (c.open.ensures.step) c.in-Ok.is c.join.ensures.step

pub returns-in-Err-clause-step : goal.returns-in-Err-clause-step
returns-in-Err-clause-step g c = failed (Opens c.args.address.now c.args.nexus) (λ u. Joins c.args.own c.args.aptpl) _ _ c.open.result c.in-Err.fault (c.open.ensures.step) c.in-Err.is
