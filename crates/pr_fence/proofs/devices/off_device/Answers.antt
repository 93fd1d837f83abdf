use Rattle.pr_fence.specs.Steps.{Opens}
use Rattle.pr_fence.specs.Devices.{LooksAndOusts}
use Rattle.pr_fence.proofs.Ousted.{ousted_if}
use Rattle.pr_fence.proofs.Stepping.{went, failed}
use Rattle.pr_fence.proofs.devices.off_device.Goals as goal

pub returns-in-Ok-clause-step : goal.returns-in-Ok-clause-step
returns-in-Ok-clause-step g c = went (Opens c.args.address.now c.args.nexus) (λ u. LooksAndOusts c.args.nexus c.args.own c.args.victim c.args.aptpl) _ _ _ c.open.result tt _ (c.open.ensures.step) c.in-Ok.is c.look_and_oust.ensures.step

pub returns-in-Err-clause-step : goal.returns-in-Err-clause-step
returns-in-Err-clause-step g c = failed (Opens c.args.address.now c.args.nexus) (λ u. LooksAndOusts c.args.nexus c.args.own c.args.victim c.args.aptpl) _ _ c.open.result c.in-Err.fault (c.open.ensures.step) c.in-Err.is

pub returns-in-Ok-clause-ousts : goal.returns-in-Ok-clause-ousts
returns-in-Ok-clause-ousts g c = ousted_if c.args.address.now c.args.nexus c.args.own c.args.victim c.args.aptpl _ _ c.look_and_oust.result (returns-in-Ok-clause-step g c)
