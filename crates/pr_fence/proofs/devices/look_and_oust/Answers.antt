use Rattle.pr_fence.specs.Steps.{Looks}
use Rattle.pr_fence.specs.Devices.{JoinsAndOusts}
use Rattle.pr_fence.proofs.Stepping.{went, failed}
use Rattle.pr_fence.proofs.devices.look_and_oust.Goals as goal

pub returns-in-Ok-clause-step : goal.returns-in-Ok-clause-step
returns-in-Ok-clause-step g c = went (Looks c.args.nexus c.args.own c.args.victim) (JoinsAndOusts c.args.own c.args.victim c.args.aptpl) _ _ _ c.look.result c.in-Ok.sight _ (c.look.ensures.step) c.in-Ok.is c.join_and_oust.ensures.step

pub returns-in-Err-clause-step : goal.returns-in-Err-clause-step
returns-in-Err-clause-step g c = failed (Looks c.args.nexus c.args.own c.args.victim) (JoinsAndOusts c.args.own c.args.victim c.args.aptpl) _ _ c.look.result c.in-Err.fault (c.look.ensures.step) c.in-Err.is
