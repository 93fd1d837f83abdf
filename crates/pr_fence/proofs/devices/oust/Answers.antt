use Rattle.pr_fence.specs.Steps.{Where, Removes}
use Rattle.pr_fence.specs.Devices.{ChecksAndLeaves}
use Rattle.pr_fence.proofs.Stepping.{went, failed}
use Rattle.pr_fence.proofs.devices.oust.Goals as goal

pub returns-in-Ok-clause-step : goal.returns-in-Ok-clause-step
returns-in-Ok-clause-step g c = went (Where c.args.was (Removes c.args.own c.args.victim)) (λ u. ChecksAndLeaves c.args.victim c.args.was) _ _ _ c.remove_where.result tt _ (c.remove_where.ensures.step) c.in-Ok.is c.check_and_leave.ensures.step

pub returns-in-Err-clause-step : goal.returns-in-Err-clause-step
returns-in-Err-clause-step g c = failed (Where c.args.was (Removes c.args.own c.args.victim)) (λ u. ChecksAndLeaves c.args.victim c.args.was) _ _ c.remove_where.result c.in-Err.fault (c.remove_where.ensures.step) c.in-Err.is
