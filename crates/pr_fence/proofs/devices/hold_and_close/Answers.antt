use Rattle.pr_fence.specs.Steps.{Holds, Closes}
use Rattle.pr_fence.proofs.Stepping.{went, failed}
use Rattle.pr_fence.proofs.devices.hold_and_close.Goals as goal

pub returns-in-Ok-clause-step : goal.returns-in-Ok-clause-step
returns-in-Ok-clause-step g c = went (Holds c.args.own) (λ u. Closes) _ _ _ c.hold.result tt _ (c.hold.ensures.step) c.in-Ok.is c.close.ensures.step

pub returns-in-Err-clause-step : goal.returns-in-Err-clause-step
returns-in-Err-clause-step g c = failed (Holds c.args.own) (λ u. Closes) _ _ c.hold.result c.in-Err.fault (c.hold.ensures.step) c.in-Err.is
