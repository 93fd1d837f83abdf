use Rattle.pr_fence.specs.Steps.{Registers}
use Rattle.pr_fence.specs.Devices.{HoldsAndCloses}
use Rattle.pr_fence.proofs.Stepping.{went, failed}
use Rattle.pr_fence.proofs.devices.join.Goals as goal

pub returns-in-Ok-clause-step : goal.returns-in-Ok-clause-step
returns-in-Ok-clause-step g c = went (Registers c.args.own c.args.aptpl) (λ u. HoldsAndCloses c.args.own) _ _ _ c.register.result tt _ (c.register.ensures.step) c.in-Ok.is c.hold_and_close.ensures.step

pub returns-in-Err-clause-step : goal.returns-in-Err-clause-step
returns-in-Err-clause-step g c = failed (Registers c.args.own c.args.aptpl) (λ u. HoldsAndCloses c.args.own) _ _ c.register.result c.in-Err.fault (c.register.ensures.step) c.in-Err.is
