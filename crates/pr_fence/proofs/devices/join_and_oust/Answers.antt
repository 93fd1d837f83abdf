use Rattle.pr_fence.specs.Steps.{Unless, Registers}
use Rattle.pr_fence.specs.Devices.{HoldsAndOusts}
use Rattle.pr_fence.proofs.Stepping.{went, failed}
use Rattle.pr_fence.proofs.devices.join_and_oust.Goals as goal

pub returns-in-Ok-clause-step : goal.returns-in-Ok-clause-step
returns-in-Ok-clause-step g c = went (Unless c.args.sight.own (Registers c.args.own c.args.aptpl)) (λ u. HoldsAndOusts c.args.own c.args.victim c.args.sight.victim) _ _ _ c.register_unless.result tt _ (c.register_unless.ensures.step) c.in-Ok.is c.hold_and_oust.ensures.step

pub returns-in-Err-clause-step : goal.returns-in-Err-clause-step
returns-in-Err-clause-step g c = failed (Unless c.args.sight.own (Registers c.args.own c.args.aptpl)) (λ u. HoldsAndOusts c.args.own c.args.victim c.args.sight.victim) _ _ c.register_unless.result c.in-Err.fault (c.register_unless.ensures.step) c.in-Err.is
