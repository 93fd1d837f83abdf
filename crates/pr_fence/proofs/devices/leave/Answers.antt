use Rattle.std.proofs.Common.{refl}
use Rattle.std.specs.Prelude.{Ok}
use Rattle.pr_fence.specs.Steps.{Closes, Gives}
use Rattle.pr_fence.proofs.Stepping.{went, failed}
use Rattle.pr_fence.proofs.devices.leave.Goals as goal

pub returns-in-Ok-clause-step : goal.returns-in-Ok-clause-step
returns-in-Ok-clause-step g c = went (Closes) (λ u. Gives (Ok c.args.found)) _ _ _ c.close.result tt _ (c.close.ensures.step) c.in-Ok.is (refl, refl)

pub returns-in-Err-clause-step : goal.returns-in-Err-clause-step
returns-in-Err-clause-step g c = failed (Closes) (λ u. Gives (Ok c.args.found)) _ _ c.close.result c.in-Err.fault (c.close.ensures.step) c.in-Err.is
