use Rattle.std.proofs.Common.{refl}
use Rattle.pr_fence.specs.Steps.{Finds, Gives, gone_by}
use Rattle.pr_fence.proofs.Stepping.{went, failed}
use Rattle.pr_fence.proofs.orders.check.Goals as goal

pub returns-in-Ok-clause-step : goal.returns-in-Ok-clause-step
returns-in-Ok-clause-step g c = went (Finds c.args.victim) (λ there. Gives (gone_by there)) _ _ _ c.find.result c.in-Ok.is_there _ (c.find.ensures.step) c.in-Ok.is (refl, c.gone.ensures)

pub returns-in-Err-clause-step : goal.returns-in-Err-clause-step
returns-in-Err-clause-step g c = failed (Finds c.args.victim) (λ there. Gives (gone_by there)) _ _ c.find.result c.in-Err.fault (c.find.ensures.step) c.in-Err.is
