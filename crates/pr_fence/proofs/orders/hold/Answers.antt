use Rattle.pr_fence.specs.Steps.{Asks, Unless, Reserves}
use Rattle.pr_fence.proofs.Stepping.{went, failed}
use Rattle.pr_fence.proofs.orders.hold.Goals as goal

pub returns-in-Ok-clause-step : goal.returns-in-Ok-clause-step
returns-in-Ok-clause-step g c = went (Asks) (λ held. Unless held (Reserves c.args.own)) _ _ _ c.is_held.result c.in-Ok.held _ (c.is_held.ensures.step) c.in-Ok.is c.reserve_unless.ensures.step

pub returns-in-Err-clause-step : goal.returns-in-Err-clause-step
returns-in-Err-clause-step g c = failed (Asks) (λ held. Unless held (Reserves c.args.own)) _ _ c.is_held.result c.in-Err.fault (c.is_held.ensures.step) c.in-Err.is
