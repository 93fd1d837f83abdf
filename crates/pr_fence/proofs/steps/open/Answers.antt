use Rattle.pr_initiator.specs.Logins.{HasDialled}
use Rattle.pr_fence.specs.declared.asked.Asked.TheVariants as ask
use Rattle.pr_fence.specs.Steps.{Linked, Enters}
use Rattle.pr_fence.proofs.Stepping.{went, failed, linked}
use Rattle.pr_fence.proofs.steps.open.Goals as goal

pub returns-in-Ok-clause-step : goal.returns-in-Ok-clause-step
returns-in-Ok-clause-step g c = went (Linked ask.Connection (HasDialled c.args.address.now)) (λ u. Enters c.args.nexus) _ _ _ c.linked.result tt _ (linked ask.Connection (HasDialled c.args.address.now) _ _ c.dial.result c.linked.result c.dial.ensures.step c.linked.ensures) c.in-Ok.is c.enter.ensures.step

pub returns-in-Err-clause-step : goal.returns-in-Err-clause-step
returns-in-Err-clause-step g c = failed (Linked ask.Connection (HasDialled c.args.address.now)) (λ u. Enters c.args.nexus) _ _ c.linked.result c.in-Err.fault (linked ask.Connection (HasDialled c.args.address.now) _ _ c.dial.result c.linked.result c.dial.ensures.step c.linked.ensures) c.in-Err.is
