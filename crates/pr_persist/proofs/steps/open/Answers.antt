use Rattle.std.specs.Prelude.{Ok, Err}
use Rattle.pr_persist.specs.declared.asked.Asked.TheVariants as ask
use Rattle.pr_initiator.specs.Logins.{HasDialled}
use Rattle.pr_persist.specs.Runs.{Enters, Linked}
use Rattle.pr_persist.proofs.Stepping.{ended, went, linked}
use Rattle.pr_persist.proofs.steps.open.Goals as goal

pub returns-in-Ok-clause-step : goal.returns-in-Ok-clause-step
returns-in-Ok-clause-step g c =
    went (Linked ask.Connection (HasDialled c.args.plan.now.address.now)) (λ u. Enters c.args.plan.now.nexus) _ _ _ tt _ (linked ask.Connection (HasDialled c.args.plan.now.address.now) _ _ c.dial.result c.linked.result (Ok tt) c.dial.ensures.step c.linked.ensures c.in-Ok.is) c.enter.ensures.step

pub returns-in-Err-clause-step : goal.returns-in-Err-clause-step
returns-in-Err-clause-step g c =
    ended (Linked ask.Connection (HasDialled c.args.plan.now.address.now)) (λ u. Enters c.args.plan.now.nexus) _ _ c.in-Err.exit (linked ask.Connection (HasDialled c.args.plan.now.address.now) _ _ c.dial.result c.linked.result (Err c.in-Err.exit) c.dial.ensures.step c.linked.ensures c.in-Err.is)
