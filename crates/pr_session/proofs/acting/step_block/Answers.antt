use Rattle.std.proofs.Common.{sym, subst, ℕ, List}
use Rattle.pr_core.specs.Outs.{IsCarried}
use Rattle.pr_session.proofs.acting.step_block.Goals as goal

pub returns-clause-entry : goal.returns-clause-entry
returns-clause-entry g c sent carried = c.step.ensures.entry sent (subst (λ (b : List ℕ). IsCarried c.step.result sent b) (sym c.in-Some.ensures.cases.same) carried)
