use Rattle.pr_words.specs.declared.code.TheConstants as code
use Rattle.pr_initiator.specs.Commands.{IsReady}
use Rattle.pr_initiator.specs.Logins.{HasLoggedIn}
use Rattle.pr_fence.specs.declared.asked.Asked.TheVariants as ask
use Rattle.pr_fence.specs.Steps.{Linked, Judged}
use Rattle.pr_fence.proofs.Stepping.{went, failed, linked, judged}
use Rattle.pr_fence.proofs.steps.enter.Goals as goal

pub returns-in-Ok-clause-step : goal.returns-in-Ok-clause-step
returns-in-Ok-clause-step g c = went (Linked ask.Login (HasLoggedIn c.args.nexus)) (λ u. Judged ask.Readiness (IsReady 9 code.Code.NO_SENSE)) _ _ _ c.linked.result tt _ (linked ask.Login (HasLoggedIn c.args.nexus) _ _ c.log_in.result c.linked.result c.log_in.ensures.step c.linked.ensures) c.in-Ok.is (judged ask.Readiness (IsReady 9 code.Code.NO_SENSE) _ _ c.ready.result c.judged.result c.ready.ensures.answered c.judged.ensures)

pub returns-in-Err-clause-step : goal.returns-in-Err-clause-step
returns-in-Err-clause-step g c = failed (Linked ask.Login (HasLoggedIn c.args.nexus)) (λ u. Judged ask.Readiness (IsReady 9 code.Code.NO_SENSE)) _ _ c.linked.result c.in-Err.fault (linked ask.Login (HasLoggedIn c.args.nexus) _ _ c.log_in.result c.linked.result c.log_in.ensures.step c.linked.ensures) c.in-Err.is
