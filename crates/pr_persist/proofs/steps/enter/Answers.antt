use Rattle.std.specs.Prelude.{Ok, Err}
use Rattle.pr_words.specs.declared.code.TheConstants as code
use Rattle.pr_initiator.specs.Commands.{IsReady}
use Rattle.pr_persist.specs.declared.asked.Asked.TheVariants as ask
use Rattle.pr_initiator.specs.Logins.{HasLoggedIn}
use Rattle.pr_persist.specs.Runs.{Judged, Linked}
use Rattle.pr_persist.proofs.Stepping.{ended, went, linked}
use Rattle.pr_persist.proofs.steps.enter.Goals as goal

pub returns-in-Ok-clause-step : goal.returns-in-Ok-clause-step
returns-in-Ok-clause-step g c =
    went (Linked ask.Login (HasLoggedIn c.args.nexus)) (λ u. Judged ask.Readiness (IsReady 9 code.Code.NO_SENSE)) _ _ _ tt _ (linked ask.Login (HasLoggedIn c.args.nexus) _ _ c.log_in.result c.linked.result (Ok tt) c.log_in.ensures.step c.linked.ensures c.in-Ok.is)
    (c.ready.result, c.ready.ensures.answered, c.judged.ensures)

pub returns-in-Err-clause-step : goal.returns-in-Err-clause-step
returns-in-Err-clause-step g c =
    ended (Linked ask.Login (HasLoggedIn c.args.nexus)) (λ u. Judged ask.Readiness (IsReady 9 code.Code.NO_SENSE)) _ _ c.in-Err.exit (linked ask.Login (HasLoggedIn c.args.nexus) _ _ c.log_in.result c.linked.result (Err c.in-Err.exit) c.log_in.ensures.step c.linked.ensures c.in-Err.is)
