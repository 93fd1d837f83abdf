use Rattle.std.specs.Prelude.{Ok, Err}
use Rattle.pr_persist.specs.Asking.{wanted_of}
use Rattle.pr_persist.specs.Whole.{Looks, Finishes}
use Rattle.pr_persist.proofs.Stepping.{ended, went, told}
use Rattle.pr_persist.proofs.running.go_on.Goals as goal

pub returns-in-Ok-clause-step : goal.returns-in-Ok-clause-step
returns-in-Ok-clause-step g c = went (Looks c.args.plan.now.inquires) (λ u. Finishes (wanted_of c.args.plan.now)) _ _ _ tt _ (told (Looks c.args.plan.now.inquires) _ _ c.look.result (Ok tt) c.in-Ok.is c.look.ensures.step) c.finish.ensures.step

pub returns-in-Err-clause-step : goal.returns-in-Err-clause-step
returns-in-Err-clause-step g c = ended (Looks c.args.plan.now.inquires) (λ u. Finishes (wanted_of c.args.plan.now)) _ _ c.in-Err.exit (told (Looks c.args.plan.now.inquires) _ _ c.look.result (Err c.in-Err.exit) c.in-Err.is c.look.ensures.step)
