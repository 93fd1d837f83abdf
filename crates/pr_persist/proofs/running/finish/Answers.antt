use Rattle.std.proofs.Common.{refl}
use Rattle.std.specs.Prelude.{Ok, Err}
use Rattle.pr_persist.specs.Asking.{wanted_of}
use Rattle.pr_persist.specs.Runs.{Closes}
use Rattle.pr_persist.specs.Whole.{Quiet, ActsAndTells}
use Rattle.pr_persist.proofs.Stepping.{ended, went, told}
use Rattle.pr_persist.proofs.running.finish.Goals as goal

pub returns-in-Ok-clause-step : goal.returns-in-Ok-clause-step
returns-in-Ok-clause-step g c = went (ActsAndTells (wanted_of c.args.plan.now)) (λ u. Quiet Closes) _ _ _ tt _ (told (ActsAndTells (wanted_of c.args.plan.now)) _ _ c.act_and_tell.result (Ok tt) c.in-Ok.is c.act_and_tell.ensures.step) (c.close.ensures.step, refl)

pub returns-in-Err-clause-step : goal.returns-in-Err-clause-step
returns-in-Err-clause-step g c = ended (ActsAndTells (wanted_of c.args.plan.now)) (λ u. Quiet Closes) _ _ c.in-Err.exit (told (ActsAndTells (wanted_of c.args.plan.now)) _ _ c.act_and_tell.result (Err c.in-Err.exit) c.in-Err.is c.act_and_tell.ensures.step)
