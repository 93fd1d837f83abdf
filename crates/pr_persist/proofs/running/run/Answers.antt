use Rattle.std.proofs.Common.{refl}
use Rattle.std.specs.Prelude.{Ok, Err}
use Rattle.pr_persist.specs.Asking.{wanted_of}
use Rattle.pr_persist.specs.Runs.{Opens}
use Rattle.pr_persist.specs.Whole.{Quiet, Continues}
use Rattle.pr_persist.proofs.Stepping.{ended, went, told}
use Rattle.pr_persist.proofs.running.run.Goals as goal

pub returns-in-Ok-clause-step : goal.returns-in-Ok-clause-step
returns-in-Ok-clause-step g c = went (Quiet (Opens (wanted_of c.args.plan.now))) (λ a. Continues (wanted_of c.args.plan.now)) _ _ _ c.in-Ok.field-0 _ (told (Opens (wanted_of c.args.plan.now)) _ _ c.open.result (Ok c.in-Ok.field-0) c.in-Ok.is c.open.ensures.step, refl) c.go_on.ensures.step

pub returns-in-Err-clause-step : goal.returns-in-Err-clause-step
returns-in-Err-clause-step g c = ended (Quiet (Opens (wanted_of c.args.plan.now))) (λ a. Continues (wanted_of c.args.plan.now)) _ _ c.in-Err.exit (told (Opens (wanted_of c.args.plan.now)) _ _ c.open.result (Err c.in-Err.exit) c.in-Err.is c.open.ensures.step, refl)
