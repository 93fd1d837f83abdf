use Rattle.std.proofs.Common.{refl}
use Rattle.std.specs.Prelude.{Ok, Err}
use Rattle.pr_persist.specs.Asking.{wanted_of}
use Rattle.pr_persist.specs.Runs.{Acts}
use Rattle.pr_persist.specs.Whole.{Quiet, Tells}
use Rattle.pr_persist.proofs.Stepping.{ended, went, told}
use Rattle.pr_persist.proofs.running.act_and_tell.Goals as goal

pub returns-in-Ok-clause-step : goal.returns-in-Ok-clause-step
returns-in-Ok-clause-step g c = went (Quiet (Acts (wanted_of c.args.plan.now))) (λ a. Tells c.args.plan.now.action) _ _ _ c.in-Ok.field-0 _ (told (Acts (wanted_of c.args.plan.now)) _ _ c.act.result (Ok c.in-Ok.field-0) c.in-Ok.is c.act.ensures.step, refl) c.tell.ensures

pub returns-in-Err-clause-step : goal.returns-in-Err-clause-step
returns-in-Err-clause-step g c = ended (Quiet (Acts (wanted_of c.args.plan.now))) (λ a. Tells c.args.plan.now.action) _ _ c.in-Err.exit (told (Acts (wanted_of c.args.plan.now)) _ _ c.act.result (Err c.in-Err.exit) c.in-Err.is c.act.ensures.step, refl)
