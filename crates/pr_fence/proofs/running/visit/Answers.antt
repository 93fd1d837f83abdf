use Rattle.std.proofs.Common.{refl}
use Rattle.pr_io.specs.Told.{told_sink}
use Rattle.pr_initiator.specs.Links.{link_of}
use Rattle.pr_fence.specs.Views.{planned_of}
use Rattle.pr_fence.specs.Whole.{at, Serves, Tells}
use Rattle.pr_fence.proofs.Stepping.{went, failed}
use Rattle.pr_fence.proofs.running.visit.Goals as goal

pub returns-in-Ok-clause-step : goal.returns-in-Ok-clause-step
returns-in-Ok-clause-step g c =
    let served = c.serve.ensures.step in
    went (Serves (planned_of c.args.plan.now) c.args.device c.args.address.now) (Tells c.args.plan.now.errand c.args.address.now) _ (at (link_of c.serve.new.initiator) (told_sink g.K.Sink c.args.sink.now)) _ c.serve.result c.in-Ok.found _
    (served.0, served.1, refl, served.2) c.in-Ok.is (refl, c.put_result.result, c.put_result.ensures, c.written.ensures)

pub returns-in-Err-clause-step : goal.returns-in-Err-clause-step
returns-in-Err-clause-step g c =
    let served = c.serve.ensures.step in
    failed (Serves (planned_of c.args.plan.now) c.args.device c.args.address.now) (Tells c.args.plan.now.errand c.args.address.now) _ (at (link_of c.serve.new.initiator) (told_sink g.K.Sink c.args.sink.now)) c.serve.result c.in-Err.exit
    (served.0, served.1, refl, served.2) c.in-Err.is
