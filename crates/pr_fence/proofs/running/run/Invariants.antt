use Rattle.std.proofs.Common.{Bool, drop, false}
use Rattle.std.specs.Prelude.{Result}
use Rattle.pr_io.specs.Told.{told_sink}
use Rattle.pr_initiator.specs.Links.{Comes, link_of}
use Rattle.pr_fence.specs.declared.exit.FenceExit.{FenceExit}
use Rattle.pr_fence.specs.Views.{planned_of, texts_of}
use Rattle.pr_fence.specs.Whole.{At, at, VisitsAll}
use Rattle.pr_fence.proofs.running.run.Given as goal

abbrev pub invariant-loop-device : goal.invariant-loop-device
invariant-loop-device g l =
    record {
      visits : (now : At) (r : Result Bool FenceExit) → VisitsAll (planned_of l.plan) l.device l.found (drop l.device (texts_of l.plan.addresses.now)) (at (link_of l.initiator) (told_sink g.K.Sink l.sink)) now r
          → VisitsAll (planned_of l.plan) 0 false (texts_of l.plan.addresses.now) (at (link_of l.initial.initiator) (told_sink g.K.Sink l.initial.sink)) now r;
      comes : Comes l.initial.initiator l.initiator;
    }
