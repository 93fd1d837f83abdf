use Rattle.std.proofs.Common.{◌∙◌, length, ap, sym, arith}
use Rattle.pr_tool.specs.Lanes.{lanes_of}
use Rattle.pr_tool.proofs.Places.{renewed_step, renewed_all, renewed_long}
use Rattle.pr_tool.proofs.replay.renew.Goals as goal

pub loop-lane-preserved : goal.loop-lane-preserved
loop-lane-preserved c = renewed_step c.args.lanes.now c.loop-lane.lanes c.loop-lane.lane-index _ c.loop-lane.invariant c.loop-lane-test.true c.renew.ensures

pub returns-clause-fresh : goal.returns-clause-fresh
returns-clause-fresh c = c.loop-lane.invariant ∙ renewed_all c.args.lanes.now c.loop-lane.lane-index c.loop-lane-test.false

pub returns-clause-count : goal.returns-clause-count
returns-clause-count c = renewed_long c.args.lanes.now c.loop-lane.lanes c.loop-lane.lane-index c.loop-lane.invariant
