use Rattle.std.proofs.Common.{◌≡◌}
use Rattle.pr_tool.specs.Lanes.{lanes_of}
use Rattle.pr_tool.proofs.Places.{renewed_below}
use Rattle.pr_tool.proofs.replay.renew.Given as goal

abbrev pub invariant-loop-lane : goal.invariant-loop-lane
invariant-loop-lane l = lanes_of l.lanes ≡ renewed_below l.lane-index (lanes_of l.fn.lanes)
