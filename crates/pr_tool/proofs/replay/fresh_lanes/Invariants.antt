use Rattle.std.proofs.Common.{◌≡◌, ◌-◌, ◌≤◌, replicate, vec_len}
use Rattle.pr_model.specs.Lanes.{fresh}
use Rattle.pr_tool.specs.Lanes.{lanes_of}
use Rattle.pr_tool.proofs.replay.fresh_lanes.Given as goal

abbrev pub invariant-loop-alloc : goal.invariant-loop-alloc
invariant-loop-alloc l = record { fresh : lanes_of l.lanes.items ≡ replicate (vec_len l.lanes) fresh; within : vec_len l.lanes ≤ l.count }

abbrev pub decreases-loop-alloc : goal.decreases-loop-alloc
decreases-loop-alloc l = l.count - vec_len l.lanes
