use Rattle.std.proofs.Common.{◌+◌, ◌≤◌}
use Rattle.pr_tasks.proofs.tests.run.Given as goal

abbrev pub invariant-loop-made : goal.invariant-loop-made
invariant-loop-made g l = l.task.lba + l.task.count ≤ g.M.Medium.count l.medium
