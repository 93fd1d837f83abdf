use Rattle.std.proofs.Common.{◌-◌, ◌+◌, ◌*◌}
use Rattle.pr_gate.proofs.tests.+fn-take_all_turns-join+arg3+take_all_turns.Given as goal

abbrev pub decreases-join+arg3 : goal.decreases-join+arg3
decreases-join+arg3 g l = (l.threads - 1) * 2 + 1

abbrev pub decreases-take_all_turns : goal.decreases-take_all_turns
decreases-take_all_turns g l = l.threads * 2
