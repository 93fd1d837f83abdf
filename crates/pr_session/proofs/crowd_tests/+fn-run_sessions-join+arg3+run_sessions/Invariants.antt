use Rattle.std.proofs.Common.{◌-◌, ◌+◌, ◌*◌}
use Rattle.pr_session.proofs.crowd_tests.+fn-run_sessions-join+arg3+run_sessions.Given as goal

abbrev pub decreases-join+arg3 : goal.decreases-join+arg3
decreases-join+arg3 g l = (l.sessions - 1) * 2 + 1

abbrev pub decreases-run_sessions : goal.decreases-run_sessions
decreases-run_sessions g l = l.sessions * 2
