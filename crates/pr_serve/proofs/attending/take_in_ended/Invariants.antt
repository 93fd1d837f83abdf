use Rattle.std.proofs.Common.{vec_len, ◌-◌}
use Rattle.pr_serve.specs.Connections.{IsRightPass}
use Rattle.pr_serve.specs.Crowds.{TakesIn}
use Rattle.pr_serve.proofs.attending.take_in_ended.Given as goal

abbrev pub invariant-loop-at : goal.invariant-loop-at
invariant-loop-at g l = TakesIn g.S.Source g.K.Sink l.fn.main l.main l.fn.sessions l.sessions × IsRightPass g.M.Medium g.D.Disk l.main

abbrev pub decreases-loop-at : goal.decreases-loop-at
decreases-loop-at g l = vec_len l.sessions.running - l.at
