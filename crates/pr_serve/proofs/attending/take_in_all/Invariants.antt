use Rattle.std.proofs.Common.{vec_len}
use Rattle.pr_serve.specs.Connections.{IsRightPass}
use Rattle.pr_serve.specs.Crowds.{TakesIn}
use Rattle.pr_serve.proofs.attending.take_in_all.Given as goal

abbrev pub invariant-loop-last : goal.invariant-loop-last
invariant-loop-last g l = TakesIn g.S.Source g.K.Sink l.fn.main l.main l.fn.sessions l.sessions × IsRightPass g.M.Medium g.D.Disk l.main

abbrev pub decreases-loop-last : goal.decreases-loop-last
decreases-loop-last g l = vec_len l.sessions.running
