-- A field written behind what stands there.
use Rattle.std.proofs.Common.{arith, rules}
use Rattle.pr_param.proofs.Cuts.{put_next}
use Rattle.pr_param.proofs.put.put.Goals as goal

pub returns-then-at-out-clause-next : goal.returns-then-at-out-clause-next
returns-then-at-out-clause-next c before buffer a e =
    put_next before buffer _ _ _ _ _ _ a e c.if-at-out.true c.min-len.ensures (omega arith) (search rules)
