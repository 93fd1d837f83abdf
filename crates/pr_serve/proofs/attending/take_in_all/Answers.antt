use Rattle.pr_serve.proofs.Crowding.{takes-more}
use Rattle.pr_serve.proofs.attending.take_in_all.Goals as goal

pub loop-last-preserved : goal.loop-last-preserved
loop-last-preserved g c = (takes-more g.S.Source g.K.Sink _ _ _ _ _ _ c.loop-last.invariant.0 c.join.ensures.takes, c.join.ensures.right)
