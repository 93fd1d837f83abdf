use Rattle.pr_serve.proofs.Crowding.{takes-more}
use Rattle.pr_serve.proofs.attending.take_in_ended.Goals as goal

pub loop-at-preserved-then-load : goal.loop-at-preserved-then-load
loop-at-preserved-then-load g c = (takes-more g.S.Source g.K.Sink _ _ _ _ _ _ c.loop-at.invariant.0 c.join.ensures.takes, c.join.ensures.right)
