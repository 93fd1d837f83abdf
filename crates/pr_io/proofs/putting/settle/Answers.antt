use Rattle.pr_io.proofs.Spanning.{settled}
use Rattle.pr_io.proofs.putting.settle.Goals as goal

pub returns-clause-settles : goal.returns-clause-settles
returns-clause-settles g c = settled _ _ c.sync.result c.sync.ensures.syncs (g.met.D.Disk.since c.sync.new.self)
