use Rattle.pr_gate.specs.Passes.{seen_of}
use Rattle.pr_serve.proofs.Crowding.{stands-settle}
use Rattle.pr_serve.proofs.attending.settle.Goals as goal

pub returns-clause-served : goal.returns-clause-served
returns-clause-served g c first cs stands =
    stands-settle g.S.Source g.K.Sink first cs c.args.main.now c.args.sessions (seen_of c.settle_all.new.main) c.requires.none c.settle_all.ensures.settled stands
