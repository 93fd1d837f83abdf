use Rattle.std.proofs.Common.{rules}
use Rattle.pr_serve.proofs.Crowding.{settles-one}
use Rattle.pr_serve.proofs.attending.settle_all.Goals as goal

pub loop-one-preserved : goal.loop-one-preserved
loop-one-preserved g c = settles-one c.args.main.now c.loop-one.main c.settle.new.pass c.args.retired.items c.loop-one.retired.items c.pop.new.self.items c.in-Some.one
    c.loop-one.invariant (search rules) c.settle.ensures.same c.settle.ensures.own
