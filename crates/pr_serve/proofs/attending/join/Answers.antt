use Rattle.std.proofs.Common.{rules}
use Rattle.pr_serve.proofs.Crowding.{takes-one}
use Rattle.pr_serve.proofs.attending.join.Goals as goal

pub returns-clause-takes : goal.returns-clause-takes
returns-clause-takes g c =
    takes-one g.S.Source g.K.Sink g.M.Medium g.D.Disk c.args.main.now c.retire.new.main c.join.result.pass c.join.result.end c.args.sessions.now c.retire.new.sessions c.remove-thread.result c.args.at _ _
    c.remove-thread.ensures.value (search rules) c.remove-thread.ensures.items (search rules) c.join.ensures c.retire.ensures.goes c.retire.ensures.retires c.retire.ensures.spent
