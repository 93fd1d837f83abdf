use Rattle.std.proofs.Common.{rules, arith}
use Rattle.pr_serve.proofs.Crowding.{stands-begins, stands-served}
use Rattle.pr_serve.proofs.attending.begin.Goals as goal

pub returns-in-Some-clause-stands : goal.returns-in-Some-clause-stands
returns-in-Some-clause-stands g c first cs number stands =
    let new = c.new_pass-pass.ensures.new in
    stands-served g.S.Source g.K.Sink g.M.Medium g.D.Disk first cs _ 1 c.args.main.now _ c.new_pass-pass.result c.in-Some.ended.pass c.in-Some.ended.end c.args.sessions.now c.serve.new.sessions c.retire.new.sessions
    (search rules) (omega arith) (c.in-Some.ensures.here.0) (c.in-Some.ensures.here.1) c.retire.ensures.retires c.retire.ensures.spent stands

pub returns-in_default-clause-stands : goal.returns-in_default-clause-stands
returns-in_default-clause-stands g c first cs number stands =
    let new = c.new_pass-pass.ensures.new in
    stands-begins g.S.Source g.K.Sink first cs _ 1 c.args.main.now _ c.new_pass-pass.result c.args.sessions.now c.serve.new.sessions
    (search rules) (search rules) (omega arith) (c.in_default.ensures.thread) stands
