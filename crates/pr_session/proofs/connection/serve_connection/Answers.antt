use Rattle.pr_gate.specs.Passes.{number_of, own_of}
use Rattle.pr_session.proofs.Connections.{answered, completes, served_some}
use Rattle.pr_session.proofs.connection.serve_connection.Goals as goal

pub returns-in-Ok-clause-answered : goal.returns-in-Ok-clause-answered
returns-in-Ok-clause-answered g c =
    answered (number_of c.args.pass.now) (g.S.Source.rest c.args.source.now) (g.S.Source.rest c.serve_held.new.source) (g.K.Sink.written c.args.sink.now) (g.K.Sink.written c.serve_held.new.sink) (own_of c.args.pass.now) (own_of c.serve_held.new.pass) c.serve_held.result c.serve_held.ensures.served

pub returns-in-Ok-clause-untouched : goal.returns-in-Ok-clause-untouched
returns-in-Ok-clause-untouched g c is =
    absurd (served_some (number_of c.args.pass.now) (g.S.Source.rest c.args.source.now) (g.S.Source.rest c.serve_held.new.source) (g.K.Sink.written c.args.sink.now) (g.K.Sink.written c.serve_held.new.sink) (own_of c.args.pass.now) (own_of c.serve_held.new.pass) c.serve_held.result c.serve_held.ensures.served is)

pub returns-in-Ok-clause-completes : goal.returns-in-Ok-clause-completes
returns-in-Ok-clause-completes g c =
    let h = c.serve_held in
    completes h.result (number_of c.args.pass.now) (g.S.Source.rest c.args.source.now) (g.S.Source.rest h.new.source) (g.K.Sink.written c.args.sink.now) (g.K.Sink.written h.new.sink) (own_of c.args.pass.now) (own_of h.new.pass)
    (g.S.Source.faults c.args.source.now) (g.S.Source.faults h.new.source) (g.K.Sink.faults c.args.sink.now) (g.K.Sink.faults h.new.sink)
    (answered (number_of c.args.pass.now) (g.S.Source.rest c.args.source.now) (g.S.Source.rest h.new.source) (g.K.Sink.written c.args.sink.now) (g.K.Sink.written h.new.sink) (own_of c.args.pass.now) (own_of h.new.pass) h.result h.ensures.served) h.ensures.cause
