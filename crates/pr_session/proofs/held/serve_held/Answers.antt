use Rattle.std.proofs.Common.{rules, ℕ, ◌++◌, ap, ◌∙◌}
use Rattle.pr_model.specs.Runs.{closing}
use Rattle.pr_gate.specs.Passes.{number_of, seen_of, own_of}
use Rattle.pr_session.specs.Sessions.{lane_of}
use Rattle.pr_session.proofs.Holdings.{prefix_trans}
use Rattle.pr_session.proofs.Closings.{served_out, served_spent, served_ticket}
use Rattle.pr_session.proofs.held.serve_held.Goals as goal

pub returns-in-SpentTicket-clause-served : goal.returns-in-SpentTicket-clause-served
returns-in-SpentTicket-clause-served g c =
    let f = c.serve_frames-end in
    served_ticket (number_of c.args.pass.now) (g.S.Source.rest c.args.source.now) (g.S.Source.rest f.new.source) (g.K.Sink.written c.args.sink.now) (g.K.Sink.written f.new.sink) (own_of c.args.pass.now) (own_of f.new.pass) (lane_of f.new.session)
    f.result c.in-SpentTicket.ticket c.in-SpentTicket.is f.ensures.over f.ensures.within

pub returns-in-Ok : goal.returns-in-Ok
returns-in-Ok g c =
    let f = c.serve_frames-end in
    let m = lane_of f.new.session in
    record {
      same = search rules;
      seen = prefix_trans (seen_of c.args.pass.now) (seen_of f.new.pass) (seen_of c.log_out.new.pass) f.ensures.seen c.log_out.ensures.seen;
      right = λ k is right. c.log_out.ensures.right k (f.ensures.same.0.4 ∙ is) (f.ensures.right k is right);
      served =
          served_out (number_of c.args.pass.now) (g.S.Source.rest c.args.source.now) (g.S.Source.rest f.new.source) (g.K.Sink.written c.args.sink.now) (g.K.Sink.written f.new.sink) (own_of c.args.pass.now) (own_of f.new.pass) m
          (own_of c.log_out.new.pass) f.result f.ensures.over f.ensures.within f.ensures.ended c.in_default.not-SpentTicket (c.in-Ok.ensures.closes ∙ ap (λ (w : ℕ). own_of f.new.pass ++ closing w m.phase) f.ensures.same.0.1);
      cause = f.ensures.cause;
    }

pub returns-in-Err : goal.returns-in-Err
returns-in-Err g c =
    let f = c.serve_frames-end in
    record {
      same = search rules;
      seen = prefix_trans (seen_of c.args.pass.now) (seen_of f.new.pass) (seen_of c.log_out.new.pass) f.ensures.seen c.log_out.ensures.seen;
      right = λ k is right. c.log_out.ensures.right k (f.ensures.same.0.4 ∙ is) (f.ensures.right k is right);
      served =
          served_spent (number_of c.args.pass.now) (g.S.Source.rest c.args.source.now) (g.S.Source.rest f.new.source) (g.K.Sink.written c.args.sink.now) (g.K.Sink.written f.new.sink) (own_of c.args.pass.now) (own_of f.new.pass) (lane_of f.new.session)
          (own_of c.log_out.new.pass) f.result c.in-Err.field-0.ticket f.ensures.over f.ensures.within c.in-Err.ensures.spent.1;
      cause = c.in-Err.ensures.spent.0;
    }
