use Rattle.std.proofs.Common.{ℕ, List, [], ◌∙◌, sym, subst}
use Rattle.pr_io.specs.Streams.{PutSome}
use Rattle.pr_io.proofs.Pieces.{put_nothing}
use Rattle.pr_io.proofs.Sent.{always_err}
use Rattle.pr_tool.proofs.show.put_line.Goals as goal

pub returns-in_err-put_all-clause-some : goal.returns-in_err-put_all-clause-some
returns-in_err-put_all-clause-some g c =
    let some = rw c.in_err-put_all.was at c.put_all.ensures.some in
    always_err c.from_residual.result (subst (λ (w : List ℕ). PutSome (g.K.Sink.written c.args.sink.now) (g.K.Sink.written c.put_all.new.sink) w) (c.deref.ensures.value ∙ c.push_frame.ensures.items) some)

pub returns-else-len-clause-all : goal.returns-else-len-clause-all
returns-else-len-clause-all g c = ([], put_nothing (g.K.Sink.written c.args.sink.now), sym c.push_frame.ensures.items)
