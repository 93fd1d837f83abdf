use Rattle.std.proofs.Common.{◌≡◌, ℕ, List, [], sym, ap, ◌∙◌, subst}
use Rattle.std.proofs.lemmas.List.{nil_from_length}
use Rattle.pr_io.specs.Streams.{Put}
use Rattle.pr_io.proofs.Pieces.{put_nothing}
use Rattle.pr_grammar.specs.Outputs.{output_of}
use Rattle.pr_model.proofs.Outputs.{output_of-nil}
use Rattle.pr_session.specs.Sessions.{reply_of}
use Rattle.pr_tool.proofs.output.write_reply.Goals as goal

pub returns-then-len-eq0-clause-all : goal.returns-then-len-eq0-clause-all
returns-then-len-eq0-clause-all g c =
    let none : reply_of c.args.session.now ≡ [] = sym c.reply-len.ensures ∙ nil_from_length c.reply-len.result.now c.if-len-eq0.true in
    let text : output_of c.args.lane (reply_of c.args.session.now) ≡ [] = ap (output_of c.args.lane) none ∙ output_of-nil c.args.lane in
    subst (λ (w : List ℕ). Put (g.K.Sink.written c.args.sink.now) (g.K.Sink.written c.args.sink.now) w) (sym text) (put_nothing (g.K.Sink.written c.args.sink.now))
