use Rattle.std.proofs.Common.{◌≡◌, ℕ, List, ◌++◌, length, sym, ap, ◌∙◌, subst}
use Rattle.std.specs.Prelude.{OnOk, OnErr}
use Rattle.pr_io.specs.Streams.{Put, PutSome}
use Rattle.pr_grammar.specs.Outputs.{output_of}
use Rattle.pr_model.proofs.Outputs.{output_of-short}
use Rattle.pr_session.specs.Sessions.{reply_of}
use Rattle.pr_tool.proofs.output.put_short.Goals as goal

pub returns-clause-all : goal.returns-clause-all
returns-clause-all g c =
    let reply : List ℕ = reply_of c.args.session.now in
    let text : c.headed_reply.result.now ≡ output_of c.args.lane reply =
    c.headed_reply.ensures ∙ ap (λ (w : List ℕ). w ++ reply_of c.put_head.new.self) c.put_head.ensures.room ∙ ap (λ (w : List ℕ). c.record_head.result ++ w) c.put_head.ensures.reply
    ∙ c.record_head.ensures.text reply (sym (ap length c.reply.ensures)) ∙ sym (output_of-short c.args.lane reply c.requires.some c.requires.short) in
    subst (λ (w : List ℕ). OnOk c.put_all.result (Put (g.K.Sink.written c.args.sink.now) (g.K.Sink.written c.put_all.new.sink) w)) text c.put_all.ensures.all

pub returns-clause-some : goal.returns-clause-some
returns-clause-some g c =
    let reply : List ℕ = reply_of c.args.session.now in
    let text : c.headed_reply.result.now ≡ output_of c.args.lane reply =
    c.headed_reply.ensures ∙ ap (λ (w : List ℕ). w ++ reply_of c.put_head.new.self) c.put_head.ensures.room ∙ ap (λ (w : List ℕ). c.record_head.result ++ w) c.put_head.ensures.reply
    ∙ c.record_head.ensures.text reply (sym (ap length c.reply.ensures)) ∙ sym (output_of-short c.args.lane reply c.requires.some c.requires.short) in
    subst (λ (w : List ℕ). OnErr c.put_all.result (PutSome (g.K.Sink.written c.args.sink.now) (g.K.Sink.written c.put_all.new.sink) w)) text c.put_all.ensures.some
