use Rattle.std.proofs.Common.{◌≡◌, ◌+◌, ◌-◌, ℕ, take, drop, ◌∙◌, arith, subst}
use Rattle.pr_grammar.specs.Outputs.{output_record}
use Rattle.pr_io.specs.Streams.{Put, PutSome}
use Rattle.pr_io.proofs.Sent.{always_err}
use Rattle.pr_tool.proofs.Outputting.{written_more, written_some, written_all}
use Rattle.pr_tool.proofs.output.put_records.Goals as goal

pub returns-in_err-put_record-clause-some : goal.returns-in_err-put_record-clause-some
returns-in_err-put_record-clause-some g c =
    let size : c.loop-at.at + c.min-len.result - c.loop-at.at ≡ c.min-len.result = omega arith in
    let some = subst (λ (n : ℕ). PutSome (g.K.Sink.written c.loop-at.sink) (g.K.Sink.written c.put_record.new.sink) (output_record c.args.lane (take n (drop c.loop-at.at c.args.bytes.now)))) size c.in_err-put_record.ensures.some in
    always_err c.from_residual.result (written_some _ _ _ c.args.lane c.args.bytes.now c.loop-at.at c.min-len.result c.loop-at-test.true c.min-len.ensures c.loop-at.invariant.written some)

pub loop-at-preserved : goal.loop-at-preserved
loop-at-preserved g c =
    let size : c.loop-at.at + c.min-len.result - c.loop-at.at ≡ c.min-len.result = omega arith in
    let all = subst (λ (n : ℕ). Put (g.K.Sink.written c.loop-at.sink) (g.K.Sink.written c.put_record.new.sink) (output_record c.args.lane (take n (drop c.loop-at.at c.args.bytes.now)))) size c.in_ok-put_record.ensures.all in
    record {
      within = omega (arith, c.min-len.ensures, c.loop-at-test.true);
      written = written_more _ _ _ c.args.lane c.args.bytes.now c.loop-at.at c.min-len.result c.loop-at-test.true c.min-len.ensures c.loop-at.invariant.written all;
      calm = (rw c.in_ok-put_record.was at c.put_record.ensures.cause.calm) ∙ c.loop-at.invariant.calm;
    }

pub returns-clause-all : goal.returns-clause-all
returns-clause-all g c = written_all _ _ c.args.lane c.args.bytes.now c.loop-at.at c.loop-at-test.false c.loop-at.invariant.written
