use Rattle.std.proofs.Common.{◌<◌, ◌≤◌, ◌-◌, arith, length, take, drop, sym, ◌∙◌}
use Rattle.std.proofs.lemmas.List.{length-take, length-drop, take-append-drop}
use Rattle.pr_io.proofs.Pieces.{put_front}
use Rattle.pr_io.proofs.Sent.{always_err}
use Rattle.pr_io.proofs.writing.put_all.Goals as goal

pub loop-at-preserved : goal.loop-at-preserved
loop-at-preserved g c =
    let puts = rw c.in_ok-at.was at c.put.ensures.bytes in
    let count : c.in_ok-at.field-0 ≤ length (take (length c.args.piece.now - c.loop-at.at) (drop c.loop-at.at c.args.piece.now)) = rw c.in_ok-at.was at c.put.ensures.count in
    let room : 0 < length (take (length c.args.piece.now - c.loop-at.at) (drop c.loop-at.at c.args.piece.now)) = omega (arith, length-take (length c.args.piece.now - c.loop-at.at) (drop c.loop-at.at c.args.piece.now), length-drop c.loop-at.at c.args.piece.now) in
    let more : 0 < c.in_ok-at.field-0 = rw c.in_ok-at.was at c.put.ensures.some room in
    let calm = rw c.in_ok-at.was at c.put.ensures.cause.calm in
    record {
      within = omega (arith, length-take (length c.args.piece.now - c.loop-at.at) (drop c.loop-at.at c.args.piece.now), length-drop c.loop-at.at c.args.piece.now);
      puts = put_front _ _ _ c.args.piece.now c.loop-at.at c.in_ok-at.field-0 c.loop-at.invariant.puts puts c.loop-at.invariant.within;
      untouched = λ e. absurd ((omega (arith, e, more)));
      calm = calm ∙ c.loop-at.invariant.calm;
    }

pub returns-in_err-at-clause-some : goal.returns-in_err-at-clause-some
returns-in_err-at-clause-some g c =
    always_err c.from_residual.result (take c.loop-at.at c.args.piece.now, drop c.loop-at.at c.args.piece.now, sym (take-append-drop c.loop-at.at c.args.piece.now), rw (rw c.in_err-at.was at c.put.ensures.bytes) c.loop-at.invariant.puts, omega (arith, length-drop c.loop-at.at c.args.piece.now, c.loop-at-test.true))
