use Rattle.std.proofs.Common.{◌∙◌, ℕ, List, refl}
use Rattle.std.specs.Borrow.{Bor}
use Rattle.pr_io.proofs.Pieces.{put_nothing}
use Rattle.pr_io.proofs.Sent.{always_err}
use Rattle.pr_persist.proofs.Putting.{next_put, next_failed, all_put}
use Rattle.pr_persist.proofs.printing.put_pieces.Goals as goal

pub loop-piece-init : goal.loop-piece-init
loop-piece-init g c = record { put = put_nothing (g.K.Sink.written c.args.sink.now); calm = refl }

pub loop-piece-preserved : goal.loop-piece-preserved
loop-piece-preserved g c =
    record {
      put = next_put (λ (p : Bor (List ℕ)). p.now) _ _ _ c.args.pieces.now c.loop-piece.piece-index _ c.loop-piece-test.true c.loop-piece.invariant.put (rw c.in_ok-put_all.was at c.put_all.ensures.all);
      calm = (rw c.in_ok-put_all.was at c.put_all.ensures.cause.calm) ∙ c.loop-piece.invariant.calm;
    }

pub returns-in_err-put_all-clause-some : goal.returns-in_err-put_all-clause-some
returns-in_err-put_all-clause-some g c =
    always_err c.from_residual.result
    (next_failed (λ (p : Bor (List ℕ)). p.now) _ _ _ c.args.pieces.now c.loop-piece.piece-index _ c.loop-piece-test.true c.loop-piece.invariant.put (rw c.in_err-put_all.was at c.put_all.ensures.some))

pub returns-clause-all : goal.returns-clause-all
returns-clause-all g c = all_put (λ (p : Bor (List ℕ)). p.now) _ _ c.args.pieces.now c.loop-piece.piece-index c.loop-piece-test.false c.loop-piece.invariant.put
