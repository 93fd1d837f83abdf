use Rattle.pr_io.proofs.Sent.{on_err, always_err, some_first, some_second}
use Rattle.pr_io.proofs.writing.put_two.Goals as goal

pub returns-in_err-put_all-clause-some : goal.returns-in_err-put_all-clause-some
returns-in_err-put_all-clause-some g c =
    always_err c.from_residual.result (some_first _ _ c.args.first.now c.args.second.now (rw c.in_err-put_all.was at c.put_all.ensures.some))

pub returns-clause-some : goal.returns-clause-some
returns-clause-some g c =
    on_err c.put_all-2.result (some_second _ _ _ c.args.first.now c.args.second.now (rw c.in_ok-put_all.was at c.put_all.ensures.all)) c.put_all-2.ensures.some
