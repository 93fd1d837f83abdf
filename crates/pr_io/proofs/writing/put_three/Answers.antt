use Rattle.std.proofs.Common.{◌++◌}
use Rattle.pr_io.proofs.Sent.{on_err, always_err, some_first, some_second}
use Rattle.pr_io.proofs.writing.put_three.Goals as goal

pub returns-in_err-put_all-clause-some : goal.returns-in_err-put_all-clause-some
returns-in_err-put_all-clause-some g c =
    always_err c.from_residual.result (some_first _ _ c.args.first.now (c.args.second.now ++ c.args.third.now) (rw c.in_err-put_all.was at c.put_all.ensures.some))

pub returns-clause-some : goal.returns-clause-some
returns-clause-some g c =
    on_err c.put_two.result (some_second _ _ _ c.args.first.now (c.args.second.now ++ c.args.third.now) (rw c.in_ok-put_all.was at c.put_all.ensures.all)) c.put_two.ensures.some
