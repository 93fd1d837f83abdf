use Rattle.std.proofs.Common.{arith, ◌≤◌, ◌≡◌}
use Rattle.pr_io.proofs.Ahead.{direct, failed}
use Rattle.pr_io.proofs.standard.StdinSourceSource.take.Goals as goal

pub returns-in_err-read_ahead-clause-told : goal.returns-in_err-read_ahead-clause-told
returns-in_err-read_ahead-clause-told g c =
    let none : c.args.self.now.to ≤ c.args.self.now.from = omega (arith, c.if-self.false) in
    let empty : c.read_ahead.new.self.to ≡ 0 = rw c.in_err-read_ahead.was at c.read_ahead.ensures.none in
    let none-2 : c.read_ahead.new.self.to ≤ c.read_ahead.new.self.from = omega (arith, empty) in
    failed _ _ _ _ _ _ _ _ c.from_residual.result _ c.from_residual.ensures.0 none none-2 (rw c.in_err-read_ahead.was at c.read_ahead.ensures.kept)

pub returns-then-buf-ge-AHEAD-clause-told : goal.returns-then-buf-ge-AHEAD-clause-told
returns-then-buf-ge-AHEAD-clause-told g c =
    let none : c.args.self.now.to ≤ c.args.self.now.from = omega (arith, c.if-self.false) in
    direct _ _ _ _ _ c.read_some.result _ none c.read_some.ensures.told
