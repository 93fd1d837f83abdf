use Rattle.std.proofs.Common.{◌≡◌, ◌∙◌, ◌-◌, ℕ, length, drop, ap, sym, arith}
use Rattle.pr_persist.specs.Texts.{without_zeros}
use Rattle.pr_persist.proofs.Zeros.{last_stays}
use Rattle.pr_persist.proofs.digits.zeros.Goals as goal

pub returns-clause-rest : goal.returns-clause-rest
returns-clause-rest c =
    let last : c.loop-at.at ≡ length c.args.digits.now - 1 = omega (arith, c.loop-at-test.false, c.loop-at.auto.at-end) in
    last_stays c.args.digits.now (length c.args.digits.now - 1) (omega (arith, c.requires)) ∙ ap (λ (n : ℕ). without_zeros (drop n c.args.digits.now)) (sym last) ∙ c.loop-at.invariant
