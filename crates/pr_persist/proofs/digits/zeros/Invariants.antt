use Rattle.std.proofs.Common.{◌≡◌, drop}
use Rattle.pr_persist.specs.Texts.{without_zeros}
use Rattle.pr_persist.proofs.digits.zeros.Given as goal

abbrev pub invariant-loop-at : goal.invariant-loop-at
invariant-loop-at l = without_zeros (drop l.at l.digits) ≡ without_zeros l.digits
