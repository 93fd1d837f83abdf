use Rattle.std.proofs.Common.{◌≡◌, drop}
use Rattle.pr_aptpl.specs.Opens.{first_diff}
use Rattle.pr_aptpl.proofs.opening.first_difference.Given as goal

abbrev pub invariant-loop-i : goal.invariant-loop-i
invariant-loop-i l = first_diff l.right l.head 0 ≡ first_diff (drop l.i l.right) (drop l.i l.head) l.i
