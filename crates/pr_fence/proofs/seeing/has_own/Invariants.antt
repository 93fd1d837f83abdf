use Rattle.std.proofs.Common.{◌≡◌, false, take}
use Rattle.std.specs.List.{list_any}
use Rattle.pr_fence.specs.Seeing.{is_own}
use Rattle.pr_fence.proofs.seeing.has_own.Given as goal

abbrev pub invariant-loop-i : goal.invariant-loop-i
invariant-loop-i l = list_any (is_own l.nexus l.key) (take l.i l.full.entries) ≡ false
