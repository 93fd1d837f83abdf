use Rattle.std.proofs.Common.{◌≡◌, false, take}
use Rattle.std.specs.List.{list_any}
use Rattle.pr_fence.specs.Seeing.{has_key}
use Rattle.pr_fence.proofs.seeing.is_there.Given as goal

abbrev pub invariant-loop-i : goal.invariant-loop-i
invariant-loop-i l = list_any (has_key l.key) (take l.i l.full.entries) ≡ false
