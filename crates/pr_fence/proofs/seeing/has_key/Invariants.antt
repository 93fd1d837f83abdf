use Rattle.std.proofs.Common.{◌≡◌, false, take}
use Rattle.std.specs.List.{list_any}
use Rattle.pr_fence.specs.Seeing.{is_key}
use Rattle.pr_fence.proofs.seeing.has_key.Given as goal

abbrev pub invariant-loop-i : goal.invariant-loop-i
invariant-loop-i l = list_any (is_key l.key) (take l.i l.keys.keys) ≡ false
