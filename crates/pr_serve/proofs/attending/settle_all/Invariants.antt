use Rattle.std.proofs.Common.{◌≡◌, List, ◌++◌}
use Rattle.std.specs.List.{AllByRecursion}
use Rattle.pr_gate.specs.Passes.{IsUnchanged, seen_of}
use Rattle.pr_serve.specs.Standing.{IsPast, IsSettled}
use Rattle.pr_serve.proofs.attending.settle_all.Given as goal

abbrev pub invariant-loop-one : goal.invariant-loop-one
invariant-loop-one g l =
    IsUnchanged l.fn.main l.main
    × AllByRecursion (IsPast l.fn.main) l.retired.items
    × ((done : List _) × (l.fn.retired.items ≡ l.retired.items ++ done) × AllByRecursion (IsSettled (seen_of l.fn.main)) done)

abbrev pub decreases-loop-one : goal.decreases-loop-one
decreases-loop-one g l = goal.left-loop-one g l
