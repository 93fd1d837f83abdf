use Rattle.std.proofs.Common.{◌≡◌, map, take, drop, length}
use Rattle.pr_persist.specs.Texts.{shown_byte}
use Rattle.pr_persist.proofs.full.columns.Given as goal

abbrev pub invariant-loop-i : goal.invariant-loop-i
invariant-loop-i l =
    record {
      size : length l.columns ≡ 28;
      shown : take l.i l.columns ≡ map shown_byte (take l.i (drop 8 l.bytes));
    }
