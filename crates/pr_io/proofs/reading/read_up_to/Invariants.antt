use Rattle.std.proofs.Common.{◌≡◌, ◌≤◌, ◌-◌, length, take}
use Rattle.pr_io.specs.Streams.{Took}
use Rattle.pr_io.proofs.reading.read_up_to.Given as goal

abbrev pub invariant-loop-at : goal.invariant-loop-at
invariant-loop-at g l =
    record {
      within : l.at ≤ length l.buf;
      took : Took (g.S.Source.rest l.initial.source) (g.S.Source.rest l.source) (take l.at l.buf);
      untouched : l.at ≡ 0 → l.source ≡ l.initial.source;
      calm : g.S.Source.faults l.source ≡ g.S.Source.faults l.initial.source;
    }

abbrev pub decreases-loop-at : goal.decreases-loop-at
decreases-loop-at g l = length l.initial.buf - l.at
