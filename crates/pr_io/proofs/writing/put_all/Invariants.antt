use Rattle.std.proofs.Common.{◌≡◌, ◌≤◌, ◌-◌, length, take}
use Rattle.pr_io.specs.Streams.{Put}
use Rattle.pr_io.proofs.writing.put_all.Given as goal

abbrev pub invariant-loop-at : goal.invariant-loop-at
invariant-loop-at g l =
    record {
      within : l.at ≤ length l.piece;
      puts : Put (g.K.Sink.written l.initial.sink) (g.K.Sink.written l.sink) (take l.at l.piece);
      untouched : l.at ≡ 0 → l.sink ≡ l.initial.sink;
      calm : g.K.Sink.faults l.sink ≡ g.K.Sink.faults l.initial.sink;
    }

abbrev pub decreases-loop-at : goal.decreases-loop-at
decreases-loop-at g l = length l.piece - l.at
