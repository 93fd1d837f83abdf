use Rattle.std.proofs.Common.{◌≡◌, ◌≤◌, ◌-◌, length}
use Rattle.pr_tool.proofs.Outputting.{HasWritten}
use Rattle.pr_tool.proofs.output.put_records.Given as goal

abbrev pub invariant-loop-at : goal.invariant-loop-at
invariant-loop-at g l =
    record {
      within : l.at ≤ length l.bytes;
      written : HasWritten (g.K.Sink.written l.initial.sink) (g.K.Sink.written l.sink) l.lane l.bytes l.at;
      calm : g.K.Sink.faults l.sink ≡ g.K.Sink.faults l.initial.sink;
    }

abbrev pub decreases-loop-at : goal.decreases-loop-at
decreases-loop-at g l = length l.bytes - l.at
