use Rattle.std.proofs.Common.{◌≡◌}
use Rattle.pr_tool.specs.Showing.{Ready, ViewerGoes}
use Rattle.pr_tool.proofs.show.show_within.Given as goal

abbrev pub invariant-steps : goal.invariant-steps
invariant-steps g l =
    record {
      ready : Ready l.viewer;
      goes : ViewerGoes l.budget (g.S.Source.rest l.initial.source) (g.S.Source.rest l.source) (g.K.Sink.written l.initial.sink) (g.K.Sink.written l.sink) l.viewer;
      read_calm : g.S.Source.faults l.source ≡ g.S.Source.faults l.initial.source;
      write_calm : g.K.Sink.faults l.sink ≡ g.K.Sink.faults l.initial.sink;
    }

abbrev pub decreases-steps : goal.decreases-steps
decreases-steps g l = l.viewer.left
