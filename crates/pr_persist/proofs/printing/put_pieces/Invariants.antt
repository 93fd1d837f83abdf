use Rattle.std.proofs.Common.{◌≡◌, take}
use Rattle.std.specs.List.{flat_map}
use Rattle.pr_io.specs.Streams.{Put}
use Rattle.pr_persist.proofs.printing.put_pieces.Given as goal

abbrev pub invariant-loop-piece : goal.invariant-loop-piece
invariant-loop-piece g l =
    record {
      put : Put (g.K.Sink.written l.initial.sink) (g.K.Sink.written l.sink) (flat_map (λ p. p.now) (take l.piece-index l.pieces));
      calm : g.K.Sink.faults l.sink ≡ g.K.Sink.faults l.initial.sink;
    }
