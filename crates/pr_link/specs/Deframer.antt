-- The stream that a deframer stands for.
use Rattle.std.specs.Prelude.{ℕ, List}
use Rattle.pr_link.specs.declared.deframer.Deframer.{Deframer}
use Rattle.pr_link.specs.Streams.{Stream}

-- all that is known of its stream
abbrev pub stream_of : Deframer → Stream
stream_of d = record { side = d.side; place = d.place; held = d.held.items; broken = d.broken }

-- the bytes that it holds
abbrev pub held_of : Deframer → List ℕ
held_of d = (stream_of d).held

-- how many bytes of the stream came before those
abbrev pub place_of : Deframer → ℕ
place_of d = (stream_of d).place
