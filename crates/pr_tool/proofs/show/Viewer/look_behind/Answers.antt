use Rattle.std.proofs.Common.{◌≡◌, ◌≤◌, ℕ, List, length, take, Option, arith, lit<}
use Rattle.std.proofs.lemmas.List.{length-take}
use Rattle.pr_io.specs.Streams.{Took, HasEnded}
use Rattle.pr_link.specs.Deframer.{stream_of}
use Rattle.pr_tool.specs.declared.exit.Exit.TheVariants.{ReadFault, TooLong}
use Rattle.pr_tool.proofs.Showings.{fault_stands, end_stands, long_stands, ends_text, ends_unread, ends_counted, fault_counted, calm_counted, long_not_read, long_not_write, read_not_write, ended_here, took_zero}
use Rattle.pr_tool.proofs.show.Viewer.look_behind.Goals as goal

pub returns-in_default-clause-stands : goal.returns-in_default-clause-stands
returns-in_default-clause-stands g c budget ra wa goes =
    let v = c.args.self.now in
    let same = rw c.in_default.is at c.take.ensures.bytes in
    fault_stands budget v.left v.frames v.need _ _ ra (g.S.Source.rest c.args.source.now) (g.S.Source.rest c.take.new.self) wa (g.K.Sink.written c.args.sink.now) (g.K.Sink.written c.stop.new.sink) (stream_of v.deframer) v.text.items c.stop.result goes c.requires.ready.short same
    (ends_text ReadFault c.stop.result _ _ _ _ _ _ c.stop.ensures.ends c.deref.ensures.value)

pub returns-in_default-clause-read_faults : goal.returns-in_default-clause-read_faults
returns-in_default-clause-read_faults g c = fault_counted c.stop.result _ _ _ _ _ _ _ c.stop.ensures.ends (rw c.in_default.is at c.take.ensures.cause.once)

pub returns-in_default-clause-write_faults : goal.returns-in_default-clause-write_faults
returns-in_default-clause-write_faults g c = ends_counted ReadFault c.stop.result _ _ _ _ _ c.stop.ensures.ends read_not_write

pub returns-then-n-eq0-clause-stands : goal.returns-then-n-eq0-clause-stands
returns-then-n-eq0-clause-stands g c budget ra wa goes =
    let v = c.args.self.now in
    let rb : Option (List ℕ) = g.S.Source.rest c.args.source.now in
    let rc : Option (List ℕ) = g.S.Source.rest c.take.new.self in
    let took : Took rb rc (take c.in-Ok.n c.take.new.buf) = rw c.in-Ok.is at c.take.ensures.bytes in
    let ended : HasEnded rc c.in-Ok.n 1 = rw c.in-Ok.is at c.take.ensures.end in
    end_stands budget v.left v.frames v.need _ _ ra rb rc wa (g.K.Sink.written c.args.sink.now) (g.K.Sink.written c.end.new.sink) (stream_of v.deframer) v.text.items c.end.result goes c.requires.ready.short
    (took_zero rb rc c.take.new.buf c.in-Ok.n took c.if-n-eq0.true) (ended_here rc c.in-Ok.n 1 ended (lit< tt) c.if-n-eq0.true) (c.end.ensures.ends goes.frames v.need goes.counted goes.placed)

pub returns-then-n-eq0-clause-read_faults : goal.returns-then-n-eq0-clause-read_faults
returns-then-n-eq0-clause-read_faults g c = calm_counted c.end.result _ _ c.end.ensures.read (rw c.in-Ok.is at c.take.ensures.cause.calm)

pub returns-then-n-eq0-clause-write_faults : goal.returns-then-n-eq0-clause-write_faults
returns-then-n-eq0-clause-write_faults g c = c.end.ensures.faults

pub returns-clause-stands : goal.returns-clause-stands
returns-clause-stands g c budget ra wa goes =
    let v = c.args.self.now in
    let rb : Option (List ℕ) = g.S.Source.rest c.args.source.now in
    let rc : Option (List ℕ) = g.S.Source.rest c.take.new.self in
    let took : Took rb rc (take c.in-Ok.n c.take.new.buf) = rw c.in-Ok.is at c.take.ensures.bytes in
    let count : c.in-Ok.n ≤ 1 = rw c.in-Ok.is at c.take.ensures.count in
    let filled : length c.take.new.buf ≡ 1 = c.take.auto.buf in
    let one : length (take c.in-Ok.n c.take.new.buf) ≡ 1 = omega (arith, length-take c.in-Ok.n c.take.new.buf, filled, count, c.if-n-eq0.false) in
    long_stands budget v.left v.frames v.need _ _ ra rb rc wa (g.K.Sink.written c.args.sink.now) (g.K.Sink.written c.stop-2.new.sink) (stream_of v.deframer) v.text.items (take c.in-Ok.n c.take.new.buf) c.stop-2.result goes c.requires.ready.short c.requires.none took one
    (ends_text TooLong c.stop-2.result _ _ _ _ _ _ c.stop-2.ensures.ends c.deref-2.ensures.value)

pub returns-clause-read_faults : goal.returns-clause-read_faults
returns-clause-read_faults g c = calm_counted c.stop-2.result _ _ (ends_unread TooLong c.stop-2.result _ _ _ _ _ c.stop-2.ensures.ends long_not_read) (rw c.in-Ok.is at c.take.ensures.cause.calm)

pub returns-clause-write_faults : goal.returns-clause-write_faults
returns-clause-write_faults g c = ends_counted TooLong c.stop-2.result _ _ _ _ _ c.stop-2.ensures.ends long_not_write
