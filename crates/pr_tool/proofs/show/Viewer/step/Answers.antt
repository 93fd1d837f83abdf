use Rattle.std.proofs.Common.{◌<◌, ℕ, List, take, Option, ◌∙◌, arith}
use Rattle.pr_io.specs.Streams.{Took, HasEnded}
use Rattle.pr_words.specs.declared.nexus.Side.TheVariants.{Target}
use Rattle.pr_grammar.proofs.Framings.{short_most, short_some}
use Rattle.pr_link.specs.Deframer.{stream_of, held_of}
use Rattle.pr_tool.specs.declared.exit.Exit.TheVariants.{ReadFault}
use Rattle.pr_tool.proofs.Showings.{fault_stands, end_stands, ends_text, ends_counted, fault_counted, calm_counted, calm_counted_by, read_not_write, ended_here, took_zero}
use Rattle.pr_tool.proofs.show.Viewer.step.Goals as goal

pub look_behind-requires-clause-none : goal.look_behind-requires-clause-none
look_behind-requires-clause-none g c =
    let some : 0 < c.args.self.now.need = short_some Target (held_of c.args.self.now.deframer) c.args.self.now.need c.requires.short in
    omega (arith, c.min-room.ensures, c.if-room-eq0.true)

pub returns-then-room-eq0-clause-steps : goal.returns-then-room-eq0-clause-steps
returns-then-room-eq0-clause-steps g c budget ra wa goes = c.look_behind.ensures.stands budget ra wa goes

pub returns-then-room-eq0-clause-read_faults : goal.returns-then-room-eq0-clause-read_faults
returns-then-room-eq0-clause-read_faults g c = c.look_behind.ensures.read_faults

pub returns-then-room-eq0-clause-write_faults : goal.returns-then-room-eq0-clause-write_faults
returns-then-room-eq0-clause-write_faults g c = c.look_behind.ensures.write_faults

pub take_into-requires : goal.take_into-requires
take_into-requires g c = omega (arith, c.min-room.ensures, short_most Target (held_of c.args.self.now.deframer) c.args.self.now.need c.requires.short, c.requires.work)

pub returns-in_default-clause-steps : goal.returns-in_default-clause-steps
returns-in_default-clause-steps g c budget ra wa goes =
    let v = c.args.self.now in
    let same = rw c.in_default.is at c.take_into.ensures.bytes in
    fault_stands budget v.left v.frames v.need _ _ ra (g.S.Source.rest c.args.source.now) (g.S.Source.rest c.take_into.new.source) wa (g.K.Sink.written c.args.sink.now) (g.K.Sink.written c.stop.new.sink) (stream_of v.deframer) v.text.items c.stop.result goes c.requires.short same
    (ends_text ReadFault c.stop.result _ _ _ _ _ _ c.stop.ensures.ends c.deref.ensures.value)

pub returns-in_default-clause-read_faults : goal.returns-in_default-clause-read_faults
returns-in_default-clause-read_faults g c = fault_counted c.stop.result _ _ _ _ _ _ _ c.stop.ensures.ends (rw c.in_default.is at c.take_into.ensures.cause.once)

pub returns-in_default-clause-write_faults : goal.returns-in_default-clause-write_faults
returns-in_default-clause-write_faults g c = ends_counted ReadFault c.stop.result _ _ _ _ _ c.stop.ensures.ends read_not_write

pub returns-then-n-eq0-clause-steps : goal.returns-then-n-eq0-clause-steps
returns-then-n-eq0-clause-steps g c budget ra wa goes =
    let v = c.args.self.now in
    let room : ℕ = c.min-room.result in
    let rb : Option (List ℕ) = g.S.Source.rest c.args.source.now in
    let rc : Option (List ℕ) = g.S.Source.rest c.take_into.new.source in
    let took : Took rb rc (take c.in-Ok.n c.take_into.new.work.items) = rw c.in-Ok.is at c.take_into.ensures.bytes in
    let ended : HasEnded rc c.in-Ok.n room = rw c.in-Ok.is at c.take_into.ensures.end in
    end_stands budget v.left v.frames v.need _ _ ra rb rc wa (g.K.Sink.written c.args.sink.now) (g.K.Sink.written c.end.new.sink) (stream_of v.deframer) v.text.items c.end.result goes c.requires.short
    (took_zero rb rc c.take_into.new.work.items c.in-Ok.n took c.if-n-eq0.true) (ended_here rc c.in-Ok.n room ended (omega (arith, c.if-room-eq0.false)) c.if-n-eq0.true) (c.end.ensures.ends goes.frames v.need goes.counted goes.placed)

pub returns-then-n-eq0-clause-read_faults : goal.returns-then-n-eq0-clause-read_faults
returns-then-n-eq0-clause-read_faults g c = calm_counted c.end.result _ _ c.end.ensures.read (rw c.in-Ok.is at c.take_into.ensures.cause.calm)

pub returns-then-n-eq0-clause-write_faults : goal.returns-then-n-eq0-clause-write_faults
returns-then-n-eq0-clause-write_faults g c = c.end.ensures.faults

pub arrive-requires-clause-ready : goal.arrive-requires-clause-ready
arrive-requires-clause-ready g c =
    let ready = c.requires in
    record { side = ready.side; unbroken = ready.unbroken; short = ready.short; work = c.take_into.ensures.len ∙ ready.work; taken = ready.taken; room = ready.room; count = ready.count }

pub returns-clause-steps : goal.returns-clause-steps
returns-clause-steps g c budget ra wa goes =
    let rb : Option (List ℕ) = g.S.Source.rest c.args.source.now in
    let rc : Option (List ℕ) = g.S.Source.rest c.take_into.new.source in
    let took : Took rb rc (take c.in-Ok.n c.take_into.new.work.items) = rw c.in-Ok.is at c.take_into.ensures.bytes in
    c.arrive.ensures.steps budget ra rb rc wa goes took

pub returns-clause-fewer : goal.returns-clause-fewer
returns-clause-fewer g c is = omega (arith, c.arrive.ensures.fewer is, c.if-n-eq0.false)

pub returns-clause-read_faults : goal.returns-clause-read_faults
returns-clause-read_faults g c = calm_counted_by c.arrive.result _ _ c.arrive.ensures.read (rw c.in-Ok.is at c.take_into.ensures.cause.calm)
