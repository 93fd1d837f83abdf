use Rattle.std.proofs.Common.{◌∙◌, arith}
use Rattle.pr_table.specs.Tables.{removed_of}
use Rattle.pr_core.specs.Telling.{marked_seat}
use Rattle.pr_core.proofs.SeatLaws.{as_long, changed_step, changed_all}
use Rattle.pr_core.proofs.seats.mark_each.Goals as goal

pub loop-seat-preserved : goal.loop-seat-preserved
loop-seat-preserved c =
    let f = marked_seat c.args.change.now.abort (removed_of c.args.table.now) in
    let long = as_long f c.args.seats.now c.loop-seat.seats c.loop-seat.seat-index c.loop-seat.invariant in
    changed_step f c.args.seats.now c.loop-seat.seats c.loop-seat.seat-index _ _ c.loop-seat.invariant (omega (arith, long, c.loop-seat-test.true)) c.mark.ensures

pub returns : goal.returns
returns c =
    let f = marked_seat c.args.change.now.abort (removed_of c.args.table.now) in
    let long = as_long f c.args.seats.now c.loop-seat.seats c.loop-seat.seat-index c.loop-seat.invariant in
    c.loop-seat.invariant ∙ changed_all f c.args.seats.now c.loop-seat.seat-index (omega (arith, long, c.loop-seat-test.false))
