use Rattle.std.proofs.Common.{◌≡◌}
use Rattle.pr_table.specs.Tables.{removed_of}
use Rattle.pr_core.specs.Telling.{marked_seat}
use Rattle.pr_core.proofs.SeatLaws.{changed_below}
use Rattle.pr_core.proofs.seats.mark_each.Given as goal

abbrev pub invariant-loop-seat : goal.invariant-loop-seat
invariant-loop-seat l = l.seats ≡ changed_below (marked_seat l.change.abort (removed_of l.table)) l.seat-index l.fn.seats
