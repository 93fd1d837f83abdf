use Rattle.std.proofs.Common.{◌≡◌}
use Rattle.pr_table.specs.Tables.{standing_of, removed_of}
use Rattle.pr_core.specs.Telling.{told_seat}
use Rattle.pr_core.proofs.SeatLaws.{changed_below}
use Rattle.pr_core.proofs.seats.tell_each.Given as goal

abbrev pub invariant-loop-seat : goal.invariant-loop-seat
invariant-loop-seat l = l.seats ≡ changed_below (told_seat l.caller (standing_of l.table).pairs l.change.stay_code (removed_of l.table) l.change.removed_code) l.seat-index l.fn.seats
