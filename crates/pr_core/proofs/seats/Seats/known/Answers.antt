use Rattle.pr_table.specs.Tables.{standing_of}
use Rattle.pr_core.proofs.Restoring.{seats_are}
use Rattle.pr_core.proofs.seats.Seats.known.Goals as goal

pub returns-clause-seat : goal.returns-clause-seat
returns-clause-seat c = seats_are (standing_of c.args.table.now).pairs _ c.in_ok-new_seats.ensures.seats
