use Rattle.std.proofs.Common.{sym, ap, ◌∙◌, option_map}
use Rattle.pr_model.specs.Worlds.{set_at}
use Rattle.pr_core.specs.Seats.{seat_of, logged_out}
use Rattle.pr_core.proofs.SeatLaws.{at_place, written}
use Rattle.pr_core.proofs.seats.Seats.log_out.Goals as goal

pub returns-in-Ok-clause-seat : goal.returns-in-Ok-clause-seat
returns-in-Ok-clause-seat c =
    let self = c.args.self.now in
    let s = c.index_mut-seat.result.now in
    let at = at_place self.items.items c.args.nexus c.in-Ok.place s c.in-Ok.ensures c.index_mut-seat.ensures.value in
    written self.items.items c.args.nexus c.in-Ok.place (logged_out s) c.in-Ok.ensures at.1
    ∙ ap (λ o. set_at (seat_of self) c.args.nexus (option_map logged_out o)) (sym at.0)
