use Rattle.std.proofs.Common.{sym, ap, ◌∙◌, Some, option_map}
use Rattle.pr_model.specs.Worlds.{set_at}
use Rattle.pr_core.specs.Seats.{seat_of}
use Rattle.pr_core.specs.Stepping.{with_task}
use Rattle.pr_core.proofs.SeatLaws.{at_place, written}
use Rattle.pr_core.proofs.seats.Seats.begin.Goals as goal

pub returns-in-Ok-clause-seat : goal.returns-in-Ok-clause-seat
returns-in-Ok-clause-seat c =
    let self = c.args.self.now in
    let s = c.index_mut.result.now in
    let at = at_place self.items.items c.args.nexus c.in-Ok.place s c.in-Ok.ensures c.index_mut.ensures.value in
    written self.items.items c.args.nexus c.in-Ok.place (with_task (Some c.args.task) s) c.in-Ok.ensures at.1
    ∙ ap (λ o. set_at (seat_of self) c.args.nexus (option_map (with_task (Some c.args.task)) o)) (sym at.0)
