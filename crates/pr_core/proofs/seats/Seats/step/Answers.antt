use Rattle.std.proofs.Common.{◌≡◌, sym, subst, Option, IfSome, option_map, set}
use Rattle.pr_model.specs.Worlds.{set_at}
use Rattle.pr_core.specs.declared.seats.Seat.{Seat}
use Rattle.pr_core.specs.Places.{seat_in}
use Rattle.pr_core.specs.Seats.{seat_of, task_in}
use Rattle.pr_core.specs.Stepping.{with_task, task_after}
use Rattle.pr_core.proofs.SeatLaws.{at_place, stepped_seat}
use Rattle.pr_core.proofs.seats.Seats.step.Goals as goal

pub returns-clause-seat : goal.returns-clause-seat
returns-clause-seat g c =
    let self = c.args.self.now in
    let s = c.index_mut.result.now in
    let at = at_place self.items.items c.args.nexus c.in-Ok.place s c.in-Ok.ensures c.index_mut.ensures.value in
    subst (λ (o : Option Seat). IfSome (task_in o) (λ t. seat_in (set self.items.items c.in-Ok.place c.step.new.self) ≡ set_at (seat_of self) c.args.nexus (option_map (with_task (task_after c.step.result t)) o))) (sym at.0)
    (stepped_seat self.items.items c.args.nexus c.in-Ok.place s c.step.new.self c.step.result c.in-Ok.ensures at.1 c.step.ensures.seat)
