use Rattle.std.proofs.Common.{sym, ap, ◌∙◌, Some, option_map}
use Rattle.pr_model.specs.Worlds.{set_at}
use Rattle.pr_core.specs.Seats.{seat_of, told_first}
use Rattle.pr_core.proofs.SeatLaws.{at_place, written}
use Rattle.pr_core.proofs.seats.Seats.take_attention.Goals as goal

pub returns-in-Ok-clause-seat : goal.returns-in-Ok-clause-seat
returns-in-Ok-clause-seat c =
    let self = c.args.self.now in
    let s = c.index_mut.result.now in
    let at = at_place self.items.items c.args.nexus c.in-Ok.place s c.in-Ok.ensures c.index_mut.ensures.value in
    written self.items.items c.args.nexus c.in-Ok.place (record { nexus = s.nexus; owner = s.owner; attentions = c.take.new.self; task = s.task }) c.in-Ok.ensures at.1
    ∙ ap (λ cs. set_at (seat_of self) c.args.nexus (Some (record { nexus = s.nexus; owner = s.owner; attentions = cs; task = s.task }))) c.take.ensures.rest
    ∙ ap (λ o. set_at (seat_of self) c.args.nexus (option_map told_first o)) (sym at.0)
