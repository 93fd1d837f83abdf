use Rattle.std.proofs.Common.{◌∙◌}
use Rattle.pr_core.proofs.SeatLaws.{known_there}
use Rattle.pr_core.proofs.seats.Seats.is_known.Goals as goal

pub returns : goal.returns
returns c = c.is_ok.ensures.value ∙ known_there c.args.self.now.items.items c.args.nexus c.place_of.result c.place_of.ensures
