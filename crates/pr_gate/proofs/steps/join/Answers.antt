use Rattle.std.proofs.Common.{rules}
use Rattle.pr_gate.proofs.Keeps.{joins_step, met_step}
use Rattle.pr_gate.proofs.steps.join.Goals as goal

pub join_seat-requires : goal.join_seat-requires
join_seat-requires g c = (search rules, search rules, search rules, search rules, joins_step g.T.Stands.number g.T.Stands.ground g.T.Stands.stands _ _ _ _ _ c.requires.note.2 c.requires.note.3)

pub load-requires : goal.load-requires
load-requires g c = (search rules, search rules, met_step g.T.Stands.number g.T.Stands.ground g.T.Stands.stands _ _ _ _)
