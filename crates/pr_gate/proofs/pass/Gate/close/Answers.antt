use Rattle.std.proofs.Common.{rules, ap, sym, subst, is_some}
use Rattle.pr_gate.specs.Passes.{Ends}
use Rattle.pr_gate.proofs.Keeps.{ends, lost}
use Rattle.pr_gate.proofs.pass.Gate.close.Goals as goal

pub value_of-requires : goal.value_of-requires
value_of-requires g c = let end = ends g.T.Stands.number g.T.Stands.ground g.T.Stands.stands _ _ _ _ _ _ _ _ _ c.close_with-closed.ensures.values.2 c.word-ticket.ensures c.word-serving.ensures c.take-slot.ensures.value c.args.pass.numbered c.args.pass.grounded (search rules) in ap is_some end.1

pub returns-then-ticket-serving-clause-value : goal.returns-then-ticket-serving-clause-value
returns-then-ticket-serving-clause-value g c = let end = ends g.T.Stands.number g.T.Stands.ground g.T.Stands.stands _ _ _ _ _ _ _ _ _ c.close_with-closed.ensures.values.2 c.word-ticket.ensures c.word-serving.ensures c.take-slot.ensures.value c.args.pass.numbered c.args.pass.grounded (search rules) in
    subst (Ends g.T.Stands.number g.T.Stands.ground g.T.Stands.stands c.args.pass.number c.args.pass.seat.me.0) (sym (c.value_of.ensures end.0 end.1)) end.2

pub returns-clause-lost : goal.returns-clause-lost
returns-clause-lost g c = lost g.T.Stands.number g.T.Stands.ground g.T.Stands.stands _ _ _ _ _ _ _ c.close_with-closed.ensures.values.2 c.word-ticket.ensures c.word-serving.ensures (search rules)
