use Rattle.std.proofs.Common.{rules, arith, ap, ◌∙◌}
use Rattle.pr_gate.specs.declared.view.Stage.TheVariants.{Permitted}
use Rattle.pr_gate.proofs.Keeps.{permits_step, permit_high, permit_low, limit_is}
use Rattle.pr_gate.proofs.steps.permit.Goals as goal

pub load-ticket-requires : goal.load-ticket-requires
load-ticket-requires g c = (search rules, search rules, permits_step g.T.Stands.number g.T.Stands.ground g.T.Stands.stands _ _ _ _ c.requires.free.0 c.requires.free.2)

pub returns-then-ticket-ge-TICKET_LIMIT-clause-ticket : goal.returns-then-ticket-ge-TICKET_LIMIT-clause-ticket
returns-then-ticket-ge-TICKET_LIMIT-clause-ticket g c = (omega (arith, limit_is), permit_high _ _ _ _ c.load-ticket.ensures.2 (omega (arith, limit_is)))

pub returns-else-ticket-ge-TICKET_LIMIT-clause-ticket : goal.returns-else-ticket-ge-TICKET_LIMIT-clause-ticket
returns-else-ticket-ge-TICKET_LIMIT-clause-ticket g c = permit_low _ _ _ _ c.load-ticket.ensures.2 (omega (arith, limit_is)) ∙ ap (λ l. (record c.args.seat.now.me.0 { stage = Permitted }, l)) c.requires.free.1
