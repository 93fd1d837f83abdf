use Rattle.std.proofs.Common.{◌≡◌, ◌-◌, ℕ, List, take, replicate, length, ap, ◌∙◌, sym}
use Rattle.std.proofs.lemmas.List.{take_at}
use Rattle.pr_grammar.specs.Cdbs.{spelled_cdb}
use Rattle.pr_initiator.specs.Commands.{plain_cdb}
use Rattle.pr_initiator.proofs.Ordering.{answered}
use Rattle.pr_initiator.proofs.initiator.Initiator.order.Goals as goal

pub returns-clause-answered : goal.returns-clause-answered
returns-clause-answered g c =
    let bytes : List ℕ = spelled_cdb (plain_cdb c.args.command) in
    let cut : take c.write-size.result c.write-size.new.out ≡ bytes = ap (take c.write-size.result) c.write-size.ensures.bytes ∙ take_at bytes (replicate (16 - length bytes) 0) c.write-size.result (sym c.write-size.ensures.size) in
    answered _ _ (record { command = c.args.command; list = c.args.list.now }) c.new.result _ c.command.result (c.new.ensures ∙ cut) c.command.ensures.answers c.command.ensures.yields c.command.ensures.tag c.command.ensures.reference c.command.ensures.later c.command.ensures.down
