use Rattle.std.proofs.Common.{is_some, sym, ◌∙◌, subst}
use denote.Param.Send.{sendable}
use Rattle.pr_session.proofs.Sends.{entry_send}
use Rattle.pr_model.specs.Histories.{AreBlocksOf}
use Rattle.pr_core.specs.Shared.{Stands}
use Rattle.pr_core.proofs.SharedLaws.{opened_stands}
use Rattle.pr_gate.specs.Passes.{seen_of, ground_of}
use Rattle.pr_session.proofs.Sharings.{right_seen}
use Rattle.pr_session.proofs.opening.open_gate.Goals as goal

pub new-requires : goal.new-requires
new-requires g c =
    let o = c.in-Ok.ensures in (
      search (entry_send, sendable) depth 8,
      opened_stands c.in-Ok.core (is_some (g.D.Disk.story c.args.disk).now)
          (λ m tells count blocks told. o.stands m tells (count ∙ o.blocks) (subst (λ k. AreBlocksOf (g.M.Medium.contents k) m) o.over.0 blocks) told),
    )

pub returns-in-Ok-new-clause-right : goal.returns-in-Ok-new-clause-right
returns-in-Ok-new-clause-right g c ground at =
    let o = c.in-Ok.ensures in
    let made = c.in-Ok-new.ensures in
    right_seen c.in-Ok.core ground (ground_of c.in-Ok-new.made.1) (seen_of c.in-Ok-new.made.1) at made.ground
    (subst (Stands c.in-Ok.core) (sym made.lists.0) (opened_stands c.in-Ok.core (is_some (g.D.Disk.story c.args.disk).now)
    (λ m tells count blocks told. o.stands m tells (count ∙ o.blocks) (subst (λ k. AreBlocksOf (g.M.Medium.contents k) m) o.over.0 blocks) told)))
