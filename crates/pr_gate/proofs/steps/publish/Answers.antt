use Rattle.std.proofs.Common.{rules, ◌++◌, ◌∷◌, [], Some, refl, length, ap, ◌∙◌}
use Rattle.atomic_table.specs.Table.{rest}
use Rattle.pr_gate.specs.Rules.{made_in}
use Rattle.pr_gate.specs.declared.view.Stage.TheVariants.{Idle}
use Rattle.pr_gate.proofs.Keeps.{publishes_step}
use Rattle.pr_gate.proofs.steps.publish.Goals as goal

pub fetch_add-requires : goal.fetch_add-requires
fetch_add-requires g c = (
  search rules,
  search rules,
  rw c.exchange-out.ensures.3 (publishes_step g.T.Stands.number g.T.Stands.ground g.T.Stands.stands _ _ _ _ c.requires.inside.0.0 (g.T.Stands.number c.args.made) c.args.value c.args.made c.requires.table.1.1 c.requires.inside.0.1 c.requires.names c.requires.ground refl c.requires.stands
      (ap (λ l. (0, Some (record { value = c.args.value; made = Some c.args.made })) ∷ rest l) c.requires.inside.1)),
)

pub returns-clause-left : goal.returns-clause-left
returns-clause-left g c =
    let out = c.exchange-out.ensures.3 ∙ ap (λ l. (c.args.seat.now.me.0, (0, Some (record { value = c.args.value; made = Some c.args.made })) ∷ rest l)) c.requires.inside.1 in
    c.fetch_add.ensures.2.0 ∙ (ap (λ m. (record m.0 { seen = m.0.seen ++ made_in m.1; mine = m.0.mine ++ made_in m.1; stage = Idle }, [])) out)

pub returns-clause-count : goal.returns-clause-count
returns-clause-count g c = (c.fetch_add.ensures.2.1 ∙ ap (λ m. length m.0.seen) c.exchange-out.ensures.3, c.fetch_add.ensures.2.2)
