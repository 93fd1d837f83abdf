use Rattle.std.proofs.Common.{◌≡◌, ◌⊎◌, inl, inr, true, sym, ◌∙◌}
use Rattle.pr_aptpl.specs.Keepers.{is_in_doubt}
use Rattle.pr_core.proofs.Asked.{unasked, asked}
use Rattle.pr_core.proofs.commands.save.Goals as goal
use Rattle.pr_core.proofs.commands.save.Goals.{else-not-keeps-via-then-not-keeps+else-not-in_doubt, else-not-keeps-via-else-not-keeps}

pub returns-then-not-in_doubt-clause-saves : goal.returns-then-not-in_doubt-clause-saves
returns-then-not-in_doubt-clause-saves g c w v holds keeps none is = unasked c.args.keeper.now w v holds none (sym c.if-not-keeps.true ∙ is) (sym c.in_doubt.ensures ∙ c.if-not-in_doubt.true)

pub returns-clause-saves : goal.returns-clause-saves
returns-clause-saves g c w v holds keeps none is =
    let asks : (c.args.keeps ≡ true) ⊎ (is_in_doubt c.args.keeper.now ≡ true) = elim c.else-not-keeps.branch [
      | else-not-keeps-via-then-not-keeps+else-not-in_doubt d ↦ inr (sym d.in_doubt.ensures ∙ d.if-not-in_doubt.false)
      | else-not-keeps-via-else-not-keeps d ↦ inl d.if-not-keeps.false
    ] in
    asked c.args.keeper.now c.save.new.self w v _ c.save.result holds keeps none c.args.keeps is asks c.save.ensures.saves c.save.ensures.doubt
