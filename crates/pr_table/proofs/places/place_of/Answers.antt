use Rattle.std.proofs.Common.{arith, ◌∙◌, sym}
use Rattle.pr_model.proofs.Places.{lacking_from, lacking_behind}
use Rattle.pr_table.proofs.places.place_of.Goals as goal

pub returns-then-place-pairs : goal.returns-then-place-pairs
returns-then-place-pairs c = lacking_behind _ _ _ c.requires c.first_not_before-place.ensures (omega arith)

pub returns-else-is_same : goal.returns-else-is_same
returns-else-is_same c =
    let within = c.first_not_before-place.ensures.within in
    lacking_from _ _ _ _ c.requires c.first_not_before-place.ensures (omega (arith, c.if-place-pairs.false)) (sym c.is_same.ensures ∙ c.if-is_same.false)
