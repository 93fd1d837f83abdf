use Rattle.std.proofs.Common.{arith, ◌∙◌, sym}
use Rattle.pr_core.proofs.SeatLaws.{sits_at, misses_at, misses_behind}
use Rattle.pr_core.proofs.seats.place_of.Goals as goal

pub returns-then-place-seats : goal.returns-then-place-seats
returns-then-place-seats c = misses_behind _ _ _ c.requires c.first_not_before-place.ensures (omega arith)

pub returns-then-is_same : goal.returns-then-is_same
returns-then-is_same c =
    let within = c.first_not_before-place.ensures.within in
    sits_at _ _ _ _ c.first_not_before-place.ensures (omega (arith, c.if-place-seats.false)) (sym c.is_same.ensures ∙ c.if-is_same.true)

pub returns-else-is_same : goal.returns-else-is_same
returns-else-is_same c =
    let within = c.first_not_before-place.ensures.within in
    misses_at _ _ _ _ c.requires c.first_not_before-place.ensures (omega (arith, c.if-place-seats.false)) (sym c.is_same.ensures ∙ c.if-is_same.false)
