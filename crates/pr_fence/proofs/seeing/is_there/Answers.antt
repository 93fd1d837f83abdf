use Rattle.std.proofs.Common.{◌≤◌, length, sym, ◌∙◌, arith}
use Rattle.pr_fence.specs.Seeing.{has_key}
use Rattle.pr_fence.proofs.Sighting.{settled, one_more, none}
use Rattle.pr_fence.proofs.seeing.is_there.Goals as goal

pub returns-then-is_key : goal.returns-then-is_key
returns-then-is_key c = settled (has_key c.args.key) c.args.full.now.entries c.loop-i.i c.at-entry.result c.at-entry.ensures (sym c.is_key.ensures ∙ c.if-is_key.true)

pub loop-i-preserved : goal.loop-i-preserved
loop-i-preserved c = one_more (has_key c.args.key) c.args.full.now.entries c.loop-i.i c.at-entry.result c.at-entry.ensures (sym c.is_key.ensures ∙ c.if-is_key.false) c.loop-i.invariant

pub returns : goal.returns
returns c =
    let most : length c.args.full.now.entries ≤ c.loop-i.i = omega (arith, c.loop-i-test.false, c.count-i-end.ensures) in
    none (has_key c.args.key) c.args.full.now.entries c.loop-i.i most c.loop-i.invariant
