use Rattle.std.proofs.Common.{◌≤◌, length, sym, ◌∙◌, arith}
use Rattle.pr_fence.specs.Seeing.{is_own}
use Rattle.pr_fence.proofs.Sighting.{settled, one_more, none}
use Rattle.pr_fence.proofs.seeing.has_own.Goals as goal

pub returns-then-is_own : goal.returns-then-is_own
returns-then-is_own c = settled (is_own c.args.nexus c.args.key) c.args.full.now.entries c.loop-i.i c.at-entry.result c.at-entry.ensures (sym c.is_own.ensures ∙ c.if-is_own.true)

pub loop-i-preserved : goal.loop-i-preserved
loop-i-preserved c = one_more (is_own c.args.nexus c.args.key) c.args.full.now.entries c.loop-i.i c.at-entry.result c.at-entry.ensures (sym c.is_own.ensures ∙ c.if-is_own.false) c.loop-i.invariant

pub returns : goal.returns
returns c =
    let most : length c.args.full.now.entries ≤ c.loop-i.i = omega (arith, c.loop-i-test.false, c.count-i-end.ensures) in
    none (is_own c.args.nexus c.args.key) c.args.full.now.entries c.loop-i.i most c.loop-i.invariant
