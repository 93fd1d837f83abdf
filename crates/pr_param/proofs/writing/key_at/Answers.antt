-- The registration in the next place has the nexus, or it is passed.
use Rattle.std.proofs.Common.{ap, sym, ◌∙◌, arith}
use Rattle.std.proofs.lemmas.List.{drop_all}
use Rattle.pr_grammar.specs.InReplies.{key_at}
use Rattle.pr_param.proofs.Holders.{key_here, key_past}
use Rattle.pr_param.proofs.writing.key_at.Goals as goal

pub returns-then-is_same : goal.returns-then-is_same
returns-then-is_same g c =
    let pairs = (g.R.Registrants.standing c.args.from.now).pairs in
    sym (key_here pairs c.args.nexus c.loop-i.i _ c.at.ensures (sym c.is_same.ensures ∙ c.if-is_same.true)) ∙ c.loop-i.invariant

pub loop-i-preserved : goal.loop-i-preserved
loop-i-preserved g c =
    let pairs = (g.R.Registrants.standing c.args.from.now).pairs in
    sym (key_past pairs c.args.nexus c.loop-i.i _ c.at.ensures (sym c.is_same.ensures ∙ c.if-is_same.false)) ∙ c.loop-i.invariant

pub returns : goal.returns
returns g c =
    let pairs = (g.R.Registrants.standing c.args.from.now).pairs in
    sym (ap (λ ps. key_at ps c.args.nexus) (drop_all c.loop-i.i pairs (omega (arith, c.count-i-end.ensures.count, c.loop-i-test.false)))) ∙ c.loop-i.invariant
