use Rattle.std.proofs.Common.{◌≡◌, ℕ, ◌+◌, Bool, true, false, suc, List, drop, Some, if◌then◌else◌, sym, ◌∙◌, ap, arith}
use Rattle.std.specs.Prelude.{slice_get}
use Rattle.pr_param.proofs.Holders.{drop_front}
use Rattle.pr_words.specs.Orders.{same_nexus}
use Rattle.pr_words.specs.declared.nexus.Nexus.{Nexus}
use Rattle.pr_words.specs.declared.nexus.Pair.{Pair}
use Rattle.pr_grammar.specs.Files.{place_in}
use Rattle.pr_aptpl.proofs.spelling.place_of.Goals as goal

at_front : (ps : List Pair) (n : Nexus) (i : ℕ) (p : Pair) (b : Bool) → slice_get ps i ≡ Some p → same_nexus p.nexus n ≡ b → place_in (drop i ps) n ≡ (if b then 0 else suc (place_in (drop (i + 1) ps) n))
at_front ps n i p b stands same =
    ap (λ (l : List Pair). place_in l n) (drop_front ps i p stands) ∙ ap (λ (x : Bool). if x then 0 else suc (place_in (drop (i + 1) ps) n)) same

pub returns-then-is_same : goal.returns-then-is_same
returns-then-is_same c =
    let front : place_in (drop c.loop-i.i c.args.table.now.pairs.pairs) c.args.nexus ≡ 0 = at_front c.args.table.now.pairs.pairs c.args.nexus c.loop-i.i _ true c.at.ensures (sym c.is_same.ensures ∙ c.if-is_same.true) in
    record { place = omega (arith, c.loop-i.invariant, front); within = omega (arith, c.count-count.ensures.count, c.loop-i-test.true) }

pub loop-i-preserved : goal.loop-i-preserved
loop-i-preserved c =
    let front : place_in (drop c.loop-i.i c.args.table.now.pairs.pairs) c.args.nexus ≡ suc (place_in (drop (c.loop-i.i + 1) c.args.table.now.pairs.pairs) c.args.nexus) =
    at_front c.args.table.now.pairs.pairs c.args.nexus c.loop-i.i _ false c.at.ensures (sym c.is_same.ensures ∙ c.if-is_same.false) in
    omega (arith, c.loop-i.invariant, front)
