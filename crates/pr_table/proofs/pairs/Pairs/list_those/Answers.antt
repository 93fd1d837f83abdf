use Rattle.std.proofs.Common.{◌≡◌, true, subst, sym, ap, ◌∙◌, List, length, arith}
use Rattle.std.proofs.lemmas.List.Kept.{AllPairs-filter}
use Rattle.pr_words.specs.declared.nexus.Pair.{Pair}
use Rattle.pr_words.specs.Orders.{comes_before}
use Rattle.pr_model.specs.Registrants.{IsAscending, just_those}
use Rattle.pr_table.specs.Goes.{goes}
use Rattle.pr_table.specs.Orderings.{Ordered}
use Rattle.pr_table.proofs.pairs.Pairs.list_those.Goals as goal

pub invariant_of-self : goal.invariant_of-self
invariant_of-self c =
    let same : c.pairs.inside.limit ≡ c.self.inside.limit = ap (λ (o : Ordered). o.limit) c.pairs.view_is ∙ c.requires ∙ sym (ap (λ (o : Ordered). o.limit) c.self.view_is) in
    let from : c.fill.new.pairs.items ≡ c.pairs.inside.items.items = c.fill.ensures.items ∙ c.as_slice.ensures.value in
    let items : c.keep_those.new.pairs.items ≡ just_those (goes c.args.leaving) c.pairs.inside.items.items = c.keep_those.ensures.pairs ∙ ap (just_those (goes c.args.leaving)) from in
    record {
      within = omega (arith, c.keep_those.ensures.fewer, ap (λ (ps : List Pair). length ps) from, c.pairs.invariant.within, same);
      room = omega (arith, c.keep_those.ensures.room, c.fill.ensures.room, c.self.invariant.room);
      ascending = subst (λ (ps : List Pair). IsAscending ps) (sym items) (AllPairs-filter (λ a b. comes_before a.nexus b.nexus ≡ true) (goes c.args.leaving) c.pairs.inside.items.items c.pairs.invariant.ascending);
    }
