use Rattle.std.proofs.Common.{true, rules, refl, sym}
use Rattle.std.proofs.lemmas.Fn.{filter_same}
use Rattle.pr_words.specs.declared.nexus.Pair.{Pair}
use Rattle.pr_model.proofs.Filters.{filter_all}
use Rattle.pr_table.proofs.places.keep_those.Goals as goal

pub returns-in-All-clause-pairs : goal.returns-in-All-clause-pairs
returns-in-All-clause-pairs c = rw c.in-All.is (sym (filter_all (λ (p : Pair). true) c.args.pairs.now.items (λ k d lt. refl)))

pub returns-in-AllBut-clause-pairs : goal.returns-in-AllBut-clause-pairs
returns-in-AllBut-clause-pairs c = filter_same _ _ _ (λ x b f' k. search rules) _ _ c.retain.ensures.filtered

pub returns-in-Key-clause-pairs : goal.returns-in-Key-clause-pairs
returns-in-Key-clause-pairs c = filter_same _ _ _ (λ x b f' k. search rules) _ _ c.retain-in-Key.ensures.filtered

pub returns-in-KeyBut-clause-pairs : goal.returns-in-KeyBut-clause-pairs
returns-in-KeyBut-clause-pairs c = filter_same _ _ _ (λ x b f' k. search rules) _ _ c.retain-in-KeyBut.ensures.filtered
