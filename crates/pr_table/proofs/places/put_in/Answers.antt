use Rattle.std.proofs.Common.{subst, sym, rules, ◌≡◌, List}
use Rattle.pr_model.proofs.Ascending.{with_up}
use Rattle.pr_model.specs.Registrants.{IsAscending, pair, with_pair}
use Rattle.pr_words.specs.declared.nexus.Pair.{Pair}
use Rattle.pr_model.specs.Places.{StandsAt, LacksAt}
use Rattle.pr_model.proofs.Places.{set_is_with}
use Rattle.pr_table.proofs.places.put_in.Goals as goal

pub returns-in-Ok-clause-pairs : goal.returns-in-Ok-clause-pairs
returns-in-Ok-clause-pairs c =
    let at : StandsAt c.args.pairs.now.items c.args.nexus c.in-Ok.place = rw c.in-Ok.is at c.requires.place in
    set_is_with c.args.pairs.now.items c.args.nexus c.in-Ok.place c.args.key.0 at

pub returns-in-Ok-clause-ascending : goal.returns-in-Ok-clause-ascending
returns-in-Ok-clause-ascending c = subst (λ (ps : List Pair). IsAscending ps) (sym (returns-in-Ok-clause-pairs c)) (with_up c.args.pairs.now.items (pair c.args.nexus c.args.key.0) c.requires.ascending)

pub returns-in-Err-clause-ascending : goal.returns-in-Err-clause-ascending
returns-in-Err-clause-ascending c =
    let at : LacksAt c.args.pairs.now.items c.args.nexus c.in-Err.place = rw c.in-Err.is at c.requires.place in
    let e : c.insert.new.self.items ≡ with_pair c.args.pairs.now.items (pair c.args.nexus c.args.key.0) = search (rules, at, at.earlier, at.later) in
    subst (λ (ps : List Pair). IsAscending ps) (sym e) (with_up c.args.pairs.now.items (pair c.args.nexus c.args.key.0) c.requires.ascending)
