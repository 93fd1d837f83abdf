use Rattle.std.proofs.Common.{subst, sym, List, arith}
use Rattle.pr_words.specs.declared.nexus.Pair.{Pair}
use Rattle.pr_model.specs.Registrants.{IsAscending}
use Rattle.pr_model.proofs.Ascending.{but_up}
use Rattle.pr_table.specs.Goes.{goes}
use Rattle.pr_table.proofs.pairs.Pairs.take_out.Goals as goal

pub invariant_of-self : goal.invariant_of-self
invariant_of-self c = record {
  within = omega (arith, c.take_out.ensures.fewer, c.self.invariant.within);
  room = omega (arith, c.take_out.ensures.room, c.self.invariant.room);
  ascending = subst (λ (ps : List Pair). IsAscending ps) (sym c.take_out.ensures.pairs) (but_up _ (goes c.args.leaving) c.self.invariant.ascending);
}
