use Rattle.std.proofs.Common.{ap, sym, refl, subst, ◌∙◌}
use Rattle.pr_initiator.specs.Links.{link_of}
use Rattle.pr_fence.specs.Whole.{told_wire}
use Rattle.pr_fence.proofs.fence.run_over.Goals as goal

pub returns-clause-run : goal.returns-clause-run
returns-clause-run g c =
    record {
      first = link_of c.args.initiator;
      last = link_of c.run-ran.new.initiator;
      result = c.run-ran.result;
      runs = c.run-ran.ensures.step;
      ends = c.exit_of.ensures;
      before = refl;
      after = ap (told_wire g.W.Wire) (sym c.into_wire.ensures);
    }

pub returns-clause-reference : goal.returns-clause-reference
returns-clause-reference g c = ap g.W.Wire.reference c.into_wire.ensures ∙ c.run-ran.ensures.comes.0

pub returns-clause-comes : goal.returns-clause-comes
returns-clause-comes g c = subst (g.W.Wire.comes c.args.initiator.wire) (sym c.into_wire.ensures) c.run-ran.ensures.comes.1
