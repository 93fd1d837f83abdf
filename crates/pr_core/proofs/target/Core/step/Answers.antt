use Rattle.std.proofs.Common.{refl}
use Rattle.pr_model.proofs.Acknowledged.{step_keeps}
use Rattle.pr_core.specs.Outs.{step_out}
use Rattle.pr_core.proofs.Entering.{extends_one, makes_still, step_counted, step_failures}
use Rattle.pr_core.proofs.target.Core.step.Goals as goal

pub returns-clause-entry : goal.returns-clause-entry
returns-clause-entry g c sent carried =
    extends_one _ _ _ c.step.ensures.blocks refl c.step.ensures.medium.reference (step_counted _ _ c.step.result c.step.new.block c.step.ensures.medium.cause) refl (step_failures c.step.result c.step.new.block (g.D.Disk.faults _)) refl
    (makes_still c.args.self.now _ _ refl (λ w. step_keeps w c.args.who c.args.nexus sent (step_out c.step.result c.step.new.block)) (c.step.ensures.enters c.args.who sent c.requires.owner carried))

pub returns-clause-others : goal.returns-clause-others
returns-clause-others g c = c.step.ensures.others c.args.who c.requires.owner
