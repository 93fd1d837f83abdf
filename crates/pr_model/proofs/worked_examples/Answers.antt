use Rattle.pr_model.proofs.Computed.{transfers, conflicts, marks, steps, replies}
use Rattle.pr_model.proofs.worked_examples.Goals as goal

pub returns-clause-transfers : goal.returns-clause-transfers
returns-clause-transfers c = transfers

pub returns-clause-conflicts : goal.returns-clause-conflicts
returns-clause-conflicts c = conflicts

pub returns-clause-marks : goal.returns-clause-marks
returns-clause-marks c = marks

pub returns-clause-steps : goal.returns-clause-steps
returns-clause-steps c = steps

pub returns-clause-replies : goal.returns-clause-replies
returns-clause-replies c = replies
