use Rattle.pr_model.proofs.Walk.{aborted_is_fenced}
use Rattle.pr_model.proofs.task_aborted_comes_of_fencing.Goals as goal

pub returns : goal.returns
returns c = aborted_is_fenced
