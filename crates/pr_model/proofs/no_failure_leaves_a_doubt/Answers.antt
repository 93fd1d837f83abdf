use Rattle.pr_model.proofs.Doubts.{some_is_kept}
use Rattle.pr_model.proofs.no_failure_leaves_a_doubt.Goals as goal

pub returns : goal.returns
returns c = some_is_kept
