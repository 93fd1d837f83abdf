use Rattle.pr_model.proofs.Walk.{legal_is_fenced}
use Rattle.pr_model.proofs.a_removed_nexus_is_fenced.Goals as goal

pub returns : goal.returns
returns c = legal_is_fenced
