use Rattle.pr_model.proofs.Moved.{spared_stay, last_decides}
use Rattle.pr_model.proofs.the_last_entry_decides_a_block.Goals as goal

pub returns-clause-spared : goal.returns-clause-spared
returns-clause-spared c = spared_stay

pub returns-clause-decides : goal.returns-clause-decides
returns-clause-decides c = last_decides
