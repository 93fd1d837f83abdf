use Rattle.pr_model.proofs.Sizes.{keeps_size, keeps_telling}
use Rattle.pr_model.proofs.entries_keep_the_size.Goals as goal

pub returns-clause-size : goal.returns-clause-size
returns-clause-size c = keeps_size

pub returns-clause-telling : goal.returns-clause-telling
returns-clause-telling c = keeps_telling
