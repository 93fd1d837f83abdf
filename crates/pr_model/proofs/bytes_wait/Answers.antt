use Rattle.pr_model.proofs.Overflow.{takes_more}
use Rattle.pr_model.proofs.bytes_wait.Goals as goal

pub returns : goal.returns
returns c = takes_more
