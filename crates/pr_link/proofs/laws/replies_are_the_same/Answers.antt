use Rattle.pr_link.proofs.Values.{replies_back}
use Rattle.pr_link.proofs.laws.replies_are_the_same.Goals as goal

pub returns : goal.returns
returns c = replies_back
