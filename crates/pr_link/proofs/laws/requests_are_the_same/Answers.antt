use Rattle.pr_link.proofs.Values.{requests_back}
use Rattle.pr_link.proofs.laws.requests_are_the_same.Goals as goal

pub returns : goal.returns
returns c = requests_back
