use Rattle.pr_model.proofs.SessionLaws.{turns_join}
use Rattle.pr_model.proofs.turns_are_joined.Goals as goal

pub returns : goal.returns
returns c = turns_join
