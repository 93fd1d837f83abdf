use Rattle.pr_model.proofs.Refused.{one_outcome}
use Rattle.pr_model.proofs.Settling.{answers_settle}
use Rattle.pr_model.proofs.a_command_has_one_outcome.Goals as goal

pub returns-clause-outcome : goal.returns-clause-outcome
returns-clause-outcome c = one_outcome

pub returns-clause-world : goal.returns-clause-world
returns-clause-world c = answers_settle
