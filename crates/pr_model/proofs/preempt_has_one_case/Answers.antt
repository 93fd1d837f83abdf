use Rattle.pr_model.proofs.Cases.{one_answer}
use Rattle.pr_model.proofs.preempt_has_one_case.Goals as goal

pub returns-clause-one : goal.returns-clause-one
returns-clause-one c = one_answer
