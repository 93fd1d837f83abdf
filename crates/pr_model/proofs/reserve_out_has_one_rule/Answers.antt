use Rattle.pr_model.proofs.Rules.{one_act}
use Rattle.pr_model.proofs.reserve_out_has_one_rule.Goals as goal

pub returns-clause-one : goal.returns-clause-one
returns-clause-one c = one_act
