use Rattle.pr_model.proofs.Reaching.{acted_reaches, acted_knows}
use Rattle.pr_model.proofs.whom_an_act_reaches.Goals as goal

pub returns-clause-registered : goal.returns-clause-registered
returns-clause-registered c = acted_knows

pub returns-clause-removed : goal.returns-clause-removed
returns-clause-removed c = λ limit s n o. (acted_reaches limit s n o).removed

pub returns-clause-removed_code : goal.returns-clause-removed_code
returns-clause-removed_code c = λ limit s n o. (acted_reaches limit s n o).removed_code

pub returns-clause-stay_code : goal.returns-clause-stay_code
returns-clause-stay_code c = λ limit s n o. (acted_reaches limit s n o).stay_code

pub returns-clause-refusal : goal.returns-clause-refusal
returns-clause-refusal c = λ limit s n o. (acted_reaches limit s n o).refusal
