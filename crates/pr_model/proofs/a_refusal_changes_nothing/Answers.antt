use Rattle.pr_model.proofs.Refusals.{refused_stays}
use Rattle.pr_model.proofs.a_refusal_changes_nothing.Goals as goal

pub returns : goal.returns
returns c = refused_stays
