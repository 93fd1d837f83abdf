use Rattle.pr_model.proofs.Refused.{refusals_change_little}
use Rattle.pr_model.proofs.a_refused_command_changes_little.Goals as goal

pub returns : goal.returns
returns c = refusals_change_little
