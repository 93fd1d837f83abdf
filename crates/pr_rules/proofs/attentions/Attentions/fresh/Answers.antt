use Rattle.std.proofs.Common.{arith}
use Rattle.pr_model.proofs.Waiting.{fresh_attentions}
use Rattle.pr_rules.proofs.attentions.Attentions.fresh.Goals as goal

pub invariant_of-result : goal.invariant_of-result
invariant_of-result c = (omega arith, fresh_attentions)
