use Rattle.pr_link.proofs.Replies.{replies_kept}
use Rattle.pr_link.proofs.laws.replies_keep_the_rules.Goals as goal

pub returns : goal.returns
returns c = replies_kept
