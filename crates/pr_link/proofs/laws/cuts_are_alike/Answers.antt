use Rattle.pr_link.proofs.Cuts.{frames_are_at_the_front, cuts_alike}
use Rattle.pr_link.proofs.laws.cuts_are_alike.Goals as goal

pub returns-clause-front : goal.returns-clause-front
returns-clause-front c = frames_are_at_the_front

pub returns-clause-alike : goal.returns-clause-alike
returns-clause-alike c = cuts_alike
