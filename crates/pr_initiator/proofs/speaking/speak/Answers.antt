use Rattle.pr_initiator.proofs.HeardAfter.{heard_after}
use Rattle.pr_initiator.proofs.speaking.speak.Goals as goal

pub returns-in-Ok-clause-speaks : goal.returns-in-Ok-clause-speaks
returns-in-Ok-clause-speaks g c = heard_after _ _ _ _ c.hear.result c.hear.new.work c.in-Ok.ensures.goes c.hear.ensures.hears
