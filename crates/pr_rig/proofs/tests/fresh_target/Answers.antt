use Rattle.pr_session.proofs.Opened.{just_opened}
use Rattle.pr_rig.proofs.tests.fresh_target.Goals as goal

-- a target that was just opened has made no entry
pub new-requires-in-Ok-clause-core : goal.new-requires-in-Ok-clause-core
new-requires-in-Ok-clause-core c =
    just_opened _ c.new-medium.result _ (rw c.in-Ok.is at c.open.ensures.blocks) (rw c.in-Ok.is at c.open.ensures.over).0 (rw c.in-Ok.is at c.open.ensures.stands)
