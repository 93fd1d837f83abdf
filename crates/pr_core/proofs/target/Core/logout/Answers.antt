use Rattle.std.proofs.Common.{refl}
use Rattle.pr_model.specs.Entries.{Logout, Left}
use Rattle.pr_core.proofs.Entering.{extends_one, makes_still, enters_still, no_logout}
use Rattle.pr_core.proofs.target.Core.logout.Goals as goal

pub returns-clause-entry : goal.returns-clause-entry
returns-clause-entry g c = extends_one _ _ _ c.logout.ensures.blocks refl refl refl refl refl refl (makes_still c.args.self.now _ _ refl (λ w. refl) (enters_still (g.M.Medium.contents c.args.self.now.medium) c.args.self.now.state c.logout.new.self c.args.who c.args.nexus Logout Left no_logout c.logout.ensures.enters))
