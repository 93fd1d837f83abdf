use Rattle.std.proofs.Common.{refl}
use Rattle.pr_model.specs.Entries.{Login, Login_code}
use Rattle.pr_model.proofs.Acknowledged.{login_keeps}
use Rattle.pr_core.proofs.Entering.{extends_one, makes_still, enters_still, no_login, same_core}
use Rattle.pr_core.proofs.target.Core.login.Goals as goal

pub returns-clause-entry : goal.returns-clause-entry
returns-clause-entry g c = extends_one _ _ _ c.login.ensures.blocks refl refl refl refl refl refl (makes_still c.args.self.now _ _ refl (λ w. login_keeps w c.args.who c.args.nexus c.args.version (Login_code c.login.result)) (enters_still (g.M.Medium.contents c.args.self.now.medium) c.args.self.now.state c.login.new.self c.args.who c.args.nexus (Login c.args.version) (Login_code c.login.result) (no_login c.args.version) c.login.ensures.enters))

pub returns-clause-refused : goal.returns-clause-refused
returns-clause-refused g c refused = same_core c.args.self.now _ _ (c.login.ensures.refused refused)
