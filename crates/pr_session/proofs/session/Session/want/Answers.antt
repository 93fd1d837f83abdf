use Rattle.std.proofs.Common.{refl}
use Rattle.pr_session.proofs.Askings.{stepping}
use Rattle.pr_session.proofs.session.Session.want.Goals as goal

pub returns-in-Busy-clause-begins : goal.returns-in-Busy-clause-begins
returns-in-Busy-clause-begins c settled = stepping c.args.self.now c.in-Busy.nexus c.in-Busy.field-1 _ c.in-Busy.is refl
