use Rattle.std.proofs.Common.{ap}
use Rattle.pr_session.specs.States.{phase_in}
use Rattle.pr_session.proofs.Askings.{refused}
use Rattle.pr_session.proofs.session.Session.refuse.Goals as goal

pub returns-in-Some : goal.returns-in-Some
returns-in-Some c l same = refused l c.in-Some.nexus c.args.rejection _ c.ask.new.self (phase_in c.args.logged_in) same (ap phase_in c.in-Some.is) c.ask.ensures.state c.ask.ensures.want
