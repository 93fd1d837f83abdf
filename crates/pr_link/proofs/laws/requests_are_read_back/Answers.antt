use Rattle.pr_link.proofs.Requests.{login_back, command_back}
use Rattle.pr_link.proofs.laws.requests_are_read_back.Goals as goal

pub returns-clause-login : goal.returns-clause-login
returns-clause-login c = login_back

pub returns-clause-command : goal.returns-clause-command
returns-clause-command c = command_back
