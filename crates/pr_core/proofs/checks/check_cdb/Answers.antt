use Rattle.std.proofs.Common.{sym, subst, Result}
use Rattle.pr_words.specs.declared.code.Code.{Code}
use Rattle.pr_core.specs.declared.admitted.Admitted.{Admitted}
use Rattle.pr_core.specs.Passing.{PassesCdb}
use Rattle.pr_core.proofs.Checking.{err_is, form_fails, command_decides}
use Rattle.pr_core.proofs.checks.check_cdb.Goals as goal

pub returns-in_err-command : goal.returns-in_err-command
returns-in_err-command c =
    subst (λ (r : Result Admitted Code). PassesCdb c.args.blocks c.args.operation c.args.cdb.now c.args.sent.now r) (sym (err_is c.from_residual.result c.in_err-command.field-0.0 c.from_residual.ensures))
    (form_fails c.args.blocks c.args.operation c.args.cdb.now c.args.sent.now c.in_err-command.field-0.0 c.in_err-command.ensures)

pub returns : goal.returns
returns c = command_decides c.args.blocks c.args.operation c.args.cdb.now c.args.sent.now c.in_ok-command.command c.check_command.result c.in_ok-command.ensures c.check_command.ensures
