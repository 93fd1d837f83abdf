use Rattle.std.proofs.Common.{◌∙◌, sym, subst, Option, Result}
use Rattle.pr_words.specs.declared.code.Code.{Code}
use Rattle.pr_grammar.specs.declared.operation.OperationCode.{OperationCode}
use Rattle.pr_core.specs.Passing.{PassesOperation}
use Rattle.pr_core.specs.Admits.{PassesUnit}
use Rattle.pr_core.proofs.Checking.{err_is}
use Rattle.pr_core.proofs.Admitting.{unit_elsewhere, unit_attention, unit_operation}
use Rattle.pr_core.proofs.state.State.check_unit.Goals as goal

pub returns-then-is_elsewhere-clause-passes : goal.returns-then-is_elsewhere-clause-passes
returns-then-is_elsewhere-clause-passes c =
    unit_elsewhere c.args.self.now c.args.nexus c.args.lun c.args.op (sym (c.is_elsewhere.ensures c.args.op c.operation-operation.ensures) ∙ c.if-is_elsewhere.true)

pub returns-in_err-check_attention-clause-passes : goal.returns-in_err-check_attention-clause-passes
returns-in_err-check_attention-clause-passes c =
    subst (λ (r : Result OperationCode Code). PassesUnit c.args.self.now c.check_attention.new.self c.args.nexus c.args.lun c.args.op r)
    (sym (err_is c.from_residual.result c.in_err-check_attention.field-0.0 c.from_residual.ensures))
    (unit_attention c.args.self.now c.check_attention.new.self c.args.nexus c.args.lun c.args.op c.in_err-check_attention.field-0.0
    (sym (c.is_elsewhere.ensures c.args.op c.operation-operation.ensures) ∙ c.if-is_elsewhere.false) (c.in_err-check_attention.ensures.passes c.args.op c.operation-operation.ensures))

pub returns-clause-passes : goal.returns-clause-passes
returns-clause-passes c =
    unit_operation c.args.self.now c.check_attention.new.self c.args.nexus c.args.lun c.args.op c.check_operation.result
    (sym (c.is_elsewhere.ensures c.args.op c.operation-operation.ensures) ∙ c.if-is_elsewhere.false) (c.in_ok-check_attention.ensures.passes c.args.op c.operation-operation.ensures)
    (subst (λ (o : Option OperationCode). PassesOperation o c.check_operation.result) c.operation-operation.ensures c.check_operation.ensures)
