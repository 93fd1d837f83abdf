use Rattle.std.proofs.Common.{sym, subst}
use Rattle.pr_grammar.specs.declared.cdb.Command.{Command}
use Rattle.pr_core.specs.Passing.{PassesCommand}
use Rattle.pr_core.proofs.Checking.{read_passes, write_passes}
use Rattle.pr_core.proofs.checks.check_command.Goals as goal

pub returns-in-Inquiry : goal.returns-in-Inquiry
returns-in-Inquiry c = subst (λ (k : Command). PassesCommand c.args.blocks k c.args.sent.now c.check_inquiry.result) (sym c.in-Inquiry.is) (c.check_inquiry.ensures c.args.blocks)

pub returns-in-ReadCapacity16 : goal.returns-in-ReadCapacity16
returns-in-ReadCapacity16 c = subst (λ (k : Command). PassesCommand c.args.blocks k c.args.sent.now c.check_capacity16.result) (sym c.in-ReadCapacity16.is) (c.check_capacity16.ensures c.args.blocks)

pub returns-in-ReportLuns : goal.returns-in-ReportLuns
returns-in-ReportLuns c = subst (λ (k : Command). PassesCommand c.args.blocks k c.args.sent.now c.check_luns.result) (sym c.in-ReportLuns.is) (c.check_luns.ensures c.args.blocks)

pub returns-in-ReserveIn : goal.returns-in-ReserveIn
returns-in-ReserveIn c = subst (λ (k : Command). PassesCommand c.args.blocks k c.args.sent.now c.check_reserve_in.result) (sym c.in-ReserveIn.is) (c.check_reserve_in.ensures c.args.blocks)

pub returns-in-ReserveOut : goal.returns-in-ReserveOut
returns-in-ReserveOut c = subst (λ (k : Command). PassesCommand c.args.blocks k c.args.sent.now c.check_reserve_out.result) (sym c.in-ReserveOut.is) (c.check_reserve_out.ensures c.args.blocks)

pub returns-in-Read : goal.returns-in-Read
returns-in-Read c = subst (λ (k : Command). PassesCommand c.args.blocks k c.args.sent.now c.check_transfer.result) (sym c.in-Read.is) (read_passes c.args.blocks _ _ _ _ c.args.sent.now c.check_transfer.result c.check_transfer.ensures)

pub returns-in-Write : goal.returns-in-Write
returns-in-Write c = subst (λ (k : Command). PassesCommand c.args.blocks k c.args.sent.now c.check_transfer-in-Write.result) (sym c.in-Write.is) (write_passes c.args.blocks _ _ _ _ c.args.sent.now c.check_transfer-in-Write.result c.check_transfer-in-Write.ensures)
