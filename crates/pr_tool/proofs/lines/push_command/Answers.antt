use Rattle.std.proofs.Common.{refl}
use Rattle.pr_grammar.specs.Cdbs.{operation_code}
use Rattle.pr_tool.proofs.LineTexts.{command_joined, first_byte}
use Rattle.pr_tool.proofs.lines.push_command.Goals as goal

pub returns-clause-items : goal.returns-clause-items
returns-clause-items c =
    command_joined c.args.tag c.args.lun (operation_code c.args.cdb.now) c.args.data_out c.from.result c.from-2.result _ c.args.data_out c.args.text.now.items _ _ _ _ _ _
    c.from.ensures c.from-2.ensures (first_byte c.args.cdb.now c.bytes.result.now c.bytes.ensures.bytes c.bytes.ensures.some) refl
    c.push_field.ensures.items c.push_field-2.ensures.items c.push.ensures.items c.push_byte.ensures.items c.push_field-3.ensures.items c.push-2.ensures.items
