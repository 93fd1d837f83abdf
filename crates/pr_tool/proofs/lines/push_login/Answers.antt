use Rattle.std.proofs.Common.{refl}
use Rattle.pr_tool.proofs.LineTexts.{login_joined}
use Rattle.pr_tool.proofs.lines.push_login.Goals as goal

pub returns-clause-items : goal.returns-clause-items
returns-clause-items c =
    login_joined c.args.tag c.args.version c.args.nexus c.from.result c.from-2.result c.from-3.result c.args.nexus.name c.args.text.now.items _ _ _ _ _ _
    c.from.ensures c.from-2.ensures c.from-3.ensures refl
    c.push_field.ensures.items c.push_field-2.ensures.items c.push_field-3.ensures.items c.push.ensures.items c.push_name.ensures.items c.push-2.ensures.items
