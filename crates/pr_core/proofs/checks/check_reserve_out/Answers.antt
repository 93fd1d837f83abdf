use Rattle.std.proofs.Common.{◌∙◌, sym}
use Rattle.pr_core.proofs.Checking.{ReadsList, list_passes, list_fails}
use Rattle.pr_core.proofs.checks.check_reserve_out.Goals as goal

pub returns-then-list_is_bad : goal.returns-then-list_is_bad
returns-then-list_is_bad c =
    let list = c.in-Ok.list in
    let r : ReadsList c.args.action c.args.scope c.args.kind c.args.length c.args.sent.now c.in-Some.service list =
    record { named = c.in-Some.ensures.named; fit = sym c.is_unreservable.ensures ∙ c.if-is_unreservable.false; announced = c.in_ok-check_length.ensures.passes; read = sym c.read_out_list.ensures ∙ c.in-Ok.is } in
    λ blocks. list_fails blocks c.args.action c.args.scope c.args.kind c.args.length c.args.sent.now c.in-Some.service list r (sym c.list_is_bad.ensures ∙ c.if-list_is_bad.true)

pub returns : goal.returns
returns c =
    let list = c.in-Ok.list in
    let r : ReadsList c.args.action c.args.scope c.args.kind c.args.length c.args.sent.now c.in-Some.service list =
    record { named = c.in-Some.ensures.named; fit = sym c.is_unreservable.ensures ∙ c.if-is_unreservable.false; announced = c.in_ok-check_length.ensures.passes; read = sym c.read_out_list.ensures ∙ c.in-Ok.is } in
    λ blocks. list_passes blocks c.args.action c.args.scope c.args.kind c.args.length c.args.sent.now c.in-Some.service list r (sym c.list_is_bad.ensures ∙ c.if-list_is_bad.false)
