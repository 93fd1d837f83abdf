use Rattle.std.proofs.Common.{◌≡◌, refl, rules, codes}
use Rattle.clap.specs.Words.{rule_of}
use Rattle.pr_persist.specs.Arguments.{bare_rule, needed, value_rule}
use Rattle.pr_persist.proofs.Adding.{added}
use Rattle.pr_persist.proofs.arguments.with_values.Goals as goal

pub returns-clause-shape : goal.returns-clause-shape
returns-clause-shape c =
    let bare : rule_of c.action.result ≡ bare_rule (codes "address") = search rules in
    let name : rule_of c.required.result ≡ needed (value_rule (codes "name")) = search rules in
    let a1 = added _ _ _ _ _ c.in_ok-arg.ensures c.option.ensures.local refl c.option.ensures.rule in
    let a2 = added _ _ _ _ _ c.in_ok-arg-2.ensures c.option-2.ensures.local a1 c.option-2.ensures.rule in
    let a3 = added _ _ _ _ _ c.in_ok-arg-3.ensures c.option-3.ensures.local a2 c.option-3.ensures.rule in
    let a4 = added _ _ _ _ _ c.in_ok-arg-4.ensures c.flag.ensures.local a3 c.flag.ensures.rule in
    let a5 = added _ _ _ _ _ c.in_ok-arg-5.ensures c.flag-2.ensures.local a4 c.flag-2.ensures.rule in
    let a6 = added _ _ _ _ _ c.in_ok-arg-6.ensures c.option-4.ensures.local a5 c.option-4.ensures.rule in
    let a7 = added _ _ _ _ _ c.in_ok-arg-7.ensures (search rules) a6 bare in
    let a8 = added _ _ _ _ _ c.in_ok-arg-8.ensures (search rules) a7 name in
    let a9 = added _ _ _ _ _ c.in_ok-arg-9.ensures c.value-2.ensures.local a8 c.value-2.ensures.rule in
    a9
