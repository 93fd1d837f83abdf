use Rattle.std.proofs.Common.{refl}
use Rattle.pr_persist.proofs.Adding.{added}
use Rattle.pr_persist.proofs.arguments.with_looks.Goals as goal

pub returns-clause-shape : goal.returns-clause-shape
returns-clause-shape c =
    let a1 = added _ _ _ _ _ c.in_ok-arg.ensures c.flag.ensures.local refl c.flag.ensures.rule in
    let a2 = added _ _ _ _ _ c.in_ok-arg-2.ensures c.flag-2.ensures.local a1 c.flag-2.ensures.rule in
    let a3 = added _ _ _ _ _ c.in_ok-arg-3.ensures c.flag-3.ensures.local a2 c.flag-3.ensures.rule in
    let a4 = added _ _ _ _ _ c.in_ok-arg-4.ensures c.flag-4.ensures.local a3 c.flag-4.ensures.rule in
    let a5 = added _ _ _ _ _ c.in_ok-arg-5.ensures c.flag-5.ensures.local a4 c.flag-5.ensures.rule in
    let a6 = added _ _ _ _ _ c.in_ok-arg-6.ensures c.flag-6.ensures.local a5 c.flag-6.ensures.rule in
    a6
