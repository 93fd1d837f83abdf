use Rattle.std.proofs.Common.{rules, ◌++◌, ◌∷◌, [], refl, arith, length-append}
use Rattle.pr_serve.proofs.Crowding.{takes-none}
use Rattle.pr_serve.proofs.Acceptings.{took-none, accepts-none, accepts-more, cause-since}
use Rattle.pr_serve.proofs.accepting.accept_all.Goals as goal

pub loop-taken-init : goal.loop-taken-init
loop-taken-init g c = (
  search rules,
  c.requires.right,
  search rules,
  search rules,
  ([], refl, accepts-none g.A.In.Source g.A.Out.Sink _ _ _ _ _ _ (took-none _) (takes-none g.A.In.Source g.A.Out.Sink _ _)),
)

pub accept_one-requires-clause-stands : goal.accept_one-requires-clause-stands
accept_one-requires-clause-stands g c κs within =
    let i = c.loop-taken.invariant.4 in let r = c.requires.stands in
    (r.0, r.1 ++ i.0, i.2.stands r.0 r.1 r.2 r.3)

pub returns-in-Err-clause-took : goal.returns-in-Err-clause-took
returns-in-Err-clause-took g c =
    let i = c.loop-taken.invariant.4 in (
      i.0 ++ [],
      search rules,
      accepts-more g.A.In.Source g.A.Out.Sink _ _ _ _ _ _ _ _ _ _ _ i.2 c.in-Err.ensures.none,
    )

pub returns-in-Err-clause-cause : goal.returns-in-Err-clause-cause
returns-in-Err-clause-cause g c = cause-since _ _ _ _ _ c.loop-taken.invariant.3 c.in-Err.ensures.cause

pub loop-taken-preserved : goal.loop-taken-preserved
loop-taken-preserved g c =
    let i = c.loop-taken.invariant.4 in let took = c.in-Ok.ensures.took in let n = i.1 in
    let before = c.loop-taken.invariant.3 in let later = c.in-Ok.ensures.later in (
      search rules,
      c.in-Ok.ensures.right,
      search rules,
      omega arith,
      (i.0 ++ took.0 ∷ [], omega (arith, length-append i.0 (took.0 ∷ [])), accepts-more g.A.In.Source g.A.Out.Sink _ _ _ _ _ _ _ _ _ _ _ i.2 took.1),
    )
