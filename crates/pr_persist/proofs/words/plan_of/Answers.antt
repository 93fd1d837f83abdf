use Rattle.std.proofs.Common.{inl, inr}
use Rattle.pr_persist.proofs.Wanting.{asked, refused}
use Rattle.pr_persist.proofs.words.plan_of.Goals as goal

pub returns-in-Some-clause-asked : goal.returns-in-Some-clause-asked
returns-in-Some-clause-asked c = asked _ _ _ c.in-Ok.ensures.taken c.in-Ok.ensures.rows c.in-Some.ensures.plan

pub returns-in-Ok-clause-refused : goal.returns-in-Ok-clause-refused
returns-in-Ok-clause-refused c bad = asked _ _ _ c.in-Ok.ensures.taken c.in-Ok.ensures.rows c.in-None.ensures.plan

pub returns-clause-refused : goal.returns-clause-refused
returns-clause-refused c bad =
    elim c.in-Err.ensures.refused [
      | inl memory ↦ absurd (c.refusal_of.ensures bad memory)
      | inr some ↦ refused _ some
    ]
