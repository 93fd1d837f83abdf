use Rattle.pr_serve.proofs.Acceptings.{took-none, took-one, took-failed, accepts-none, accepts-one}
use Rattle.pr_serve.proofs.accepting.accept_one.Goals as goal

pub returns-in-Some-clause-none : goal.returns-in-Some-clause-none
returns-in-Some-clause-none g c = accepts-none g.A.In.Source g.A.Out.Sink _ _ _ _ _ _ (took-none _) c.take_in_ended.ensures.takes

pub returns-in-Ok-clause-took : goal.returns-in-Ok-clause-took
returns-in-Ok-clause-took g c = (
  _,
  accepts-one g.A.In.Source g.A.Out.Sink _ _ _ _ _ _ _ _ _ (took-one _ _ _ _ _ _ c.in-Ok.ensures.waiting c.in-Ok.ensures.taken)
      c.take_in_ended.ensures.takes c.begin.ensures.goes c.begin.ensures.used c.begin.ensures.most c.begin.ensures.stands,
)

pub returns-in-Err-clause-none : goal.returns-in-Err-clause-none
returns-in-Err-clause-none g c = accepts-none g.A.In.Source g.A.Out.Sink _ _ _ _ _ _ (took-failed _ _ _ _ _ _ c.in-Err.ensures.waiting c.in-Err.ensures.taken) c.take_in_ended.ensures.takes
