use Rattle.std.proofs.Common.{refl, sym, subst}
use Rattle.std.specs.Prelude.{Result}
use Rattle.pr_initiator.specs.declared.answer.Answer.{Answer}
use Rattle.pr_initiator.specs.declared.link_fault.LinkFault.{LinkFault}
use Rattle.pr_initiator.specs.declared.commands.TheConstants.{READINESS}
use Rattle.pr_initiator.specs.Links.{link_of}
use Rattle.pr_initiator.specs.Commands.{HasAnswered, test_unit_ready}
use Rattle.pr_initiator.proofs.Coming.{comes_at_once, comes_later}
use Rattle.pr_initiator.proofs.Readying.{attended, ends, tires}
use Rattle.pr_initiator.proofs.initiator.Initiator.ready.Goals as goal

pub returns-in-None-clause-answered : goal.returns-in-None-clause-answered
returns-in-None-clause-answered g c =
    let has = subst (λ (r : Result Answer LinkFault). HasAnswered (link_of c.loop.self) (link_of c.order.new.self) test_unit_ready r) c.in-Ok.is c.order.ensures.answered in
    c.loop.invariant.ready _ _ (ends READINESS c.loop.counter c.loop.last _ _ _ c.loop-test.true has (sym c.in-None.ensures))

pub returns-in-Err-clause-answered : goal.returns-in-Err-clause-answered
returns-in-Err-clause-answered g c =
    let has = subst (λ (r : Result Answer LinkFault). HasAnswered (link_of c.loop.self) (link_of c.order.new.self) test_unit_ready r) c.in-Err.is c.order.ensures.answered in
    c.loop.invariant.ready _ _ (ends READINESS c.loop.counter c.loop.last _ _ _ c.loop-test.true has refl)

pub loop-init : goal.loop-init
loop-init g c = record { ready = λ now r rest. rest; comes = comes_at_once g.met.W.Wire.comes_at_once c.args.self.now }

pub loop-preserved : goal.loop-preserved
loop-preserved g c =
    let has = subst (λ (r : Result Answer LinkFault). HasAnswered (link_of c.loop.self) (link_of c.order.new.self) test_unit_ready r) c.in-Ok.is c.order.ensures.answered in
    record {
      ready = λ now r rest. c.loop.invariant.ready _ _ (attended READINESS c.loop.counter c.loop.last c.in-Some.code _ _ _ c.in-Ok.answer r c.loop-test.true has (sym c.in-Some.ensures) rest);
      comes = comes_later g.met.W.Wire.comes_later c.args.self.now c.loop.self c.order.new.self c.loop.invariant.comes c.order.ensures.comes;
    }

pub returns-clause-answered : goal.returns-clause-answered
returns-clause-answered g c = c.loop.invariant.ready _ _ (tires READINESS c.loop.counter c.loop.last _ c.loop-test.false)

pub returns-in-None-clause-comes : goal.returns-in-None-clause-comes
returns-in-None-clause-comes g c = comes_later g.met.W.Wire.comes_later c.args.self.now c.loop.self c.order.new.self c.loop.invariant.comes c.order.ensures.comes

pub returns-in-Err-clause-comes : goal.returns-in-Err-clause-comes
returns-in-Err-clause-comes g c = comes_later g.met.W.Wire.comes_later c.args.self.now c.loop.self c.order.new.self c.loop.invariant.comes c.order.ensures.comes
