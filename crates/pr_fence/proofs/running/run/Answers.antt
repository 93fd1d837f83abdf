use Rattle.std.proofs.Common.{◌≤◌, List, length, subst, ℕ, sym}
use Rattle.std.proofs.lemmas.List.{length-map}
use Rattle.std.specs.Borrow.{Bor}
use Rattle.pr_io.specs.Told.{told_sink}
use Rattle.pr_initiator.specs.Links.{link_of}
use Rattle.pr_initiator.proofs.Coming.{comes_at_once, comes_later}
use Rattle.pr_fence.specs.Views.{planned_of, texts_of}
use Rattle.pr_fence.specs.Whole.{at}
use Rattle.pr_fence.proofs.Visiting.{visited, stopped, all_visited}
use Rattle.pr_fence.proofs.running.run.Goals as goal

pub loop-device-init : goal.loop-device-init
loop-device-init g c = record { visits = λ now r rest. rest; comes = comes_at_once g.met.W.Wire.comes_at_once c.args.initiator.now }

pub loop-device-preserved : goal.loop-device-preserved
loop-device-preserved g c =
    record {
      visits = λ now r rest. c.loop-device.invariant.visits now r
          (visited (planned_of c.args.plan.now) (texts_of c.args.plan.now.addresses.now) c.loop-device.device c.loop-device.found c.in-Ok.here c.either-found.result c.address_of.result.now _ (at (link_of c.visit.new.initiator) (told_sink g.K.Sink c.visit.new.sink)) now c.visit.result r c.address_of.ensures c.visit.ensures.step c.in-Ok.is c.either-found.ensures rest);
      comes = comes_later g.met.W.Wire.comes_later c.args.initiator.now c.loop-device.initiator c.visit.new.initiator c.loop-device.invariant.comes c.visit.ensures.comes;
    }

pub returns-in-Err-clause-step : goal.returns-in-Err-clause-step
returns-in-Err-clause-step g c =
    c.loop-device.invariant.visits _ _
    (stopped (planned_of c.args.plan.now) (texts_of c.args.plan.now.addresses.now) c.loop-device.device c.loop-device.found c.address_of.result.now _ (at (link_of c.visit.new.initiator) (told_sink g.K.Sink c.visit.new.sink)) c.visit.result c.in-Err.exit c.address_of.ensures c.visit.ensures.step c.in-Err.is)

pub returns-clause-step : goal.returns-clause-step
returns-clause-step g c =
    let count = length-map c.args.plan.now.addresses.now (λ (w : Bor (List ℕ)). w.now) in
    let most : length (texts_of c.args.plan.now.addresses.now) ≤ c.loop-device.device = subst (λ (n : ℕ). n ≤ c.loop-device.device) (sym count) c.loop-device-test.false in
    c.loop-device.invariant.visits _ _ (all_visited (planned_of c.args.plan.now) (texts_of c.args.plan.now.addresses.now) c.loop-device.device c.loop-device.found _ most)
