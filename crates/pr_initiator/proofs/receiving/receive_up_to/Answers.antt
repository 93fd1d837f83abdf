use Rattle.std.proofs.Common.{arith, ◌≡◌, ◌≤◌, ◌-◌, length, take, drop, refl, ◌∙◌, rules}
use Rattle.pr_io.proofs.Sent.{always_err}
use Rattle.pr_initiator.proofs.Going.{next_in, received, stays}
use Rattle.pr_initiator.proofs.receiving.receive_up_to.Goals as goal

pub loop-at-init : goal.loop-at-init
loop-at-init g c = record { within = omega arith; goes = stays (g.W.Wire.talk c.args.wire.now); comes = g.met.W.Wire.comes_at_once c.args.wire.now; reference = refl; calm = refl }

pub loop-at-preserved : goal.loop-at-preserved
loop-at-preserved g c =
    let heard = received _ _ c.in_ok-n.n c.receive.new.buf (rw c.in_ok-n.was at c.receive.ensures.talk) in
    let count : c.in_ok-n.n ≤ length (take (length c.loop-at.buf - c.loop-at.at) (drop c.loop-at.at c.loop-at.buf)) = rw c.in_ok-n.was at c.receive.ensures.count in
    let auto : length c.receive.new.buf ≡ length (take (length c.loop-at.buf - c.loop-at.at) (drop c.loop-at.at c.loop-at.buf)) = search rules in
    let calm = rw c.in_ok-n.was at c.receive.ensures.cause.calm in
    let next = next_in _ _ _ c.loop-at.buf c.receive.new.buf c.loop-at.at c.in_ok-n.n c.loop-at.invariant.goes heard c.loop-at.invariant.within count auto in
    record { within = next.within; goes = next.goes; comes = g.met.W.Wire.comes_later _ _ _ c.loop-at.invariant.comes c.receive.ensures.comes; reference = c.receive.ensures.reference ∙ c.loop-at.invariant.reference; calm = calm ∙ c.loop-at.invariant.calm }

pub returns-in_err-n-clause-went : goal.returns-in_err-n-clause-went
returns-in_err-n-clause-went g c =
    always_err c.from_residual.result (take c.loop-at.at c.loop-at.buf, rw (rw c.in_err-n.was at c.receive.ensures.talk) c.loop-at.invariant.goes)
