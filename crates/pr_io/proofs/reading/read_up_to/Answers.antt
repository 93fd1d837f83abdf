use Rattle.std.proofs.Common.{arith, ◌≡◌, ◌≤◌, ◌-◌, length, take, drop, ◌∙◌, rules}
use Rattle.std.proofs.lemmas.List.{length-take}
use Rattle.pr_io.proofs.Pieces.{took_next}
use Rattle.pr_io.proofs.Sent.{always_err}
use Rattle.pr_io.proofs.reading.read_up_to.Goals as goal

pub loop-at-preserved : goal.loop-at-preserved
loop-at-preserved g c =
    let took = rw c.in_ok-n.was at c.take.ensures.bytes in
    let count : c.in_ok-n.n ≤ length (take (length c.loop-at.buf - c.loop-at.at) (drop c.loop-at.at c.loop-at.buf)) = rw c.in_ok-n.was at c.take.ensures.count in
    let auto : length c.take.new.buf ≡ length (take (length c.loop-at.buf - c.loop-at.at) (drop c.loop-at.at c.loop-at.buf)) = search rules in
    let calm = rw c.in_ok-n.was at c.take.ensures.cause.calm in
    let next = took_next _ _ _ c.loop-at.buf c.take.new.buf c.loop-at.at c.in_ok-n.n c.loop-at.invariant.took took c.loop-at.invariant.within count auto in
    record { within = next.within; took = next.took; untouched = λ e. absurd (c.if-n-eq0.false (omega (arith, e))); calm = calm ∙ c.loop-at.invariant.calm }

pub returns-in_err-n-clause-took_fewer : goal.returns-in_err-n-clause-took_fewer
returns-in_err-n-clause-took_fewer g c =
    always_err c.from_residual.result (take c.loop-at.at c.loop-at.buf, rw (rw c.in_err-n.was at c.take.ensures.bytes) c.loop-at.invariant.took, omega (arith, length-take c.loop-at.at c.loop-at.buf))
