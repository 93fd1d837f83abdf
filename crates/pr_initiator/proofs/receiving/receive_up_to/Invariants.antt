use Rattle.std.proofs.Common.{◌≡◌, ◌≤◌, ◌-◌, [], length, take}
use Rattle.pr_initiator.specs.Goings.{Goes}
use Rattle.pr_initiator.proofs.receiving.receive_up_to.Given as goal

abbrev pub invariant-loop-at : goal.invariant-loop-at
invariant-loop-at g l =
    record {
      within : l.at ≤ length l.buf;
      goes : Goes (g.W.Wire.talk l.initial.wire) (g.W.Wire.talk l.wire) [] (take l.at l.buf);
      comes : g.W.Wire.comes l.initial.wire l.wire;
      reference : g.W.Wire.reference l.wire ≡ g.W.Wire.reference l.initial.wire;
      calm : g.W.Wire.faults l.wire ≡ g.W.Wire.faults l.initial.wire;
    }

abbrev pub decreases-loop-at : goal.decreases-loop-at
decreases-loop-at g l = length l.initial.buf - l.at
