use Rattle.std.proofs.Common.{rules, ◌≡◌, ◌+◌, Some}
use Rattle.pr_gate.proofs.Keeps.{told_own, told_names}
use Rattle.pr_gate.proofs.pass.Gate.meet.Goals as goal

pub invariant_of-pass : goal.invariant_of-pass
invariant_of-pass g c =
    let told = c.join.ensures.told in
    let numbered : c.join.new.seat.me.0.number ≡ Some c.args.pass.now.number = search rules in
    let spared : c.args.pass.now.next + c.join.new.seat.me.0.spare ≡ 4611686018427387905 = search rules in record {
      numbered = numbered;
      spared = spared;
      ordered = c.args.pass.now.ordered;
      counted = search rules;
      grounded = search rules;
      owned = told_own g.T.Stands.number c.join.new.seat.me.0 c.args.pass.now.number numbered told;
      named = told_names g.T.Stands.number c.join.new.seat.me.0 c.args.pass.now.next spared told;
    }
