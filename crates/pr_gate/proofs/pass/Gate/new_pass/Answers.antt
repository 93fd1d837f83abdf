use Rattle.std.proofs.Common.{◌≡◌, ◌+◌, ◌-◌, Some, ap, ◌∙◌, sym, is_some, length, subst, arith}
use Rattle.pr_gate.specs.Entries.{ticket_limit, own, NamesBelow}
use Rattle.pr_gate.proofs.Lists.{own-none, below-more}
use Rattle.pr_gate.proofs.Keeps.{limit_is}
use Rattle.pr_gate.proofs.pass.Gate.new_pass.Goals as goal

pub invariant_of-result : goal.invariant_of-result
invariant_of-result g c =
    let it = c.another-seat.ensures.other.1 in let next = c.args.pass.now.spared in
    let number : ticket_limit + 1 - c.args.pass.now.seat.me.0.spare ≡ c.args.pass.now.next = omega (arith, limit_is) in
    let no_spare : c.another-seat.result.me.0.spare ≡ 0 = ap (λ m. m.0.spare) it in record {
      numbered = ap (λ m. m.0.number) it ∙ ap Some number;
      spared = omega arith;
      counted = c.args.pass.now.counted ∙ ap (λ m. length m.0.seen) (sym it);
      ordered = omega (arith, limit_is);
      owned = ap (λ m. own g.T.Stands.number c.args.pass.now.next m.0.seen) it ∙ (own-none g.T.Stands.number c.args.pass.now.next c.args.pass.now.seat.me.0.seen c.args.pass.now.named ∙ sym (ap (λ m. m.0.mine) it));
      named = subst (NamesBelow g.T.Stands.number (4611686018427387904 + 1)) (sym (ap (λ m. m.0.seen) it))
          (below-more g.T.Stands.number c.args.pass.now.next (4611686018427387904 + 1) c.args.pass.now.seat.me.0.seen (omega arith) c.args.pass.now.named);
      grounded = ap (λ m. is_some m.0.ground) it ∙ c.args.pass.now.grounded;
    }
