use Rattle.std.proofs.Common.{rules, ◌≡◌, ◌+◌, sym, subst, ◌∷◌, Some, ap, ◌∙◌, is_some}
use Rattle.pr_gate.specs.Rules.{Told}
use Rattle.pr_gate.proofs.Keeps.{told_own, told_names}
use Rattle.pr_gate.proofs.pass.Gate.enter.Goals as goal

pub wait-requires-clause-waits : goal.wait-requires-clause-waits
wait-requires-clause-waits g c _ _ = (
  ap (λ m. m.0.stage) c.draw-ticket.ensures.ticket,
  ap (λ m. is_some m.0.ground) c.draw-ticket.ensures.ticket ∙ (ap (λ m. is_some m.0.ground) c.in_default.ensures.ticket ∙ c.args.pass.now.grounded),
)

pub take_out-value-requires-clause-inside : goal.take_out-value-requires-clause-inside
take_out-value-requires-clause-inside g c _ _ = (
  c.wait.ensures.inside.held,
  ap (λ m. m.1) c.wait.ensures.inside.now ∙ ap (λ m. (0, Some c.wait.ensures.inside.held) ∷ m.1) (c.draw-ticket.ensures.ticket) ∙ ap (λ m. (0, Some c.wait.ensures.inside.held) ∷ m.1) c.in_default.ensures.ticket,
)

pub invariant_of-pass-2 : goal.invariant_of-pass-2
invariant_of-pass-2 g c =
    let out = ap (λ m. m.0) c.take_out-value.ensures.out.0 in
    let told : Told g.T.Stands.number c.take_out-value.new.seat.me.0 = subst (Told g.T.Stands.number) (sym out) c.wait.ensures.inside.told in
    let numbered : c.take_out-value.new.seat.me.0.number ≡ Some c.args.pass.now.number = search rules in
    let spared : c.args.pass.now.next + c.take_out-value.new.seat.me.0.spare ≡ 4611686018427387905 = search rules in record {
      numbered = numbered;
      spared = spared;
      ordered = c.args.pass.now.ordered;
      counted = search rules;
      grounded = search rules;
      owned = told_own g.T.Stands.number c.take_out-value.new.seat.me.0 c.args.pass.now.number numbered told;
      named = told_names g.T.Stands.number c.take_out-value.new.seat.me.0 c.args.pass.now.next spared told;
    }
