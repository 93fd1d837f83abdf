use Rattle.std.proofs.Common.{[], ap, sym, ◌∙◌, ◌≡◌, ◌<◌, subst, length, is_some, arith}
use Rattle.std.proofs.lemmas.List.Elements.{All-nil}
use Rattle.pr_gate.specs.Entries.{ticket_limit, own, NamesBelow}
use Rattle.pr_gate.proofs.Keeps.{opens, limit_is}
use Rattle.pr_gate.proofs.pass.Gate.new.Goals as goal

pub new-requires : goal.new-requires
new-requires g c =
    rw c.in_ok-slots.ensures.row (opens g.T.Stands.number g.T.Stands.ground g.T.Stands.stands _ _ (subst (λ x. g.T.Stands.stands x []) (sym c.in_ok-boxed.ensures.boxed) c.requires) (ap g.T.Stands.ground (c.in_ok-boxed.ensures.boxed ∙ sym c.of-about.ensures)))

pub invariant_of-pass : goal.invariant_of-pass
invariant_of-pass g c = let it = c.in-Ok-new.ensures.ok.4 in let spare : c.in-Ok-new.seat.me.0.spare ≡ ticket_limit = ap (λ m. m.0.spare) it in record {
  numbered = ap (λ m. m.0.number) it;
  spared = omega (arith, limit_is);
  counted = ap (λ m. length m.0.seen) (sym it);
  ordered = omega arith;
  owned = ap (λ m. own g.T.Stands.number 0 m.0.seen) it ∙ sym (ap (λ m. m.0.mine) it);
  named = subst (NamesBelow g.T.Stands.number 1) (sym (ap (λ m. m.0.seen) it)) (All-nil (λ e. g.T.Stands.number e < 1));
  grounded = ap (λ m. is_some m.0.ground) it;
}
