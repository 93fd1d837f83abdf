use Rattle.std.proofs.Common.{rules, ◌≡◌, take, drop, ◌-◌, List, length, arith, subst, sym, ap, ◌∙◌}
use Rattle.pr_words.specs.declared.code.Code.{Code}
use Rattle.pr_model.specs.Attentions.{AreAttentions}
use Rattle.pr_model.proofs.Waiting.{fewer_attentions}
use Rattle.pr_rules.proofs.Queues.{one_less}
use Rattle.pr_rules.proofs.attentions.Attentions.take.Goals as goal

pub returns-clause-rest : goal.returns-clause-rest
returns-clause-rest c =
    let long : length c.self.inside.codes ≡ 4 = search rules in
    rw (← c.self.view_is) (ap (λ (cs : List Code). take (c.self.inside.len - 1) cs) c.rotate_left.ensures.after ∙ one_less c.self.inside.codes c.self.inside.len (λ z. absurd (search (rules, arith, z))) (omega (arith, long, c.self.invariant.0)))

pub invariant_of-self : goal.invariant_of-self
invariant_of-self c =
    let long : length c.self.inside.codes ≡ 4 = search rules in
    let rest : take (c.self.inside.len - 1) c.rotate_left.new.self ≡ drop 1 (take c.self.inside.len c.self.inside.codes) =
    ap (λ (cs : List Code). take (c.self.inside.len - 1) cs) c.rotate_left.ensures.after ∙ one_less c.self.inside.codes c.self.inside.len (λ z. absurd (search (rules, arith, z))) (omega (arith, long, c.self.invariant.0)) in
    (omega (arith, c.self.invariant.0), subst (λ (cs : List Code). AreAttentions cs) (sym rest) (fewer_attentions (take c.self.inside.len c.self.inside.codes) c.self.invariant.1))
