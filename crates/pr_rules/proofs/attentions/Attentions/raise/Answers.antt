use Rattle.std.proofs.Common.{◌≡◌, ◌<◌, List, length, take, rules, sym, subst, arith}
use Rattle.std.proofs.lemmas.List.{take_more_set, length-take-le}
use Rattle.pr_words.specs.declared.code.Code.{Code}
use Rattle.pr_model.specs.Attentions.{AreAttentions}
use Rattle.pr_model.proofs.Waiting.{room_for, more_attentions}
use Rattle.pr_rules.proofs.attentions.Attentions.raise.Goals as goal

pub invariant_of-self : goal.invariant_of-self
invariant_of-self c =
    let long : length c.self.inside.codes ≡ 4 = search rules in
    let room = room_for c.args.code (take c.self.inside.len c.self.inside.codes) c.self.invariant.1 c.requires (sym c.if-waits.ensures) in
    let fits : c.self.inside.len < 4 = omega (arith, room, length-take-le c.self.inside.len c.self.inside.codes (omega (arith, long, c.self.invariant.0))) in
    let more = take_more_set c.self.inside.codes c.self.inside.len c.args.code (omega (arith, long, fits)) in
    (omega (arith, fits), subst (λ (cs : List Code). AreAttentions cs) (sym more) (more_attentions c.args.code (take c.self.inside.len c.self.inside.codes) c.self.invariant.1 c.requires (sym c.if-waits.ensures)))

pub returns : goal.returns
returns c =
    let long : length c.self.inside.codes ≡ 4 = search rules in
    let room = room_for c.args.code (take c.self.inside.len c.self.inside.codes) c.self.invariant.1 c.requires (sym c.if-waits.ensures) in
    let fits : c.self.inside.len < 4 = omega (arith, room, length-take-le c.self.inside.len c.self.inside.codes (omega (arith, long, c.self.invariant.0))) in
    rw (← c.self.view_is, ← c.if-waits.ensures) (take_more_set c.self.inside.codes c.self.inside.len c.args.code (omega (arith, long, fits)))
