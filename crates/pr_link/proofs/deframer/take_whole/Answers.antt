use Rattle.std.proofs.Common.{◌≡◌, ◌+◌, ◌-◌, length, drop, refl, ap, ◌∙◌, subst}
use Rattle.pr_link.specs.declared.front.Front.{Front}
use Rattle.pr_grammar.specs.Frames.{front}
use Rattle.pr_link.specs.Fronts.{IsFront}
use Rattle.pr_link.proofs.Pieces.{whole_piece}
use Rattle.pr_link.proofs.deframer.take_whole.Goals as goal

pub returns-clause-taken : goal.returns-clause-taken
returns-clause-taken c =
    let side = c.args.side in
    let piece = c.as_slices.result.0.now in
    let held = c.args.held.now.items in
    let g = c.in-Whole.frame in
    let left : c.truncate_front.new.self.items ≡ drop (length held - (length held - (12 + g.body))) held =
    ap (λ b. b.items) c.truncate_front.ensures ∙ ap (λ n. drop (length held - (n - (12 + g.body))) held) c.len.ensures.len in
    whole_piece side (front side piece) piece c.as_slices.result.1.now held c.truncate_front.new.self.items c.write_front.new.out _ g refl
    (subst (λ (r : Front). IsFront side (front side piece) r piece) c.in-Whole.is c.of.ensures) c.as_slices.ensures c.write_front.ensures left
