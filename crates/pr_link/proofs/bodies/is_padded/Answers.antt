use Rattle.std.proofs.Common.{◌≡◌, ℕ, Bool, ◌&&◌, List, length, take, drop, slice_range, sym, ap, ◌∙◌, arith}
use Rattle.std.specs.List.{list_all}
use Rattle.std.proofs.lemmas.List.{length-take-le, length-drop}
use Rattle.pr_grammar.specs.Bodies.{is_zero}
use Rattle.pr_link.proofs.Padding.{zeros_in_parts, zero_word}
use Rattle.pr_link.proofs.bodies.is_padded.Goals as goal

pub returns-then-are_zeros : goal.returns-then-are_zeros
returns-then-are_zeros c =
    let body : List ℕ = c.args.body.now in
    let word : List ℕ = take 8 (drop 12 body) in
    let eight : length word ≡ 8 = length-take-le 8 (drop 12 body) (omega (arith, length-drop 12 body, c.requires.long)) in
    sym (zeros_in_parts body c.args.size c.if-size-gt8.false ∙ ap (λ (b : Bool). b && list_all is_zero word) (sym c.are_zeros-2.ensures ∙ c.if-are_zeros.true)
    ∙ zero_word word c.get_u64.result eight c.get_u64.ensures.number c.get_u64.ensures.bytes)

pub returns-else-are_zeros : goal.returns-else-are_zeros
returns-else-are_zeros c =
    let body : List ℕ = c.args.body.now in
    let word : List ℕ = slice_range body 12 20 in
    c.if-are_zeros.false ∙ sym (zeros_in_parts body c.args.size c.if-size-gt8.false ∙ ap (λ (b : Bool). b && list_all is_zero word) (sym c.are_zeros-2.ensures ∙ c.if-are_zeros.false))
