use Rattle.std.proofs.Common.{◌≡◌, ℕ, ◌+◌, ◌≤◌, List, ◌++◌, length, take, drop, ap, ◌∙◌, arith}
use Rattle.std.proofs.lemmas.List.{length-take, length-drop}
use Rattle.pr_link.proofs.InPlace.{in_place}
use Rattle.pr_link.proofs.reply.write_good.Goals as goal

pub returns-clause-frame : goal.returns-clause-frame
returns-clause-frame c =
    let out : List ℕ = c.args.out.now in
    let head : List ℕ = c.long_head.result in
    let len : ℕ = c.args.data_in in
    let room : len ≤ length (drop 16 out) = omega (arith, length-drop 16 out, c.requires.held) in
    let size : length (take len (drop 16 out)) ≡ len = omega (arith, length-take len (drop 16 out), room) in
    let written = c.write_front.ensures ∙ ap (λ (k : ℕ). head ++ drop k out) c.long_head.ensures.size in
    ap (take (16 + len)) written ∙ in_place head (drop 16 out) _ (16 + len) len (c.long_head.ensures.frame (take len (drop 16 out)) size) room (omega (arith, c.long_head.ensures.size))
