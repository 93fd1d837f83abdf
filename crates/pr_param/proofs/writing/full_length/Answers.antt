-- Every piece has one length.
use Rattle.std.proofs.Common.{refl, arith}
use Rattle.pr_grammar.specs.InReplies.{descriptor}
use Rattle.pr_grammar.specs.Standings.{kind_of, holder_of}
use Rattle.pr_param.proofs.Pieces.{length_pieces}
use Rattle.pr_param.proofs.writing.full_length.Goals as goal

pub returns : goal.returns
returns g c =
    let s = g.R.Registrants.standing c.args.from.now in
    let h = length_pieces (descriptor (kind_of s.reservation) (holder_of s.reservation)) 48 (λ p. refl) s.pairs in
    omega (arith, h, c.count.ensures.count)
