-- The loop puts one descriptor more, and ends where the buffer does.
use Rattle.std.proofs.Common.{◌≡◌, ◌≤◌, ◌+◌, ◌*◌, ◌++◌, ◌⊎◌, inl, inr, ℕ, List, length, take, refl, subst, ◌∙◌, rules, arith}
use Rattle.std.specs.Prelude.{All}
use Rattle.std.specs.List.{flat_map}
use Rattle.std.specs.Int.{w32, to_be_bytes}
use Rattle.std.proofs.lemmas.List.{take_all}
use Rattle.pr_words.specs.declared.nexus.Pair.{Pair}
use Rattle.pr_grammar.specs.InReplies.{descriptor, FitsPair}
use Rattle.pr_grammar.specs.Standings.{kind_of, holder_of}
use Rattle.pr_param.proofs.Pieces.{front_covers, put_more, laid_front, length_pieces}
use Rattle.pr_param.proofs.RoundTrips.{all_more}
use Rattle.pr_param.proofs.writing.put_full.Goals as goal

pub loop-i-preserved : goal.loop-i-preserved
loop-i-preserved g c =
    let s = g.R.Registrants.standing c.args.from.now in
    let pieces = descriptor (kind_of s.reservation) (holder_of s.reservation) in
    let head : List ℕ = to_be_bytes w32 s.generation ++ to_be_bytes w32 (48 * length s.pairs) in (
      put_more head pieces 48 (λ p. refl) s.pairs c.args.out.now _ _ _ c.loop-i.i _ _ c.at.ensures (search rules) refl c.loop-i.invariant.0 c.put.ensures.next,
      all_more FitsPair s.pairs c.loop-i.i _ c.at.ensures c.descriptor.ensures.fits c.loop-i.invariant.1,
      c.loop-i.invariant.2,
    )

pub returns-clause-front : goal.returns-clause-front
returns-clause-front g c =
    let s = g.R.Registrants.standing c.args.from.now in
    let pieces = descriptor (kind_of s.reservation) (holder_of s.reservation) in
    let head : List ℕ = to_be_bytes w32 s.generation ++ to_be_bytes w32 (48 * length s.pairs) in
    let le : length c.args.out.now ≤ length (head ++ flat_map pieces (take c.loop-i.i s.pairs)) =
    front_covers head pieces 48 (λ p. refl) s.pairs c.loop-i.i c.args.out.now c.requires.size (search rules) (search rules) in
    c.loop-i.invariant.0 ∙ laid_front head pieces s.pairs c.loop-i.i c.args.out.now le

pub returns-clause-fits : goal.returns-clause-fits
returns-clause-fits g c whole =
    let s = g.R.Registrants.standing c.args.from.now in
    let pieces = descriptor (kind_of s.reservation) (holder_of s.reservation) in
    let long : length (flat_map pieces s.pairs) ≡ 48 * length s.pairs = length_pieces pieces 48 (λ p. refl) s.pairs in
    let reach : (length c.args.out.now ≤ 8 + 48 * c.loop-i.i) ⊎ (length s.pairs ≤ c.loop-i.i) = search rules in
    let all : length s.pairs ≤ c.loop-i.i = elim reach [
      | inl h ↦ omega (arith, h, whole, long)
      | inr h ↦ h
    ] in
    (c.loop-i.invariant.2, subst (λ (ps : List Pair). All FitsPair ps) (take_all c.loop-i.i s.pairs all) c.loop-i.invariant.1)
