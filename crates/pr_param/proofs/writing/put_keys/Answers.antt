-- The loop puts one key more, and ends where the buffer does.
use Rattle.std.proofs.Common.{◌≡◌, ◌≤◌, ◌*◌, ◌++◌, ℕ, List, length, take, refl, sym, subst, ◌∙◌, rules, arith, ◌+◌, ◌⊎◌, inl, inr}
use Rattle.std.specs.Prelude.{All}
use Rattle.std.specs.List.{flat_map}
use Rattle.std.specs.Int.{w32, to_be_bytes}
use Rattle.std.proofs.lemmas.List.{take_all}
use Rattle.pr_words.specs.declared.nexus.Pair.{Pair}
use Rattle.pr_grammar.specs.InReplies.{key_bytes}
use Rattle.pr_param.specs.Fits.{FitsKey}
use Rattle.pr_param.proofs.Pieces.{front_covers, put_more, laid_front, length_pieces}
use Rattle.pr_param.proofs.RoundTrips.{all_more}
use Rattle.pr_param.proofs.writing.put_keys.Goals as goal

pub loop-i-preserved : goal.loop-i-preserved
loop-i-preserved g c =
    let s = g.R.Registrants.standing c.args.from.now in
    let head : List ℕ = to_be_bytes w32 s.generation ++ to_be_bytes w32 (8 * length s.pairs) in (
      put_more head key_bytes 8 (λ p. refl) s.pairs c.args.out.now _ _ _ c.loop-i.i _ _ c.at.ensures (sym c.listed_key.ensures.bytes) refl c.loop-i.invariant.0 c.put.ensures.next,
      all_more FitsKey s.pairs c.loop-i.i _ c.at.ensures c.listed_key.ensures.fits c.loop-i.invariant.1,
      c.loop-i.invariant.2,
    )

pub returns-clause-front : goal.returns-clause-front
returns-clause-front g c =
    let s = g.R.Registrants.standing c.args.from.now in
    let head : List ℕ = to_be_bytes w32 s.generation ++ to_be_bytes w32 (8 * length s.pairs) in
    let le : length c.args.out.now ≤ length (head ++ flat_map key_bytes (take c.loop-i.i s.pairs)) =
    front_covers head key_bytes 8 (λ p. refl) s.pairs c.loop-i.i c.args.out.now c.requires.size (search rules) (search rules) in
    c.loop-i.invariant.0 ∙ laid_front head key_bytes s.pairs c.loop-i.i c.args.out.now le

pub returns-clause-fits : goal.returns-clause-fits
returns-clause-fits g c whole =
    let s = g.R.Registrants.standing c.args.from.now in
    let pieces : length (flat_map key_bytes s.pairs) ≡ 8 * length s.pairs = length_pieces key_bytes 8 (λ p. refl) s.pairs in
    let reach : (length c.args.out.now ≤ 8 + 8 * c.loop-i.i) ⊎ (length s.pairs ≤ c.loop-i.i) = search rules in
    let all : length s.pairs ≤ c.loop-i.i = elim reach [
      | inl h ↦ omega (arith, h, whole, pieces)
      | inr h ↦ h
    ] in
    (c.loop-i.invariant.2, subst (λ (ps : List Pair). All FitsKey ps) (take_all c.loop-i.i s.pairs all) c.loop-i.invariant.1)
