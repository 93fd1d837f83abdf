use Rattle.std.proofs.Common.{◌≡◌, ◌⊎◌, ⊎_elim, ℕ, ◌+◌, ◌^◌, ◌<◌, List, [], ◌∷◌, ◌++◌, length, take, get_or, Some, sym, ◌∙◌, ap, subst, arith}
use Rattle.std.specs.Prelude.{slice_get}
use Rattle.std.specs.List.{flat_map}
use Rattle.std.proofs.lemmas.List.{flat_map_more, take_more}
use Rattle.std.proofs.lemmas.Option.{get_or_from_slice_get, slice_get_within}
use Rattle.pr_words.specs.declared.nexus.Pair.{Pair}
use Rattle.pr_grammar.specs.Files.{spelled_pair}
use Rattle.pr_aptpl.proofs.spelling.spell_pairs.Goals as goal

one_more : (h : List ℕ) (ps : List Pair) (i at : ℕ) (p : Pair) (old new piece : List ℕ) → slice_get ps i ≡ Some p → take at old ≡ h ++ flat_map spelled_pair (take i ps) → piece ≡ spelled_pair p
    → take (at + length piece) new ≡ take at old ++ piece → take (at + 18) new ≡ h ++ flat_map spelled_pair (take (i + 1) ps)
one_more h ps i at p old new piece stands was is now =
    ap (λ (n : ℕ). take (at + n) new) (sym (ap length is))
    ∙ now ∙ ap (λ (l : List ℕ). l ++ piece) was ∙ ap (λ (l : List ℕ). (h ++ flat_map spelled_pair (take i ps)) ++ l) is ∙ flat_map_more spelled_pair h (take i ps) p
    ∙ ap (λ (l : List Pair). h ++ flat_map spelled_pair l)
    (ap (λ (q : Pair). take i ps ++ q ∷ []) (sym (get_or_from_slice_get ps i p p stands)) ∙ sym (take_more ps i p (slice_get_within ps i p stands)))

abbrev Fits_fields : Pair → Type 0
Fits_fields p = (p.nexus.name < 2 ^ 64) × (p.key.0 < 2 ^ 64)

fits_more : (ps : List Pair) (i : ℕ) (p : Pair) → slice_get ps i ≡ Some p → Fits_fields p → ((k : ℕ) (d : Pair) → k < i → Fits_fields (get_or ps k d)) → (k : ℕ) (d : Pair) → k < i + 1 → Fits_fields (get_or ps k d)
fits_more ps i p stands fits before k d lt = ⊎_elim
    (λ low. before k d low)
    (λ here. subst (λ (m : ℕ). Fits_fields (get_or ps m d)) (sym here) (subst Fits_fields (sym (get_or_from_slice_get ps i p d stands)) fits))
    (below_or k i lt)
  where
    below_or : (m n : ℕ) → m < n + 1 → (m < n) ⊎ (m ≡ n)
    below_or m n le = grind (arith, le)

pub loop-i-preserved : goal.loop-i-preserved
loop-i-preserved c = record {
  at = omega (arith, c.loop-i.invariant.at);
  bytes = one_more (take 16 c.args.buffer.now) c.args.table.now.pairs.pairs c.loop-i.i c.loop-i.at _ c.loop-i.buffer _ c.pair_bytes.result c.at.ensures c.loop-i.invariant.bytes c.pair_bytes.ensures.bytes c.put_at.ensures.bytes;
  long = c.put_at.ensures.length ∙ c.loop-i.invariant.long;
  fits = fits_more c.args.table.now.pairs.pairs c.loop-i.i _ c.at.ensures c.pair_bytes.ensures.fits c.loop-i.invariant.fits;
}
