-- An act left the pairs as they were just where their number and the caller's key are the same.
use Rattle.std.proofs.Common.{◌≡◌, ℕ, Bool, true, false, cond, not, ◌&&◌, ◌==◌, List, [], ◌∷◌, length, Option, Some, None, refl, sym, ap, ◌∙◌, arith}
use Rattle.std.proofs.lemmas.Bool.{eqb-true, eqb-false, eq-eqb}
use Rattle.pr_words.specs.declared.nexus.Nexus.{Nexus}
use Rattle.pr_words.specs.declared.nexus.Pair.{Pair}
use Rattle.pr_grammar.specs.Standings.{Standing, key_of}
use Rattle.pr_model.specs.Registrants.{with_pair, pair, but_those}
use Rattle.pr_model.specs.Acts.{ReserveOut, acted}
use Rattle.pr_model.specs.Keeping.{same_pairs}
use Rattle.pr_model.specs.Keeping.{same_key, looks_same}
use Rattle.pr_model.proofs.Outcomes.{acted_pairs}
use Rattle.pr_model.proofs.Changes.{same_pairs-refl, same_pairs-is, shorter}

same_key-refl : (o : Option ℕ) → same_key o o ≡ true
same_key-refl None = refl
same_key-refl (Some a) = eq-eqb a a refl

-- lists that are equal where they are equally long
pub by_length : (ps qs : List Pair) (n : Nexus) → (length ps ≡ length qs → ps ≡ qs) → same_pairs ps qs ≡ looks_same ps qs n
by_length ps qs n long = by (length ps == length qs) refl
  where
    apart : (b : Bool) → same_pairs ps qs ≡ b → (length ps ≡ length qs → ⊥) → same_pairs ps qs ≡ false
    apart true e differ = absurd (differ (ap (λ (xs : List Pair). length xs) (same_pairs-is ps qs e)))
    apart false e differ = e

    by : (b : Bool) → (length ps == length qs) ≡ b → same_pairs ps qs ≡ (b && same_key (key_of ps n) (key_of qs n))
    by true e =
        let same = long (eqb-true (length ps) (length qs) e) in
        ap (same_pairs ps) (sym same) ∙ same_pairs-refl ps ∙ sym (ap (λ (xs : List Pair). same_key (key_of ps n) (key_of xs n)) (sym same) ∙ same_key-refl (key_of ps n))
    by false e = apart (same_pairs ps qs) refl (eqb-false (length ps) (length qs) e)

-- a filter that drops nothing leaves the list
pub but_all : (goes : Pair → Bool) (ps : List Pair) → length ps ≡ length (but_those goes ps) → ps ≡ but_those goes ps
but_all goes [] e = refl
but_all goes (p ∷ ps) e = by (goes p) (but_all goes ps) e
  where
    by : (b : Bool) → (length ps ≡ length (but_those goes ps) → ps ≡ but_those goes ps) → length (p ∷ ps) ≡ length (cond (not b) (p ∷ but_those goes ps) (but_those goes ps)) → p ∷ ps ≡ cond (not b) (p ∷ but_those goes ps) (but_those goes ps)
    by true ih e = absurd (omega (arith, shorter goes ps))
    by false ih e = ap (λ (xs : List Pair). p ∷ xs) (ih (omega arith))

but_looks : (goes : Pair → Bool) (ps : List Pair) (n : Nexus) → same_pairs ps (but_those goes ps) ≡ looks_same ps (but_those goes ps) n
but_looks goes ps n = by_length ps (but_those goes ps) n (but_all goes ps)

kept_looks : (ps : List Pair) (n : Nexus) → same_pairs ps ps ≡ looks_same ps ps n
kept_looks ps n = by_length ps ps n (λ e. refl)

-- an act changed the pairs just where their number or the caller's key changed, if it is so of a pair that is put in
pub acted_looks : (limit : ℕ) (s : Standing) (n : Nexus) (o : ReserveOut) → same_pairs s.pairs (with_pair s.pairs (pair n o.action_key)) ≡ looks_same s.pairs (with_pair s.pairs (pair n o.action_key)) n
    → same_pairs s.pairs (acted limit s n o).standing.pairs ≡ looks_same s.pairs (acted limit s n o).standing.pairs n
acted_looks limit s n o put =
    acted_pairs (λ ps. same_pairs s.pairs ps ≡ looks_same s.pairs ps n) limit s n (kept_looks s.pairs n) (λ goes. but_looks goes s.pairs n) o (λ fits. put)
