-- After an act that left as many registrations, the caller's stands where it stood.
use Rattle.std.proofs.Common.{◌≡◌, ℕ, ◌<◌, Bool, true, false, ◌==◌, ◌&&◌, List, length, get_or, set, Some, Result, Ok, Err, option_map, refl, sym, ap, ◌∙◌, subst, arith}
use Rattle.std.specs.List.{insert}
use Rattle.std.proofs.lemmas.Bool.{eqb-true}
use Rattle.std.proofs.lemmas.List.{get_or-set_same, length-set}
use Rattle.std.proofs.lemmas.List.Edits.{length-insert}
use Rattle.std.proofs.lemmas.Option.{slice_get-get_or}
use Rattle.pr_words.specs.declared.nexus.Nexus.{Nexus}
use Rattle.pr_words.specs.declared.nexus.Pair.{Pair}
use Rattle.pr_grammar.specs.Standings.{Standing, key_of}
use Rattle.pr_model.specs.Registrants.{pair, with_pair}
use Rattle.pr_model.specs.Acts.{ReserveOut, acted}
use Rattle.pr_model.specs.Keeping.{same_key, looks_same}
use Rattle.pr_model.proofs.Looks.{but_all}
use Rattle.pr_model.proofs.Outcomes.{acted_pairs}
use Rattle.pr_model.proofs.Places.{set_is_with}
use Rattle.pr_model.proofs.Puts.{key_put}
use Rattle.pr_table.specs.Places.{IsPlace, key_in}
use Rattle.pr_table.specs.Noted.{looks_still}

-- the key in the place is that of the nexus, where there are as many pairs
abbrev Keyed : List Pair → Nexus → Result ℕ ℕ → List Pair → Type 0
Keyed ps n place qs = length ps ≡ length qs → key_in qs place ≡ key_of qs n

at_place : (qs : List Pair) (i : ℕ) (d : Pair) → i < length qs → key_in qs (Ok i) ≡ Some (get_or qs i d).key.0
at_place qs i d lt = ap (option_map (λ (p : Pair). p.key.0)) (slice_get-get_or qs i d lt)

here : (ps : List Pair) (n : Nexus) (place : Result ℕ ℕ) → IsPlace ps n place → key_in ps place ≡ key_of ps n
here ps n (Ok i) at = at_place ps i (pair n 0) at.within ∙ sym (at.key (pair n 0))
here ps n (Err i) at = sym at.key

put : (ps : List Pair) (n : Nexus) (k : ℕ) (place : Result ℕ ℕ) → IsPlace ps n place → Keyed ps n place (with_pair ps (pair n k))
put ps n k (Ok i) at long =
    let lt : i < length (set ps i (pair n k)) = omega (arith, at.within, length-set ps i (pair n k)) in
    ap (λ (xs : List Pair). key_in xs (Ok i)) (sym (set_is_with ps n i k at))
    ∙ at_place (set ps i (pair n k)) i (pair n k) lt
    ∙ ap (λ (p : Pair). Some p.key.0) (get_or-set_same ps i (pair n k) (pair n k) at.within)
    ∙ sym (key_put ps n k)
put ps n k (Err i) at long =
    let put : insert ps i (pair n k) ≡ with_pair ps (pair n k) = rw (at.earlier, at.later) refl in
    absurd (omega (arith, long, length-insert ps i (pair n k) at.within, ap (λ (xs : List Pair). length xs) put))

key_stays : (limit : ℕ) (s : Standing) (n : Nexus) (o : ReserveOut) (place : Result ℕ ℕ) → IsPlace s.pairs n place → Keyed s.pairs n place (acted limit s n o).standing.pairs
key_stays limit s n o place at =
    acted_pairs (Keyed s.pairs n place) limit s n (λ e. here s.pairs n place at)
    (λ goes e. subst (λ (qs : List Pair). key_in qs place ≡ key_of qs n) (but_all goes s.pairs e) (here s.pairs n place at)) o (λ fits. put s.pairs n o.action_key place at)

-- so it is enough to look there
pub still_same : (limit : ℕ) (s : Standing) (n : Nexus) (o : ReserveOut) (t : Standing) (place : Result ℕ ℕ) → IsPlace s.pairs n place → t ≡ (acted limit s n o).standing → looks_still s.pairs t.pairs n place ≡ looks_same s.pairs t.pairs n
still_same limit s n o t place at is = by (length s.pairs == length t.pairs) refl
  where
    keyed : Keyed s.pairs n place t.pairs
    keyed = subst (λ (u : Standing). Keyed s.pairs n place u.pairs) (sym is) (key_stays limit s n o place at)

    by : (b : Bool) → (length s.pairs == length t.pairs) ≡ b → (b && same_key (key_of s.pairs n) (key_in t.pairs place)) ≡ (b && same_key (key_of s.pairs n) (key_of t.pairs n))
    by true e = ap (same_key (key_of s.pairs n)) (keyed (eqb-true (length s.pairs) (length t.pairs) e))
    by false e = refl
