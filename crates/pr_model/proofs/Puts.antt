-- Of pairs in order: where a nexus stands, and when putting a pair in leaves them as they were.
use Rattle.std.proofs.Common.{◌≡◌, ℕ, zero, suc, ◌+◌, ◌<◌, ◌≤◌, Bool, true, false, not, List, [], ◌∷◌, length, get_or, set, Some, refl, sym, ap, ◌∙◌, subst, arith, inl, inr, ◌⊎◌}
use Rattle.std.specs.List.{filter, insert}
use Rattle.std.proofs.lemmas.Bool.{false≢true, ne_eqb, eq-eqb, cases_lt}
use Rattle.std.proofs.lemmas.List.{length-set, get_or_default}
use Rattle.std.proofs.lemmas.List.Edits.{length-insert}
use Rattle.std.proofs.lemmas.List.Elements.{filter_passes}
use Rattle.std.proofs.lemmas.Grind.{common_steps}
use Rattle.pr_words.specs.declared.nexus.Nexus.{Nexus}
use Rattle.pr_words.specs.declared.nexus.Pair.{Pair}
use Rattle.pr_words.specs.Orders.{same_nexus}
use Rattle.pr_grammar.specs.Standings.{Standing, key_of}
use Rattle.pr_model.specs.Registrants.{with_pair, pair, is_earlier, is_later, IsAscending}
use Rattle.pr_model.specs.Places.{Divides, StandsAt, LacksAt}
use Rattle.pr_model.specs.Acts.{ReserveOut, acted}
use Rattle.pr_model.specs.Keeping.{same_pairs, same_kept, kept, keeps_by, same_reservation}
use Rattle.pr_model.specs.Keeping.{looks_same}
use Rattle.pr_model.proofs.Orders.{before_through}
use Rattle.pr_model.proofs.Places.{some_key, found_from, lacking_from, lacking_behind, set_is_with}
use Rattle.pr_model.proofs.Changes.{put_same, lacks_differ, kept_changed}
use Rattle.pr_model.proofs.Looks.{acted_looks}

divides : (n : Nexus) (ps : List Pair) → IsAscending ps → (i : ℕ) × Divides ps n i
divides n [] up = (0, record { within = omega arith; below = λ k d a b. absurd (omega arith); above = λ k d a b. absurd (omega arith) })
divides n (p ∷ ps) up = by (is_earlier n p) refl (divides n ps (λ i j d lt le. up (suc i) (suc j) d (omega arith) (omega arith)))
  where
    here : is_earlier n p ≡ false → (k : ℕ) (d : Pair) → 0 ≤ k → k < length (p ∷ ps) → is_earlier n (get_or (p ∷ ps) k d) ≡ false
    here e zero d a b = e
    here e (suc k) d a b = not_then (is_earlier n (get_or ps k d)) refl
      where
        not_then : (b : Bool) → is_earlier n (get_or ps k d) ≡ b → is_earlier n (get_or ps k d) ≡ false
        not_then true f = absurd (false≢true (sym e ∙ before_through p.nexus (get_or ps k d).nexus n (up zero (suc k) d (omega arith) b) f))
        not_then false f = f

    below : (i : ℕ) → Divides ps n i → is_earlier n p ≡ true → (k : ℕ) (d : Pair) → 0 ≤ k → k < suc i → is_earlier n (get_or (p ∷ ps) k d) ≡ true
    below i c e zero d a b = e
    below i c e (suc k) d a b = c.below k d (omega arith) (omega arith)

    above : (i : ℕ) → Divides ps n i → (k : ℕ) (d : Pair) → suc i ≤ k → k < length (p ∷ ps) → is_earlier n (get_or (p ∷ ps) k d) ≡ false
    above i c zero d a b = absurd (omega arith)
    above i c (suc k) d a b = c.above k d (omega arith) (omega arith)

    by : (b : Bool) → is_earlier n p ≡ b → (i : ℕ) × Divides ps n i → (i : ℕ) × Divides (p ∷ ps) n i
    by true e r = (suc r.0, record { within = omega (arith, r.1.within); below = below r.0 r.1 e; above = above r.0 r.1 })
    by false e r = (0, record { within = omega arith; below = λ k d a b. absurd (omega arith); above = here e })

same_itself : (n : Nexus) → same_nexus n n ≡ true
same_itself n = grind (arith, common_steps)

pub key_put : (ps : List Pair) (n : Nexus) (k : ℕ) → key_of (with_pair ps (pair n k)) n ≡ Some k
key_put ps n k =
    some_key n (filter (is_earlier n) ps) (filter (is_later n) ps) (record { before = filter_passes (is_earlier n) ps; after = filter_passes (is_later n) ps }) (pair n k) (same_itself n)

stands_looks : (ps : List Pair) (n : Nexus) (i k : ℕ) → StandsAt ps n i → (d : Pair) → get_or ps i d ≡ d → same_nexus d.nexus n ≡ true → same_pairs ps (with_pair ps (pair n k)) ≡ looks_same ps (with_pair ps (pair n k)) n
stands_looks ps n i k at d is same =
    let put : set ps i (pair n k) ≡ with_pair ps (pair n k) = set_is_with ps n i k at in
    let long : length ps ≡ length (with_pair ps (pair n k)) = sym (length-set ps i (pair n k)) ∙ ap (λ (xs : List Pair). length xs) put in
    let own : key_of ps n ≡ Some d.key.0 = at.key d ∙ ap (λ (p : Pair). Some p.key.0) is in
    rw (eq-eqb _ _ long, own, key_put ps n k) (ap (same_pairs ps) (sym put) ∙ put_same ps n i k at d is same)

lacks_looks : (ps : List Pair) (n : Nexus) (i k : ℕ) → LacksAt ps n i → same_pairs ps (with_pair ps (pair n k)) ≡ looks_same ps (with_pair ps (pair n k)) n
lacks_looks ps n i k at =
    let put : insert ps i (pair n k) ≡ with_pair ps (pair n k) = rw (at.earlier, at.later) refl in
    let long : length (with_pair ps (pair n k)) ≡ length ps + 1 = ap (λ (xs : List Pair). length xs) (sym put) ∙ length-insert ps i (pair n k) at.within in
    rw (ne_eqb (length ps) (length (with_pair ps (pair n k))) (λ z. absurd (omega (arith, long, z)))) (ap (same_pairs ps) (sym put) ∙ lacks_differ ps n i (pair n k) at)

-- what is asked of a pair that is put in
abbrev PutLooks : Standing → Nexus → ℕ → Type 0
PutLooks s n key = same_pairs s.pairs (with_pair s.pairs (pair n key)) ≡ looks_same s.pairs (with_pair s.pairs (pair n key)) n

put_looks : (s : Standing) (n : Nexus) (k : ℕ) → IsAscending s.pairs → PutLooks s n k
put_looks s n k up = let c = divides n s.pairs up in at c.0 c.1 (cases_lt c.0 (length s.pairs))
  where
    at : (i : ℕ) → Divides s.pairs n i → (i < length s.pairs) ⊎ (length s.pairs ≤ i) → PutLooks s n k
    at i c (inr le) = lacks_looks s.pairs n i k (lacking_behind s.pairs n i up c le)
    at i c (inl lt) = by (same_nexus (get_or s.pairs i (pair n k)).nexus n) refl
      where
        by : (b : Bool) → same_nexus (get_or s.pairs i (pair n k)).nexus n ≡ b → PutLooks s n k
        by true e = stands_looks s.pairs n i k (found_from s.pairs n i (pair n k) up c lt e) (get_or s.pairs i (pair n k)) (get_or_default s.pairs i (get_or s.pairs i (pair n k)) (pair n k) lt) e
        by false e = lacks_looks s.pairs n i k (lacking_from s.pairs n i (pair n k) up c lt e)

-- whether something else is kept after an act
pub acted_keeps : (limit : ℕ) (s : Standing) (n : Nexus) (o : ReserveOut) (t : Standing) → IsAscending s.pairs → t ≡ (acted limit s n o).standing
    → not (same_kept (kept s) (kept t)) ≡ keeps_by s.preserve t.preserve (looks_same s.pairs t.pairs n) (same_reservation s.reservation t.reservation)
acted_keeps limit s n o t up is =
    kept_changed s t _ _ (subst (λ (u : Standing). same_pairs s.pairs u.pairs ≡ looks_same s.pairs u.pairs n) (sym is) (acted_looks limit s n o (put_looks s n o.action_key up))) refl
