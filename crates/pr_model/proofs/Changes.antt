-- When pairs stay the same.
use Rattle.std.proofs.Common.{◌≡◌, ℕ, ◌≤◌, Bool, true, false, cond, not, ◌||◌, ◌==◌, List, [], ◌∷◌, length, get_or, set, refl, sym, ap, ◌∙◌, arith}
use Rattle.std.specs.List.{list_any}
use Rattle.std.proofs.lemmas.Bool.{false≢true, and_parts, eqb-true, eq-eqb, ne_eqb}
use Rattle.std.proofs.lemmas.List.{set-get_or, get_or-set_same}
use Rattle.pr_words.specs.declared.nexus.Nexus.{Nexus}
use Rattle.pr_words.specs.declared.nexus.Pair.{Pair}
use Rattle.pr_words.specs.Orders.{same_nexus}
use Rattle.pr_words.specs.Kinds.{kind_code}
use Rattle.pr_words.specs.declared.reservation.Reservation.{Reservation}
use Rattle.pr_words.specs.declared.reservation.Reservation.TheVariants.{Free, OfOne, OfAll}
use Rattle.pr_grammar.specs.Standings.{Standing}
use Rattle.pr_model.specs.Registrants.{pair, but_those, just_those}
use Rattle.pr_model.specs.Places.{StandsAt, LacksAt}
use Rattle.pr_model.specs.Keeping.{same_pair, same_pairs, same_kept, kept, keeps_by, same_reservation, Some_kept, Nothing}
use Rattle.std.specs.List.{insert}
use Rattle.std.proofs.lemmas.List.Edits.{length-insert}
use Rattle.pr_model.proofs.Orders.{same_is}

pub same_pairs-refl : (ps : List Pair) → same_pairs ps ps ≡ true
same_pairs-refl [] = refl
same_pairs-refl (p ∷ ps) = rw (eq-eqb p.nexus.name p.nexus.name refl, eq-eqb p.nexus.port p.nexus.port refl, eq-eqb p.key.0 p.key.0 refl) (same_pairs-refl ps)

pub same_pairs-is : (ps qs : List Pair) → same_pairs ps qs ≡ true → ps ≡ qs
same_pairs-is [] [] e = refl
same_pairs-is [] (q ∷ qs) e = absurd (false≢true e)
same_pairs-is (p ∷ ps) [] e = absurd (false≢true e)
same_pairs-is (p ∷ ps) (q ∷ qs) e =
    let parts = and_parts (same_pair p q) (same_pairs ps qs) e in
    let heads = and_parts (same_nexus p.nexus q.nexus) (p.key.0 == q.key.0) parts.0 in
    let n : p.nexus ≡ q.nexus = same_is p.nexus q.nexus heads.0 in
    let k : p.key.0 ≡ q.key.0 = eqb-true p.key.0 q.key.0 heads.1 in
    let head : p ≡ q = λ i. record { nexus = n i; key = record { 0 = k i } } in
    λ i. head i ∷ same_pairs-is ps qs parts.1 i

differ : (ps qs : List Pair) → (ps ≡ qs → ⊥) → same_pairs ps qs ≡ false
differ ps qs apart = by (same_pairs ps qs) refl
  where
    by : (b : Bool) → same_pairs ps qs ≡ b → same_pairs ps qs ≡ false
    by true e = absurd (apart (same_pairs-is ps qs e))
    by false e = e

pub shorter : (goes : Pair → Bool) (ps : List Pair) → length (but_those goes ps) ≤ length ps
shorter goes [] = omega arith
shorter goes (p ∷ ps) = by (goes p) (shorter goes ps)
  where
    by : (b : Bool) → length (but_those goes ps) ≤ length ps → length (cond (not b) (p ∷ but_those goes ps) (but_those goes ps)) ≤ length (p ∷ ps)
    by true e = omega arith
    by false e = omega arith

-- pairs stay the same where none leaves
pub but_same : (goes : Pair → Bool) (ps : List Pair) → same_pairs ps (but_those goes ps) ≡ not (list_any goes ps)
but_same goes [] = refl
but_same goes (p ∷ ps) = by (goes p) (but_same goes ps)
  where
    by : (b : Bool) → same_pairs ps (but_those goes ps) ≡ not (list_any goes ps) → same_pairs (p ∷ ps) (cond (not b) (p ∷ but_those goes ps) (but_those goes ps)) ≡ not (b || list_any goes ps)
    by true e = differ (p ∷ ps) (but_those goes ps) (λ same. absurd (omega (arith, shorter goes ps, ap (λ (xs : List Pair). length xs) same)))
    by false e = rw (eq-eqb p.nexus.name p.nexus.name refl, eq-eqb p.nexus.port p.nexus.port refl, eq-eqb p.key.0 p.key.0 refl) e

-- and where one is put in that was there with this key
pub put_same : (ps : List Pair) (n : Nexus) (i k : ℕ) → StandsAt ps n i → (d : Pair) → get_or ps i d ≡ d → same_nexus d.nexus n ≡ true → same_pairs ps (set ps i (pair n k)) ≡ (d.key.0 == k)
put_same ps n i k at d is here = by (d.key.0 == k) refl
  where
    by : (b : Bool) → (d.key.0 == k) ≡ b → same_pairs ps (set ps i (pair n k)) ≡ b
    by true e =
        let whole : d ≡ pair n k = let m = same_is d.nexus n here in let q = eqb-true d.key.0 k e in λ j. record { nexus = m j; key = record { 0 = q j } } in
        let same : set ps i (pair n k) ≡ ps = ap (set ps i) (sym whole) ∙ ap (set ps i) (sym is) ∙ set-get_or ps i d in
        ap (same_pairs ps) same ∙ same_pairs-refl ps
    by false e = differ ps (set ps i (pair n k)) (λ same. false≢true (sym e ∙ eq-eqb d.key.0 k (ap (λ (p : Pair). p.key.0) (sym is ∙ ap (λ (xs : List Pair). get_or xs i d) same ∙ get_or-set_same ps i (pair n k) d at.within))))

-- a reservation and flags decide with the pairs
pub kept_by : (s t : Standing) → not (same_kept (kept s) (kept t)) ≡ keeps_by s.preserve t.preserve (same_pairs s.pairs t.pairs) (same_reservation s.reservation t.reservation)
kept_by s t = by s.preserve t.preserve
  where
    by : (a b : Bool) → not (same_kept (cond a (Some_kept s.pairs s.reservation) Nothing) (cond b (Some_kept t.pairs t.reservation) Nothing)) ≡ keeps_by a b (same_pairs s.pairs t.pairs) (same_reservation s.reservation t.reservation)
    by true true = refl
    by true false = refl
    by false true = refl
    by false false = refl

-- whether some passes, by the list of those that pass
pub any_by_list : (goes : Pair → Bool) (ps : List Pair) → list_any goes ps ≡ not (length (just_those goes ps) == 0)
any_by_list goes [] = refl
any_by_list goes (p ∷ ps) = by (goes p) (any_by_list goes ps)
  where
    by : (b : Bool) → list_any goes ps ≡ not (length (just_those goes ps) == 0) → (b || list_any goes ps) ≡ not (length (cond b (p ∷ just_those goes ps) (just_those goes ps)) == 0)
    by true e = sym (ap not (ne_eqb (length (p ∷ just_those goes ps)) 0 (λ z. absurd (omega (arith, z)))))
    by false e = e

pub lacks_differ : (ps : List Pair) (n : Nexus) (i : ℕ) (q : Pair) → LacksAt ps n i → same_pairs ps (insert ps i q) ≡ false
lacks_differ ps n i q at = differ ps (insert ps i q) (λ same. absurd (omega (arith, length-insert ps i q at.within, ap (λ (xs : List Pair). length xs) same)))

pub same_reservation-refl : (r : Reservation) → same_reservation r r ≡ true
same_reservation-refl Free = refl
same_reservation-refl (OfOne k n) = rw (eq-eqb (kind_code k) (kind_code k) refl, eq-eqb n.name n.name refl, eq-eqb n.port n.port refl) refl
same_reservation-refl (OfAll k) = eq-eqb (kind_code k) (kind_code k) refl

pub kept_same : (s : Standing) → not (same_kept (kept s) (kept s)) ≡ false
kept_same s = kept_by s s ∙ by s.preserve
  where
    by : (a : Bool) → keeps_by a a (same_pairs s.pairs s.pairs) (same_reservation s.reservation s.reservation) ≡ false
    by true = rw (same_pairs-refl s.pairs, same_reservation-refl s.reservation) refl
    by false = refl

pub kept_changed : (s t : Standing) (pairs reservation : Bool) → same_pairs s.pairs t.pairs ≡ pairs → same_reservation s.reservation t.reservation ≡ reservation → not (same_kept (kept s) (kept t)) ≡ keeps_by s.preserve t.preserve pairs reservation
kept_changed s t pairs reservation a b = rw (sym a, sym b) (kept_by s t)
