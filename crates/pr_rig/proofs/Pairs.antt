-- Lists of registrations: what is put in, what goes and what stays.
use Rattle.std.proofs.Common.{◌≡◌, ℕ, ◌==◌, Bool, true, false, cond, not, ◌&&◌, ◌||◌, List, [], ◌∷◌, Some, refl, sym, ap, ◌∙◌, subst, get_or, arith}
use Rattle.std.specs.List.{list_any, filter}
use Rattle.std.proofs.lemmas.Bool.{false≢true, and_parts, or_left, or_right, eqb-true, ne_eqb}
use Rattle.std.proofs.lemmas.List.Folds.{list_any-append, list_any_none}
use Rattle.std.proofs.lemmas.Grind.{common_steps}
use Rattle.pr_words.specs.declared.nexus.Nexus.{Nexus}
use Rattle.pr_words.specs.declared.nexus.Pair.{Pair}
use Rattle.pr_words.specs.Orders.{same_nexus, comes_before}
use Rattle.pr_grammar.specs.Standings.{IsAscending, key_of, is_at, is_registered}
use Rattle.pr_model.specs.Registrants.{pair, has_key, is_earlier, is_later, with_pair, but_those}
use Rattle.pr_model.proofs.Orders.{before_not_after, before_not_same, after_not_same, neither, same_is}
use Rattle.pr_model.proofs.Ascending.{head_up, tail_up}
use Rattle.pr_model.proofs.Puts.{key_put}

same_turned : (a b : Nexus) → same_nexus a b ≡ true → same_nexus b a ≡ true
same_turned a b e = grind (arith, common_steps, and_parts)

-- Whose key it is

-- a nexus with a key is registered
pub registered_of : (ps : List Pair) (n : Nexus) (k : ℕ) → key_of ps n ≡ Some k → is_registered ps n ≡ true
registered_of [] n k is = absurd cc
registered_of (p ∷ ps) n k is = by (is_at n p) refl is (registered_of ps n k)
  where
    by : (at : Bool) → is_at n p ≡ at → cond at (Some p.key.0) (key_of ps n) ≡ Some k → (key_of ps n ≡ Some k → is_registered ps n ≡ true) → (is_at n p || is_registered ps n) ≡ true
    by true at is later = or_left (is_at n p) (is_registered ps n) at
    by false at is later = or_right (is_at n p) (is_registered ps n) (later is)

-- behind a pair in order, its nexus has no key
none_behind : (p : Pair) (ps : List Pair) (n : Nexus) (k : ℕ) → IsAscending (p ∷ ps) → is_at n p ≡ true → key_of ps n ≡ Some k → ⊥
none_behind p ps n k up at is =
    let here : p.nexus ≡ n = same_is p.nexus n at in
    let none : is_registered ps n ≡ false = list_any_none (is_at n) ps (λ i d lt. after_not_same n (get_or ps i d).nexus (subst (λ (m : Nexus). comes_before m (get_or ps i d).nexus ≡ true) here (head_up p ps up i d lt))) in
    false≢true (sym none ∙ registered_of ps n k is)

-- the pair of a nexus in a list in order carries its key
pub own_listed : (ps : List Pair) (n : Nexus) (own : ℕ) → IsAscending ps → list_any (λ p. same_nexus n p.nexus && p.key.0 == own) ps ≡ true → key_of ps n ≡ Some own
own_listed [] n own up is = absurd (false≢true is)
own_listed (p ∷ ps) n own up is = by (same_nexus n p.nexus && p.key.0 == own) refl is (own_listed ps n own (tail_up p ps up))
  where
    -- it stands behind the first
    behind : (at : Bool) → is_at n p ≡ at → key_of ps n ≡ Some own → cond at (Some p.key.0) (key_of ps n) ≡ Some own
    behind true at later = absurd (none_behind p ps n own up at later)
    behind false at later = later

    by : (b : Bool) → (same_nexus n p.nexus && p.key.0 == own) ≡ b → (b || list_any (λ q. same_nexus n q.nexus && q.key.0 == own) ps) ≡ true
        → (list_any (λ q. same_nexus n q.nexus && q.key.0 == own) ps ≡ true → key_of ps n ≡ Some own) → key_of (p ∷ ps) n ≡ Some own
    by true both is later =
        let parts = and_parts (same_nexus n p.nexus) (p.key.0 == own) both in
        rw (same_turned n p.nexus parts.0) (ap Some (eqb-true p.key.0 own parts.1))
    by false both is later = behind (is_at n p) refl (later is)

-- Where a pair is put in

-- its nexus has its key
pub own_in : (ps : List Pair) (n : Nexus) (k : ℕ) → key_of (with_pair ps (pair n k)) n ≡ Some k
own_in ps n k = key_put ps n k

or_first : (h a b c : Bool) → (a || b) ≡ c → ((h || a) || b) ≡ (h || c)
or_first true a b c is = refl
or_first false a b c is = is

or_within : (h a b c : Bool) → (a || b) ≡ c → (a || (h || b)) ≡ (h || c)
or_within true true b c is = refl
or_within true false b c is = refl
or_within false true b c is = is
or_within false false b c is = is

-- what was before or behind the place of a nexus, where that nexus hasn't got the key
parts_in : (ps : List Pair) (n : Nexus) (v : ℕ) → IsAscending ps → (key_of ps n ≡ Some v → ⊥) → (list_any (has_key v) (filter (is_earlier n) ps) || list_any (has_key v) (filter (is_later n) ps)) ≡ list_any (has_key v) ps
parts_in [] n v up other = refl
parts_in (p ∷ ps) n v up other = by (is_earlier n p) (is_later n p) (is_at n p) refl refl refl other (parts_in ps n v (tail_up p ps up))
  where
    by : (a b c : Bool) → is_earlier n p ≡ a → is_later n p ≡ b → is_at n p ≡ c → (cond c (Some p.key.0) (key_of ps n) ≡ Some v → ⊥)
        → ((key_of ps n ≡ Some v → ⊥) → (list_any (has_key v) (filter (is_earlier n) ps) || list_any (has_key v) (filter (is_later n) ps)) ≡ list_any (has_key v) ps)
        → (list_any (has_key v) (cond a (p ∷ filter (is_earlier n) ps) (filter (is_earlier n) ps)) || list_any (has_key v) (cond b (p ∷ filter (is_later n) ps) (filter (is_later n) ps))) ≡ list_any (has_key v) (p ∷ ps)
    by true true c e f g other later = absurd (false≢true (sym (before_not_after p.nexus n e) ∙ f))
    by true false true e f g other later = absurd (false≢true (sym (before_not_same p.nexus n e) ∙ g))
    by true false false e f g other later = or_first (has_key v p) _ _ _ (later other)
    by false true true e f g other later = absurd (false≢true (sym (after_not_same n p.nexus f) ∙ g))
    by false true false e f g other later = or_within (has_key v p) _ _ _ (later other)
    by false false true e f g other later = rw (ne_eqb p.key.0 v (λ same. other (ap Some same))) (later (λ is. none_behind p ps n v up g is))
    by false false false e f g other later = absurd (false≢true (sym f ∙ neither p.nexus n e g))

-- another key than its own is there as before
pub others_in : (ps : List Pair) (n : Nexus) (k v : ℕ) → IsAscending ps → (key_of ps n ≡ Some v → ⊥) → (k ≡ v → ⊥) → list_any (has_key v) (with_pair ps (pair n k)) ≡ list_any (has_key v) ps
others_in ps n k v up was now =
    let joined = list_any-append (has_key v) (filter (is_earlier n) ps) (pair n k ∷ filter (is_later n) ps) in
    let rest : list_any (has_key v) (pair n k ∷ filter (is_later n) ps) ≡ list_any (has_key v) (filter (is_later n) ps) = rw (ne_eqb k v now) refl in
    joined ∙ ap (λ (b : Bool). list_any (has_key v) (filter (is_earlier n) ps) || b) rest ∙ parts_in ps n v up was

-- Where pairs go

-- where all with a key go, nobody has it
pub gone_all : (v : ℕ) (ps : List Pair) → list_any (has_key v) (but_those (has_key v) ps) ≡ false
gone_all v [] = refl
gone_all v (p ∷ ps) = by (has_key v p) refl (gone_all v ps)
  where
    by : (has : Bool) → has_key v p ≡ has → list_any (has_key v) (but_those (has_key v) ps) ≡ false → list_any (has_key v) (cond (not has) (p ∷ but_those (has_key v) ps) (but_those (has_key v) ps)) ≡ false
    by true has later = later
    by false has later = rw has later

-- where all others with a key go, nobody has it, where the nexus itself hasn't got it
gone_unless : (ps : List Pair) (n : Nexus) (v : ℕ) → IsAscending ps → (key_of ps n ≡ Some v → ⊥) → list_any (has_key v) (but_those (λ p. has_key v p && not (is_at n p)) ps) ≡ false
gone_unless [] n v up other = refl
gone_unless (p ∷ ps) n v up other = by (has_key v p) (is_at n p) refl refl other (gone_unless ps n v (tail_up p ps up))
  where
    by : (has at : Bool) → has_key v p ≡ has → is_at n p ≡ at → (cond at (Some p.key.0) (key_of ps n) ≡ Some v → ⊥)
        → ((key_of ps n ≡ Some v → ⊥) → list_any (has_key v) (but_those (λ q. has_key v q && not (is_at n q)) ps) ≡ false)
        → list_any (has_key v) (cond (not (has && not at)) (p ∷ but_those (λ q. has_key v q && not (is_at n q)) ps) (but_those (λ q. has_key v q && not (is_at n q)) ps)) ≡ false
    by true true has at other later = absurd (other (ap Some (eqb-true p.key.0 v has)))
    by true false has at other later = later other
    by false true has at other later = rw has (later (λ is. none_behind p ps n v up at is))
    by false false has at other later = rw has (later other)

-- or has another key
pub gone_others : (ps : List Pair) (n : Nexus) (own v : ℕ) → IsAscending ps → key_of ps n ≡ Some own → (own ≡ v → ⊥) → list_any (has_key v) (but_those (λ p. has_key v p && not (is_at n p)) ps) ≡ false
gone_others ps n own v up is other = gone_unless ps n v up (λ same. other (let one : Some own ≡ Some v = sym is ∙ same in cc))

-- another key than the one that goes stays
pub own_stays : (ps : List Pair) (n : Nexus) (own v : ℕ) → key_of ps n ≡ Some own → (own ≡ v → ⊥) → key_of (but_those (has_key v) ps) n ≡ Some own
own_stays [] n own v is other = is
own_stays (p ∷ ps) n own v is other = by (is_at n p) (has_key v p) refl refl is (λ rest. own_stays ps n own v rest other)
  where
    by : (at has : Bool) → is_at n p ≡ at → has_key v p ≡ has → cond at (Some p.key.0) (key_of ps n) ≡ Some own → (key_of ps n ≡ Some own → key_of (but_those (has_key v) ps) n ≡ Some own)
        → key_of (cond (not has) (p ∷ but_those (has_key v) ps) (but_those (has_key v) ps)) n ≡ Some own
    by true true at has is later = absurd (other (let same : p.key.0 ≡ own = cc in sym same ∙ eqb-true p.key.0 v has))
    by true false at has is later = rw at is
    by false true at has is later = later is
    by false false at has is later = rw at (later is)

-- where only others go, the nexus's own stays
pub own_spared : (ps : List Pair) (n : Nexus) (v : ℕ) → key_of (but_those (λ p. has_key v p && not (is_at n p)) ps) n ≡ key_of ps n
own_spared [] n v = refl
own_spared (p ∷ ps) n v = by (has_key v p) (is_at n p) refl (own_spared ps n v)
  where
    by : (has at : Bool) → is_at n p ≡ at → key_of (but_those (λ q. has_key v q && not (is_at n q)) ps) n ≡ key_of ps n
        → key_of (cond (not (has && not at)) (p ∷ but_those (λ q. has_key v q && not (is_at n q)) ps) (but_those (λ q. has_key v q && not (is_at n q)) ps)) n ≡ cond at (Some p.key.0) (key_of ps n)
    by true true at later = rw at refl
    by true false at later = later
    by false true at later = rw at refl
    by false false at later = rw at later
