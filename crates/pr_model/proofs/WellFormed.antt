-- An act keeps registrants well formed.
use Rattle.std.proofs.Common.{◌≡◌, ℕ, ◌+◌, ◌<◌, ◌≤◌, Bool, true, false, cond, not, ◌||◌, ◌==◌, List, [], ◌∷◌, length, ◌⊎◌, inl, inr, if◌then◌else◌, refl, sym, ap, ◌∙◌, subst, arith, IsTrue, All}
use Rattle.std.specs.List.{filter}
use Rattle.std.proofs.lemmas.Bool.{false≢true, ne_eqb}
use Rattle.std.proofs.lemmas.List.{length-append}
use Rattle.std.proofs.lemmas.List.Elements.{All-head, All-tail, All-cons, All-append}
use Rattle.pr_words.specs.declared.nexus.Nexus.{Nexus}
use Rattle.pr_words.specs.declared.nexus.Pair.{Pair}
use Rattle.pr_grammar.specs.Standings.{Standing, is_at, is_registered}
use Rattle.pr_model.specs.Registrants.{with_pair, pair, but_those, is_earlier, is_later, IsAscending, IsWellFormed}
use Rattle.pr_model.specs.Acts.{ReserveOut, acted}
use Rattle.pr_model.proofs.Orders.{before_not_after, before_not_same, after_not_same}
use Rattle.pr_model.proofs.Ascending.{with_up, but_up}
use Rattle.pr_model.proofs.Holders.{acted_sound}
use Rattle.pr_model.proofs.Changes.{shorter}
use Rattle.pr_model.proofs.Outcomes.{PutsIn, acted_pairs}

-- a nexus's own pair is neither before nor behind it
parts_long : (ps : List Pair) (n : Nexus) → length (filter (is_earlier n) ps) + length (filter (is_later n) ps) + (if is_registered ps n then 1 else 0) ≤ length ps
parts_long [] n = omega arith
parts_long (p ∷ ps) n = by (is_earlier n p) (is_later n p) (is_at n p) (is_registered ps n) refl refl refl (parts_long ps n)
  where
    by : (a b c d : Bool) → is_earlier n p ≡ a → is_later n p ≡ b → is_at n p ≡ c
        → length (filter (is_earlier n) ps) + length (filter (is_later n) ps) + (if d then 1 else 0) ≤ length ps
        → length (cond a (p ∷ filter (is_earlier n) ps) (filter (is_earlier n) ps)) + length (cond b (p ∷ filter (is_later n) ps) (filter (is_later n) ps)) + (if c || d then 1 else 0) ≤ length (p ∷ ps)
    by true true c d e f g le = absurd (false≢true (sym (before_not_after p.nexus n e) ∙ f))
    by true false true d e f g le = absurd (false≢true (sym (before_not_same p.nexus n e) ∙ g))
    by true false false d e f g le = omega (arith, le)
    by false true true d e f g le = absurd (false≢true (sym (after_not_same n p.nexus f) ∙ g))
    by false true false d e f g le = omega (arith, le)
    by false false true true e f g le = omega (arith, le)
    by false false true false e f g le = omega (arith, le)
    by false false false d e f g le = omega (arith, le)

put_within : (limit : ℕ) (ps : List Pair) (n : Nexus) (key : ℕ) → length ps ≤ limit → (is_registered ps n ≡ true) ⊎ (length ps < limit) → length (with_pair ps (pair n key)) ≤ limit
put_within limit ps n key le (inl e) =
    let parts = subst (λ b. length (filter (is_earlier n) ps) + length (filter (is_later n) ps) + (if b then 1 else 0) ≤ length ps) e (parts_long ps n) in
    omega (arith, le, parts, length-append (filter (is_earlier n) ps) (pair n key ∷ filter (is_later n) ps))
put_within limit ps n key le (inr lt) = by (is_registered ps n) (parts_long ps n)
  where
    by : (b : Bool) → length (filter (is_earlier n) ps) + length (filter (is_later n) ps) + (if b then 1 else 0) ≤ length ps → length (with_pair ps (pair n key)) ≤ limit
    by true parts = omega (arith, lt, parts, length-append (filter (is_earlier n) ps) (pair n key ∷ filter (is_later n) ps))
    by false parts = omega (arith, lt, parts, length-append (filter (is_earlier n) ps) (pair n key ∷ filter (is_later n) ps))

all_filter : (P : Pair → Type 0) (keeps : Pair → Bool) (ps : List Pair) → All P ps → All P (filter keeps ps)
all_filter P keeps [] all = all
all_filter P keeps (p ∷ ps) all = by (keeps p) (all_filter P keeps ps (All-tail P p ps all))
  where
    by : (b : Bool) → All P (filter keeps ps) → All P (cond b (p ∷ filter keeps ps) (filter keeps ps))
    by true rest = All-cons P p (filter keeps ps) (All-head P p ps all) rest
    by false rest = rest

abbrev HasKey : Pair → Type 0
HasKey p = IsTrue (not (p.key.0 == 0))

-- of pairs: all that a well-formed standing asks but the holder's registration
record AreKept (limit : ℕ) (ps : List Pair) : Type 0 where
  within : length ps ≤ limit
  ascending : IsAscending ps
  keys : All HasKey ps

less_kept : (limit : ℕ) (ps : List Pair) (goes : Pair → Bool) → AreKept limit ps → AreKept limit (but_those goes ps)
less_kept limit ps goes kept =
    record {
      within = omega (arith, shorter goes ps, kept.within);
      ascending = but_up ps goes kept.ascending;
      keys = all_filter HasKey (λ p. not (goes p)) ps kept.keys;
    }

put_kept : (limit : ℕ) (s : Standing) (n : Nexus) (key : ℕ) → AreKept limit s.pairs → PutsIn limit s n key → AreKept limit (with_pair s.pairs (pair n key))
put_kept limit s n key kept puts =
    record {
      within = put_within limit s.pairs n key kept.within puts.1;
      ascending = with_up s.pairs (pair n key) kept.ascending;
      keys =
          All-append HasKey (filter (is_earlier n) s.pairs) (pair n key ∷ filter (is_later n) s.pairs) (all_filter HasKey (is_earlier n) s.pairs kept.keys)
          (All-cons HasKey (pair n key) (filter (is_later n) s.pairs) (ap not (ne_eqb key 0 puts.0)) (all_filter HasKey (is_later n) s.pairs kept.keys));
    }

pub well_formed : (limit : ℕ) (s : Standing) (n : Nexus) (o : ReserveOut) → IsWellFormed limit s → IsWellFormed limit (acted limit s n o).standing
well_formed limit s n o well =
    let kept : AreKept limit s.pairs = record { within = well.within; ascending = well.ascending; keys = well.keys } in
    let now = acted_pairs (AreKept limit) limit s n kept (λ goes. less_kept limit s.pairs goes kept) o (put_kept limit s n o.action_key kept) in
    record { within = now.within; ascending = now.ascending; keys = now.keys; sound = acted_sound limit s n o well.sound }
