-- The registrations after an act are those of before, those of before but some, or those of before with one put in.
use Rattle.std.proofs.Common.{◌≡◌, ℕ, ◌<◌, Bool, true, false, not, ◌&&◌, ◌==◌, nat_lt, List, length, Option, Some, None, ◌⊎◌, inl, inr, if◌then◌else◌, refl}
use Rattle.std.specs.List.{list_any}
use Rattle.std.proofs.lemmas.Bool.{eqb-false, ltb-true}
use Rattle.pr_words.specs.declared.nexus.Nexus.{Nexus}
use Rattle.pr_words.specs.declared.nexus.Pair.{Pair}
use Rattle.pr_words.specs.declared.reservation.Kind.{Kind}
use Rattle.pr_words.specs.declared.reservation.Reservation.TheVariants.{Free}
use Rattle.pr_words.specs.Kinds.{kind_at, kind_code}
use Rattle.pr_words.specs.declared.code.TheConstants.Code.{INSUFFICIENT_REGISTRATION_RESOURCES, INVALID_FIELD_IN_PARAMETER_LIST, INVALID_RELEASE_OF_PERSISTENT_RESERVATION, REGISTRATIONS_PREEMPTED}
use Rattle.pr_grammar.specs.Standings.{Standing, key_of, is_at, is_registered, is_holder, kind_of}
use Rattle.pr_model.specs.Registrants.{with_pair, pair, but_those, has_key}
use Rattle.pr_model.specs.Acts.{ReserveOut, Conflict, acted, leads, stays, key_or_zero, is_own, register, registered, unregistered, holder_left, reserve, reserve_of, reserved, release, release_of, missed, clear, removing, preempt, taking, taken, while_any, is_of_all, holds_with, Bad}

-- a key is put in for a nexus that has one, or where there is room
abbrev pub PutsIn : ℕ → Standing → Nexus → ℕ → Type 0
PutsIn limit s n key = (key ≡ 0 → ⊥) × ((is_registered s.pairs n ≡ true) ⊎ (length s.pairs < limit))

module _ (P : List Pair → Type 0) (limit : ℕ) (s : Standing) (n : Nexus) (same : P s.pairs) (less : (goes : Pair → Bool) → P (but_those goes s.pairs)) where
  register_pairs : (key : ℕ) (aptpl : Bool) → (PutsIn limit s n key → P (with_pair s.pairs (pair n key))) → P (register limit s n key aptpl).standing.pairs
  register_pairs key aptpl put = by (key == 0) (is_registered s.pairs n) (nat_lt (length s.pairs) limit) refl refl refl
    where
      by : (a b c : Bool) → (key == 0) ≡ a → is_registered s.pairs n ≡ b → nat_lt (length s.pairs) limit ≡ c
          → P (if a then (if b then record (leads (unregistered s n aptpl)) { stay_code = holder_left n s.reservation } else leads s) else if not b && not c then stays s (Bad INSUFFICIENT_REGISTRATION_RESOURCES) else leads (registered s n key aptpl)).standing.pairs
      by true true c e f g = less (is_at n)
      by true false c e f g = same
      by false true c e f g = put (eqb-false key 0 e, inl f)
      by false false true e f g = put (eqb-false key 0 e, inr (ltb-true (length s.pairs) limit g))
      by false false false e f g = same

  held_pairs : (b : Bool) → P (if b then leads s else stays s Conflict).standing.pairs
  held_pairs true = same
  held_pairs false = same

  reserved_pairs : (k : Option Kind) → P (reserved s n k).standing.pairs
  reserved_pairs None = same
  reserved_pairs (Some kind) = same

  reserve_pairs : (k : Option Kind) (kind : ℕ) → P (reserve_of k s n kind).standing.pairs
  reserve_pairs None kind = reserved_pairs (kind_at kind)
  reserve_pairs (Some k) kind = held_pairs (is_holder s n && kind_code k == kind)

  release_pairs : (k : Option Kind) (scope kind : ℕ) → P (release_of k s n scope kind).standing.pairs
  release_pairs None scope kind = same
  release_pairs (Some k) scope kind = by (not (is_holder s n)) (scope == 0 && kind_code k == kind)
    where
      by : (a b : Bool) → P (if a then leads s else if b then record (leads (record s { reservation = Free })) { stay_code = missed k } else stays s (Bad INVALID_RELEASE_OF_PERSISTENT_RESERVATION)).standing.pairs
      by true b = same
      by false true = same
      by false false = same

  taken_pairs : (kind : ℕ) (goes : Pair → Bool) (k : Option Kind) → P (taken s n kind goes k).standing.pairs
  taken_pairs kind goes None = same
  taken_pairs kind goes (Some k) = less goes

  preempt_pairs : (scope kind key : ℕ) → P (preempt s n scope kind key).standing.pairs
  preempt_pairs scope kind key = by (key == 0) (is_of_all s.reservation) (holds_with s.reservation s.pairs key) (list_any (has_key key) s.pairs)
    where
      by : (a b c d : Bool) → P (if a then (if b then taking s n scope kind (λ p. not (is_at n p)) else stays s (Bad INVALID_FIELD_IN_PARAMETER_LIST)) else if c then taking s n scope kind (λ p. has_key key p && not (is_at n p)) else
          if d then removing s (has_key key) (while_any (but_those (has_key key) s.pairs) s.reservation) REGISTRATIONS_PREEMPTED None else stays s Conflict).standing.pairs
      by true true c d = taken_pairs kind (λ p. not (is_at n p)) (if scope == 0 then kind_at kind else None)
      by true false c d = same
      by false b true d = taken_pairs kind (λ p. has_key key p && not (is_at n p)) (if scope == 0 then kind_at kind else None)
      by false b false true = less (has_key key)
      by false b false false = same

  pub acted_pairs : (o : ReserveOut) → (PutsIn limit s n o.action_key → P (with_pair s.pairs (pair n o.action_key))) → P (acted limit s n o).standing.pairs
  acted_pairs o put =
      by (o.action == 0) (key_or_zero (key_of s.pairs n) == o.key) (o.action == 6) (is_own (key_of s.pairs n) o.key) (o.action == 1) (o.action == 2) (o.action == 3)
    where
      by : (zero_th named six own one two three : Bool)
          → P (if zero_th then (if named then register limit s n o.action_key o.aptpl else stays s Conflict) else if six then register limit s n o.action_key o.aptpl else if not own then stays s Conflict else
          if one then reserve s n o.kind else if two then release s n o.scope o.kind else if three then clear s else preempt s n o.scope o.kind o.action_key).standing.pairs
      by true true six own one two three = register_pairs o.action_key o.aptpl put
      by true false six own one two three = same
      by false named true own one two three = register_pairs o.action_key o.aptpl put
      by false named false false one two three = same
      by false named false true true two three = reserve_pairs (kind_of s.reservation) o.kind
      by false named false true false true three = release_pairs (kind_of s.reservation) o.scope o.kind
      by false named false true false false true = less (λ _. true)
      by false named false true false false false = preempt_pairs o.scope o.kind o.action_key
