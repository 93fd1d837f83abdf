-- Of each PERSISTENT RESERVE OUT exactly one rule applies, and the function takes it.
use Rattle.std.proofs.Common.{◌≡◌, ℕ, ◌<◌, ◌≤◌, Bool, true, false, not, ◌&&◌, ◌==◌, nat_lt, length, Option, Some, None, unwrap_or, ◌⊎◌, inl, inr, if◌then◌else◌, refl, sym, ap, ◌∙◌, arith}
use Rattle.std.proofs.lemmas.Bool.{eqb-true, eqb-false, false≢true, eq-eqb, ne_eqb, and_parts, ltb-true, ltb-false, lt-ltb, le-ltb}
use Rattle.pr_words.specs.declared.nexus.Nexus.{Nexus}
use Rattle.pr_words.specs.declared.reservation.Kind.{Kind}
use Rattle.pr_words.specs.declared.reservation.Reservation.{Reservation}
use Rattle.pr_words.specs.declared.reservation.Reservation.TheVariants.{Free, OfOne, OfAll}
use Rattle.pr_words.specs.Kinds.{kind_at, kind_code}
use Rattle.pr_words.specs.Orders.{same_nexus}
use Rattle.pr_words.specs.declared.code.TheConstants.Code.{INSUFFICIENT_REGISTRATION_RESOURCES, INVALID_RELEASE_OF_PERSISTENT_RESERVATION}
use Rattle.pr_grammar.specs.Standings.{Standing, is_registered, key_of, kind_of, is_holder, is_holder_in}
use Rattle.pr_model.specs.Acts.{Acted, ReserveOut, Conflict, stays, leads, key_or_zero, is_own, register, registered, unregistered, holder_left, reserve, reserve_of, reserved, release, release_of, held_code, missed, clear, preempt, acted, Bad}
use Rattle.pr_model.specs.Effects.{Rule, Misnamed, Idle, Leaves, Overflows, Registers, Stranger, Reserves, NoSuchKind, HoldsAlready, HeldOtherwise, HoldsNothing, Releases, OtherKind, Clears, Preempts_by, NamesItself, MayRegister, IsRule, effect_of, Acts}
use Rattle.pr_model.proofs.Cases.{own_key, not_own_key, preempts, alone}

-- the rule that applies, by the tests of the function
abbrev pub register_rule : ℕ → Standing → Nexus → ReserveOut → Rule
register_rule limit s n o =
    if o.action_key == 0 then (if is_registered s.pairs n then Leaves else Idle) else
    if not (is_registered s.pairs n) && not (nat_lt (length s.pairs) limit) then Overflows else Registers

abbrev pub free_rule : Option Kind → Rule
free_rule None = NoSuchKind
free_rule (Some kind) = Reserves kind

abbrev pub reserve_rule : Option Kind → Bool → ReserveOut → Rule
reserve_rule None holds o = free_rule (kind_at o.kind)
reserve_rule (Some kind) holds o = if holds && kind_code kind == o.kind then HoldsAlready else HeldOtherwise

abbrev pub release_rule : Option Kind → Bool → ReserveOut → Rule
release_rule None holds o = HoldsNothing
release_rule (Some kind) holds o =
    if not holds then HoldsNothing else
    if o.scope == 0 && kind_code kind == o.kind then Releases kind else OtherKind

abbrev pub rule_of : ℕ → Standing → Nexus → ReserveOut → Rule
rule_of limit s n o =
    if o.action == 0 then (if key_or_zero (key_of s.pairs n) == o.key then register_rule limit s n o else Misnamed) else
    if o.action == 6 then register_rule limit s n o else
    if not (is_own (key_of s.pairs n) o.key) then Stranger else
    if o.action == 1 then reserve_rule (kind_of s.reservation) (is_holder s n) o else
    if o.action == 2 then release_rule (kind_of s.reservation) (is_holder s n) o else
    if o.action == 3 then Clears else Preempts_by (preempts s n o.scope o.kind o.action_key).how

-- what it says is what the function does
register_effect : (limit : ℕ) (s : Standing) (n : Nexus) (o : ReserveOut) → effect_of s n o (register_rule limit s n o) ≡ register limit s n o.action_key o.aptpl
register_effect limit s n o = by (o.action_key == 0) (is_registered s.pairs n) (not (is_registered s.pairs n) && not (nat_lt (length s.pairs) limit))
  where
    by : (a b c : Bool) → effect_of s n o (if a then (if b then Leaves else Idle) else if c then Overflows else Registers)
        ≡ (if a then (if b then record (leads (unregistered s n o.aptpl)) { stay_code = holder_left n s.reservation } else leads s) else if c then stays s (Bad INSUFFICIENT_REGISTRATION_RESOURCES) else leads (registered s n o.action_key o.aptpl))
    by true true c = refl
    by true false c = refl
    by false b true = refl
    by false b false = refl

free_effect : (k : Option Kind) (s : Standing) (n : Nexus) (o : ReserveOut) → effect_of s n o (free_rule k) ≡ reserved s n k
free_effect None s n o = refl
free_effect (Some kind) s n o = refl

held_effect : (b : Bool) (s : Standing) (n : Nexus) (o : ReserveOut) → effect_of s n o (if b then HoldsAlready else HeldOtherwise) ≡ (if b then leads s else stays s Conflict)
held_effect true s n o = refl
held_effect false s n o = refl

reserve_effect : (k : Option Kind) (s : Standing) (n : Nexus) (o : ReserveOut) → effect_of s n o (reserve_rule k (is_holder s n) o) ≡ reserve_of k s n o.kind
reserve_effect None s n o = free_effect (kind_at o.kind) s n o
reserve_effect (Some kind) s n o = held_effect (is_holder s n && kind_code kind == o.kind) s n o

release_effect : (k : Option Kind) (s : Standing) (n : Nexus) (o : ReserveOut) → effect_of s n o (release_rule k (is_holder s n) o) ≡ release_of k s n o.scope o.kind
release_effect None s n o = refl
release_effect (Some kind) s n o = by (is_holder s n) (o.scope == 0 && kind_code kind == o.kind)
  where
    by : (a b : Bool) → effect_of s n o (if not a then HoldsNothing else if b then Releases kind else OtherKind)
        ≡ (if not a then leads s else if b then record (leads (record s { reservation = Free })) { stay_code = missed kind } else stays s (Bad INVALID_RELEASE_OF_PERSISTENT_RESERVATION))
    by true true = refl
    by true false = refl
    by false b = refl

pub rule_effect : (limit : ℕ) (s : Standing) (n : Nexus) (o : ReserveOut) → effect_of s n o (rule_of limit s n o) ≡ acted limit s n o
rule_effect limit s n o = by (o.action == 0) (key_or_zero (key_of s.pairs n) == o.key) (o.action == 6) (is_own (key_of s.pairs n) o.key) (o.action == 1) (o.action == 2) (o.action == 3)
  where
    by : (zero_th named six own one two three : Bool)
        → effect_of s n o (if zero_th then (if named then register_rule limit s n o else Misnamed) else if six then register_rule limit s n o else if not own then Stranger else
        if one then reserve_rule (kind_of s.reservation) (is_holder s n) o else if two then release_rule (kind_of s.reservation) (is_holder s n) o else if three then Clears else Preempts_by (preempts s n o.scope o.kind o.action_key).how)
        ≡ (if zero_th then (if named then register limit s n o.action_key o.aptpl else stays s Conflict) else if six then register limit s n o.action_key o.aptpl else if not own then stays s Conflict else
        if one then reserve s n o.kind else if two then release s n o.scope o.kind else if three then clear s else preempt s n o.scope o.kind o.action_key)
    by true true six own one two three = register_effect limit s n o
    by true false six own one two three = refl
    by false named true own one two three = register_effect limit s n o
    by false named false false one two three = refl
    by false named false true true two three = reserve_effect (kind_of s.reservation) s n o
    by false named false true false true three = release_effect (kind_of s.reservation) s n o
    by false named false true false false true = refl
    by false named false true false false false = sym (preempts s n o.scope o.kind o.action_key).is

-- it applies
register_applies : (limit : ℕ) (s : Standing) (n : Nexus) (o : ReserveOut) → MayRegister s n o → IsRule limit s n o (register_rule limit s n o)
register_applies limit s n o may = by (o.action_key == 0) (is_registered s.pairs n) (nat_lt (length s.pairs) limit) refl refl refl
  where
    by : (a b c : Bool) → (o.action_key == 0) ≡ a → is_registered s.pairs n ≡ b → nat_lt (length s.pairs) limit ≡ c
        → IsRule limit s n o (if a then (if b then Leaves else Idle) else if not b && not c then Overflows else Registers)
    by true true c e f g = (may, eqb-true o.action_key 0 e, f)
    by true false c e f g = (may, eqb-true o.action_key 0 e, f)
    by false true c e f g = (may, eqb-false o.action_key 0 e, inl f)
    by false false true e f g = (may, eqb-false o.action_key 0 e, inr (ltb-true (length s.pairs) limit g))
    by false false false e f g = (may, eqb-false o.action_key 0 e, f, ltb-false (length s.pairs) limit g)

not_both : (a b : Bool) → (a && b) ≡ false → (a ≡ true) × (b ≡ true) → ⊥
not_both a b e h = false≢true (sym e ∙ rw (h.0, h.1) refl)

module _ (limit : ℕ) (s : Standing) (n : Nexus) (o : ReserveOut) (own : NamesItself s n o) where
  named : is_own (key_of s.pairs n) o.key ≡ true
  named = rw own (eq-eqb o.key o.key refl)

  free_applies : (k : Option Kind) → o.action ≡ 1 → s.reservation ≡ Free → kind_at o.kind ≡ k → IsRule limit s n o (free_rule k)
  free_applies None one free e = (own, one, free, e)
  free_applies (Some kind) one free e = (own, one, free, e)

  taken_applies : (kind : Kind) → o.action ≡ 1 → (s.reservation ≡ Free → ⊥) → held_code s.reservation ≡ kind_code kind → IsRule limit s n o (reserve_rule (Some kind) (is_holder s n) o)
  taken_applies kind one some code = by (is_holder s n && kind_code kind == o.kind) refl
    where
      by : (b : Bool) → (is_holder s n && kind_code kind == o.kind) ≡ b → IsRule limit s n o (if b then HoldsAlready else HeldOtherwise)
      by true f =
          let parts = and_parts (is_holder s n) (kind_code kind == o.kind) f in
          (own, one, (parts.0, code ∙ eqb-true (kind_code kind) o.kind parts.1))
      by false f = (own, one, some, λ h. not_both (is_holder s n) (kind_code kind == o.kind) f (h.0, eq-eqb (kind_code kind) o.kind (sym code ∙ h.1)))

  reserve_applies : (r : Reservation) → o.action ≡ 1 → s.reservation ≡ r → IsRule limit s n o (reserve_rule (kind_of r) (is_holder s n) o)
  reserve_applies Free one e = free_applies (kind_at o.kind) one e refl
  reserve_applies (OfOne kind holder) one e = taken_applies kind one (λ free. absurd (grind (arith, e, free))) (ap held_code e)
  reserve_applies (OfAll kind) one e = taken_applies kind one (λ free. absurd (grind (arith, e, free))) (ap held_code e)

  some_applies : (kind : Kind) → o.action ≡ 2 → kind_of s.reservation ≡ Some kind → held_code s.reservation ≡ kind_code kind → IsRule limit s n o (release_rule (Some kind) (is_holder s n) o)
  some_applies kind two e code = by (is_holder s n) (o.scope == 0 && kind_code kind == o.kind) refl refl
    where
      by : (a b : Bool) → is_holder s n ≡ a → (o.scope == 0 && kind_code kind == o.kind) ≡ b → IsRule limit s n o (if not a then HoldsNothing else if b then Releases kind else OtherKind)
      by true true f g =
          let parts = and_parts (o.scope == 0) (kind_code kind == o.kind) g in
          (own, two, eqb-true o.scope 0 parts.0, (f, code ∙ eqb-true (kind_code kind) o.kind parts.1), e)
      by true false f g = (own, two, f, λ h. not_both (o.scope == 0) (kind_code kind == o.kind) g (eq-eqb o.scope 0 h.0, eq-eqb (kind_code kind) o.kind (sym code ∙ h.1)))
      by false b f g = (own, two, f)

  release_applies : (r : Reservation) → o.action ≡ 2 → s.reservation ≡ r → IsRule limit s n o (release_rule (kind_of r) (is_holder s n) o)
  release_applies Free two e = (own, two, ap (λ r. is_holder_in r s.pairs n) e)
  release_applies (OfOne kind holder) two e = some_applies kind two (ap kind_of e) (ap held_code e)
  release_applies (OfAll kind) two e = some_applies kind two (ap kind_of e) (ap held_code e)

four_or_five : (a : ℕ) → a ≤ 6 → (a ≡ 0 → ⊥) → (a ≡ 1 → ⊥) → (a ≡ 2 → ⊥) → (a ≡ 3 → ⊥) → (a ≡ 6 → ⊥) → (a ≡ 4) ⊎ (a ≡ 5)
four_or_five a le zero_th one two three six = by (a == 4) refl
  where
    by : (b : Bool) → (a == 4) ≡ b → (a ≡ 4) ⊎ (a ≡ 5)
    by true e = inl (eqb-true a 4 e)
    by false e = inr (omega (arith, le, zero_th, one, two, three, six, eqb-false a 4 e))

-- of each action from 00h to 06h
rule_applies : (limit : ℕ) (s : Standing) (n : Nexus) (o : ReserveOut) → o.action ≤ 6 → IsRule limit s n o (rule_of limit s n o)
rule_applies limit s n o le =
    by (o.action == 0) (key_or_zero (key_of s.pairs n) == o.key) (o.action == 6) (is_own (key_of s.pairs n) o.key) (o.action == 1) (o.action == 2) (o.action == 3) refl refl refl refl refl refl refl
  where
    by : (zero_th named six own one two three : Bool) → (o.action == 0) ≡ zero_th → (key_or_zero (key_of s.pairs n) == o.key) ≡ named → (o.action == 6) ≡ six → is_own (key_of s.pairs n) o.key ≡ own
        → (o.action == 1) ≡ one → (o.action == 2) ≡ two → (o.action == 3) ≡ three
        → IsRule limit s n o (if zero_th then (if named then register_rule limit s n o else Misnamed) else if six then register_rule limit s n o else if not own then Stranger else
        if one then reserve_rule (kind_of s.reservation) (is_holder s n) o else if two then release_rule (kind_of s.reservation) (is_holder s n) o else if three then Clears else Preempts_by (preempts s n o.scope o.kind o.action_key).how)
    by true true six own one two three a b c d e f g = register_applies limit s n o (inr (eqb-true o.action 0 a, eqb-true (key_or_zero (key_of s.pairs n)) o.key b))
    by true false six own one two three a b c d e f g = (eqb-true o.action 0 a, eqb-false (key_or_zero (key_of s.pairs n)) o.key b)
    by false named true own one two three a b c d e f g = register_applies limit s n o (inl (eqb-true o.action 6 c))
    by false named false false one two three a b c d e f g =
        (omega (arith, eqb-false o.action 0 a), omega (arith, le, eqb-false o.action 6 c), λ own. not_own_key (key_of s.pairs n) o.key d own)
    by false named false true true two three a b c d e f g = reserve_applies limit s n o (own_key (key_of s.pairs n) o.key d) s.reservation (eqb-true o.action 1 e) refl
    by false named false true false true three a b c d e f g = release_applies limit s n o (own_key (key_of s.pairs n) o.key d) s.reservation (eqb-true o.action 2 f) refl
    by false named false true false false true a b c d e f g = (own_key (key_of s.pairs n) o.key d, eqb-true o.action 3 g)
    by false named false true false false false a b c d e f g =
        (own_key (key_of s.pairs n) o.key d, four_or_five o.action le (eqb-false o.action 0 a) (eqb-false o.action 1 e) (eqb-false o.action 2 f) (eqb-false o.action 3 g) (eqb-false o.action 6 c), (preempts s n o.scope o.kind o.action_key).applies)

-- and no other does
module _ (limit : ℕ) (s : Standing) (n : Nexus) (o : ReserveOut) where
  register_only : MayRegister s n o → rule_of limit s n o ≡ register_rule limit s n o
  register_only (inl six) = rw six refl
  register_only (inr named) = rw (named.0, eq-eqb (key_or_zero (key_of s.pairs n)) o.key named.1) refl

  room_only : (is_registered s.pairs n ≡ true) ⊎ (length s.pairs < limit) → (not (is_registered s.pairs n) && not (nat_lt (length s.pairs) limit)) ≡ false
  room_only (inl e) = rw e refl
  room_only (inr lt) = by (is_registered s.pairs n)
    where
      by : (b : Bool) → (not b && not (nat_lt (length s.pairs) limit)) ≡ false
      by true = refl
      by false = ap not (lt-ltb (length s.pairs) limit lt)

  stranger_only : (0 < o.action) → (o.action < 6) → (NamesItself s n o → ⊥) → rule_of limit s n o ≡ Stranger
  stranger_only low high other = by (is_own (key_of s.pairs n) o.key) refl
    where
      by : (b : Bool) → is_own (key_of s.pairs n) o.key ≡ b → rule_of limit s n o ≡ Stranger
      by true e = absurd (other (own_key (key_of s.pairs n) o.key e))
      by false e = rw (ne_eqb o.action 0 (λ z. absurd (omega (arith, low, z))), ne_eqb o.action 6 (λ z. absurd (omega (arith, high, z))), e) refl

  reserve_only : NamesItself s n o → o.action ≡ 1 → rule_of limit s n o ≡ reserve_rule (kind_of s.reservation) (is_holder s n) o
  reserve_only own one = rw (one, named limit s n o own) refl

  release_only : NamesItself s n o → o.action ≡ 2 → rule_of limit s n o ≡ release_rule (kind_of s.reservation) (is_holder s n) o
  release_only own two = rw (two, named limit s n o own) refl

  clear_only : NamesItself s n o → o.action ≡ 3 → rule_of limit s n o ≡ Clears
  clear_only own three = rw (three, named limit s n o own) refl

  preempt_only : NamesItself s n o → (o.action ≡ 4) ⊎ (o.action ≡ 5) → rule_of limit s n o ≡ Preempts_by (preempts s n o.scope o.kind o.action_key).how
  preempt_only own (inl four) = rw (four, named limit s n o own) refl
  preempt_only own (inr five) = rw (five, named limit s n o own) refl

  already_only : (r : Reservation) → is_holder_in r s.pairs n ≡ true → held_code r ≡ o.kind → reserve_rule (kind_of r) true o ≡ HoldsAlready
  already_only Free e f = absurd (false≢true e)
  already_only (OfOne kind holder) e f = rw (eq-eqb (kind_code kind) o.kind f) refl
  already_only (OfAll kind) e f = rw (eq-eqb (kind_code kind) o.kind f) refl

  otherwise : (kind : Kind) (holds : Bool) → ((holds ≡ true) × (kind_code kind ≡ o.kind) → ⊥) → reserve_rule (Some kind) holds o ≡ HeldOtherwise
  otherwise kind holds other = by (holds && kind_code kind == o.kind) refl
    where
      by : (b : Bool) → (holds && kind_code kind == o.kind) ≡ b → (if b then HoldsAlready else HeldOtherwise) ≡ HeldOtherwise
      by true f = let parts = and_parts holds (kind_code kind == o.kind) f in absurd (other (parts.0, eqb-true (kind_code kind) o.kind parts.1))
      by false f = refl

  otherwise_only : (r : Reservation) → (r ≡ Free → ⊥) → ((is_holder_in r s.pairs n ≡ true) × (held_code r ≡ o.kind) → ⊥) → reserve_rule (kind_of r) (is_holder_in r s.pairs n) o ≡ HeldOtherwise
  otherwise_only Free some other = absurd (some refl)
  otherwise_only (OfOne kind holder) some other = otherwise kind (same_nexus holder n) other
  otherwise_only (OfAll kind) some other = otherwise kind (is_registered s.pairs n) other

  nothing_only : (k : Option Kind) → is_holder s n ≡ false → release_rule k (is_holder s n) o ≡ HoldsNothing
  nothing_only None e = refl
  nothing_only (Some kind) e = rw e refl

  code_of : (r : Reservation) (kind : Kind) → kind_of r ≡ Some kind → held_code r ≡ kind_code kind
  code_of Free kind e = absurd (grind (arith, e))
  code_of (OfOne k holder) kind e = ap (λ q. kind_code (unwrap_or q k)) e
  code_of (OfAll k) kind e = ap (λ q. kind_code (unwrap_or q k)) e

  unlike : (kind : Kind) → ((o.scope ≡ 0) × (kind_code kind ≡ o.kind) → ⊥) → release_rule (Some kind) true o ≡ OtherKind
  unlike kind other = by (o.scope == 0 && kind_code kind == o.kind) refl
    where
      by : (b : Bool) → (o.scope == 0 && kind_code kind == o.kind) ≡ b → (if b then Releases kind else OtherKind) ≡ OtherKind
      by true f = let parts = and_parts (o.scope == 0) (kind_code kind == o.kind) f in absurd (other (eqb-true o.scope 0 parts.0, eqb-true (kind_code kind) o.kind parts.1))
      by false f = refl

  other_only : (r : Reservation) → is_holder_in r s.pairs n ≡ true → ((o.scope ≡ 0) × (held_code r ≡ o.kind) → ⊥) → release_rule (kind_of r) true o ≡ OtherKind
  other_only Free e other = absurd (false≢true e)
  other_only (OfOne kind holder) e other = unlike kind other
  other_only (OfAll kind) e other = unlike kind other

  pub only : (r : Rule) → IsRule limit s n o r → rule_of limit s n o ≡ r
  only Misnamed p = rw (p.0, ne_eqb (key_or_zero (key_of s.pairs n)) o.key p.1) refl
  only Idle p = register_only p.0 ∙ rw (p.1, p.2) refl
  only Leaves p = register_only p.0 ∙ rw (p.1, p.2) refl
  only Overflows p = register_only p.0 ∙ rw (ne_eqb o.action_key 0 p.1, p.2, le-ltb (length s.pairs) limit p.3) refl
  only Registers p = register_only p.0 ∙ rw (ne_eqb o.action_key 0 p.1, room_only p.2) refl
  only Stranger p = stranger_only p.0 p.1 p.2
  only (Reserves kind) p = reserve_only p.0 p.1 ∙ rw (p.2, p.3) refl
  only NoSuchKind p = reserve_only p.0 p.1 ∙ rw (p.2, p.3) refl
  only HoldsAlready p = reserve_only p.0 p.1 ∙ rw p.2.0 (already_only s.reservation p.2.0 p.2.1)
  only HeldOtherwise p = reserve_only p.0 p.1 ∙ otherwise_only s.reservation p.2 p.3
  only HoldsNothing p = release_only p.0 p.1 ∙ nothing_only (kind_of s.reservation) p.2
  only (Releases kind) p = release_only p.0 p.1 ∙ rw (p.4, p.3.0, eq-eqb o.scope 0 p.2, eq-eqb (kind_code kind) o.kind (sym (code_of s.reservation kind p.4) ∙ p.3.1)) refl
  only OtherKind p = release_only p.0 p.1 ∙ rw p.2 (other_only s.reservation p.2 p.3)
  only Clears p = clear_only p.0 p.1
  only (Preempts_by how) p =
      let here = preempts s n o.scope o.kind o.action_key in
      preempt_only p.0 p.1 ∙ ap (λ c. Preempts_by c) (alone s o.action_key here.how how here.applies p.2)

-- no two rules apply
pub one_rule : (limit : ℕ) (s : Standing) (n : Nexus) (o : ReserveOut) (r t : Rule) → IsRule limit s n o r → IsRule limit s n o t → r ≡ t
one_rule limit s n o r t p q = sym (only limit s n o r p) ∙ only limit s n o t q

-- one does, and the function is its effect
pub acts : (limit : ℕ) (s : Standing) (n : Nexus) (o : ReserveOut) → o.action ≤ 6 → Acts limit s n o (acted limit s n o)
acts limit s n o le = record { rule = rule_of limit s n o; applies = rule_applies limit s n o le; is = sym (rule_effect limit s n o) }

-- so the relation has one answer
pub one_act : (limit : ℕ) (s : Standing) (n : Nexus) (o : ReserveOut) (a : Acted) → Acts limit s n o a → a ≡ acted limit s n o
one_act limit s n o a p = p.is ∙ ap (λ r. effect_of s n o r) (sym (only limit s n o p.rule p.applies)) ∙ rule_effect limit s n o
