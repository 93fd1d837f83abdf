-- Every holder stays registered.
use Rattle.std.proofs.Common.{◌≡◌, ℕ, ◌<◌, Bool, true, false, cond, not, ◌&&◌, ◌||◌, ◌==◌, nat_lt, List, [], ◌∷◌, length, Option, Some, None, if◌then◌else◌, refl, sym, ap, ◌∙◌, arith}
use Rattle.std.specs.List.{list_any, filter}
use Rattle.std.proofs.lemmas.Bool.{false≢true, or_left, or_right, and_right, eqb-false}
use Rattle.std.proofs.lemmas.List.{length-append}
use Rattle.std.proofs.lemmas.List.Folds.{list_any-append}
use Rattle.std.proofs.lemmas.Grind.{common_steps}
use Rattle.pr_words.specs.declared.nexus.Nexus.{Nexus}
use Rattle.pr_words.specs.declared.nexus.Pair.{Pair}
use Rattle.pr_words.specs.declared.reservation.Kind.{Kind}
use Rattle.pr_words.specs.declared.reservation.Reservation.{Reservation}
use Rattle.pr_words.specs.declared.reservation.Reservation.TheVariants.{Free, OfOne, OfAll}
use Rattle.pr_words.specs.Kinds.{kind_at, kind_code}
use Rattle.pr_words.specs.Orders.{same_nexus, comes_before}
use Rattle.pr_words.specs.declared.code.TheConstants.Code.{INSUFFICIENT_REGISTRATION_RESOURCES, INVALID_FIELD_IN_PARAMETER_LIST, INVALID_RELEASE_OF_PERSISTENT_RESERVATION, REGISTRATIONS_PREEMPTED}
use Rattle.pr_grammar.specs.Standings.{Standing, is_at, is_registered, key_of, is_holder, kind_of}
use Rattle.pr_model.specs.Registrants.{IsSound, IsHeldIn, pair, has_key, is_earlier, is_later, with_pair, but_those, held, is_all}
use Rattle.pr_model.specs.Acts.{Conflict, missed, reserved, reserve_of, release_of, taken, ReserveOut, acted, register, registered, unregistered, without_holder, reserve, release, clear, preempt, taking, removing, while_any, is_own, holds_with, key_or_zero, is_of_all, leads, stays, holder_left, Bad}
use Rattle.pr_model.proofs.Orders.{same_is, neither}

-- a list with an element that passes isn't empty
some_long : {X : Type 0} (p : X → Bool) (xs : List X) → list_any p xs ≡ true → 0 < length xs
some_long p [] e = absurd (false≢true e)
some_long p (x ∷ xs) e = omega arith

-- what passes a test and doesn't go stays
any_kept : {X : Type 0} (p keeps : X → Bool) → ((x : X) → p x ≡ true → keeps x ≡ true) → (xs : List X) → list_any p xs ≡ true → list_any p (filter keeps xs) ≡ true
any_kept p keeps k [] e = e
any_kept p keeps k (x ∷ xs) e = by (p x) (keeps x) refl refl e (any_kept p keeps k xs)
  where
    by : (a b : Bool) → p x ≡ a → keeps x ≡ b → (a || list_any p xs) ≡ true → (list_any p xs ≡ true → list_any p (filter keeps xs) ≡ true) → list_any p (cond b (x ∷ filter keeps xs) (filter keeps xs)) ≡ true
    by true true a b e ih = or_left (p x) (list_any p (filter keeps xs)) a
    by true false a b e ih = absurd (false≢true (sym b ∙ k x a))
    by false true a b e ih = or_right (p x) (list_any p (filter keeps xs)) (ih e)
    by false false a b e ih = ih e

-- with another key than the one that goes, its pair stays
key_kept : (ps : List Pair) (n : Nexus) (k : ℕ) → is_registered ps n ≡ true → is_own (key_of ps n) k ≡ false → is_registered (but_those (has_key k) ps) n ≡ true
key_kept [] n k e f = e
key_kept (p ∷ ps) n k e f = by (is_at n p) (has_key k p) refl refl e f (key_kept ps n k)
  where
    by : (a b : Bool) → is_at n p ≡ a → has_key k p ≡ b → (a || is_registered ps n) ≡ true → is_own (cond a (Some p.key.0) (key_of ps n)) k ≡ false
        → (is_registered ps n ≡ true → is_own (key_of ps n) k ≡ false → is_registered (but_those (has_key k) ps) n ≡ true) → is_registered (cond (not b) (p ∷ but_those (has_key k) ps) (but_those (has_key k) ps)) n ≡ true
    by true true a b e f ih = absurd (false≢true (sym f ∙ b))
    by true false a b e f ih = or_left (is_at n p) (is_registered (but_those (has_key k) ps) n) a
    by false true a b e f ih = ih e f
    by false false a b e f ih = or_right (is_at n p) (is_registered (but_those (has_key k) ps) n) (ih e f)

-- a nexus with a key is registered
pub own_registered : (ps : List Pair) (n : Nexus) (k : ℕ) → is_own (key_of ps n) k ≡ true → is_registered ps n ≡ true
own_registered [] n k e = e
own_registered (p ∷ ps) n k e = by (is_at n p) refl e (own_registered ps n k)
  where
    by : (a : Bool) → is_at n p ≡ a → is_own (cond a (Some p.key.0) (key_of ps n)) k ≡ true → (is_own (key_of ps n) k ≡ true → is_registered ps n ≡ true) → (is_at n p || is_registered ps n) ≡ true
    by true a e ih = or_left (is_at n p) (is_registered ps n) a
    by false a e ih = or_right (is_at n p) (is_registered ps n) (ih e)

-- the one that is put in is registered, and whoever was stays so
put_long : (ps : List Pair) (q : Pair) → 0 < length (with_pair ps q)
put_long ps q = omega (arith, length-append (filter (is_earlier q.nexus) ps) (q ∷ filter (is_later q.nexus) ps))

put_registered : (ps : List Pair) (q : Pair) (n : Nexus) → is_registered ps n ≡ true → is_registered (with_pair ps q) n ≡ true
put_registered ps q n e = list_any-append (is_at n) (filter (is_earlier q.nexus) ps) (q ∷ filter (is_later q.nexus) ps) ∙ by (is_at n q) (comes_before n q.nexus) refl refl
  where
    at_n : (p : Pair) → is_at n p ≡ true → p.nexus ≡ n
    at_n p a = same_is p.nexus n a

    by : (a b : Bool) → is_at n q ≡ a → comes_before n q.nexus ≡ b → (list_any (is_at n) (filter (is_earlier q.nexus) ps) || (is_at n q || list_any (is_at n) (filter (is_later q.nexus) ps))) ≡ true
    by true b a c = or_right _ _ (or_left _ _ a)
    by false true a b = or_left _ _ (any_kept (is_at n) (is_earlier q.nexus) (λ p h. ap (λ m. comes_before m q.nexus) (at_n p h) ∙ b) ps e)
    by false false a b =
        let other : same_nexus n q.nexus ≡ false = grind (arith, common_steps) in
        or_right _ _ (or_right _ _ (any_kept (is_at n) (is_later q.nexus) (λ p h. ap (λ m. comes_before q.nexus m) (at_n p h) ∙ neither n q.nexus b other) ps e))

register_sound : (limit : ℕ) (s : Standing) (n : Nexus) (key : ℕ) (aptpl : Bool) → IsSound s → IsSound (register limit s n key aptpl).standing
register_sound limit s n key aptpl sound = by (key == 0) (is_registered s.pairs n) (not (is_registered s.pairs n) && not (nat_lt (length s.pairs) limit))
  where
    gone : (r : Reservation) → IsHeldIn r s.pairs → IsHeldIn (without_holder n (but_those (is_at n) s.pairs) r) (but_those (is_at n) s.pairs)
    gone Free h = tt
    gone (OfOne kind holder) h = same (same_nexus holder n) refl
      where
        same : (b : Bool) → same_nexus holder n ≡ b → IsHeldIn (cond b Free (OfOne kind holder)) (but_those (is_at n) s.pairs)
        same true e = tt
        same false e = (h.0, any_kept (is_at holder) (λ p. not (is_at n p)) (λ p a. ap (λ m. not (same_nexus m n)) (same_is p.nexus holder a) ∙ ap not e) s.pairs h.1)
    gone (OfAll kind) h = left (length (but_those (is_at n) s.pairs) == 0) refl
      where
        left : (b : Bool) → (length (but_those (is_at n) s.pairs) == 0) ≡ b → IsHeldIn (cond b Free (OfAll kind)) (but_those (is_at n) s.pairs)
        left true e = tt
        left false e = (h.0, omega (arith, eqb-false (length (but_those (is_at n) s.pairs)) 0 e))

    put : (r : Reservation) → IsHeldIn r s.pairs → IsHeldIn r (with_pair s.pairs (pair n key))
    put Free h = tt
    put (OfOne kind holder) h = (h.0, put_registered s.pairs (pair n key) holder h.1)
    put (OfAll kind) h = (h.0, put_long s.pairs (pair n key))

    by : (a b c : Bool) → IsSound (cond a (cond b (record (leads (unregistered s n aptpl)) { stay_code = holder_left n s.reservation }) (leads s)) (cond c (stays s (Bad INSUFFICIENT_REGISTRATION_RESOURCES)) (leads (registered s n key aptpl)))).standing
    by true true c = gone s.reservation sound
    by true false c = sound
    by false b true = sound
    by false b false = put s.reservation sound

held_sound : (kind : Kind) (n : Nexus) (ps : List Pair) → is_registered ps n ≡ true → IsHeldIn (held kind n) ps
held_sound kind n ps e = by (is_all kind) refl
  where
    by : (b : Bool) → is_all kind ≡ b → IsHeldIn (cond b (OfAll kind) (OfOne kind n)) ps
    by true k = (k, some_long (is_at n) ps e)
    by false k = (k, e)

reserved_sound : (s : Standing) (n : Nexus) (o : Option Kind) → IsSound s → is_registered s.pairs n ≡ true → IsSound (reserved s n o).standing
reserved_sound s n None sound e = sound
reserved_sound s n (Some k) sound e = held_sound k n s.pairs e

stays_either : (b : Bool) (s : Standing) → IsSound s → IsSound (cond b (leads s) (stays s Conflict)).standing
stays_either true s sound = sound
stays_either false s sound = sound

reserve_sound : (o : Option Kind) (s : Standing) (n : Nexus) (kind : ℕ) → IsSound s → is_registered s.pairs n ≡ true → IsSound (reserve_of o s n kind).standing
reserve_sound None s n kind sound e = reserved_sound s n (kind_at kind) sound e
reserve_sound (Some k) s n kind sound e = stays_either (is_holder s n && kind_code k == kind) s sound

release_sound : (o : Option Kind) (s : Standing) (n : Nexus) (scope kind : ℕ) → IsSound s → IsSound (release_of o s n scope kind).standing
release_sound None s n scope kind sound = sound
release_sound (Some k) s n scope kind sound = by (not (is_holder s n)) (scope == 0 && kind_code k == kind)
  where
    by : (a b : Bool) → IsSound (cond a (leads s) (cond b (record (leads (record s { reservation = Free })) { stay_code = missed k }) (stays s (Bad INVALID_RELEASE_OF_PERSISTENT_RESERVATION)))).standing
    by true b = sound
    by false true = tt
    by false false = sound

taken_sound : (s : Standing) (n : Nexus) (kind : ℕ) (goes : Pair → Bool) (o : Option Kind) → IsSound s → is_registered s.pairs n ≡ true → ((p : Pair) → is_at n p ≡ true → goes p ≡ false) → IsSound (taken s n kind goes o).standing
taken_sound s n kind goes None sound e stay = sound
taken_sound s n kind goes (Some k) sound e stay = held_sound k n (but_those goes s.pairs) (any_kept (is_at n) (λ p. not (goes p)) (λ p a. ap not (stay p a)) s.pairs e)

-- KeyRemoved: the reservation stays, where anyone is left
left_sound : (r : Reservation) (ps : List Pair) (k : ℕ) → IsHeldIn r ps → holds_with r ps k ≡ false → IsHeldIn (while_any (but_those (has_key k) ps) r) (but_those (has_key k) ps)
left_sound Free ps k h e = tt
left_sound (OfOne kind holder) ps k h e = (h.0, key_kept ps holder k h.1 e)
left_sound (OfAll kind) ps k h e = by (length (but_those (has_key k) ps) == 0) refl
  where
    by : (b : Bool) → (length (but_those (has_key k) ps) == 0) ≡ b → IsHeldIn (cond b Free (OfAll kind)) (but_those (has_key k) ps)
    by true z = tt
    by false z = (h.0, omega (arith, eqb-false (length (but_those (has_key k) ps)) 0 z))

preempt_sound : (s : Standing) (n : Nexus) (scope kind key : ℕ) → IsSound s → is_registered s.pairs n ≡ true → IsSound (preempt s n scope kind key).standing
preempt_sound s n scope kind key sound e = by (key == 0) (is_of_all s.reservation) (holds_with s.reservation s.pairs key) (list_any (has_key key) s.pairs) refl
  where
    by : (a b c d : Bool) → holds_with s.reservation s.pairs key ≡ c
        → IsSound (cond a (cond b (taking s n scope kind (λ p. not (is_at n p))) (stays s (Bad INVALID_FIELD_IN_PARAMETER_LIST))) (cond c (taking s n scope kind (λ p. has_key key p && not (is_at n p)))
        (cond d (removing s (has_key key) (while_any (but_those (has_key key) s.pairs) s.reservation) REGISTRATIONS_PREEMPTED None) (stays s Conflict)))).standing
    by true true c d h = taken_sound s n kind (λ p. not (is_at n p)) (if scope == 0 then kind_at kind else None) sound e (λ p a. ap not a)
    by true false c d h = sound
    by false b true d h = taken_sound s n kind (λ p. has_key key p && not (is_at n p)) (if scope == 0 then kind_at kind else None) sound e (λ p a. and_right (has_key key p) (not (is_at n p)) (ap not a))
    by false b false true h = left_sound s.reservation s.pairs key sound h
    by false b false false h = sound

pub acted_sound : (limit : ℕ) (s : Standing) (n : Nexus) (o : ReserveOut) → IsSound s → IsSound (acted limit s n o).standing
acted_sound limit s n o sound =
    by (o.action == 0) (key_or_zero (key_of s.pairs n) == o.key) (o.action == 6) (is_own (key_of s.pairs n) o.key) (o.action == 1) (o.action == 2) (o.action == 3) refl
  where
    by : (zero_th own six theirs one two three : Bool) → is_own (key_of s.pairs n) o.key ≡ theirs
        → IsSound (cond zero_th (cond own (register limit s n o.action_key o.aptpl) (stays s Conflict)) (cond six (register limit s n o.action_key o.aptpl) (cond (not theirs) (stays s Conflict)
        (cond one (reserve s n o.kind) (cond two (release s n o.scope o.kind) (cond three (clear s) (preempt s n o.scope o.kind o.action_key))))))).standing
    by true true six theirs one two three h = register_sound limit s n o.action_key o.aptpl sound
    by true false six theirs one two three h = sound
    by false own true theirs one two three h = register_sound limit s n o.action_key o.aptpl sound
    by false own false false one two three h = sound
    by false own false true true two three h = reserve_sound (kind_of s.reservation) s n o.kind sound (own_registered s.pairs n o.key h)
    by false own false true false true three h = release_sound (kind_of s.reservation) s n o.scope o.kind sound
    by false own false true false false true h = tt
    by false own false true false false false h = preempt_sound s n o.scope o.kind o.action_key sound (own_registered s.pairs n o.key h)
