-- What is read from a slot may be kept.
use Rattle.std.proofs.Common.{◌≡◌, ℕ, zero, suc, ◌+◌, ◌<◌, ◌≤◌, ◌==◌, nat_lt, ◌&&◌, ◌||◌, Bool, true, false, not, IsTrue, All, if◌then◌else◌, List, [], ◌∷◌, length, drop, get_or, slice_index, Option, Some, None, refl, sym, ◌∙◌, ap, subst, arith}
use Rattle.std.proofs.lemmas.Bool.{ne_eqb, not-true, not_from_false, and_parts, ltb-true, ltb-false, or_left, or_right}
use Rattle.std.proofs.lemmas.List.Elements.{All-cons}
use Rattle.std.proofs.lemmas.List.Kept.{AllPairs-cons}
use Rattle.pr_words.specs.Fields.{number16_at}
use Rattle.pr_words.specs.Kinds.{kind_at}
use Rattle.pr_words.specs.Orders.{comes_before, same_nexus}
use Rattle.pr_words.specs.declared.nexus.Nexus.{Nexus}
use Rattle.pr_words.specs.declared.nexus.Pair.{Pair}
use Rattle.pr_words.specs.declared.reservation.Kind.{Kind}
use Rattle.pr_words.specs.declared.reservation.Reservation.TheVariants.{OfOne, OfAll}
use Rattle.pr_words.specs.declared.limits.TheConstants.{LIMIT}
use Rattle.pr_grammar.specs.Standings.{Kept, Nothing, Some_kept, IsAscending, is_all, is_port, is_registered}
use Rattle.pr_grammar.specs.Files.{Listed, Good, Wrong, put_first, first_pair, is_after, checked, listed, Slot, Closed, Open, Broken, nexus_at, reservation_at, is_type, is_count, is_holder_place, field_fault, filled, unless_broken, opened, slot}
use Rattle.pr_model.specs.Registrants.{IsHeldIn}
use Rattle.pr_model.proofs.Orders.{before_through}
use Rattle.pr_aptpl.specs.Doubts.{HavePorts, IsKeepable}
use Rattle.pr_aptpl.specs.Views.{IsSound}

-- each with a port and a key, behind the one before
abbrev AreGood : Option Nexus → List Pair → Type 0
AreGood before [] = Unit {0}
AreGood before (p ∷ ps) = (is_port p.nexus.port ≡ true) × ((p.key.0 == 0) ≡ false) × (is_after before p.nexus ≡ true) × AreGood (Some p.nexus) ps

checked_parts : (before : Option Nexus) (at : ℕ) (p : Pair) (rest : Listed) (ps : List Pair) → checked before at p rest ≡ Good ps
    → (qs : List Pair) × (rest ≡ Good qs) × (ps ≡ p ∷ qs) × (is_port p.nexus.port ≡ true) × ((p.key.0 == 0) ≡ false) × (is_after before p.nexus ≡ true)
checked_parts before at p rest ps is = by (is_port p.nexus.port) (p.key.0 == 0) (is_after before p.nexus) rest is
  where
    by : (a b c : Bool) (r : Listed) → (if not a then Wrong (at + 8) else if b then Wrong (at + 10) else if not c then Wrong at else put_first p r) ≡ Good ps
        → (qs : List Pair) × (r ≡ Good qs) × (ps ≡ p ∷ qs) × (a ≡ true) × (b ≡ false) × (c ≡ true)
    by false b c r e = cc
    by true true c r e = cc
    by true false false r e = cc
    by true false true (Wrong place) e = cc
    by true false true (Good qs) e = (qs, refl, cc, refl, refl, refl)

listed_good : (n : ℕ) (before : Option Nexus) (at : ℕ) (bytes : List ℕ) (ps : List Pair) → listed n before at bytes ≡ Good ps → (length ps ≡ n) × AreGood before ps
listed_good zero before at bytes [] is = (refl, tt)
listed_good zero before at bytes (p ∷ ps) is = cc
listed_good (suc n) before at bytes ps is =
    let parts = checked_parts before at (first_pair bytes) (listed n (Some (first_pair bytes).nexus) (at + 18) (drop 18 bytes)) ps is in
    let rest = listed_good n (Some (first_pair bytes).nexus) (at + 18) (drop 18 bytes) parts.0 parts.1 in
    subst (λ (l : List Pair). (length l ≡ suc n) × AreGood before l) (sym parts.2) (ap suc rest.0, (parts.3, parts.4, parts.5, rest.1))

good_ports : (before : Option Nexus) (ps : List Pair) → AreGood before ps → HavePorts ps
good_ports before [] good = λ k d lt. absurd (omega arith)
good_ports before (p ∷ ps) good = All-cons (λ (q : Pair). IsTrue (is_port q.nexus.port)) p ps good.0 (good_ports (Some p.nexus) ps good.3)

good_keys : (before : Option Nexus) (ps : List Pair) → AreGood before ps → All (λ p. IsTrue (not (p.key.0 == 0))) ps
good_keys before [] good = λ k d lt. absurd (omega arith)
good_keys before (p ∷ ps) good = All-cons (λ (q : Pair). IsTrue (not (q.key.0 == 0))) p ps (not_from_false (p.key.0 == 0) good.1) (good_keys (Some p.nexus) ps good.3)

good_after : (n : Nexus) (ps : List Pair) → AreGood (Some n) ps → All (λ p. IsTrue (comes_before n p.nexus)) ps
good_after n [] good = λ k d lt. absurd (omega arith)
good_after n (p ∷ ps) good = All-cons (λ (q : Pair). IsTrue (comes_before n q.nexus)) p ps good.2 (λ k d lt. before_through n p.nexus (get_or ps k d).nexus good.2 (good_after p.nexus ps good.3 k d lt))

good_ascending : (before : Option Nexus) (ps : List Pair) → AreGood before ps → IsAscending ps
good_ascending before [] good = λ i j d lt long. absurd (omega arith)
good_ascending before (p ∷ ps) good = AllPairs-cons (λ (a b : Pair). IsTrue (comes_before a.nexus b.nexus)) p ps (good_after p.nexus ps good.3) (good_ascending (Some p.nexus) ps good.3)

-- who stands in a place is registered
registered_at : (ps : List Pair) (i : ℕ) → i < length ps → is_registered ps (nexus_at ps i) ≡ true
registered_at [] i lt = absurd (omega arith)
registered_at (p ∷ ps) zero lt = or_left _ _ (itself p.nexus)
  where
    itself : (n : Nexus) → same_nexus n n ≡ true
    itself n = search arith
registered_at (p ∷ ps) (suc i) lt = or_right _ _ (registered_at ps i (omega arith))

-- the holder of what is read is registered
held_in : (kind n holder : ℕ) (o : Option Kind) (ps : List Pair) → kind_at kind ≡ o → length ps ≡ n → (kind == 0 || nat_lt 0 n) ≡ true → is_holder_place o n holder ≡ true → IsHeldIn (reservation_at o holder ps) ps
held_in kind n holder None ps is long some place = tt
held_in kind n holder (Some k) ps is long some place = by (is_all k) refl place
  where
    not_none : (m : ℕ) → kind_at m ≡ Some k → (m == 0) ≡ false
    not_none zero e = cc
    not_none (suc m) e = ne_eqb (suc m) 0 (λ z. omega (arith, z))

    by : (b : Bool) → is_all k ≡ b → (if b then holder == 0xFFFF else nat_lt holder n) ≡ true → IsHeldIn (if b then OfAll k else OfOne k (nexus_at ps holder)) ps
    by true all_ held = (all_, let more : nat_lt 0 n ≡ true = ap (λ (x : Bool). x || nat_lt 0 n) (sym (not_none kind is)) ∙ some in let pos : 0 < n = ltb-true 0 n more in omega (arith, long, pos))
    by false one held = (one, let low : holder < n = ltb-true holder n held in registered_at ps holder (omega (arith, long, low)))

-- each test of the fields is passed
passed : (limit turn kept kind n holder at : ℕ) (s : Slot) (t : ℕ) (k : Kept) → unless_broken (field_fault limit turn kept kind n holder) at s ≡ Open t k
    → (is_count limit (kept == 1) kind n ≡ true) × (is_holder_place (kind_at kind) n holder ≡ true) × (s ≡ Open t k)
passed limit turn kept kind n holder at s t k is =
    by (nat_lt 2 turn) (nat_lt 1 kept) (is_type kind && (kept == 1 || kind == 0)) (is_count limit (kept == 1) kind n) (is_holder_place (kind_at kind) n holder) is
  where
    by : (a b c d e : Bool) → unless_broken (if a then Some 1 else if b then Some 2 else if not c then Some 3 else if not d then Some 4 else if not e then Some 6 else None) at s ≡ Open t k
        → (d ≡ true) × (e ≡ true) × (s ≡ Open t k)
    by true b c d e x = cc
    by false true c d e x = cc
    by false false false d e x = cc
    by false false true false e x = cc
    by false false true true false x = cc
    by false false true true true x = (refl, refl, x)

count_parts : (limit kind n : ℕ) (b : Bool) → is_count limit b kind n ≡ true → (n ≤ limit) × ((kind == 0 || nat_lt 0 n) ≡ true)
count_parts limit kind n b is =
    let first = and_parts (not (nat_lt limit n) && (b || n == 0)) (kind == 0 || nat_lt 0 n) is in
    let second = and_parts (not (nat_lt limit n)) (b || n == 0) first.0 in
    (ltb-false limit n (not-true (nat_lt limit n) second.0), first.1)

filled_sound : (b : Bool) (turn kind n holder at : ℕ) (bytes : List ℕ) (t : ℕ) (k : Kept) (l : Listed) → listed n None at bytes ≡ l → filled turn b kind holder l ≡ Open t k → n ≤ LIMIT → (kind == 0 || nat_lt 0 n) ≡ true
    → is_holder_place (kind_at kind) n holder ≡ true → IsKeepable k
filled_sound b turn kind n holder at bytes t k (Wrong place) read is small some place_ok = cc
filled_sound false turn kind n holder at bytes t k (Good ps) read is small some place_ok =
    let same : Nothing ≡ k = cc in
    subst IsKeepable same (record {
      formed = record { within = omega arith; ascending = λ i j d lt long. absurd (omega arith); keys = λ i d lt. absurd (omega arith); sound = tt };
      ports = λ i d lt. absurd (omega arith);
    })
filled_sound true turn kind n holder at bytes t k (Good ps) read is small some place_ok =
    let same : Some_kept ps (reservation_at (kind_at kind) holder ps) ≡ k = cc in
    let good = listed_good n None at bytes ps read in
    subst IsKeepable same (record {
      formed = record {
        within = omega (arith, good.0, small);
        ascending = good_ascending None ps good.1;
        keys = good_keys None ps good.1;
        sound = held_in kind n holder (kind_at kind) ps refl good.0 some place_ok;
      };
      ports = good_ports None ps good.1;
    })

opened_sound : (turn kept kind n holder at : ℕ) (rest : List ℕ) (t : ℕ) (k : Kept)
    → unless_broken (field_fault LIMIT turn kept kind n holder) at (filled turn (kept == 1) kind holder (listed n None (at + 16) rest)) ≡ Open t k → IsKeepable k
opened_sound turn kept kind n holder at rest t k is =
    let tests = passed LIMIT turn kept kind n holder at _ t k is in
    let counts = count_parts LIMIT kind n (kept == 1) tests.0 in
    filled_sound (kept == 1) turn kind n holder (at + 16) rest t k (listed n None (at + 16) rest) refl tests.2 counts.0 counts.1 tests.1

slot_keepable : (at : ℕ) (bytes : List ℕ) (t : ℕ) (k : Kept) → slot LIMIT at bytes ≡ Open t k → IsKeepable k
unfolding slot
slot_keepable at bytes t k is =
    opened_sound (slice_index bytes 1) (slice_index bytes 2) (slice_index bytes 3) (number16_at bytes 4) (number16_at bytes 6) at (drop 16 bytes) t k (if_open (slice_index bytes 0 == 0xA5) is)
  where
    if_open : (b : Bool) → (if b then opened LIMIT at bytes else Closed) ≡ Open t k → opened LIMIT at bytes ≡ Open t k
    if_open true e = e
    if_open false e = cc

pub slot_sound : (at : ℕ) (bytes : List ℕ) (s : Slot) → s ≡ slot LIMIT at bytes → IsSound s
slot_sound at bytes Closed is = tt
slot_sound at bytes (Broken place) is = tt
slot_sound at bytes (Open t k) is = slot_keepable at bytes t k (sym is)
