-- What was spelled is read as it was.
use Rattle.std.proofs.Common.{◌≡◌, ℕ, zero, suc, ◌+◌, ◌-◌, ◌*◌, ◌<◌, ◌≤◌, ◌^◌, ◌==◌, nat_lt, ◌&&◌, ◌||◌, Bool, true, false, not, IsTrue, All, if◌then◌else◌, List, [], ◌∷◌, ◌++◌, length, take, drop, Option, Some, None, refl, sym, ◌∙◌, ap, arith, lit<}
use Rattle.std.specs.Int.{w16, to_be_bytes, from_be_bytes}
use Rattle.std.specs.List.{flat_map}
use Rattle.std.proofs.lemmas.List.{length-take-le, length-drop}
use Rattle.std.proofs.lemmas.Nat.{from_be_bytes-to_be_bytes_2, from_be_bytes-to_be_bytes_8}
use Rattle.std.proofs.lemmas.Bool.{and_parts, and_from, or_right, ltb-true, le-ltb, lt-ltb, not-true, not_from_false}
use Rattle.pr_words.specs.Fields.{number16_at, number64_at}
use Rattle.pr_words.specs.Kinds.{kind_at}
use Rattle.pr_words.specs.Orders.{same_nexus}
use Rattle.pr_words.specs.declared.nexus.Nexus.{Nexus}
use Rattle.pr_words.specs.declared.nexus.Pair.{Pair}
use Rattle.pr_words.specs.declared.reservation.Kind.{Kind}
use Rattle.pr_words.specs.declared.reservation.Kind.TheVariants.{WriteExclusive, ExclusiveAccess, WriteRegistrants, ExclusiveRegistrants, WriteAll, ExclusiveAll}
use Rattle.pr_words.specs.declared.reservation.Reservation.{Reservation}
use Rattle.pr_words.specs.declared.reservation.Reservation.TheVariants.{Free, OfOne, OfAll}
use Rattle.pr_grammar.specs.Standings.{Standing, Kept, Nothing, Some_kept, IsAscending, is_port, is_registered, kind_of, holder_of}
use Rattle.pr_grammar.specs.Files.{cut, Listed, Good, Wrong, put_first, first_pair, is_after, checked, listed, Open, nexus_at, reservation_at, is_type, is_count, is_holder_place, by_fields, unless_broken, filled, slot, place_of, spelled_pair, spelled_fields, spelled_slot, type_code, place_in, holder_place}
use Rattle.pr_grammar.specs.declared.file.FileLayout.{FileLayout}
use Rattle.pr_io.specs.Images.{Image, Holds}
use Rattle.pr_model.specs.Keeping.{kept}
use Rattle.pr_model.specs.Registrants.{IsHeldIn, IsWellFormed}
use Rattle.pr_model.proofs.Orders.{same_is}
use Rattle.pr_aptpl.specs.Doubts.{HavePorts, AreInFields}
use Rattle.pr_aptpl.specs.Slots.{turn_after, IsFilled}
use Rattle.pr_aptpl.proofs.Slots.{turn_after_small}
use Rattle.pr_aptpl.proofs.ReadBack.{cut_holds}

-- in their order, each with a port and a key, and with numbers that fit their fields
abbrev AreOrdered : Option Nexus → List Pair → Type 0
AreOrdered before [] = Unit {0}
AreOrdered before (p ∷ ps) =
    (is_port p.nexus.port ≡ true) × ((p.key.0 == 0) ≡ false) × (is_after before p.nexus ≡ true) × (p.nexus.name < 2 ^ 64) × (p.key.0 < 2 ^ 64) × AreOrdered (Some p.nexus) ps

abbrev FirstIsAfter : Option Nexus → List Pair → Type 0
FirstIsAfter before [] = Unit {0}
FirstIsAfter before (p ∷ ps) = is_after before p.nexus ≡ true

ordered_from : (before : Option Nexus) (ps : List Pair) → FirstIsAfter before ps → IsAscending ps → All (λ p. IsTrue (not (p.key.0 == 0))) ps → HavePorts ps → AreInFields ps → AreOrdered before ps
ordered_from before [] first ascending keys ports fits = tt
ordered_from before (p ∷ ps) first ascending keys ports fits = (
  ports 0 p (omega arith),
  not-true (p.key.0 == 0) (keys 0 p (omega arith)),
  first,
  (fits 0 p (omega arith)).0,
  (fits 0 p (omega arith)).1,
  ordered_from (Some p.nexus) ps (next ps ascending) (λ i j d lt long. ascending (suc i) (suc j) d (omega arith) (omega arith)) (λ k d lt. keys (suc k) d (omega arith)) (λ k d lt. ports (suc k) d (omega arith))
      (λ k d lt. fits (suc k) d (omega arith)),
)
  where
    next : (qs : List Pair) → IsAscending (p ∷ qs) → FirstIsAfter (Some p.nexus) qs
    next [] up = tt
    next (q ∷ qs) up = up 0 1 p (omega arith) (omega arith)

first_name : (p : Pair) (rest : List ℕ) → p.nexus.name < 2 ^ 64 → number64_at (spelled_pair p ++ rest) 0 ≡ p.nexus.name
first_name p rest lt = from_be_bytes-to_be_bytes_8 p.nexus.name lt

first_port : (p : Pair) (rest : List ℕ) → p.nexus.port < 2 ^ 16 → number16_at (spelled_pair p ++ rest) 8 ≡ p.nexus.port
first_port p rest lt = from_be_bytes-to_be_bytes_2 p.nexus.port lt

first_key : (p : Pair) (rest : List ℕ) → p.key.0 < 2 ^ 64 → number64_at (spelled_pair p ++ rest) 10 ≡ p.key.0
first_key p rest lt = from_be_bytes-to_be_bytes_8 p.key.0 lt

checked_good : (before : Option Nexus) (at : ℕ) (p : Pair) (rest : Listed) → is_port p.nexus.port ≡ true → (p.key.0 == 0) ≡ false → is_after before p.nexus ≡ true → checked before at p rest ≡ put_first p rest
checked_good before at p rest port key after =
    ap (λ (b : Bool). if not b then Wrong (at + 8) else if p.key.0 == 0 then Wrong (at + 10) else if not (is_after before p.nexus) then Wrong at else put_first p rest) port
    ∙ ap (λ (b : Bool). if b then Wrong (at + 10) else if not (is_after before p.nexus) then Wrong at else put_first p rest) key
    ∙ ap (λ (b : Bool). if not b then Wrong at else put_first p rest) after

port_small : (n : ℕ) → is_port n ≡ true → n < 2 ^ 16
port_small n is = let parts = and_parts (nat_lt 0 n) (nat_lt n 17) is in let small : n < 17 = ltb-true n 17 parts.1 in omega arith

listed_spelled : (ps : List Pair) (before : Option Nexus) (at : ℕ) (rest : List ℕ) → AreOrdered before ps → listed (length ps) before at (flat_map spelled_pair ps ++ rest) ≡ Good ps
listed_spelled [] before at rest ordered = refl
listed_spelled (p ∷ ps) before at rest ordered =
    let tail = flat_map spelled_pair ps ++ rest in
    let here : first_pair (spelled_pair p ++ tail) ≡ p = λ i. record {
      nexus = record { name = first_name p tail ordered.3 i; port = first_port p tail (port_small p.nexus.port ordered.0) i };
      key = record { 0 = first_key p tail ordered.4 i };
    } in
    ap (λ (q : Pair). checked before at q (listed (length ps) (Some q.nexus) (at + 18) tail)) here
    ∙ ap (checked before at p) (listed_spelled ps (Some p.nexus) (at + 18) rest ordered.5)
    ∙ checked_good before at p (Good ps) ordered.0 ordered.1 ordered.2

-- a chain of tests of which none stops
passes : (X : Type 0) (a b c d e : Bool) (p q r s t u : X) → a ≡ false → b ≡ false → c ≡ true → d ≡ true → e ≡ true
    → (if a then p else if b then q else if not c then r else if not d then s else if not e then t else u) ≡ u
passes X a b c d e p q r s t u ea eb ec ed ee =
    ap (λ (x : Bool). if x then p else if b then q else if not c then r else if not d then s else if not e then t else u) ea
    ∙ ap (λ (x : Bool). if x then q else if not c then r else if not d then s else if not e then t else u) eb
    ∙ ap (λ (x : Bool). if not x then r else if not d then s else if not e then t else u) ec
    ∙ ap (λ (x : Bool). if not x then s else if not e then t else u) ed
    ∙ ap (λ (x : Bool). if not x then t else u) ee

-- the whole slot, by its fields
fields_read : (limit at turn on kind holder : ℕ) (ps : List Pair) (rest : List ℕ) → AreOrdered None ps → turn < 3 → on ≤ 1 → length ps < 2 ^ 16 → holder < 2 ^ 16
    → (is_type kind && (on == 1 || kind == 0)) ≡ true → is_count limit (on == 1) kind (length ps) ≡ true → is_holder_place (kind_at kind) (length ps) holder ≡ true
    → slot limit at (spelled_fields turn on kind (length ps) holder ++ (flat_map spelled_pair ps ++ rest)) ≡ filled turn (on == 1) kind holder (Good ps)
unfolding slot
fields_read limit at turn on kind holder ps rest ordered turn_small on_small n_small holder_small kind_is count_is holder_is =
    ap (λ (n : ℕ). by_fields limit at turn on kind n (from_be_bytes w16 (to_be_bytes w16 holder)) (flat_map spelled_pair ps ++ rest)) (from_be_bytes-to_be_bytes_2 (length ps) n_small)
    ∙ ap (λ (h : ℕ). by_fields limit at turn on kind (length ps) h (flat_map spelled_pair ps ++ rest)) (from_be_bytes-to_be_bytes_2 holder holder_small)
    ∙ good
  where
    t0 : nat_lt 2 turn ≡ false
    t0 = le-ltb 2 turn (omega arith)

    k0 : nat_lt 1 on ≡ false
    k0 = le-ltb 1 on on_small

    good : by_fields limit at turn on kind (length ps) holder (flat_map spelled_pair ps ++ rest) ≡ filled turn (on == 1) kind holder (Good ps)
    good =
        ap (λ (o : Option ℕ). unless_broken o at (filled turn (on == 1) kind holder (listed (length ps) None (at + 16) (flat_map spelled_pair ps ++ rest))))
        (passes (Option ℕ) (nat_lt 2 turn) (nat_lt 1 on) (is_type kind && (on == 1 || kind == 0)) (is_count limit (on == 1) kind (length ps)) (is_holder_place (kind_at kind) (length ps) holder)
        (Some 1) (Some 2) (Some 3) (Some 4) (Some 6) None t0 k0 kind_is count_is holder_is)
        ∙ ap (filled turn (on == 1) kind holder) (listed_spelled ps None (at + 16) rest ordered)

-- a type and its number
kind_back : (o : Option Kind) → kind_at (type_code o) ≡ o
kind_back None = refl
kind_back (Some WriteExclusive) = refl
kind_back (Some ExclusiveAccess) = refl
kind_back (Some WriteRegistrants) = refl
kind_back (Some ExclusiveRegistrants) = refl
kind_back (Some WriteAll) = refl
kind_back (Some ExclusiveAll) = refl

type_is : (o : Option Kind) → (is_type (type_code o) && (1 == 1 || type_code o == 0)) ≡ true
type_is None = refl
type_is (Some WriteExclusive) = refl
type_is (Some ExclusiveAccess) = refl
type_is (Some WriteRegistrants) = refl
type_is (Some ExclusiveRegistrants) = refl
type_is (Some WriteAll) = refl
type_is (Some ExclusiveAll) = refl

-- the place of a registered nexus
place_small : (ps : List Pair) (n : Nexus) → is_registered ps n ≡ true → place_in ps n < length ps
place_small [] n is = cc
place_small (p ∷ ps) n is = by (place_small ps n) (same_nexus p.nexus n) is
  where
    by : (is_registered ps n ≡ true → place_in ps n < length ps) → (b : Bool) → (b || is_registered ps n) ≡ true → (if b then 0 else suc (place_in ps n)) < suc (length ps)
    by rest true e = omega arith
    by rest false e = let less = rest e in omega (arith, less)

place_most : (ps : List Pair) (n : Nexus) → place_in ps n ≤ length ps
place_most [] n = omega arith
place_most (p ∷ ps) n = by (place_most ps n) (same_nexus p.nexus n)
  where
    by : place_in ps n ≤ length ps → (b : Bool) → (if b then 0 else suc (place_in ps n)) ≤ suc (length ps)
    by rest true = omega arith
    by rest false = omega (arith, rest)

nexus_back : (ps : List Pair) (n : Nexus) → is_registered ps n ≡ true → nexus_at ps (place_in ps n) ≡ n
nexus_back [] n is = cc
nexus_back (p ∷ ps) n is = by (nexus_back ps n) (same_nexus p.nexus n) refl is
  where
    by : (is_registered ps n ≡ true → nexus_at ps (place_in ps n) ≡ n) → (b : Bool) → same_nexus p.nexus n ≡ b → (b || is_registered ps n) ≡ true → nexus_at (p ∷ ps) (if b then 0 else suc (place_in ps n)) ≡ n
    by rest true same e = same_is p.nexus n same
    by rest false same e = rest e

holder_is : (r : Reservation) (ps : List Pair) → IsHeldIn r ps → is_holder_place (kind_of r) (length ps) (holder_place (holder_of r) ps) ≡ true
holder_is Free ps held = refl
holder_is (OfOne k n) ps held = ap (λ (b : Bool). if b then place_in ps n == 0xFFFF else nat_lt (place_in ps n) (length ps)) held.0 ∙ lt-ltb (place_in ps n) (length ps) (place_small ps n held.1)
holder_is (OfAll k) ps held = ap (λ (b : Bool). if b then true else nat_lt 0xFFFF (length ps)) held.0

holder_small : (r : Reservation) (ps : List Pair) → length ps < 2 ^ 16 → holder_place (holder_of r) ps < 2 ^ 16
holder_small Free ps small = lit< tt
holder_small (OfOne k n) ps small = let most = place_most ps n in omega (arith, most, small)
holder_small (OfAll k) ps small = lit< tt

reservation_back : (r : Reservation) (ps : List Pair) → IsHeldIn r ps → reservation_at (kind_of r) (holder_place (holder_of r) ps) ps ≡ r
reservation_back Free ps held = refl
reservation_back (OfOne k n) ps held = ap (λ (b : Bool). if b then OfAll k else OfOne k (nexus_at ps (place_in ps n))) held.0 ∙ ap (OfOne k) (nexus_back ps n held.1)
reservation_back (OfAll k) ps held = ap (λ (b : Bool). if b then OfAll k else OfOne k (nexus_at ps 0xFFFF)) held.0

count_is : (limit : ℕ) (r : Reservation) (ps : List Pair) → IsHeldIn r ps → length ps ≤ limit → is_count limit true (type_code (kind_of r)) (length ps) ≡ true
count_is limit r ps held small =
    and_from _ _ (and_from _ _ (not_from_false (nat_lt limit (length ps)) (le-ltb limit (length ps) small)) refl) (some r held)
  where
    some : (t : Reservation) → IsHeldIn t ps → (type_code (kind_of t) == 0 || nat_lt 0 (length ps)) ≡ true
    some Free h = refl
    some (OfOne k n) h = let less = place_small ps n h.1 in or_right _ _ (lt-ltb 0 (length ps) (omega (arith, less)))
    some (OfAll k) h = or_right _ _ (lt-ltb 0 (length ps) h.1)

-- the whole slot
pub slot_read : (limit at turn : ℕ) (s : Standing) (rest : List ℕ) → IsWellFormed limit s → HavePorts s.pairs → (s.preserve ≡ true → AreInFields s.pairs) → turn < 3 → limit < 2 ^ 16
    → slot limit at (spelled_slot turn (kept s) ++ rest) ≡ Open turn (kept s)
slot_read limit at turn s rest formed ports fits turn_small limit_small = by s.preserve refl
  where
    few : length s.pairs < 2 ^ 16
    few = omega (arith, formed.within, limit_small)

    some : s.preserve ≡ true → slot limit at (spelled_slot turn (Some_kept s.pairs s.reservation) ++ rest) ≡ Open turn (Some_kept s.pairs s.reservation)
    some is =
        fields_read limit at turn 1 (type_code (kind_of s.reservation)) (holder_place (holder_of s.reservation) s.pairs) s.pairs rest
        (ordered_from None s.pairs (any_first s.pairs) formed.ascending formed.keys ports (fits is)) turn_small (omega arith) few (holder_small s.reservation s.pairs few)
        (type_is (kind_of s.reservation)) (count_is limit s.reservation s.pairs formed.sound formed.within)
        (ap (λ (o : Option Kind). is_holder_place o (length s.pairs) (holder_place (holder_of s.reservation) s.pairs)) (kind_back (kind_of s.reservation)) ∙ holder_is s.reservation s.pairs formed.sound)
        ∙ ap (λ (o : Option Kind). Open turn (Some_kept s.pairs (reservation_at o (holder_place (holder_of s.reservation) s.pairs) s.pairs))) (kind_back (kind_of s.reservation))
        ∙ ap (λ (r : Reservation). Open turn (Some_kept s.pairs r)) (reservation_back s.reservation s.pairs formed.sound)
      where
        any_first : (ps : List Pair) → FirstIsAfter None ps
        any_first [] = tt
        any_first (p ∷ ps) = refl

    by : (b : Bool) → s.preserve ≡ b → slot limit at (spelled_slot turn (if b then Some_kept s.pairs s.reservation else Nothing) ++ rest) ≡ Open turn (if b then Some_kept s.pairs s.reservation else Nothing)
    by false is = fields_read limit at turn 0 0 0xFFFF [] rest tt turn_small (omega arith) (lit< tt) (lit< tt) refl (and_from _ _ (and_from _ _ (not_from_false (nat_lt limit 0) (le-ltb limit 0 (omega arith))) refl) refl) refl
    by true is = some is

-- a slot whose bytes behind the gate were spelled
pub body_filled : (l : FileLayout) (t : Bool) (turn : Option ℕ) (s : Standing) (body : List ℕ) (c : Image) → IsWellFormed l.limit s → HavePorts s.pairs → (s.preserve ≡ true → AreInFields s.pairs) → l.limit < 2 ^ 16
    → 0xA5 ∷ body ≡ spelled_slot (turn_after turn) (kept s) → length body ≤ 15 + 18 * l.limit → Holds (place_of l t + 1) body c → IsFilled l t turn (kept s) c
body_filled l t turn s body c formed ports fits limit_small spelled small holds =
    let rest = 15 + 18 * l.limit - length body in
    let tail = cut c (place_of l t + 1 + length body) rest in
    let whole : cut c (place_of l t + 1) (15 + 18 * l.limit) ≡ body ++ tail = cut_holds body (place_of l t + 1) (15 + 18 * l.limit) rest c holds (omega (arith, small)) in
    ap (λ (bs : List ℕ). slot l.limit (place_of l t) (0xA5 ∷ bs)) whole
    ∙ ap (λ (bs : List ℕ). slot l.limit (place_of l t) (bs ++ tail)) spelled
    ∙ slot_read l.limit (place_of l t) (turn_after turn) s tail formed ports fits (turn_after_small turn) limit_small

-- what stands behind the first of the bytes that were spelled
behind_first : (len x : ℕ) (buf xs : List ℕ) → take len buf ≡ x ∷ xs → x ∷ take (len - 1) (drop 1 buf) ≡ x ∷ xs
behind_first zero x buf xs is = cc
behind_first (suc n) x [] xs is = cc
behind_first (suc n) x (b ∷ bs) xs is =
    let less : suc n - 1 ≡ n = omega arith in
    let first : b ≡ x = cc in
    let rest : take n bs ≡ xs = cc in
    ap (λ (m : ℕ). x ∷ take m bs) less ∙ ap (λ (l : List ℕ). x ∷ l) rest

spelled_open : (turn : ℕ) (k : Kept) → (xs : List ℕ) × (spelled_slot turn k ≡ 0xA5 ∷ xs)
spelled_open turn Nothing = (drop 1 (spelled_slot turn Nothing), refl)
spelled_open turn (Some_kept ps r) = (drop 1 (spelled_slot turn (Some_kept ps r)), refl)

pub body_spelled : (len turn : ℕ) (k : Kept) (d buf : List ℕ) → d ≡ buf → take len buf ≡ spelled_slot turn k → 0xA5 ∷ take (len - 1) (drop 1 d) ≡ spelled_slot turn k
body_spelled len turn k d buf same is =
    let opens = spelled_open turn k in
    ap (λ (l : List ℕ). 0xA5 ∷ take (len - 1) (drop 1 l)) same ∙ behind_first len 0xA5 buf opens.0 (is ∙ opens.1) ∙ sym opens.1

pub body_small : (len limit : ℕ) (d buf : List ℕ) → d ≡ buf → length buf ≡ 16 + 18 * limit → len ≤ 16 + 18 * limit → length (take (len - 1) (drop 1 d)) ≤ 15 + 18 * limit
body_small len limit d buf same room most =
    let e : length d ≡ length buf = ap length same in
    let long : length (take (len - 1) (drop 1 d)) ≡ len - 1 = length-take-le (len - 1) (drop 1 d) (omega (arith, length-drop 1 d, e, room, most)) in
    omega (arith, long, most)
