-- Seats in order are found, changed and put in at their places.
use Rattle.std.proofs.Common.{◌≡◌, ℕ, zero, suc, ◌<◌, ◌≤◌, Bool, true, false, cond, List, [], ◌∷◌, ◌++◌, length, take, drop, map, get_or, set, Option, Some, None, option_map, IfSome, is_some, is_ok, Result, Ok, Err, ◌+◌, refl, sym, ap, subst, ◌∙◌, arith, ◌⊎◌, inl, inr}
use Rattle.std.specs.List.{All, AllWithin}
use Rattle.std.specs.List.Sorted.{IsPartitionedBy}
use std.Path.{fun_ext}
use Rattle.std.proofs.lemmas.Bool.{cases_eq, true≢false, false≢true}
use Rattle.std.proofs.lemmas.Bool.Decides.{nat_tests}
use Rattle.std.proofs.lemmas.List.{get_or_default}
use Rattle.std.proofs.lemmas.List.Elements.{All-head, All-tail, All-cons}
use Rattle.std.proofs.lemmas.List.Kept.{AllPairs-cons}
use Rattle.pr_words.specs.declared.nexus.Nexus.{Nexus}
use Rattle.pr_words.specs.Orders.{same_nexus, comes_before}
use Rattle.pr_model.specs.Worlds.{Task, set_at}
use Rattle.pr_tasks.specs.declared.step_out.StepOut.{StepOut}
use Rattle.pr_core.specs.Stepping.{with_task, task_after}
use Rattle.pr_model.proofs.Orders.{same_is, before_not_same, after_not_same, neither, before_through}
use Rattle.pr_core.specs.declared.seats.Seat.{Seat}
use Rattle.pr_core.specs.Places.{seat_in, IsAscending, is_earlier, is_later, SitsAt, MissesAt, IsPlace, Divides}

pub same_self : (n : Nexus) → same_nexus n n ≡ true
same_self n = grind (arith, nat_tests)

is_same : (m n : Nexus) → m ≡ n → same_nexus m n ≡ true
is_same m n e = rw e (same_self n)

other_way : (a m n : Nexus) → a ≡ n → same_nexus m n ≡ false → same_nexus a m ≡ false
other_way a m n e f = subst (λ (k : Nexus). same_nexus k m ≡ false) (sym e) (turned (same_nexus n m) refl)
  where
    turned : (b : Bool) → same_nexus n m ≡ b → same_nexus n m ≡ false
    turned true g = absurd (true≢false (sym (is_same m n (sym (same_is n m g))) ∙ f))
    turned false g = g

-- the seat at the place of a nexus is its own

tail_earlier : (n : Nexus) (s : Seat) (seats : List Seat) (i : ℕ) → AllWithin (λ t. is_earlier n t ≡ true) (s ∷ seats) 0 (suc i) → AllWithin (λ t. is_earlier n t ≡ true) seats 0 i
tail_earlier n s seats i earlier k d low high = earlier (suc k) d (omega arith) (omega arith)

head_earlier : (n : Nexus) (s : Seat) (seats : List Seat) (i : ℕ) → AllWithin (λ t. is_earlier n t ≡ true) (s ∷ seats) 0 (suc i) → comes_before s.nexus n ≡ true
head_earlier n s seats i earlier = earlier zero s (omega arith) (omega arith)

found : (seats : List Seat) (n : Nexus) (i : ℕ) (d : Seat) → AllWithin (λ t. is_earlier n t ≡ true) seats 0 i → i < length seats → (get_or seats i d).nexus ≡ n → seat_in seats n ≡ Some (get_or seats i d)
found [] n i d earlier lt is = absurd (omega arith)
found (s ∷ seats) n zero d earlier lt is = ap (λ b. cond b (Some s) (seat_in seats n)) (is_same s.nexus n is)
found (s ∷ seats) n (suc i) d earlier lt is =
    ap (λ b. cond b (Some s) (seat_in seats n)) (before_not_same s.nexus n (head_earlier n s seats i earlier))
    ∙ found seats n i d (tail_earlier n s seats i earlier) (omega arith) is

missing : (seats : List Seat) (n : Nexus) → All (λ s. same_nexus s.nexus n ≡ false) seats → seat_in seats n ≡ None
missing [] n others = refl
missing (s ∷ seats) n others =
    ap (λ b. cond b (Some s) (seat_in seats n)) (others zero s (omega arith)) ∙ missing seats n (λ k d lt. others (suc k) d (omega arith))

pub parted : (seats : List Seat) (n : Nexus) → IsAscending seats → IsPartitionedBy (is_earlier n) seats
parted seats n up i j d le lt e = by (cases_eq i j)
  where
    by : (i ≡ j) ⊎ (i ≡ j → ⊥) → is_earlier n (get_or seats i d) ≡ true
    by (inl same) = rw same e
    by (inr other) = before_through (get_or seats i d).nexus (get_or seats j d).nexus n (up i j d (omega (arith, other)) lt) e

pub sits_at : (seats : List Seat) (n : Nexus) (i : ℕ) (d : Seat) → Divides seats n i → i < length seats → same_nexus (get_or seats i d).nexus n ≡ true → SitsAt seats n i
sits_at seats n i d cut lt same =
    let here : (e : Seat) → (get_or seats i e).nexus ≡ n = λ e. same_is (get_or seats i e).nexus n (ap (λ (s : Seat). same_nexus s.nexus n) (get_or_default seats i e d lt) ∙ same) in
    record { within = lt; earlier = cut.below; here = here; seat = λ e. found seats n i e cut.below lt (here e) }

-- what isn't earlier, with a first that isn't the nexus's own, is later
rest_later : (seats : List Seat) (n : Nexus) (i : ℕ) → IsAscending seats → AllWithin (λ s. is_earlier n s ≡ false) seats i (length seats)
    → ((d : Seat) → i < length seats → same_nexus (get_or seats i d).nexus n ≡ false) → AllWithin (λ s. is_later n s ≡ true) seats i (length seats)
rest_later seats n i up above other k d low high = by (cases_eq i k)
  where
    first : i < length seats
    first = omega arith

    here : comes_before n (get_or seats i d).nexus ≡ true
    here = neither (get_or seats i d).nexus n (above i d (omega arith) first) (other d first)

    by : (i ≡ k) ⊎ (i ≡ k → ⊥) → is_later n (get_or seats k d) ≡ true
    by (inl same) = subst (λ m. is_later n (get_or seats m d) ≡ true) same here
    by (inr differs) = before_through n (get_or seats i d).nexus (get_or seats k d).nexus here (up i k d (omega (arith, differs)) high)

misses_by : (seats : List Seat) (n : Nexus) (i : ℕ) → IsAscending seats → Divides seats n i → ((d : Seat) → i < length seats → same_nexus (get_or seats i d).nexus n ≡ false) → MissesAt seats n i
misses_by seats n i up cut other =
    let later = rest_later seats n i up cut.above other in
    record { within = cut.within; earlier = cut.below; later = later; seat = missing seats n (λ k d lt. by k d lt later (nat_side k i)) }
  where
    nat_side : (k i : ℕ) → (k < i) ⊎ (i ≤ k)
    nat_side k zero = inr (omega arith)
    nat_side zero (suc i) = inl (omega arith)
    nat_side (suc k) (suc i) = elim (nat_side k i) [
      | inl lt ↦ inl (omega arith)
      | inr le ↦ inr (omega arith)
    ]

    by : (k : ℕ) (d : Seat) → k < length seats → AllWithin (λ s. is_later n s ≡ true) seats i (length seats) → (k < i) ⊎ (i ≤ k) → same_nexus (get_or seats k d).nexus n ≡ false
    by k d lt later (inl below) = before_not_same (get_or seats k d).nexus n (cut.below k d (omega arith) below)
    by k d lt later (inr above) = after_not_same n (get_or seats k d).nexus (later k d above lt)

pub misses_at : (seats : List Seat) (n : Nexus) (i : ℕ) (d : Seat) → IsAscending seats → Divides seats n i → i < length seats → same_nexus (get_or seats i d).nexus n ≡ false → MissesAt seats n i
misses_at seats n i d up cut lt other = misses_by seats n i up cut (λ e small. ap (λ (s : Seat). same_nexus s.nexus n) (get_or_default seats i e d lt) ∙ other)

pub misses_behind : (seats : List Seat) (n : Nexus) (i : ℕ) → IsAscending seats → Divides seats n i → length seats ≤ i → MissesAt seats n i
misses_behind seats n i up cut le = misses_by seats n i up cut (λ e small. absurd (omega arith))

-- a seat is changed at its place, or put in there

put_first : (seats rest : List Seat) (n m : Nexus) (t : Seat) → t.nexus ≡ n → (same_nexus m n ≡ false → seat_in rest m ≡ seat_in seats m) → seat_in (t ∷ rest) m ≡ set_at (seat_in seats) n (Some t) m
put_first seats rest n m t own same = by (same_nexus m n) refl
  where
    by : (b : Bool) → same_nexus m n ≡ b → seat_in (t ∷ rest) m ≡ cond b (Some t) (seat_in seats m)
    by true e = ap (λ b. cond b (Some t) (seat_in rest m)) (is_same t.nexus m (own ∙ sym (same_is m n e)))
    by false e = ap (λ b. cond b (Some t) (seat_in rest m)) (other_way t.nexus m n own e) ∙ same e

put_later : (s : Seat) (seats rest : List Seat) (n m : Nexus) (t : Seat) → comes_before s.nexus n ≡ true → seat_in rest m ≡ set_at (seat_in seats) n (Some t) m → seat_in (s ∷ rest) m ≡ set_at (seat_in (s ∷ seats)) n (Some t) m
put_later s seats rest n m t before is = by (same_nexus m n) refl is
  where
    by : (b : Bool) → same_nexus m n ≡ b → seat_in rest m ≡ cond b (Some t) (seat_in seats m) → seat_in (s ∷ rest) m ≡ cond b (Some t) (seat_in (s ∷ seats) m)
    by true e f = ap (λ (k : Nexus). cond (same_nexus s.nexus k) (Some s) (seat_in rest m)) (same_is m n e) ∙ ap (λ b. cond b (Some s) (seat_in rest m)) (before_not_same s.nexus n before) ∙ f
    by false e f = ap (λ o. cond (same_nexus s.nexus m) (Some s) o) f

written_at : (seats : List Seat) (n : Nexus) (i : ℕ) (t : Seat) → AllWithin (λ s. is_earlier n s ≡ true) seats 0 i → i < length seats → ((d : Seat) → (get_or seats i d).nexus ≡ n) → t.nexus ≡ n
    → (m : Nexus) → seat_in (set seats i t) m ≡ set_at (seat_in seats) n (Some t) m
written_at [] n i t earlier lt here own m = absurd (omega arith)
written_at (s ∷ seats) n zero t earlier lt here own m =
    put_first (s ∷ seats) seats n m t own (λ e. ap (λ b. cond b (Some s) (seat_in seats m)) (sym (other_way s.nexus m n (here s) e)))
written_at (s ∷ seats) n (suc i) t earlier lt here own m =
    put_later s seats (set seats i t) n m t (head_earlier n s seats i earlier) (written_at seats n i t (tail_earlier n s seats i earlier) (omega arith) here own m)

inserted_at : (seats : List Seat) (n : Nexus) (i : ℕ) (t : Seat) → AllWithin (λ s. is_earlier n s ≡ true) seats 0 i → i ≤ length seats → t.nexus ≡ n
    → (m : Nexus) → seat_in (take i seats ++ t ∷ drop i seats) m ≡ set_at (seat_in seats) n (Some t) m
inserted_at [] n zero t earlier le own m = put_first [] [] n m t own (λ e. refl)
inserted_at [] n (suc i) t earlier le own m = absurd (omega arith)
inserted_at (s ∷ seats) n zero t earlier le own m = put_first (s ∷ seats) (s ∷ seats) n m t own (λ e. refl)
inserted_at (s ∷ seats) n (suc i) t earlier le own m =
    put_later s seats (take i seats ++ t ∷ drop i seats) n m t (head_earlier n s seats i earlier) (inserted_at seats n i t (tail_earlier n s seats i earlier) (omega arith) own m)

pub written : (seats : List Seat) (n : Nexus) (i : ℕ) (t : Seat) → SitsAt seats n i → t.nexus ≡ n → seat_in (set seats i t) ≡ set_at (seat_in seats) n (Some t)
written seats n i t sits own = fun_ext (written_at seats n i t sits.earlier sits.within sits.here own)

pub inserted : (seats : List Seat) (n : Nexus) (i : ℕ) (t : Seat) → MissesAt seats n i → t.nexus ≡ n → seat_in (take i seats ++ t ∷ drop i seats) ≡ set_at (seat_in seats) n (Some t)
inserted seats n i t misses own = fun_ext (inserted_at seats n i t misses.earlier misses.within own)

pub mapped : (f : Seat → Seat) → ((s : Seat) → (f s).nexus ≡ s.nexus) → (seats : List Seat) → seat_in (map f seats) ≡ (λ n. option_map f (seat_in seats n))
mapped f keeps seats = fun_ext (λ n. each seats n)
  where
    by : (s : Seat) (seats : List Seat) (n : Nexus) (b : Bool) → seat_in (map f seats) n ≡ option_map f (seat_in seats n) → cond b (Some (f s)) (seat_in (map f seats) n) ≡ option_map f (cond b (Some s) (seat_in seats n))
    by s seats n true e = refl
    by s seats n false e = e

    each : (seats : List Seat) (n : Nexus) → seat_in (map f seats) n ≡ option_map f (seat_in seats n)
    each [] n = refl
    each (s ∷ seats) n = ap (λ (k : Nexus). cond (same_nexus k n) (Some (f s)) (seat_in (map f seats) n)) (keeps s) ∙ by s seats n (same_nexus s.nexus n) (each seats n)

-- the order stays

head_up : (s : Seat) (seats : List Seat) → IsAscending (s ∷ seats) → All (λ t. comes_before s.nexus t.nexus ≡ true) seats
head_up s seats up k d lt = up zero (suc k) d (omega arith) (omega arith)

tail_up : (s : Seat) (seats : List Seat) → IsAscending (s ∷ seats) → IsAscending seats
tail_up s seats up i j d lt le = up (suc i) (suc j) d (omega arith) (omega arith)

-- as many seats, of the same nexuses
pub record Alike (old new : List Seat) : Type 0 where
  pub long : length new ≡ length old
  pub nexus : (k : ℕ) (d : Seat) → k < length old → (get_or new k d).nexus ≡ (get_or old k d).nexus

pub alike_up : (old new : List Seat) → Alike old new → IsAscending old → IsAscending new
alike_up old new alike up i j d lt le =
    subst (λ (m : Nexus). comes_before m (get_or new j d).nexus ≡ true) (sym (alike.nexus i d (omega (arith, alike.long))))
    (subst (λ (m : Nexus). comes_before (get_or old i d).nexus m ≡ true) (sym (alike.nexus j d (omega (arith, alike.long)))) (up i j d lt (omega (arith, alike.long))))

alike_cons : (s t : Seat) (old new : List Seat) → t.nexus ≡ s.nexus → Alike old new → Alike (s ∷ old) (t ∷ new)
alike_cons s t old new same rest = record { long = ap suc rest.long; nexus = each }
  where
    each : (k : ℕ) (d : Seat) → k < suc (length old) → (get_or (t ∷ new) k d).nexus ≡ (get_or (s ∷ old) k d).nexus
    each zero d lt = same
    each (suc k) d lt = rest.nexus k d (omega arith)

alike_self : (seats : List Seat) → Alike seats seats
alike_self seats = record { long = refl; nexus = λ k d lt. refl }

alike_set : (seats : List Seat) (i : ℕ) (t : Seat) → ((d : Seat) → (get_or seats i d).nexus ≡ t.nexus) → Alike seats (set seats i t)
alike_set [] i t here = alike_self []
alike_set (s ∷ seats) zero t here = alike_cons s t seats seats (sym (here s)) (alike_self seats)
alike_set (s ∷ seats) (suc i) t here = alike_cons s s seats (set seats i t) refl (alike_set seats i t here)

alike_map : (f : Seat → Seat) → ((s : Seat) → (f s).nexus ≡ s.nexus) → (seats : List Seat) → Alike seats (map f seats)
alike_map f keeps [] = alike_self []
alike_map f keeps (s ∷ seats) = alike_cons s (f s) seats (map f seats) (keeps s) (alike_map f keeps seats)

pub written_up : (seats : List Seat) (n : Nexus) (i : ℕ) (t : Seat) → SitsAt seats n i → t.nexus ≡ n → IsAscending seats → IsAscending (set seats i t)
written_up seats n i t sits own up = alike_up seats (set seats i t) (alike_set seats i t (λ d. sits.here d ∙ sym own)) up

pub mapped_up : (f : Seat → Seat) → ((s : Seat) → (f s).nexus ≡ s.nexus) → (seats : List Seat) → IsAscending seats → IsAscending (map f seats)
mapped_up f keeps seats up = alike_up seats (map f seats) (alike_map f keeps seats) up

all_in : (P : Seat → Type 0) (seats : List Seat) (i : ℕ) (t : Seat) → P t → All P seats → All P (take i seats ++ t ∷ drop i seats)
all_in P [] zero t here all = All-cons P t [] here all
all_in P [] (suc i) t here all = All-cons P t [] here all
all_in P (s ∷ seats) zero t here all = All-cons P t (s ∷ seats) here all
all_in P (s ∷ seats) (suc i) t here all = All-cons P s (take i seats ++ t ∷ drop i seats) (All-head P s seats all) (all_in P seats i t here (All-tail P s seats all))

inserted_in : (seats : List Seat) (i : ℕ) (t : Seat) → AllWithin (λ s. is_earlier t.nexus s ≡ true) seats 0 i → AllWithin (λ s. is_later t.nexus s ≡ true) seats i (length seats) → i ≤ length seats
    → IsAscending seats → IsAscending (take i seats ++ t ∷ drop i seats)
inserted_in [] zero t earlier later le up = AllPairs-cons (λ (a b : Seat). comes_before a.nexus b.nexus ≡ true) t [] (λ k d lt. absurd (omega arith)) up
inserted_in [] (suc i) t earlier later le up = absurd (omega arith)
inserted_in (s ∷ seats) zero t earlier later le up = AllPairs-cons (λ (a b : Seat). comes_before a.nexus b.nexus ≡ true) t (s ∷ seats) (λ k d lt. later k d (omega arith) lt) up
inserted_in (s ∷ seats) (suc i) t earlier later le up =
    AllPairs-cons (λ (a b : Seat). comes_before a.nexus b.nexus ≡ true) s (take i seats ++ t ∷ drop i seats)
    (all_in (λ b. comes_before s.nexus b.nexus ≡ true) seats i t (head_earlier t.nexus s seats i earlier) (head_up s seats up))
    (inserted_in seats i t (tail_earlier t.nexus s seats i earlier) (λ k d low high. later (suc k) d (omega arith) (omega arith)) (omega arith) (tail_up s seats up))

pub inserted_up : (seats : List Seat) (i : ℕ) (t : Seat) → MissesAt seats t.nexus i → IsAscending seats → IsAscending (take i seats ++ t ∷ drop i seats)
inserted_up seats i t misses up = inserted_in seats i t misses.earlier misses.later misses.within up

-- the seats below a place are changed, and the others as they were
abbrev pub changed_below : (Seat → Seat) → ℕ → List Seat → List Seat
changed_below f zero seats = seats
changed_below f (suc k) [] = []
changed_below f (suc k) (s ∷ seats) = f s ∷ changed_below f k seats

changed_more : (f : Seat → Seat) (seats : List Seat) (k : ℕ) (d : Seat) → k < length seats → set (changed_below f k seats) k (f (get_or (changed_below f k seats) k d)) ≡ changed_below f (suc k) seats
changed_more f [] k d lt = absurd (omega arith)
changed_more f (s ∷ seats) zero d lt = refl
changed_more f (s ∷ seats) (suc k) d lt = ap (λ xs. f s ∷ xs) (changed_more f seats k d (omega arith))

pub changed_all : (f : Seat → Seat) (seats : List Seat) (k : ℕ) → length seats ≤ k → changed_below f k seats ≡ map f seats
changed_all f [] zero le = refl
changed_all f [] (suc k) le = refl
changed_all f (s ∷ seats) zero le = absurd (omega arith)
changed_all f (s ∷ seats) (suc k) le = ap (λ xs. f s ∷ xs) (changed_all f seats k (omega arith))

changed_long : (f : Seat → Seat) (seats : List Seat) (k : ℕ) → length (changed_below f k seats) ≡ length seats
changed_long f seats zero = refl
changed_long f [] (suc k) = refl
changed_long f (s ∷ seats) (suc k) = ap suc (changed_long f seats k)

pub as_long : (f : Seat → Seat) (old now : List Seat) (k : ℕ) → now ≡ changed_below f k old → length now ≡ length old
as_long f old now k is = ap length is ∙ changed_long f old k

pub changed_step : (f : Seat → Seat) (old now : List Seat) (k : ℕ) (d t : Seat) → now ≡ changed_below f k old → k < length old → t ≡ f (get_or now k d) → set now k t ≡ changed_below f (k + 1) old
changed_step f old now k d t is lt done =
    let next : suc k ≡ k + 1 = omega arith in
    ap (set now k) done ∙ ap (λ seats. set seats k (f (get_or seats k d))) is ∙ changed_more f old k d lt ∙ ap (λ m. changed_below f m old) next

-- what was written through a slice of all seats

taken_back : (seats rest : List Seat) (k : ℕ) → length seats ≡ k → take k (seats ++ rest) ≡ seats
taken_back [] rest zero e = refl
taken_back [] rest (suc k) e = absurd (omega (arith, e))
taken_back (s ∷ seats) rest zero e = absurd (omega (arith, e))
taken_back (s ∷ seats) rest (suc k) e = ap (λ xs. s ∷ xs) (taken_back seats rest k (omega (arith, e)))

long_map : (f : Seat → Seat) (seats : List Seat) → length (map f seats) ≡ length seats
long_map f [] = refl
long_map f (s ∷ seats) = ap suc (long_map f seats)

pub all_told : (f : Seat → Seat) (old new rest : List Seat) (k : ℕ) → k ≡ length old → new ≡ map f old → take k (new ++ rest) ≡ map f old
all_told f old new rest k long told = taken_back new rest k (ap length told ∙ long_map f old ∙ sym long) ∙ told

-- the seat that stands at the place of a nexus, and room for one that is lacking

pub at_place : (seats : List Seat) (n : Nexus) (i : ℕ) (s : Seat) → SitsAt seats n i → s ≡ get_or seats i s → (seat_in seats n ≡ Some s) × (s.nexus ≡ n)
at_place seats n i s sits is = (sits.seat s ∙ ap Some (sym is), ap (λ (x : Seat). x.nexus) is ∙ sits.here s)

pub known_there : (seats : List Seat) (n : Nexus) (place : Result ℕ ℕ) → IsPlace seats n place → is_ok place ≡ is_some (seat_in seats n)
known_there seats n (Ok i) sits = ap is_some (sym (sits.seat (record { nexus = n; owner = None; attentions = []; task = None })))
known_there seats n (Err i) misses = ap is_some (sym misses.seat)

pub has_room : (o : Option Seat) (count most : ℕ) → o ≡ None → (is_some o ≡ true) ⊎ (count < most) → count < most
has_room o count most none (inl known) = absurd (false≢true (ap is_some (sym none) ∙ known))
has_room o count most none (inr lt) = lt

pub below_both : (a b c : ℕ) → a < b → b ≤ c → a < c
below_both a b c lt le = omega arith

pub one_more : (a b c : ℕ) → a ≡ b + 1 → b < c → a ≤ c
one_more a b c e lt = omega (arith, e)

pub within_both : (a b c : ℕ) → a ≤ b → b ≤ c → a ≤ c
within_both a b c le le' = omega arith

-- the seat at the place of a nexus after a step of its task
pub stepped_seat : (seats : List Seat) (n : Nexus) (i : ℕ) (s t : Seat) (out : StepOut) → SitsAt seats n i → s.nexus ≡ n → IfSome s.task (λ k. t ≡ with_task (task_after out k) s)
    → IfSome s.task (λ k. seat_in (set seats i t) ≡ set_at (seat_in seats) n (Some (with_task (task_after out k) s)))
stepped_seat seats n i s t out sits own is = by s.task is
  where
    by : (o : Option Task) → IfSome o (λ k. t ≡ with_task (task_after out k) s) → IfSome o (λ k. seat_in (set seats i t) ≡ set_at (seat_in seats) n (Some (with_task (task_after out k) s)))
    by None e = tt
    by (Some k) e = written seats n i t sits (ap (λ (x : Seat). x.nexus) e ∙ own) ∙ ap (λ (x : Seat). set_at (seat_in seats) n (Some x)) e
