-- What a PERSISTENT RESERVE OUT of a nexus makes of the registrations and the reservation (SPC-4, PERSISTENT RESERVE OUT).
use Rattle.std.specs.Prelude.{ℕ, ◌+◌, ◌%◌, ◌^◌, ◌==◌, ◌&&◌, nat_lt, not, Bool, true, false, List, [], length, Option, Some, None, if◌then◌else◌}
use Rattle.std.specs.List.{list_any}
use Rattle.pr_words.specs.declared.nexus.Nexus.{Nexus}
use Rattle.pr_words.specs.declared.nexus.Pair.{Pair}
use Rattle.pr_words.specs.declared.code.Code.{Code}
use Rattle.pr_words.specs.declared.reservation.Kind.{Kind}
use Rattle.pr_words.specs.declared.reservation.Kind.TheVariants.{WriteExclusive, ExclusiveAccess}
use Rattle.pr_words.specs.declared.reservation.Reservation.{Reservation}
use Rattle.pr_words.specs.declared.reservation.Reservation.TheVariants.{Free, OfOne, OfAll}
use Rattle.pr_words.specs.Kinds.{kind_at, kind_code}
use Rattle.pr_words.specs.Orders.{same_nexus}
use Rattle.pr_words.specs.declared.code.TheConstants.Code.{INSUFFICIENT_REGISTRATION_RESOURCES, INVALID_FIELD_IN_CDB, INVALID_FIELD_IN_PARAMETER_LIST, INVALID_RELEASE_OF_PERSISTENT_RESERVATION, REGISTRATIONS_PREEMPTED, RESERVATIONS_PREEMPTED, RESERVATIONS_RELEASED}
use Rattle.pr_grammar.specs.Standings.{Standing, is_at, is_registered, key_of, kind_of, is_holder}
use Rattle.pr_model.specs.Registrants.{pair, has_key, with_pair, but_those, just_those, held}

-- what is asked for: service action, scope and type of the CDB, and the parameter list's keys and APTPL bit
pub record ReserveOut : Type 0 where
  pub action : ℕ
  pub scope : ℕ
  pub kind : ℕ
  pub key : ℕ
  pub action_key : ℕ
  pub aptpl : Bool

-- GOOD, RESERVATION CONFLICT, or CHECK CONDITION with a code
pub data Verdict : Type 0 where
  Good : Verdict
  Conflict : Verdict
  Bad : (code : Code) → Verdict

-- the standing after it, the verdict, the registrations that were removed, and the attention for the nexuses of those and of the registrations left, the caller's own apart
pub record Acted : Type 0 where
  pub standing : Standing
  pub verdict : Verdict
  pub removed : List Pair
  pub removed_code : Option Code
  pub stay_code : Option Code

-- the types that one nexus holds for itself alone
abbrev pub is_single : Kind → Bool
is_single WriteExclusive = true
is_single ExclusiveAccess = true
is_single _ = false

-- the other registrants are told that a reservation ended which they shared
abbrev pub missed : Kind → Option Code
missed kind = if is_single kind then None else Some RESERVATIONS_RELEASED

abbrev pub stays : Standing → Verdict → Acted
stays s v = record { standing = s; verdict = v; removed = []; removed_code = None; stay_code = None }

abbrev pub leads : Standing → Acted
leads s = stays s Good

-- PRGENERATION counts modulo 2^32
abbrev pub risen : ℕ → ℕ
risen g = (g + 1) % 2 ^ 32

-- REGISTER, and REGISTER AND IGNORE EXISTING KEY

-- the reservation where one nexus unregisters and these are left
abbrev pub without_holder : Nexus → List Pair → Reservation → Reservation
without_holder n left Free = Free
without_holder n left (OfOne kind holder) = if same_nexus holder n then Free else OfOne kind holder
without_holder n left (OfAll kind) = if length left == 0 then Free else OfAll kind

-- what those left are told
abbrev pub holder_left : Nexus → Reservation → Option Code
holder_left n (OfOne kind holder) = if same_nexus holder n then missed kind else None
holder_left n _ = None

abbrev pub registered : Standing → Nexus → ℕ → Bool → Standing
registered s n key aptpl = record s { pairs = with_pair s.pairs (pair n key); generation = risen s.generation; preserve = aptpl }

abbrev pub unregistered : Standing → Nexus → Bool → Standing
unregistered s n aptpl =
    record {
      pairs = but_those (is_at n) s.pairs;
      reservation = without_holder n (but_those (is_at n) s.pairs) s.reservation;
      generation = risen s.generation;
      preserve = aptpl;
    }

abbrev pub register : ℕ → Standing → Nexus → ℕ → Bool → Acted
register limit s n key aptpl =
    if key == 0 then (if is_registered s.pairs n then record (leads (unregistered s n aptpl)) { stay_code = holder_left n s.reservation } else leads s) else
    if not (is_registered s.pairs n) && not (nat_lt (length s.pairs) limit) then stays s (Bad INSUFFICIENT_REGISTRATION_RESOURCES) else
    leads (registered s n key aptpl)

-- the key that a REGISTER has to name, which is zero of an unregistered nexus
abbrev pub key_or_zero : Option ℕ → ℕ
key_or_zero None = 0
key_or_zero (Some k) = k

-- RESERVE
abbrev pub reserved : Standing → Nexus → Option Kind → Acted
reserved s n None = stays s (Bad INVALID_FIELD_IN_CDB)
reserved s n (Some k) = leads (record s { reservation = held k n })

abbrev pub reserve_of : Option Kind → Standing → Nexus → ℕ → Acted
reserve_of None s n kind = reserved s n (kind_at kind)
reserve_of (Some k) s n kind = if is_holder s n && kind_code k == kind then leads s else stays s Conflict

abbrev pub reserve : Standing → Nexus → ℕ → Acted
reserve s n kind = reserve_of (kind_of s.reservation) s n kind

-- RELEASE
abbrev pub release_of : Option Kind → Standing → Nexus → ℕ → ℕ → Acted
release_of None s n scope kind = leads s
release_of (Some k) s n scope kind =
    if not (is_holder s n) then leads s else
    if scope == 0 && kind_code k == kind then record (leads (record s { reservation = Free })) { stay_code = missed k } else
    stays s (Bad INVALID_RELEASE_OF_PERSISTENT_RESERVATION)

abbrev pub release : Standing → Nexus → ℕ → ℕ → Acted
release s n scope kind = release_of (kind_of s.reservation) s n scope kind

-- the pairs for which the test holds go
abbrev pub removing : Standing → (Pair → Bool) → Reservation → Code → Option Code → Acted
removing s goes reservation removed_code stay_code =
    record {
      standing = record s { pairs = but_those goes s.pairs; reservation = reservation; generation = risen s.generation };
      verdict = Good;
      removed = just_those goes s.pairs;
      removed_code = Some removed_code;
      stay_code = stay_code;
    }

-- CLEAR
abbrev pub clear : Standing → Acted
clear s = removing s (λ _. true) Free RESERVATIONS_PREEMPTED None

-- PREEMPT

abbrev pub is_own : Option ℕ → ℕ → Bool
is_own None k = false
is_own (Some own) k = own == k

-- the key is that of the one nexus which holds the reservation
abbrev pub holds_with : Reservation → List Pair → ℕ → Bool
holds_with Free ps k = false
holds_with (OfOne kind holder) ps k = is_own (key_of ps holder) k
holds_with (OfAll kind) ps k = false

abbrev pub is_holders_key : Standing → ℕ → Bool
is_holders_key s k = holds_with s.reservation s.pairs k

abbrev pub is_of_all : Reservation → Bool
is_of_all Free = false
is_of_all (OfOne kind holder) = false
is_of_all (OfAll kind) = true

-- a reservation of all ends where nobody is left
abbrev pub while_any : List Pair → Reservation → Reservation
while_any left Free = Free
while_any left (OfOne kind holder) = OfOne kind holder
while_any left (OfAll kind) = if length left == 0 then Free else OfAll kind

-- the code of the held type, or 0
abbrev pub held_code : Reservation → ℕ
held_code Free = 0
held_code (OfOne kind holder) = kind_code kind
held_code (OfAll kind) = kind_code kind

-- those that go leave the reservation to the caller, with the asked type
abbrev pub taken : Standing → Nexus → ℕ → (Pair → Bool) → Option Kind → Acted
taken s n kind goes None = stays s (Bad INVALID_FIELD_IN_CDB)
taken s n kind goes (Some k) = removing s goes (held k n) REGISTRATIONS_PREEMPTED (if kind == held_code s.reservation then None else Some RESERVATIONS_RELEASED)

abbrev pub taking : Standing → Nexus → ℕ → ℕ → (Pair → Bool) → Acted
taking s n scope kind goes = taken s n kind goes (if scope == 0 then kind_at kind else None)

abbrev pub preempt : Standing → Nexus → ℕ → ℕ → ℕ → Acted
preempt s n scope kind key =
    if key == 0 then
    (if is_of_all s.reservation then taking s n scope kind (λ p. not (is_at n p)) else stays s (Bad INVALID_FIELD_IN_PARAMETER_LIST)) else
    if is_holders_key s key then taking s n scope kind (λ p. has_key key p && not (is_at n p)) else
    if list_any (has_key key) s.pairs then
    removing s (has_key key) (while_any (but_those (has_key key) s.pairs) s.reservation) REGISTRATIONS_PREEMPTED None else
    stays s Conflict

-- the check of the registration, and the rules of the service action; the actions are 00h to 06h
abbrev pub acted : ℕ → Standing → Nexus → ReserveOut → Acted
acted limit s n o =
    if o.action == 0 then (if key_or_zero (key_of s.pairs n) == o.key then register limit s n o.action_key o.aptpl else stays s Conflict) else
    if o.action == 6 then register limit s n o.action_key o.aptpl else
    if not (is_own (key_of s.pairs n) o.key) then stays s Conflict else
    if o.action == 1 then reserve s n o.kind else
    if o.action == 2 then release s n o.scope o.kind else
    if o.action == 3 then clear s else preempt s n o.scope o.kind o.action_key
