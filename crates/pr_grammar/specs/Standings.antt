-- Where registrations and the reservation stand (SPC-4, persistent reservations).
use Rattle.std.specs.Prelude.{ℕ, nat_lt, ◌&&◌, Bool, true, false, List, [], ◌∷◌, Option, Some, None, if◌then◌else◌, IsTrue}
use Rattle.std.specs.List.{list_any, AllPairs}
use Rattle.pr_words.specs.declared.nexus.Nexus.{Nexus}
use Rattle.pr_words.specs.declared.nexus.Pair.{Pair}
use Rattle.pr_words.specs.declared.reservation.Kind.{Kind}
use Rattle.pr_words.specs.declared.reservation.Kind.TheVariants.{WriteAll, ExclusiveAll}
use Rattle.pr_words.specs.declared.reservation.Reservation.{Reservation}
use Rattle.pr_words.specs.declared.reservation.Reservation.TheVariants.{Free, OfOne, OfAll}
use Rattle.pr_words.specs.Orders.{same_nexus, comes_before}

-- the registrations by ascending nexus, the reservation, PRGENERATION, and the APTPL bit accepted last
pub record Standing : Type 0 where
  pub pairs : List Pair
  pub reservation : Reservation
  pub generation : ℕ
  pub preserve : Bool

-- what outlives a power loss: nothing, or registrations and the reservation (SPC-4, preserving persistent reservations)
pub data Kept : Type 0 where
  Nothing : Kept
  Some_kept : (pairs : List Pair) → (reservation : Reservation) → Kept

-- target ports are 1 to 16
abbrev pub is_port : ℕ → Bool
is_port port = nat_lt 0 port && nat_lt port 17

-- the all registrants types
abbrev pub is_all : Kind → Bool
is_all WriteAll = true
is_all ExclusiveAll = true
is_all _ = false

-- the registration of a nexus
abbrev pub is_at : Nexus → Pair → Bool
is_at n p = same_nexus p.nexus n

abbrev pub is_registered : List Pair → Nexus → Bool
is_registered ps n = list_any (is_at n) ps

-- the key with which a nexus is registered
abbrev pub key_of : List Pair → Nexus → Option ℕ
key_of [] n = None
key_of (p ∷ ps) n = if is_at n p then Some p.key.0 else key_of ps n

-- the held type
abbrev pub kind_of : Reservation → Option Kind
kind_of Free = None
kind_of (OfOne kind holder) = Some kind
kind_of (OfAll kind) = Some kind

-- the one nexus that holds it
abbrev pub holder_of : Reservation → Option Nexus
holder_of Free = None
holder_of (OfOne kind holder) = Some holder
holder_of (OfAll kind) = None

-- the reservation holder: that one nexus, or each registered nexus for the all registrants types
abbrev pub is_holder_in : Reservation → List Pair → Nexus → Bool
is_holder_in Free ps n = false
is_holder_in (OfOne kind holder) ps n = same_nexus holder n
is_holder_in (OfAll kind) ps n = is_registered ps n

abbrev pub is_holder : Standing → Nexus → Bool
is_holder s n = is_holder_in s.reservation s.pairs n

-- by ascending nexus, one registration for each
abbrev pub IsAscending : List Pair → Type 0
IsAscending ps = AllPairs (λ (p q : Pair). IsTrue (comes_before p.nexus q.nexus)) ps
