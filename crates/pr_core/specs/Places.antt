-- Where the seat of a nexus stands among seats in order (this project's own).
use Rattle.std.specs.Prelude.{◌≡◌, ℕ, ◌<◌, ◌≤◌, Bool, true, false, List, [], ◌∷◌, length, slice_index_or, Option, Some, None, if◌then◌else◌, IsTrue, Result, MatchResult}
use Rattle.std.specs.List.{AllPairs, AllWithin}
use Rattle.pr_words.specs.declared.nexus.Nexus.{Nexus}
use Rattle.pr_words.specs.Orders.{same_nexus, comes_before}
use Rattle.pr_core.specs.declared.seats.Seat.{Seat}

-- the seat of a nexus
abbrev pub seat_in : List Seat → Nexus → Option Seat
seat_in [] n = None
seat_in (s ∷ seats) n = if same_nexus s.nexus n then Some s else seat_in seats n

-- by ascending nexus, so that no two are of one nexus
abbrev pub IsAscending : List Seat → Type 0
IsAscending seats = AllPairs (λ (s t : Seat). IsTrue (comes_before s.nexus t.nexus)) seats

-- its nexus comes before this one, or after it
abbrev pub is_earlier : Nexus → Seat → Bool
is_earlier n s = comes_before s.nexus n

abbrev pub is_later : Nexus → Seat → Bool
is_later n s = comes_before n s.nexus

-- its seat stands at this place
pub record SitsAt (seats : List Seat) (n : Nexus) (i : ℕ) : Type 0 where
  pub within : i < length seats
  pub earlier : AllWithin (λ s. is_earlier n s ≡ true) seats 0 i
  pub here : (d : Seat) → (slice_index_or seats i d).nexus ≡ n
  pub seat : (d : Seat) → seat_in seats n ≡ Some (slice_index_or seats i d)

-- it has no seat, and would have it at this place
pub record MissesAt (seats : List Seat) (n : Nexus) (i : ℕ) : Type 0 where
  pub within : i ≤ length seats
  pub earlier : AllWithin (λ s. is_earlier n s ≡ true) seats 0 i
  pub later : AllWithin (λ s. is_later n s ≡ true) seats i (length seats)
  pub seat : seat_in seats n ≡ None

-- the place of its seat, or else the place where it would stand
abbrev pub IsPlace : List Seat → Nexus → Result ℕ ℕ → Type 0
IsPlace seats n place = MatchResult place (SitsAt seats n) (MissesAt seats n)

-- those before a nexus stand below this place, and the others from it on
pub record Divides (seats : List Seat) (n : Nexus) (i : ℕ) : Type 0 where
  pub within : i ≤ length seats
  pub below : AllWithin (λ s. is_earlier n s ≡ true) seats 0 i
  pub above : AllWithin (λ s. is_earlier n s ≡ false) seats i (length seats)
