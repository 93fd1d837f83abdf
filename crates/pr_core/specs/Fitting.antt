-- Tasks that fit a medium, under nexuses that are logged in.
use Rattle.std.specs.Prelude.{◌≡◌, ℕ, ◌≤◌, ◌+◌, true, List, Option, Some, None, is_some}
use Rattle.std.proofs.Props.{props}
use Rattle.pr_words.specs.declared.nexus.Nexus.{Nexus}
use Rattle.pr_words.specs.declared.nexus.Pair.{Pair}
use Rattle.pr_words.specs.declared.reservation.Reservation.{Reservation}
use Rattle.pr_words.specs.declared.reservation.Reservation.TheVariants.{Free, OfOne, OfAll}
use Rattle.pr_words.specs.declared.limits.TheConstants.{TRANSFER}
use Rattle.pr_grammar.specs.Standings.{Standing, is_port}
use Rattle.pr_model.specs.Registrants.{IsHeldIn, IsSound}
use Rattle.pr_model.specs.Worlds.{Task}
use Rattle.pr_core.specs.declared.seats.Seat.{Seat}
use Rattle.pr_core.specs.Seats.{owner_in, task_in}

-- its blocks lie within so many, and aren't too many for one transfer
pub record Fits (blocks : ℕ) (t : Task) : Type 0 where
  pub within : t.lba + t.count ≤ blocks
  pub few : t.count ≤ TRANSFER

-- so do those of all tasks
abbrev pub AllFit : ℕ → (Nexus → Option Seat) → Type 0
AllFit blocks seat = (n : Nexus) (t : Task) → task_in (seat n) ≡ Some t → Fits blocks t

-- a nexus that nobody has logged in has no task
abbrev pub AreOwned : (Nexus → Option Seat) → Type 0
AreOwned seat = (n : Nexus) → owner_in (seat n) ≡ None → task_in (seat n) ≡ None

-- each known nexus has one of the target's ports
abbrev pub HavePorts : (Nexus → Option Seat) → Type 0
HavePorts seat = (n : Nexus) → is_some (seat n) ≡ true → is_port n.port ≡ true

-- that a reservation is sound is one fact
is_held_once : (r : Reservation) (ps : List Pair) → IsProp (IsHeldIn r ps)
is_held_once Free ps = Prim.hlevel props
is_held_once (OfOne kind holder) ps = Prim.hlevel props
is_held_once (OfAll kind) ps = Prim.hlevel props

pub is_one_fact : (s : Standing) → IsProp (IsSound s)
is_one_fact s = is_held_once s.reservation s.pairs
