-- What the steps see of a seat at a gate's table. All of this is this project's own.
use Rattle.std.specs.Prelude.{◌≡◌, ℕ, [], ◌∷◌, Option, None, IsSome, length}
use Rattle.atomic_table.specs.Seated.{TableId}
use Rattle.atomic_table.specs.declared.shared.Seat.{Seat}
use Rattle.pr_gate.specs.declared.view.Held.{Held}
use Rattle.pr_gate.specs.declared.view.View.{View}
use Rattle.pr_gate.specs.declared.view.Stage.TheVariants.{Idle, Inside}

-- a table of two words and one slot (this project's own)
abbrev pub IsSized : TableId → Type 0
IsSized z = (z.words ≡ 2) × (z.slots ≡ 1)

module _ {T E G : Type 0} where
  -- t is a later state of the seat s (this project's own)
  abbrev pub IsSameSeat : Seat (Option (Held T E)) (View E G) → Seat (Option (Held T E)) (View E G) → Type 0
  IsSameSeat s t = (t.table_id ≡ s.table_id) × (t.id ≡ s.id)

  -- a pass's seat with no turn under way (this project's own)
  abbrev pub IsIdle : Seat (Option (Held T E)) (View E G) → Type 0
  IsIdle s = (s.me.0.stage ≡ Idle) × (s.me.1 ≡ []) × IsSome s.me.0.number

  -- a seat with the turn of a ticket, which has seen as many entries, and whose slot is empty (this project's own)
  abbrev pub IsServed : Seat (Option (Held T E)) (View E G) → Type 0
  IsServed s = ((t : ℕ) × (s.me.0.stage ≡ Inside t) × (length s.me.0.seen ≡ t)) × (s.me.1 ≡ (0, None) ∷ [])
