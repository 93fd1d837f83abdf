-- What contracts see of a pass, of a note and of a gate. All of this is this project's own.
use Rattle.std.specs.Prelude.{◌≡◌, ℕ, ◌-◌, List, Option, Some}
use mathlib.Core.List.{IsPrefix}
use Rattle.pr_gate.specs.declared.view.View.{View}
use Rattle.pr_gate.specs.declared.pass.Gate.{Gate}
use Rattle.pr_gate.specs.declared.pass.Pass.{Pass}
use Rattle.pr_gate.specs.declared.pass.Note.{Note}
use Rattle.pr_gate.specs.declared.pass.Retired.{Retired}
use Rattle.pr_gate.specs.Entries.{own}
use Rattle.pr_gate.specs.Seats.{IsSameSeat, IsIdle, IsServed}

module _ {T E G : Type 0} where
  -- the pass came from this gate (this project's own)
  abbrev pub IsOf : {g : _} → Gate T E G → Pass T E G g → Type 0
  IsOf gate pass = pass.seat.table_id ≡ gate.table.shared.table_id

  -- the note came from this gate (this project's own)
  abbrev pub IsNoteOf : {g : _} → Gate T E G → Note T E G g → Type 0
  IsNoteOf gate note = note.seat.table_id ≡ gate.table.shared.table_id

  -- the number by which entries name the pass (this project's own)
  abbrev pub number_of : {g : _} → Pass T E G g → ℕ
  number_of pass = pass.number

  -- the entries that the pass has seen, a beginning of the history (this project's own)
  abbrev pub seen_of : {g : _} → Pass T E G g → List E
  seen_of pass = pass.seat.me.0.seen

  -- the entries that the pass made (this project's own)
  abbrev pub own_of : {g : _} → Pass T E G g → List E
  own_of pass = pass.seat.me.0.mine

  -- the ground of the value that the gate was made with (this project's own)
  abbrev pub ground_of : {g : _} → Pass T E G g → Option G
  ground_of pass = pass.seat.me.0.ground

  -- how many passes it can still make (this project's own)
  abbrev pub spare_of : {g : _} → Pass T E G g → ℕ
  spare_of pass = pass.seat.me.0.spare

  -- it has no turn (this project's own)
  abbrev pub IsFree : {g : _} → Pass T E G g → Type 0
  IsFree pass = IsIdle pass.seat

  -- it has the turn (this project's own)
  abbrev pub IsInside : {g : _} → Pass T E G g → Type 0
  IsInside pass = IsServed pass.seat

  -- the entries that the note's pass had seen (this project's own)
  abbrev pub noted_of : {g : _} → Note T E G g → List E
  noted_of note = note.seat.me.0.seen

  -- the ground of the value that the note's gate was made with (this project's own)
  abbrev pub note_ground_of : {g : _} → Note T E G g → Option G
  note_ground_of note = note.seat.me.0.ground

  -- the retired pass came from this gate (this project's own)
  abbrev pub IsRetiredOf : {g : _} → Gate T E G → Retired T E G g → Type 0
  IsRetiredOf gate retired = retired.seat.table_id ≡ gate.table.shared.table_id

  -- the number by which entries name it (this project's own)
  abbrev pub retired_number : {g : _} → Retired T E G g → Option ℕ
  retired_number retired = retired.seat.me.0.number

  -- the entries that it had seen (this project's own)
  abbrev pub retired_seen : {g : _} → Retired T E G g → List E
  retired_seen retired = retired.seat.me.0.seen

  -- the entries that it made (this project's own)
  abbrev pub retired_own : {g : _} → Retired T E G g → List E
  retired_own retired = retired.seat.me.0.mine

  -- q is a later state of the pass p, of the same gate, number, ground and right to make passes (this project's own)
  abbrev pub IsSamePass : {g : _} → Pass T E G g → Pass T E G g → Type 0
  IsSamePass p q = IsSameSeat p.seat q.seat × (q.number ≡ p.number) × (q.next ≡ p.next) × (q.seat.me.0.spare ≡ p.seat.me.0.spare) × (q.seat.me.0.ground ≡ p.seat.me.0.ground)

  -- the pass q is as p was (this project's own)
  abbrev pub IsUnchanged : {g : _} → Pass T E G g → Pass T E G g → Type 0
  IsUnchanged p q = IsSamePass p q × (q.seat.me ≡ p.seat.me)

  -- q is the pass p after it made one more pass (this project's own)
  abbrev pub HasMade : {g : _} → Pass T E G g → Pass T E G g → Type 0
  HasMade p q = IsSameSeat p.seat q.seat × (q.number ≡ p.number) × (q.seat.me ≡ (record p.seat.me.0 { spare = p.seat.me.0.spare - 1 }, p.seat.me.1))

  -- the value stands for a history that begins with all that a view has seen and has no other entries of number n than the view's own, and it has the view's ground (this project's own)
  pub record Ends (number : E → ℕ) (ground : T → G) (stands : T → List E → Type 0) (n : ℕ) (v : View E G) (value : T) : Type 0 where
    pub history : List E
    pub stood : stands value history
    pub begins : IsPrefix v.seen history
    pub own_all : own number n history ≡ v.mine
    pub same_ground : v.ground ≡ Some (ground value)

  -- the value is what the gate of the pass leaves at its end (this project's own)
  abbrev pub IsLeft : {g : _} → (E → ℕ) → (T → G) → (T → List E → Type 0) → Pass T E G g → T → Type 0
  IsLeft number ground stands pass value = Ends number ground stands pass.number pass.seat.me.0 value
