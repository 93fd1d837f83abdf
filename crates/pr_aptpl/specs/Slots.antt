-- What a keeper knows of the two slots on all that its disk may hold (this project's own).
use Rattle.std.specs.Prelude.{◌≡◌, ℕ, ◌<◌, ◌≤◌, ◌+◌, ◌*◌, Bool, not, List, ◌∷◌, length, Option, Some, None}
use Rattle.pr_grammar.specs.Standings.{Kept, Nothing}
use Rattle.pr_grammar.specs.Files.{Slot, Closed, Open, restores, slot_at, place_of, first_wrong, next_turn, slot, cut, slot_size}
use Rattle.pr_grammar.specs.declared.file.FileLayout.{FileLayout}
use Rattle.pr_io.specs.Images.{Image, Story}
use Rattle.pr_model.specs.Keeping.{IsIn}
use Rattle.pr_aptpl.specs.Gates.{Guarded}

-- the slot that isn't written next is current, with this turn, or no slot is
abbrev pub IsCurrent : Option ℕ → List Kept → ℕ → Slot → Type 0
IsCurrent None ks gate Closed = IsIn ks Nothing × (gate ≡ 0xA5 → ⊥)
IsCurrent (Some t) ks gate (Open u k) = (u ≡ t) × (u < 3) × IsIn ks k
IsCurrent turn ks gate s = ⊥

-- the turn of the slot that is written next
abbrev pub turn_after : Option ℕ → ℕ
turn_after None = 0
turn_after (Some t) = next_turn t

-- the head and the other slot, which a save leaves as they are
pub record SlotFacts (head : List ℕ) (l : FileLayout) (target : Bool) (turn : Option ℕ) (ks : List Kept) (c : Image) : Type 0 where
  pub whole : first_wrong head 0 c ≡ None
  pub other : IsCurrent turn ks (c (place_of l (not target))) (slot_at l (not target) c)

-- the parts of the file stand apart
pub record IsApart (head : List ℕ) (l : FileLayout) : Type 0 where
  pub first : length head ≤ l.slot0
  pub slots : l.slot0 + slot_size l.limit ≤ l.slot1

-- once its gate is open, the slot that is written next has this turn and holds this
abbrev pub IsFilled : FileLayout → Bool → Option ℕ → Kept → Image → Type 0
IsFilled l target turn k c = slot l.limit (place_of l target) (0xA5 ∷ cut c (place_of l target + 1) (15 + 18 * l.limit)) ≡ Open (turn_after turn) k

-- all that the disk may hold restores one of these, also whatever a save does to it next
abbrev pub Stands : List ℕ → FileLayout → Bool → Option ℕ → Bool → Story → List Kept → Type 0
Stands head l target turn may_be_open s ks = Guarded (restores head l) (place_of l target) (SlotFacts head l target turn) may_be_open s ks
