-- What opening a file gives (this project's own).
use Rattle.std.specs.Prelude.{◌≡◌, ℕ, ◌≤◌, ◌==◌, ◌+◌, Bool, true, false, not, List, [], ◌∷◌, Option, Some, None, Result, Ok, Err, if◌then◌else◌}
use Rattle.pr_grammar.specs.Standings.{Kept, Nothing}
use Rattle.pr_grammar.specs.Files.{Slot, Closed, Open, Keeps, Bad, both, restores}
use Rattle.pr_grammar.specs.declared.file.FileLayout.{FileLayout}
use Rattle.pr_io.specs.Causes.{Rose, next_fault}
use Rattle.pr_io.specs.Images.{Image, Story}
use Rattle.pr_io.specs.Spans.{Admits}
use Rattle.pr_aptpl.specs.Slots.{Stands}
use Rattle.pr_aptpl.specs.declared.aim.Aim.{Aim}
use Rattle.pr_aptpl.specs.declared.fault.OpenFault.{OpenFault}
use Rattle.pr_aptpl.specs.declared.fault.OpenFault.TheVariants.{BadFile, DiskFault}

-- the disk failed just once where that is the fault, else it didn't
abbrev pub IsFaultOf : OpenFault → ℕ → ℕ → Type 0
IsFaultOf DiskFault before now = (now ≡ next_fault before) × Rose before now
IsFaultOf fault before now = now ≡ before

-- the first byte that is read and isn't the one that it has to be, by its place
abbrev pub first_diff : List ℕ → List ℕ → ℕ → Option ℕ
first_diff (b ∷ bs) (c ∷ cs) at = if c == b then first_diff bs cs (at + 1) else Some at
first_diff bs cs at = None

-- what is told of the head
abbrev pub HeadSays : {T : Type 0} → Result T OpenFault → Option ℕ → Type 0
HeadSays (Ok x) wrong = wrong ≡ None
HeadSays (Err (BadFile place)) wrong = wrong ≡ Some place
HeadSays (Err fault) wrong = Unit {0}

-- one of two slots
abbrev pub first_of : Bool → Slot → Slot → Slot
first_of true a b = b
first_of false a b = a

-- the slot that isn't written next is current with this turn and content, or none is
abbrev pub IsOther : Option ℕ → Kept → Slot → Type 0
IsOther None k s = (s ≡ Closed) × (k ≡ Nothing)
IsOther (Some t) k s = s ≡ Open t k

abbrev pub IsTarget : Bool → Slot → Type 0
IsTarget false s = s ≡ Closed
IsTarget true s = (t : ℕ) × (k : Kept) × (s ≡ Open t k)

-- two slots give what is kept, and which of them is written next; the place is that of equal turns
abbrev pub Joins : ℕ → Result (Aim × Kept) ℕ → Slot → Slot → Type 0
Joins equal (Err place) a b = both equal a b ≡ Bad place
Joins equal (Ok r) a b =
    (both equal a b ≡ Keeps r.1) × IsOther r.0.turn r.1 (first_of (not r.0.target) a b) × IsTarget r.0.may_be_open (first_of r.0.target a b)

abbrev pub IsNotBad : OpenFault → Type 0
IsNotBad (BadFile place) = ⊥
IsNotBad fault = Unit {0}

-- what was read, and each image since the first sync, restores this; so does all that the disk may hold at the end
pub record OpensAt (head : List ℕ) (l : FileLayout) (old new : Story) (aim : Aim) (k : Kept) : Type 0 where
  pub read : (image : Image) → old.now ≡ Some image → restores head l image ≡ Keeps k
  pub stands : Stands head l aim.target aim.turn aim.may_be_open new (k ∷ [])
  pub at_end : (c : Image) → Admits new c → restores head l c ≡ Keeps k
  pub since_sync : (t : ℕ) × (old.moment ≤ t) × (t ≤ new.moment) × ((c : Image) → new.may t c → restores head l c ≡ Keeps k)

-- what was read breaks the grammar first at the place that is answered
abbrev pub FailsAt : List ℕ → FileLayout → OpenFault → Story → Type 0
FailsAt head l (BadFile place) old = (image : Image) → old.now ≡ Some image → restores head l image ≡ Bad place
FailsAt head l fault old = Unit {0}
