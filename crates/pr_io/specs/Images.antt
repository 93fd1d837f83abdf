-- What a disk holds, and what a power loss may leave of it (this project's own).
use Rattle.std.specs.Prelude.{◌≡◌, ◌⊎◌, ℕ, ◌+◌, ◌<◌, ◌≤◌, List, length, slice_index, Option, Some, None, Result, OnOk, MatchResult}

-- an image: the byte in each place
abbrev pub Image : Type 0
Image = ℕ → ℕ

abbrev pub image_of : List ℕ → Image
image_of bytes = λ i. slice_index bytes i

-- What a disk tells: what a read gives, where that is told; a moment, which never falls; and the images that a power loss
-- at some moment since that one may leave. A disk that doesn't tell the images admits none, so that what is said of each of them is said of none.
pub record Story : Type 1 where
  pub now : Option Image
  pub moment : ℕ
  pub may : ℕ → Image → Type 0

-- the image has these bytes from a place on
abbrev pub Holds : ℕ → List ℕ → Image → Type 0
Holds at bytes image = (i : ℕ) → i < length bytes → image (at + i) ≡ slice_index bytes i

-- any bytes in a range, the same elsewhere
abbrev pub Within : ℕ → ℕ → Image → Image → Type 0
Within at n old new = (i : ℕ) → (i < at) ⊎ (at + n ≤ i) → new i ≡ old i

-- these bytes from a place on, the same elsewhere
abbrev pub Written : ℕ → List ℕ → Image → Image → Type 0
Written at bytes old new = Holds at bytes new × Within at (length bytes) old new

-- a write that failed may leave anything in its range
abbrev pub Wrote : {T E : Type 0} → Result T E → ℕ → List ℕ → Image → Image → Type 0
Wrote result at bytes old new = MatchResult result (λ _. Written at bytes old new) (λ _. Within at (length bytes) old new)

-- the bytes of a read, where they are told
abbrev pub Reads : Option Image → ℕ → List ℕ → Type 0
Reads None at bytes = Unit {0}
Reads (Some image) at bytes = Holds at bytes image

-- what is told goes on being told, and moves by a step
abbrev pub Moves : (Image → Image → Type 0) → Option Image → Option Image → Type 0
Moves step None now = now ≡ None
Moves step (Some old) None = ⊥
Moves step (Some old) (Some new) = step old new

-- a call that changes nothing of what the disk holds: each image since a moment before it was one already
pub record Stays (old new : Story) : Type 0 where
  pub now : new.now ≡ old.now
  pub later : old.moment ≤ new.moment
  pub may : (t : ℕ) (c : Image) → t ≤ old.moment → new.may t c → old.may t c

-- a write: each image since a moment before it was one already, or is one since the call's start; and the latter are those
-- that a power loss just before the call may leave, with any bytes in the range
pub record Writes {T E : Type 0} (result : Result T E) (at : ℕ) (bytes : List ℕ) (old new : Story) : Type 0 where
  pub now : Moves (Wrote result at bytes) old.now new.now
  pub later : old.moment ≤ new.moment
  pub before : (t : ℕ) (c : Image) → t ≤ old.moment → new.may t c → old.may t c ⊎ new.may old.moment c
  pub torn : (c : Image) → new.may old.moment c → (d : Image) × old.may old.moment d × Within at (length bytes) d c

-- a sync: after one that succeeds a power loss leaves what a read gives, and no sync changes that
pub record Syncs {T E : Type 0} (result : Result T E) (old new : Story) : Type 0 where
  pub stays : Stays old new
  pub kept : OnOk result ((c : Image) → new.may new.moment c → new.now ≡ Some c)

-- what a power loss may leave it may leave still
abbrev pub GoesOn : Story → Story → Type 0
GoesOn old new = (c : Image) → old.may old.moment c → new.may new.moment c

-- a range is pending: a power loss may leave any bytes in it, beside what it may leave elsewhere
abbrev pub IsPending : ℕ → ℕ → Story → Story → Type 0
IsPending at n old new = (d c : Image) → old.may old.moment d → Within at n d c → new.may new.moment c

-- what is told by a disk that tells what a read gives alone
abbrev pub read_alone : List ℕ → Story
read_alone bytes = record { now = Some (image_of bytes); moment = 0; may = λ t c. ⊥ }

-- what is told by a disk that tells nothing
abbrev pub untold : Story
untold = record { now = None; moment = 0; may = λ t c. ⊥ }
