-- Spans of calls on a disk, from one state of it to a later one (this project's own).
use Rattle.std.specs.Prelude.{◌≡◌, ◌⊎◌, ℕ, ◌≤◌, List, length, Some, Result, OnOk}
use Rattle.pr_io.specs.Images.{Image, Story, Within, Written, Wrote, Moves}

-- what the disk may hold now: what a read gives, and what a power loss now leaves
abbrev pub Admits : Story → Image → Type 0
Admits s c = (s.now ≡ Some c) ⊎ s.may s.moment c

-- each image since the first state is of this kind; `before` is for a span that began earlier
pub record Goes (old new : Story) (During : Image → Type 0) : Type 0 where
  pub later : old.moment ≤ new.moment
  pub each : (c : Image) → new.may old.moment c → During c
  pub before : (t : ℕ) (c : Image) → t ≤ old.moment → new.may t c → old.may t c ⊎ During c

-- what was admitted, with any bytes in the range
abbrev pub Torn : Story → ℕ → ℕ → Image → Type 0
Torn s at n c = (d : Image) × Admits s d × Within at n d c

-- what was admitted, with these bytes
abbrev pub Has : Story → ℕ → List ℕ → Image → Type 0
Has s at bytes c = (d : Image) × Admits s d × Written at bytes d c

-- bytes were put: at each moment what was admitted may have any bytes there, and where it succeeded, in the end it has these
pub record Puts {T E : Type 0} (result : Result T E) (at : ℕ) (bytes : List ℕ) (old new : Story) : Type 0 where
  pub goes : Goes old new (Torn old at (length bytes))
  pub left : (c : Image) → Admits new c → Torn old at (length bytes) c
  pub done : OnOk result ((c : Image) → Admits new c → Has old at bytes c)
  pub now : Moves (Wrote result at bytes) old.now new.now

-- a sync alone: nothing comes that wasn't admitted, and after one that succeeds a power loss leaves what a read gives
pub record Settles {T E : Type 0} (result : Result T E) (old new : Story) : Type 0 where
  pub goes : Goes old new (Admits old)
  pub left : (c : Image) → Admits new c → Admits old c
  pub done : OnOk result ((c : Image) → new.may new.moment c → new.now ≡ Some c)
  pub now : new.now ≡ old.now
