-- Faults are counted, each once, and each failure shows in the count (this project's own).
use Rattle.std.specs.Prelude.{◌≡◌, ℕ, ◌+◌, ◌-◌, ◌^◌, ◌≤◌, min, Result, OnOk, OnErr}

-- the count of faults after one more; it stands still at its last value (this project's own)
abbrev pub next_fault : ℕ → ℕ
next_fault before = min (before + 1) (2 ^ 64 - 1)

-- the count rose; one that stands at its last value counts as risen (this project's own)
abbrev pub Rose : ℕ → ℕ → Type 0
Rose before now = next_fault before ≤ now

-- a failure is counted once and a success isn't, so no fault is passed over; the count never falls, and a failure raises it (this project's own)
pub record HasCause {T E : Type 0} (before now : ℕ) (result : Result T E) : Type 0 where
  pub later : before ≤ now
  pub failed : OnErr result (Rose before now)
  pub calm : OnOk result (now ≡ before)
  pub once : OnErr result (now ≡ next_fault before)
