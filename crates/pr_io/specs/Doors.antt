-- Connections that come in at a door (this project's own).
use Rattle.std.specs.Prelude.{◌≡◌, ℕ, ◌+◌, List, ◌∷◌, Option, Some, None, Result, Ok, Err, OnOk, OnErr}
use Rattle.pr_io.specs.Told.{ToldStreams}

-- where it is told which connections wait, the first of them was taken, or, where the call fails, none (this project's own)
abbrev pub Takes : {C E : Type 0} → Option (List ToldStreams) → Option (List ToldStreams) → Result C E → (C → ToldStreams) → Type 0
Takes None now result tells = now ≡ None
Takes (Some before) None result tells = ⊥
Takes (Some before) (Some now) (Ok c) tells = before ≡ tells c ∷ now
Takes (Some before) (Some now) (Err e) tells = now ≡ before

-- each connection that is taken is counted, and nothing else is (this project's own)
pub record Counts {C E : Type 0} (before now : ℕ) (result : Result C E) : Type 0 where
  pub taken : OnOk result (now ≡ before + 1)
  pub none : OnErr result (now ≡ before)
