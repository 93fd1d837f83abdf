-- A part of a file behind a gate, which is one byte: a keeper closes it, writes the part, and opens it (this project's own).
use Rattle.std.specs.Prelude.{◌≡◌, ℕ, Bool, List, [], ◌∷◌, MatchBool, Result, OnOk, OnErr, false}
use Rattle.pr_grammar.specs.Standings.{Kept}
use Rattle.pr_grammar.specs.Files.{Restoration}
use Rattle.pr_io.specs.Images.{Image, Story, Within}
use Rattle.pr_io.specs.Spans.{Admits, Puts, Settles}
use Rattle.pr_model.specs.Stamps.{IsOneOf}

-- An image, of whose places outside the part these facts hold. Where the gate may be open, whatever stands there, it restores
-- one of these kept values; where it may not, it isn't open.
pub record Guards (restored : Image → Restoration) (gate : ℕ) (Facts : List Kept → Image → Type 0) (may_be_open : Bool) (ks : List Kept) (c : Image) : Type 0 where
  pub facts : Facts ks c
  pub gate_is : MatchBool may_be_open ((d : Image) → Within gate 1 c d → IsOneOf ks (restored d)) (c gate ≡ 0xA5 → ⊥)

-- all that a disk may hold is such an image
abbrev pub Guarded : (Image → Restoration) → ℕ → (List Kept → Image → Type 0) → Bool → Story → List Kept → Type 0
Guarded restored gate Facts may_be_open s ks = (c : Image) → Admits s c → Guards restored gate Facts may_be_open ks c

-- a gate was closed: written and synced where it might be open, else synced alone; where it succeeded the gate isn't open
pub record Closes {T E : Type 0} (result : Result T E) (gate : ℕ) (was now : Bool) (old new : Story) : Type 0 where
  pub call : MatchBool was (Puts result gate (0 ∷ []) old new) (Settles result old new)
  pub closed : OnOk result (now ≡ false)
  pub stays : OnErr result (now ≡ was)
