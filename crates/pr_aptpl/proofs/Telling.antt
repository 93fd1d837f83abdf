-- A disk that tells what a read gives goes on telling it.
use Rattle.std.proofs.Common.{◌≡◌, ℕ, Bool, true, false, List, [], ◌∷◌, Option, Some, None, is_some, MatchBool, Result, refl, ap}
use Rattle.pr_io.specs.Images.{Image, Story, Moves}
use Rattle.pr_io.specs.Spans.{Puts, Settles}
use Rattle.pr_aptpl.specs.Gates.{Closes}

moves_told : (step : Image → Image → Type 0) (a b : Option Image) → Moves step a b → is_some b ≡ is_some a
moves_told step None None moves = refl
moves_told step None (Some c) moves = absurd cc
moves_told step (Some c) None moves = absurd moves
moves_told step (Some c) (Some d) moves = refl

pub puts_told : {T E : Type 0} (r : Result T E) (at : ℕ) (bytes : List ℕ) (a b : Story) → Puts r at bytes a b → is_some b.now ≡ is_some a.now
puts_told r at bytes a b puts = moves_told _ a.now b.now puts.now

pub closes_told : {T E : Type 0} (r : Result T E) (gate : ℕ) (was now : Bool) (a b : Story) → Closes r gate was now a b → is_some b.now ≡ is_some a.now
closes_told r gate was now a b closes = by was closes.call
  where
    by : (was : Bool) → MatchBool was (Puts r gate (0 ∷ []) a b) (Settles r a b) → is_some b.now ≡ is_some a.now
    by true puts = puts_told r gate (0 ∷ []) a b puts
    by false settles = ap (λ (o : Option Image). is_some o) settles.now
