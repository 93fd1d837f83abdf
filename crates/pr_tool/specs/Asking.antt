-- Which words ask for what.
use Rattle.std.specs.Prelude.{◌≡◌, ℕ, ◌+◌, ◌/◌, ◌%◌, ◌≤◌, nat_lt, List, [], ◌∷◌, map, codes, if◌then◌else◌}
use Rattle.std.specs.Borrow.{Bor}
use Rattle.pr_words.specs.declared.limits.TheConstants.{LANES}

-- a number below 100 in decimal digits, with no zero in front
abbrev pub decimal : ℕ → List ℕ
decimal n = if nat_lt n 10 then (48 + n) ∷ [] else (48 + n / 10) ∷ (48 + n % 10) ∷ []

-- `replay` and a number of lanes
abbrev pub AsksReplay : List (Bor (List ℕ)) → ℕ → Type 0
AsksReplay words lanes = (1 ≤ lanes) × (lanes ≤ LANES) × (map (λ (w : Bor (List ℕ)). w.now) words ≡ codes "replay" ∷ decimal lanes ∷ [])
