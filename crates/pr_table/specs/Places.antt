-- What stands in a place among pairs (this project's own).
use Rattle.std.specs.Prelude.{ℕ, List, Option, None, Result, Ok, Err, option_map, slice_get, MatchResult}
use Rattle.pr_words.specs.declared.nexus.Nexus.{Nexus}
use Rattle.pr_words.specs.declared.nexus.Pair.{Pair}
use Rattle.pr_model.specs.Places.{StandsAt, LacksAt}

-- the place of a nexus's registration, or else the place where it would stand
abbrev pub IsPlace : List Pair → Nexus → Result ℕ ℕ → Type 0
IsPlace ps n place = MatchResult place (StandsAt ps n) (LacksAt ps n)

-- the key there, where something stands there
abbrev pub key_in : List Pair → Result ℕ ℕ → Option ℕ
key_in ps (Ok i) = option_map (λ (p : Pair). p.key.0) (slice_get ps i)
key_in ps (Err i) = None
