-- How many bytes a lane takes.
use Rattle.std.specs.Prelude.{◌≡◌, ℕ, ◌-◌, List, length, min, Option, Result, Ok, Err}
use Rattle.pr_words.specs.declared.limits.TheConstants.{HELD}
use Rattle.pr_model.specs.Lanes.{Lane, Phase, Dead, arrived}
use Rattle.pr_io.specs.Streams.{Took}
use Rattle.pr_io.specs.declared.outside.Failed.{Failed}

-- how many of these bytes a lane takes, where it holds so many at most; a dead one drops all
abbrev pub fed_at : Phase → List ℕ → List ℕ → ℕ
fed_at Dead held bytes = length bytes
fed_at _ held bytes = min (length bytes) (HELD - length held)

abbrev pub fed : Lane → List ℕ → ℕ
fed l bytes = fed_at l.phase l.bytes bytes

-- a call of a source gave a lane some bytes more, or moved nothing
abbrev pub Takes : Option (List ℕ) → Option (List ℕ) → Lane → Lane → Result ℕ Failed → Type 0
Takes before now l m (Ok n) = (piece : List ℕ) × (length piece ≡ n) × Took before now piece × (m ≡ arrived l piece)
Takes before now l m (Err e) = (now ≡ before) × (m ≡ l)
