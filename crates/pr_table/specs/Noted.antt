-- What was noted of a standing before an act of a nexus (this project's own).
use Rattle.std.specs.Prelude.{◌≡◌, ℕ, ◌==◌, ◌&&◌, Bool, List, Result, length, option_map}
use Rattle.pr_words.specs.declared.nexus.Nexus.{Nexus}
use Rattle.pr_words.specs.declared.nexus.Key.{Key}
use Rattle.pr_grammar.specs.Standings.{Standing, key_of}
use Rattle.pr_words.specs.declared.nexus.Pair.{Pair}
use Rattle.pr_model.specs.Keeping.{same_key}
use Rattle.pr_table.specs.Places.{IsPlace, key_in}
use Rattle.pr_table.specs.declared.table.Note.{Note}

pub record Notes (note : Note) (s : Standing) (n : Nexus) : Type 0 where
  pub preserve : note.preserve ≡ s.preserve
  pub reservation : note.reservation ≡ s.reservation
  pub count : note.count ≡ length s.pairs
  pub place : IsPlace s.pairs n note.place
  pub key : option_map (λ (k : Key). k.0) note.key ≡ key_of s.pairs n

-- the same number of registrations, and in a place the key that a nexus had
abbrev pub looks_still : List Pair → List Pair → Nexus → Result ℕ ℕ → Bool
looks_still ps qs n place = length ps == length qs && same_key (key_of ps n) (key_in qs place)
