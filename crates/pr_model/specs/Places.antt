-- Where a nexus stands among pairs in order (this project's own).
use Rattle.std.specs.Prelude.{◌≡◌, ℕ, suc, ◌<◌, ◌≤◌, true, false, List, ◌++◌, length, take, drop, slice_index_or, Some, None}
use Rattle.std.specs.List.{filter, AllWithin}
use Rattle.pr_words.specs.declared.nexus.Nexus.{Nexus}
use Rattle.pr_words.specs.declared.nexus.Pair.{Pair}
use Rattle.pr_grammar.specs.Standings.{is_at, is_registered, key_of}
use Rattle.pr_model.specs.Registrants.{is_earlier, is_later, but_those}

-- its pair stands at this place
pub record StandsAt (ps : List Pair) (n : Nexus) (i : ℕ) : Type 0 where
  pub within : i < length ps
  pub earlier : filter (is_earlier n) ps ≡ take i ps
  pub later : filter (is_later n) ps ≡ drop (suc i) ps
  pub others : but_those (is_at n) ps ≡ take i ps ++ drop (suc i) ps
  pub registered : is_registered ps n ≡ true
  pub key : (d : Pair) → key_of ps n ≡ Some (slice_index_or ps i d).key.0

-- it has no pair, and would stand at this place
pub record LacksAt (ps : List Pair) (n : Nexus) (i : ℕ) : Type 0 where
  pub within : i ≤ length ps
  pub earlier : filter (is_earlier n) ps ≡ take i ps
  pub later : filter (is_later n) ps ≡ drop i ps
  pub others : but_those (is_at n) ps ≡ ps
  pub registered : is_registered ps n ≡ false
  pub key : key_of ps n ≡ None

-- those before a nexus stand below this place, and the others from it on
pub record Divides (ps : List Pair) (n : Nexus) (i : ℕ) : Type 0 where
  pub within : i ≤ length ps
  pub below : AllWithin (λ p. is_earlier n p ≡ true) ps 0 i
  pub above : AllWithin (λ p. is_earlier n p ≡ false) ps i (length ps)
