-- Registrations in order, with the number of them that there is room for (this project's own).
use Rattle.std.specs.Prelude.{ℕ, ◌≤◌, List, length}
use Rattle.pr_words.specs.declared.nexus.Pair.{Pair}
use Rattle.pr_model.specs.Registrants.{IsAscending}

pub record Ordered : Type 0 where
  pub pairs : List Pair
  pub limit : ℕ

-- in order, at most so many, and with room for as many
pub record IsOrdered (pairs : List Pair) (limit capacity : ℕ) : Type 0 where
  pub within : length pairs ≤ limit
  pub room : limit ≤ capacity
  pub ascending : IsAscending pairs
