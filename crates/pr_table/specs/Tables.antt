-- What a table stands for (this project's own).
use Rattle.std.specs.Prelude.{ℕ, List}
use Rattle.pr_words.specs.declared.nexus.Pair.{Pair}
use Rattle.pr_grammar.specs.Standings.{Standing}
use Rattle.pr_table.specs.declared.table.Table.{Table}

abbrev pub standing_of : Table → Standing
standing_of t = record { pairs = t.pairs.pairs; reservation = t.reservation; generation = t.generation; preserve = t.preserve }

abbrev pub limit_of : Table → ℕ
limit_of t = t.pairs.limit

-- the registrations that the last act removed
abbrev pub removed_of : Table → List Pair
removed_of t = t.removed.pairs
