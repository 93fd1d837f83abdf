use Rattle.std.proofs.Common.{◌≡◌, ◌+◌, drop}
use Rattle.pr_grammar.specs.Files.{place_in}
use Rattle.pr_table.specs.Tables.{standing_of}
use Rattle.pr_aptpl.proofs.spelling.place_of.Given as goal

abbrev pub invariant-loop-i : goal.invariant-loop-i
invariant-loop-i l = place_in (standing_of l.table).pairs l.nexus ≡ l.i + place_in (drop l.i (standing_of l.table).pairs) l.nexus
