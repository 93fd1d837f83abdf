-- The line that says how many turns a target has done (this project's own).
use Rattle.std.specs.Prelude.{ℕ, List, ◌++◌, codes, decimal}
use Rattle.pr_grammar.specs.Shows.{line_feed}

-- `turns`, a blank, the number in decimal, and a line feed
abbrev pub turns_line : ℕ → List ℕ
turns_line turns = codes "turns " ++ decimal turns ++ line_feed
