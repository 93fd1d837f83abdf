-- The data-out of transfers.
use Rattle.std.specs.Prelude.{ℕ, ◌*◌}
use Rattle.pr_words.specs.declared.task.Way.{Way}
use Rattle.pr_words.specs.declared.task.Way.TheVariants as ways
use Rattle.pr_words.specs.declared.limits.TheConstants.{BLOCK}

-- how many bytes of data-out a READ or WRITE of so many blocks has
abbrev pub announced : Way → ℕ → ℕ
announced ways.Read count = 0
announced ways.Write count = BLOCK * count
