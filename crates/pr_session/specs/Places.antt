-- Parts of a work buffer.
use Rattle.std.specs.Prelude.{ℕ, ◌+◌, List, drop, slice_range}
use Rattle.pr_words.specs.declared.limits.TheConstants.{BLOCK, COMMAND_HEAD}

-- the data of a command, out and in
abbrev pub data_in : List ℕ → List ℕ
data_in work = drop COMMAND_HEAD work

-- the block that begins at a place
abbrev pub block_from : ℕ → List ℕ → List ℕ
block_from at work = slice_range work at (at + BLOCK)
