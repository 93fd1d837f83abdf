-- The parts of the file stand apart.
use Rattle.std.proofs.Common.{lit≤}
use Rattle.pr_grammar.specs.Files.{file_head, file_layout}
use Rattle.pr_aptpl.specs.Slots.{IsApart}

pub apart : IsApart file_head file_layout
apart = record { first = lit≤ tt; slots = lit≤ tt }
