use Rattle.std.proofs.Common.{◌≡◌, ◌<◌, ◌+◌, ◌*◌, ◌^◌, ◌++◌, ℕ, length, take, get_or}
use Rattle.std.specs.List.{flat_map}
use Rattle.pr_words.specs.declared.nexus.Pair.{Pair}
use Rattle.pr_grammar.specs.Files.{spelled_pair}
use Rattle.pr_table.specs.Tables.{standing_of}
use Rattle.pr_aptpl.proofs.spelling.spell_pairs.Given as goal

abbrev pub invariant-loop-i : goal.invariant-loop-i
invariant-loop-i l = record {
  at : l.at ≡ 16 + 18 * l.i;
  bytes : take l.at l.buffer ≡ take 16 l.fn.buffer ++ flat_map spelled_pair (take l.i (standing_of l.table).pairs);
  long : length l.buffer ≡ length l.fn.buffer;
  fits : (k : ℕ) (d : Pair) → k < l.i → ((get_or (standing_of l.table).pairs k d).nexus.name < 2 ^ 64) × ((get_or (standing_of l.table).pairs k d).key.0 < 2 ^ 64);
}
