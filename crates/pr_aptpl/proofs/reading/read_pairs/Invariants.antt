use Rattle.std.proofs.Common.{◌≡◌, ◌≤◌, ◌<◌, ◌+◌, ◌*◌, ◌^◌, None, length}
use Rattle.pr_grammar.specs.Files.{listed}
use Rattle.pr_aptpl.proofs.Lists.{prefixed}
use Rattle.pr_aptpl.proofs.reading.read_pairs.Given as goal

abbrev pub invariant-loop-left : goal.invariant-loop-left
invariant-loop-left l = record {
  room : 18 * l.left ≤ length l.rest;
  places : l.place + 18 * l.left < 2 ^ 64;
  reads : listed l.fn.count None l.fn.at l.fn.bytes ≡ prefixed l.pairs.items (listed l.left l.before l.place l.rest);
}

abbrev pub decreases-loop-left : goal.decreases-loop-left
decreases-loop-left l = l.left
