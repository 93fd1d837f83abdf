-- No descriptor that was passed has another length.
use Rattle.std.proofs.Common.{◌≡◌, ◌+◌, ◌-◌, ◌*◌}
use Rattle.pr_grammar.specs.InReplies.{first_odd}
use Rattle.pr_param.proofs.reading.first_odd.Given as goal

abbrev pub invariant-loop-i : goal.invariant-loop-i
invariant-loop-i l = first_odd (l.count - l.i) (8 + 48 * l.i) l.bytes ≡ first_odd l.count 8 l.bytes
