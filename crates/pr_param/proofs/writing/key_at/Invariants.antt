-- The nexus isn't among those that were passed.
use Rattle.std.proofs.Common.{◌≡◌, drop}
use Rattle.pr_grammar.specs.InReplies.{key_at}
use Rattle.pr_param.proofs.writing.key_at.Given as goal

abbrev pub invariant-loop-i : goal.invariant-loop-i
invariant-loop-i g l =
    let pairs = (g.R.Registrants.standing l.from).pairs in
    key_at (drop l.i pairs) l.nexus ≡ key_at pairs l.nexus
