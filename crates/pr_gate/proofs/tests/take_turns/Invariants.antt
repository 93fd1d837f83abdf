use Rattle.pr_gate.specs.Passes.{IsOf, IsFree}
use Rattle.pr_gate.proofs.tests.take_turns.Given as goal

abbrev pub invariant-loop : goal.invariant-loop
invariant-loop g l = IsOf l.gate l.pass × IsFree l.pass
