use Rattle.std.proofs.Common.{rules}
use Rattle.pr_serve.proofs.attending.serve.Goals as goal

pub returns-in-Ok-clause-thread : goal.returns-in-Ok-clause-thread
returns-in-Ok-clause-thread g c = record {
  last = record { thread = c.in-Ok.thread; has_ended = c.in-Some.has_ended };
  running = search rules;
  retired = search rules;
  spent = search rules;
  pass = search rules;
  told = search rules;
}
