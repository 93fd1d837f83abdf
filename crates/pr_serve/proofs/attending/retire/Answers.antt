use Rattle.std.proofs.Common.{rules}
use Rattle.pr_serve.proofs.attending.retire.Goals as goal

pub returns-clause-retires : goal.returns-clause-retires
returns-clause-retires g c = record {
  last = c.retire.result;
  retired_now = search rules;
  running_now = search rules;
  used_now = search rules;
  most_now = search rules;
  past = (search rules, search rules);
  number = search rules;
  own = search rules;
}
