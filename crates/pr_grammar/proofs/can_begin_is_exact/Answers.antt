use Rattle.pr_grammar.proofs.Beginnings.{becomes, never_becomes}
use Rattle.pr_grammar.proofs.can_begin_is_exact.Goals as goal

pub returns-clause-becomes : goal.returns-clause-becomes
returns-clause-becomes c = becomes

pub returns-clause-never : goal.returns-clause-never
returns-clause-never c = never_becomes
