use Rattle.pr_grammar.proofs.Spellings.{written_out}
use Rattle.pr_link.proofs.laws.read_is_written.Goals as goal

pub returns : goal.returns
returns c = written_out
