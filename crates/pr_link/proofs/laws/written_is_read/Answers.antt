use Rattle.pr_grammar.proofs.Spellings.{read_back}
use Rattle.pr_link.proofs.laws.written_is_read.Goals as goal

pub returns : goal.returns
returns c = read_back
