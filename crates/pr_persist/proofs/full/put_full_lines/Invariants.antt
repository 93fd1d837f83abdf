use Rattle.pr_io.specs.Told.{told_sink}
use Rattle.pr_persist.specs.Texts.{full_line}
use Rattle.pr_persist.proofs.Printed.{Lines}
use Rattle.pr_persist.proofs.full.put_full_lines.Given as goal

abbrev pub invariant-loop-i : goal.invariant-loop-i
invariant-loop-i g l = Lines full_line (told_sink g.K.Sink l.initial.sink) (told_sink g.K.Sink l.sink) l.full.entries l.i
