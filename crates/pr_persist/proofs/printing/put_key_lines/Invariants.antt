use Rattle.pr_io.specs.Told.{told_sink}
use Rattle.pr_persist.specs.Texts.{key_line}
use Rattle.pr_persist.proofs.Printed.{Lines}
use Rattle.pr_persist.proofs.printing.put_key_lines.Given as goal

abbrev pub invariant-loop-i : goal.invariant-loop-i
invariant-loop-i g l = Lines key_line (told_sink g.K.Sink l.initial.sink) (told_sink g.K.Sink l.sink) l.keys.keys l.i
