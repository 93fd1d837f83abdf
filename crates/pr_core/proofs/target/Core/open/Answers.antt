use Rattle.std.proofs.Common.{Option, is_some, sym, ap, ◌∙◌}
use Rattle.pr_io.specs.Images.{Image}
use Rattle.pr_core.proofs.Powering.{opened_holds}
use Rattle.pr_core.proofs.target.Core.open.Goals as goal

pub returns-in-Ok-clause-stands : goal.returns-in-Ok-clause-stands
returns-in-Ok-clause-stands g c m tells count blocks told = (
  c.in-Ok.ensures.depicts m tells (count ∙ sym c.blocks-2.ensures.count),
  blocks,
  opened_holds (g.D.Disk.story c.args.disk) c.in-Ok.keeper m tells c.in-Ok.kept c.in-Ok.ensures.opens c.in-Ok.ensures.calm.1,
  record { told = λ is. ap (λ (o : Option Image). is_some o) c.in-Ok.ensures.opens.stays.now ∙ told is },
)
