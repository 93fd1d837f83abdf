use Rattle.std.proofs.Common.{ap}
use Rattle.pr_io.specs.Told.{told_sink}
use Rattle.pr_persist.specs.Texts.{columns_line}
use Rattle.pr_persist.proofs.Printed.{printed}
use Rattle.pr_persist.proofs.full.put_inquiry.Goals as goal

pub returns : goal.returns
returns g c =
    printed (told_sink g.K.Sink c.args.sink.now) (told_sink g.K.Sink c.put_pieces.new.sink) _ _ c.put_pieces.result
    (ap columns_line c.columns-columns.ensures) c.put_pieces.ensures.all c.put_pieces.ensures.some c.put_pieces.ensures.cause
