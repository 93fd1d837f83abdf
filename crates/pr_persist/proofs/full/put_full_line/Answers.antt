use Rattle.std.proofs.Common.{refl}
use Rattle.std.specs.Prelude.{Ok, Err}
use Rattle.pr_io.specs.Told.{told_sink}
use Rattle.pr_persist.specs.Texts.{nexus_part, holder_part}
use Rattle.pr_persist.proofs.Printed.{then_printed, first_failed, at_result}
use Rattle.pr_persist.proofs.full.put_full_line.Goals as goal

pub returns-in-Ok : goal.returns-in-Ok
returns-in-Ok g c =
    then_printed _ _ _ (nexus_part c.args.entry.now) (holder_part c.args.entry.now.holder c.args.entry.now.kind) c.put_holder.result
    (at_result (told_sink g.K.Sink c.args.sink.now) (told_sink g.K.Sink c.put_nexus.new.sink) _ _ c.put_nexus.result (Ok tt) refl c.in-Ok.is c.put_nexus.ensures) c.put_holder.ensures

pub returns-in-Err : goal.returns-in-Err
returns-in-Err g c =
    first_failed _ _ (nexus_part c.args.entry.now) (holder_part c.args.entry.now.holder c.args.entry.now.kind) c.in-Err.failed
    (at_result (told_sink g.K.Sink c.args.sink.now) (told_sink g.K.Sink c.put_nexus.new.sink) _ _ c.put_nexus.result (Err c.in-Err.failed) refl c.in-Err.is c.put_nexus.ensures)
