use Rattle.std.proofs.Common.{◌++◌, refl}
use Rattle.std.specs.Prelude.{Ok, Err, codes}
use Rattle.pr_io.specs.Told.{told_sink}
use Rattle.pr_persist.specs.Texts.{numbered, line_end, holding_lines}
use Rattle.pr_persist.proofs.Printed.{then_printed, first_failed, at_result}
use Rattle.pr_persist.proofs.texts.put_reservation.Goals as goal

pub returns-in-Ok : goal.returns-in-Ok
returns-in-Ok g c =
    then_printed _ _ _ (numbered (codes "  PR generation=0x") c.args.generation (codes ", Reservation follows:" ++ line_end)) (holding_lines c.args.held.0 c.args.held.1) c.put_holding.result
    (at_result (told_sink g.K.Sink c.args.sink.now) (told_sink g.K.Sink c.put_number.new.sink) _ _ c.put_number.result (Ok tt) refl c.in-Ok.is c.put_number.ensures) c.put_holding.ensures

pub returns-in-Err : goal.returns-in-Err
returns-in-Err g c =
    first_failed _ _ (numbered (codes "  PR generation=0x") c.args.generation (codes ", Reservation follows:" ++ line_end)) (holding_lines c.args.held.0 c.args.held.1) c.in-Err.failed
    (at_result (told_sink g.K.Sink c.args.sink.now) (told_sink g.K.Sink c.put_number.new.sink) _ _ c.put_number.result (Err c.in-Err.failed) refl c.in-Err.is c.put_number.ensures)
