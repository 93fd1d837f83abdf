use Rattle.std.proofs.Common.{◌∙◌, ℕ, ap}
use Rattle.std.specs.Prelude.{Ok, Err}
use Rattle.std.specs.List.{flat_map}
use Rattle.pr_io.specs.Told.{told_sink}
use Rattle.pr_persist.specs.Texts.{full_head, full_line}
use Rattle.pr_persist.proofs.Printed.{then_printed, first_failed, at_result}
use Rattle.pr_persist.proofs.full.put_full.Goals as goal

pub returns-in-Ok : goal.returns-in-Ok
returns-in-Ok g c =
    let head = ap (λ (n : ℕ). full_head n c.count.result) c.generation.ensures ∙ ap (full_head c.args.full.now.generation) c.count.ensures in
    then_printed _ _ _ _ (flat_map full_line c.args.full.now.entries) c.put_full_lines.result
    (at_result (told_sink g.K.Sink c.args.sink.now) (told_sink g.K.Sink c.put_full_head.new.sink) _ _ c.put_full_head.result (Ok tt) head c.in-Ok.is c.put_full_head.ensures) c.put_full_lines.ensures

pub returns-in-Err : goal.returns-in-Err
returns-in-Err g c =
    let head = ap (λ (n : ℕ). full_head n c.count.result) c.generation.ensures ∙ ap (full_head c.args.full.now.generation) c.count.ensures in
    first_failed _ _ _ (flat_map full_line c.args.full.now.entries) c.in-Err.failed
    (at_result (told_sink g.K.Sink c.args.sink.now) (told_sink g.K.Sink c.put_full_head.new.sink) _ _ c.put_full_head.result (Err c.in-Err.failed) head c.in-Err.is c.put_full_head.ensures)
