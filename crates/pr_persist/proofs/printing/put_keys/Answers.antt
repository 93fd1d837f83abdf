use Rattle.std.proofs.Common.{◌∙◌, ℕ, ap}
use Rattle.std.specs.Prelude.{Ok, Err}
use Rattle.std.specs.List.{flat_map}
use Rattle.pr_io.specs.Told.{told_sink}
use Rattle.pr_persist.specs.Texts.{keys_head, key_line}
use Rattle.pr_persist.proofs.Printed.{then_printed, first_failed, at_result}
use Rattle.pr_persist.proofs.printing.put_keys.Goals as goal

pub returns-in-Ok : goal.returns-in-Ok
returns-in-Ok g c =
    let head = ap (λ (n : ℕ). keys_head n c.count.result) c.generation.ensures ∙ ap (keys_head c.args.keys.now.generation) c.count.ensures in
    then_printed _ _ _ _ (flat_map key_line c.args.keys.now.keys) c.put_key_lines.result
    (at_result (told_sink g.K.Sink c.args.sink.now) (told_sink g.K.Sink c.put_keys_head.new.sink) _ _ c.put_keys_head.result (Ok tt) head c.in-Ok.is c.put_keys_head.ensures) c.put_key_lines.ensures

pub returns-in-Err : goal.returns-in-Err
returns-in-Err g c =
    let head = ap (λ (n : ℕ). keys_head n c.count.result) c.generation.ensures ∙ ap (keys_head c.args.keys.now.generation) c.count.ensures in
    first_failed _ _ _ (flat_map key_line c.args.keys.now.keys) c.in-Err.failed
    (at_result (told_sink g.K.Sink c.args.sink.now) (told_sink g.K.Sink c.put_keys_head.new.sink) _ _ c.put_keys_head.result (Err c.in-Err.failed) head c.in-Err.is c.put_keys_head.ensures)
