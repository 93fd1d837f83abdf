use Rattle.std.proofs.Common.{◌<◌, ◌≤◌, length, refl, subst, arith}
use Rattle.std.specs.Prelude.{Result}
use Rattle.pr_io.specs.declared.outside.Failed.{Failed}
use Rattle.pr_io.specs.Told.{told_sink}
use Rattle.pr_io.proofs.Pieces.{put_nothing}
use Rattle.pr_persist.specs.Prints.{HasPrinted}
use Rattle.pr_persist.specs.Texts.{key_line}
use Rattle.pr_persist.proofs.Printed.{lines_went, lines_failed, lines_done}
use Rattle.pr_persist.proofs.printing.put_key_lines.Goals as goal

pub loop-i-init : goal.loop-i-init
loop-i-init g c = record { put = put_nothing (g.K.Sink.written c.args.sink.now); calm = refl }

pub loop-i-preserved : goal.loop-i-preserved
loop-i-preserved g c =
    let less : c.loop-i.i < length c.args.keys.now.keys = omega (arith, c.loop-i-test.true, c.count-i-end.ensures) in
    let line = subst (λ (r : Result Unit Failed). HasPrinted (told_sink g.K.Sink c.loop-i.sink) (told_sink g.K.Sink c.put_number.new.sink) (key_line c.key.result) r) c.in-Ok.is c.put_number.ensures in
    lines_went key_line (told_sink g.K.Sink c.args.sink.now) _ _ c.args.keys.now.keys c.loop-i.i c.key.result less c.key.ensures c.loop-i.invariant line

pub returns-in-Err : goal.returns-in-Err
returns-in-Err g c =
    let less : c.loop-i.i < length c.args.keys.now.keys = omega (arith, c.loop-i-test.true, c.count-i-end.ensures) in
    let line = subst (λ (r : Result Unit Failed). HasPrinted (told_sink g.K.Sink c.loop-i.sink) (told_sink g.K.Sink c.put_number.new.sink) (key_line c.key.result) r) c.in-Err.is c.put_number.ensures in
    lines_failed key_line (told_sink g.K.Sink c.args.sink.now) _ _ c.args.keys.now.keys c.loop-i.i c.key.result c.in-Err.failed less c.key.ensures c.loop-i.invariant line

pub returns : goal.returns
returns g c =
    let most : length c.args.keys.now.keys ≤ c.loop-i.i = omega (arith, c.loop-i-test.false, c.count-i-end.ensures) in
    lines_done key_line (told_sink g.K.Sink c.args.sink.now) _ c.args.keys.now.keys c.loop-i.i most c.loop-i.invariant
