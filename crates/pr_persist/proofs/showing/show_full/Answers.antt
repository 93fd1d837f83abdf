use Rattle.std.proofs.Common.{◌∙◌, ap}
use Rattle.std.specs.Prelude.{Err}
use Rattle.pr_io.specs.Told.{told_sink}
use Rattle.pr_persist.specs.Shows.{text_in}
use Rattle.pr_persist.specs.Texts.{full_text}
use Rattle.pr_persist.proofs.Shown.{told, broken}
use Rattle.pr_persist.proofs.showing.show_full.Goals as goal

pub returns-in-Ok : goal.returns-in-Ok
returns-in-Ok g c = told _ _ _ (told_sink g.K.Sink c.args.sink.now) (told_sink g.K.Sink c.put_full.new.sink) c.put_full.result c.written.result (ap (text_in full_text) c.in-Ok.ensures) c.put_full.ensures c.written.ensures

pub returns-in-Err : goal.returns-in-Err
returns-in-Err g c = broken _ _ _ (told_sink g.K.Sink c.args.sink.now) c.bad_reply.result (ap Err c.place.ensures ∙ ap (text_in full_text) c.in-Err.ensures) c.bad_reply.ensures
