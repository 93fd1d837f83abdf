use Rattle.std.proofs.Common.{◌∙◌, ℕ, ap, sym, refl}
use Rattle.std.specs.Prelude.{Some}
use Rattle.pr_io.specs.Told.{told_sink}
use Rattle.pr_persist.specs.Texts.{held_by}
use Rattle.pr_persist.proofs.Printed.{at_result}
use Rattle.pr_persist.proofs.texts.put_held.Goals as goal

pub returns-in-Some : goal.returns-in-Some
returns-in-Some g c =
    at_result (told_sink g.K.Sink c.args.sink.now) (told_sink g.K.Sink c.put_reservation.new.sink) _ _ c.put_reservation.result c.put_reservation.result
    (ap (λ (n : ℕ). held_by n (Some c.in-Some.held)) c.from-generation.ensures ∙ ap (held_by c.args.told.now.generation) (sym c.in-Some.is)) refl c.put_reservation.ensures
