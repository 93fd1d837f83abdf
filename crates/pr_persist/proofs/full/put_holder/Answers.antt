use Rattle.std.proofs.Common.{◌∙◌, ℕ, Bool, ap, sym, refl}
use Rattle.std.specs.Prelude.{codes}
use Rattle.pr_io.specs.Told.{told_sink}
use Rattle.pr_persist.specs.Texts.{numbered, line_end, holder_part}
use Rattle.pr_persist.proofs.Printed.{at_result}
use Rattle.pr_persist.proofs.full.put_holder.Goals as goal

pub returns-then-holder : goal.returns-then-holder
returns-then-holder g c =
    at_result (told_sink g.K.Sink c.args.sink.now) (told_sink g.K.Sink c.put_number.new.sink) _ _ c.put_number.result c.put_number.result
    (ap (λ (n : ℕ). numbered (codes " holder type=") n line_end) c.from.ensures ∙ ap (λ (b : Bool). holder_part b c.args.kind) (sym c.if-holder.true)) refl c.put_number.ensures
