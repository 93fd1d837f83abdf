use Rattle.std.proofs.Common.{◌∙◌, ◌∷◌, [], ◌++◌, ℕ, List, ap}
use Rattle.std.specs.Prelude.{codes}
use Rattle.std.specs.List.{concat}
use Rattle.pr_io.specs.Told.{told_sink}
use Rattle.pr_persist.specs.Texts.{hex_word, line_end}
use Rattle.pr_persist.proofs.Printed.{printed}
use Rattle.pr_persist.proofs.full.put_full_head.Goals as goal

abbrev line_with : List ℕ → List ℕ → List ℕ
line_with x y = concat (codes "  PR generation=0x" ∷ x ∷ codes ", " ∷ y ∷ (codes " registrations" ++ line_end) ∷ [])

pub returns : goal.returns
returns g c =
    let hex = c.bytes.ensures ∙ c.of.ensures ∙ ap hex_word c.from.ensures in
    let count = c.as_bytes.ensures.value ∙ c.format.ensures.text in
    printed (told_sink g.K.Sink c.args.sink.now) (told_sink g.K.Sink c.put_pieces.new.sink) _ _ c.put_pieces.result
    (ap (λ (w : List ℕ). line_with w c.as_bytes.result.now) hex ∙ ap (line_with (hex_word c.args.generation)) count) c.put_pieces.ensures.all c.put_pieces.ensures.some c.put_pieces.ensures.cause
