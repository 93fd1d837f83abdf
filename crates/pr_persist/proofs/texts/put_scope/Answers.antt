use Rattle.std.proofs.Common.{◌∙◌, ◌∷◌, [], ℕ, List, ap}
use Rattle.std.specs.Prelude.{codes, decimal}
use Rattle.std.specs.List.{concat}
use Rattle.pr_io.specs.Told.{told_sink}
use Rattle.pr_persist.specs.Texts.{hex_word, line_end, scope_with}
use Rattle.pr_persist.proofs.Printed.{printed}
use Rattle.pr_persist.proofs.texts.put_scope.Goals as goal

-- the line of a type that has no name, by its two numbers
abbrev line_with : List ℕ → List ℕ → List ℕ
line_with x y = concat (codes "    scope: " ∷ x ∷ codes ", type: unknown " ∷ y ∷ line_end ∷ [])

pub returns-in-None : goal.returns-in-None
returns-in-None g c =
    let scope = c.as_bytes-in-None.ensures.value ∙ c.format-in-None.ensures.text in
    let kind = c.bytes.ensures ∙ c.of.ensures ∙ ap hex_word c.from.ensures in
    printed (told_sink g.K.Sink c.args.sink.now) (told_sink g.K.Sink c.put_pieces-in-None.new.sink) _ _ c.put_pieces-in-None.result
    (ap (λ (w : List ℕ). line_with w c.bytes.result.now) scope ∙ ap (line_with (decimal c.args.scope)) kind ∙ ap (scope_with c.args.scope c.args.kind) c.in-None.ensures)
    c.put_pieces-in-None.ensures.all c.put_pieces-in-None.ensures.some c.put_pieces-in-None.ensures.cause
