use Rattle.std.proofs.Common.{◌≢◌, ◌∙◌, ◌∷◌, [], ◌++◌, ℕ, List, ap, sym, subst, arith}
use Rattle.std.specs.Prelude.{codes}
use Rattle.std.specs.List.{concat}
use Rattle.pr_io.specs.Told.{told_sink}
use Rattle.pr_persist.specs.Prints.{HasPrinted}
use Rattle.pr_persist.specs.Texts.{hex_word, keys_head, line_end}
use Rattle.pr_persist.proofs.Printed.{printed, several}
use Rattle.pr_persist.proofs.printing.put_keys_head.Goals as goal

pub returns-in-0 : goal.returns-in-0
returns-in-0 g c =
    subst (λ (w : List ℕ). HasPrinted (told_sink g.K.Sink c.args.sink.now) (told_sink g.K.Sink c.put_number.new.sink) w c.put_number.result)
    (ap (λ (n : ℕ). keys_head n 0) c.from-generation.ensures ∙ ap (keys_head c.args.generation) (sym c.in-0.is)) c.put_number.ensures

pub returns-in-1 : goal.returns-in-1
returns-in-1 g c =
    subst (λ (w : List ℕ). HasPrinted (told_sink g.K.Sink c.args.sink.now) (told_sink g.K.Sink c.put_number-in-1.new.sink) w c.put_number-in-1.result)
    (ap (λ (n : ℕ). keys_head n 1) c.from-generation.ensures ∙ ap (keys_head c.args.generation) (sym c.in-1.is)) c.put_number-in-1.ensures

-- the line, by its two numbers
line_with : List ℕ → List ℕ → List ℕ
line_with x y = concat (codes "  PR generation=0x" ∷ x ∷ codes ", " ∷ y ∷ (codes " registered reservation keys follow:" ++ line_end) ∷ [])

pub returns-in_default : goal.returns-in_default
unfolding line_with
returns-in_default g c =
    let some : c.args.count ≢ 0 = omega arith in
    let more : c.args.count ≢ 1 = omega arith in
    let hex = c.bytes.ensures ∙ c.of.ensures ∙ ap hex_word c.from-generation.ensures in
    let count = c.as_bytes.ensures.value ∙ c.format.ensures.text in
    printed (told_sink g.K.Sink c.args.sink.now) (told_sink g.K.Sink c.put_pieces.new.sink) _ _ c.put_pieces.result
    (ap (λ (w : List ℕ). line_with w c.as_bytes.result.now) hex ∙ ap (line_with (hex_word c.args.generation)) count ∙ several c.args.generation c.args.count some more) c.put_pieces.ensures.all c.put_pieces.ensures.some c.put_pieces.ensures.cause
