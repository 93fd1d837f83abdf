use Rattle.std.proofs.Common.{◌∙◌, ◌∷◌, [], ℕ, List, ap}
use Rattle.std.specs.Prelude.{codes}
use Rattle.std.specs.List.{concat}
use Rattle.hex.specs.Hex.{encode_lower}
use Rattle.pr_io.specs.Told.{told_sink}
use Rattle.pr_persist.specs.Texts.{line_end}
use Rattle.pr_persist.proofs.Printed.{printed}
use Rattle.pr_persist.proofs.texts.put_capabilities.Goals as goal

-- the line, by its three numbers
abbrev line_with : List ℕ → List ℕ → List ℕ → List ℕ
line_with x y z = concat (codes "  Capabilities: 0x" ∷ x ∷ codes " 0x" ∷ y ∷ codes ", type mask 0x" ∷ z ∷ line_end ∷ [])

pub returns : goal.returns
returns g c =
    let flags = c.as_slice.ensures ∙ c.byte_digits-flags.ensures in
    let more = c.as_slice-2.ensures ∙ c.byte_digits-more.ensures in
    let mask = c.as_slice-3.ensures ∙ c.word_digits-mask.ensures in
    printed (told_sink g.K.Sink c.args.sink.now) (told_sink g.K.Sink c.put_pieces.new.sink) _ _ c.put_pieces.result
    (ap (λ (w : List ℕ). line_with w c.as_slice-2.result.now c.as_slice-3.result.now) flags ∙ ap (λ (w : List ℕ). line_with (encode_lower (c.args.told.now.flags ∷ [])) w c.as_slice-3.result.now) more
    ∙ ap (line_with (encode_lower (c.args.told.now.flags ∷ [])) (encode_lower (c.args.told.now.more ∷ []))) mask)
    c.put_pieces.ensures.all c.put_pieces.ensures.some c.put_pieces.ensures.cause
