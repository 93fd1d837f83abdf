use Rattle.std.proofs.Common.{◌∙◌, ◌∷◌, [], ℕ, List, ap}
use Rattle.std.specs.Prelude.{codes}
use Rattle.std.specs.Int.{w64, to_be_bytes}
use Rattle.std.specs.List.{concat}
use Rattle.hex.specs.Hex.{encode_lower}
use Rattle.pr_io.specs.Told.{told_sink}
use Rattle.pr_persist.specs.Texts.{hex_word}
use Rattle.pr_persist.proofs.Printed.{printed}
use Rattle.pr_persist.proofs.full.put_nexus.Goals as goal

abbrev part_with : List ℕ → List ℕ → List ℕ → List ℕ
part_with x y z = concat (codes "    Key=0x" ∷ x ∷ codes " name=" ∷ y ∷ codes " port=" ∷ z ∷ [])

pub returns : goal.returns
returns g c =
    let key = c.bytes.ensures ∙ c.of.ensures in
    let name = c.as_slice.ensures ∙ c.name_digits-name.ensures in
    let port = c.as_bytes.ensures.value ∙ c.format.ensures.text in
    printed (told_sink g.K.Sink c.args.sink.now) (told_sink g.K.Sink c.put_pieces.new.sink) _ _ c.put_pieces.result
    (ap (λ (w : List ℕ). part_with w c.as_slice.result.now c.as_bytes.result.now) key ∙ ap (λ (w : List ℕ). part_with (hex_word c.args.entry.now.key.0) w c.as_bytes.result.now) name
    ∙ ap (part_with (hex_word c.args.entry.now.key.0) (encode_lower (to_be_bytes w64 c.args.entry.now.nexus.name))) port)
    c.put_pieces.ensures.all c.put_pieces.ensures.some c.put_pieces.ensures.cause
