use Rattle.std.proofs.Common.{◌∙◌, ap}
use Rattle.hex.specs.Hex.{encode_lower}
use Rattle.pr_persist.specs.Texts.{hex_word, without_zeros}
use Rattle.pr_persist.proofs.digits.Hex.of.Goals as goal

pub returns : goal.returns
unfolding hex_word
returns c = c.zeros-start.ensures.rest ∙ ap without_zeros (c.in-Ok.ensures.written ∙ ap encode_lower c.to_be_bytes.ensures)
