use Rattle.std.proofs.Common.{◌∙◌, sym}
use Rattle.pr_serve.proofs.Counting.{number_is}
use Rattle.pr_serve.proofs.words.number_of.Goals as goal

pub returns-then-is_bare : goal.returns-then-is_bare
returns-then-is_bare c =
    let bare = rw c.as_bytes.ensures.value at (sym c.is_bare.ensures ∙ c.if-is_bare.true) in
    c.ok.ensures.value ∙ number_is c.args.text.now c.parse.result bare c.parse.ensures.value.0
