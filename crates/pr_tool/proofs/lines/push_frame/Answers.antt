use Rattle.std.proofs.Common.{List, ℕ, ◌++◌, sym, ap, ◌∙◌}
use Rattle.pr_link.specs.Streams.{frame_of}
use Rattle.pr_tool.proofs.LineTexts.{line_by, line_is}
use Rattle.pr_tool.proofs.lines.push_frame.Goals as goal

pub returns-in-Login-clause-items : goal.returns-in-Login-clause-items
returns-in-Login-clause-items c =
    let f = frame_of c.args.frame.now c.args.body.now in
    c.push_login.ensures.items ∙ ap (λ (w : List ℕ). c.args.text.now.items ++ w) (sym (line_is f ∙ ap (line_by f) (sym c.read.ensures ∙ c.in-Login.is)))

pub returns-in-Command-clause-items : goal.returns-in-Command-clause-items
returns-in-Command-clause-items c =
    let f = frame_of c.args.frame.now c.args.body.now in
    c.push_command.ensures.items ∙ ap (λ (w : List ℕ). c.args.text.now.items ++ w) (sym (line_is f ∙ ap (line_by f) (sym c.read.ensures ∙ c.in-Command.is)))
