use Rattle.std.proofs.Common.{◌∙◌, ap}
use Rattle.pr_persist.specs.Asking.{looks_in, with_action}
use Rattle.pr_persist.proofs.words.looks_of.Goals as goal

pub returns : goal.returns
unfolding looks_in
returns c = c.add.ensures ∙ ap (with_action _ _ _) (c.add-chosen-3.ensures ∙ ap (with_action _ _ _) (c.add-chosen-2.ensures ∙ ap (with_action _ _ _) c.add-chosen.ensures))
