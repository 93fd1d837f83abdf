use Rattle.std.proofs.Common.{◌∙◌, ap}
use Rattle.pr_persist.specs.Asking.{chosen_in, with_action}
use Rattle.pr_persist.proofs.words.all_actions.Goals as goal

pub returns : goal.returns
unfolding chosen_in
returns c =
    let one = c.add-chosen.ensures ∙ ap (with_action _ _ _) c.looks_of-chosen.ensures in
    let two = c.add-chosen-2.ensures ∙ ap (with_action _ _ _) one in
    let three = c.add-chosen-3.ensures ∙ ap (with_action _ _ _) two in
    let four = c.add-chosen-4.ensures ∙ ap (with_action _ _ _) three in
    let five = c.add-chosen-5.ensures ∙ ap (with_action _ _ _) four in
    let six = c.add-chosen-6.ensures ∙ ap (with_action _ _ _) five in
    c.add.ensures ∙ ap (with_action _ _ _) six
