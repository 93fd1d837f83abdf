use Rattle.std.proofs.Common.{◌≡◌, ◌∙◌, ap, codes}
use Rattle.clap.specs.Words.{App, app_of, new_app}
use Rattle.clap.specs.Simple.{app_of_fields}
use Rattle.pr_persist.specs.Arguments.{persist_app, with_rules, without_help, in_rules, out_rules, other_rules}
use Rattle.pr_persist.proofs.Matching.{taken, found, refused}
use Rattle.pr_persist.proofs.arguments.matched.Goals as goal
use Rattle.pr_persist.proofs.arguments.matched.Goals.{After-try_get_matches_from}

built : (c : After-try_get_matches_from) → app_of c.in_ok-command-3.command ≡ persist_app
unfolding persist_app
built c =
    let plain : app_of c.disable_help_flag-command.result ≡ without_help (new_app (codes "persist")) = ap app_of_fields c.disable_help_flag-command.ensures ∙ ap without_help c.new.ensures.app in
    let one = c.in_ok-command.ensures.shape ∙ ap (λ (a : App). with_rules a in_rules) plain in
    let two = c.in_ok-command-2.ensures.shape ∙ ap (λ (a : App). with_rules a out_rules) one in
    c.in_ok-command-3.ensures.shape ∙ ap (λ (a : App). with_rules a other_rules) two

pub returns-clause-taken : goal.returns-clause-taken
returns-clause-taken c = taken c.try_get_matches_from.result _ _ (built c) c.try_get_matches_from.ensures.kinds

pub returns-clause-rows : goal.returns-clause-rows
returns-clause-rows c = found c.try_get_matches_from.result _ _ (built c) c.try_get_matches_from.ensures.matches

pub returns-clause-refused : goal.returns-clause-refused
returns-clause-refused c = refused c.try_get_matches_from.result _ _ (built c) c.try_get_matches_from.ensures.kinds
