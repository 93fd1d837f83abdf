use Rattle.pr_tool.proofs.Showings.{shows_decide}
use Rattle.pr_tool.proofs.show.show_main.Goals as goal

pub returns-clause-decides : goal.returns-clause-decides
returns-clause-decides g c = shows_decide c.show_within.result _ _ _ _ _ c.show_within.ensures.shows c.show_within.ensures.causes
