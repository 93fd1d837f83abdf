use Rattle.std.proofs.Common.{Some, ap, drop, ◌∙◌}
use Rattle.pr_session.specs.States.{asked_in}
use Rattle.pr_session.specs.Sessions.{work_of}
use Rattle.pr_session.proofs.Sharings.{step_entry_is}
use Rattle.pr_session.proofs.session.Session.entry.Goals as goal

pub returns-in-Step : goal.returns-in-Step
returns-in-Step c a work is sent =
    step_entry_is c.args.who c.in-Step.nexus c.in-Step.job c.args.out.now work (work_of c.args.self.now) c.args.sent c.excerpt-left.result c.carried_len.result c.step_entry.result (asked_in c.args.self.now.state) a
    (c.asked.ensures ∙ ap Some c.in-Step.is) is c.requires sent c.carried_len.ensures (c.excerpt-left.ensures ∙ ap (λ k. drop k (work_of c.args.self.now)) c.block_place.ensures.place) c.step_entry.ensures
