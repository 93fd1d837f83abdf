use Rattle.std.proofs.Common.{◌≡◌, Option, Some, ap, sym, ◌∙◌, subst}
use Rattle.pr_link.specs.Deframer.{held_of, place_of}
use Rattle.pr_session.specs.declared.act.Out.{Out}
use Rattle.pr_session.specs.declared.asked.Asked.{Asked}
use Rattle.pr_session.specs.declared.asked.Asked.TheVariants.{Command}
use Rattle.pr_session.specs.States.{asked_in, next_for}
use Rattle.pr_session.specs.Sessions.{HasTurned, work_of}
use Rattle.pr_session.proofs.session.Session.answer.Goals as goal

pub returns-in-Command-Command-clause-turned : goal.returns-in-Command-Command-clause-turned
returns-in-Command-Command-clause-turned c =
    let at = c.in-Command-Command in
    let s = c.args.self.now in
    let what : Asked = Command at.head at.nexus at.cdb-0 at.out_len in
    let asked : asked_in s.state ≡ Some what = c.asked.ensures ∙ ap Some at.is-0 in
    subst (λ (t : Option Asked). HasTurned c.answer_command.new.self (next_for t (work_of s) (held_of s.deframer) (place_of s.deframer) c.args.out.now)) (sym asked)
    (subst (λ (o : Out). HasTurned c.answer_command.new.self (next_for (Some what) (work_of s) (held_of s.deframer) (place_of s.deframer) o)) (sym at.is-1) (c.answer_command.ensures.turned at.cdb-0))
