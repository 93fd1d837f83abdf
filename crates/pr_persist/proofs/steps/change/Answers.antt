use Rattle.std.proofs.Common.{sym, subst}
use Rattle.pr_words.specs.declared.service.OutService.{OutService}
use Rattle.pr_initiator.specs.Commands.{HasAnswered}
use Rattle.pr_initiator.specs.Links.{link_of}
use Rattle.pr_persist.specs.Runs.{changes_by}
use Rattle.pr_persist.proofs.steps.change.Goals as goal

pub returns-in-Register-clause-step : goal.returns-in-Register-clause-step
returns-in-Register-clause-step g c = subst (λ (s : OutService). HasAnswered (link_of c.args.initiator.now) (link_of c.register.new.self) (changes_by s c.args.fields.now) c.register.result) (sym c.in-Register.is) c.register.ensures.answered

pub returns-in-Reserve-clause-step : goal.returns-in-Reserve-clause-step
returns-in-Reserve-clause-step g c = subst (λ (s : OutService). HasAnswered (link_of c.args.initiator.now) (link_of c.reserve.new.self) (changes_by s c.args.fields.now) c.reserve.result) (sym c.in-Reserve.is) c.reserve.ensures.answered

pub returns-in-Release-clause-step : goal.returns-in-Release-clause-step
returns-in-Release-clause-step g c = subst (λ (s : OutService). HasAnswered (link_of c.args.initiator.now) (link_of c.release.new.self) (changes_by s c.args.fields.now) c.release.result) (sym c.in-Release.is) c.release.ensures.answered

pub returns-in-Clear-clause-step : goal.returns-in-Clear-clause-step
returns-in-Clear-clause-step g c = subst (λ (s : OutService). HasAnswered (link_of c.args.initiator.now) (link_of c.clear.new.self) (changes_by s c.args.fields.now) c.clear.result) (sym c.in-Clear.is) c.clear.ensures.answered

pub returns-in-Preempt-clause-step : goal.returns-in-Preempt-clause-step
returns-in-Preempt-clause-step g c = subst (λ (s : OutService). HasAnswered (link_of c.args.initiator.now) (link_of c.preempt.new.self) (changes_by s c.args.fields.now) c.preempt.result) (sym c.in-Preempt.is) c.preempt.ensures.answered

pub returns-in-PreemptAndAbort-clause-step : goal.returns-in-PreemptAndAbort-clause-step
returns-in-PreemptAndAbort-clause-step g c = subst (λ (s : OutService). HasAnswered (link_of c.args.initiator.now) (link_of c.preempt_abort.new.self) (changes_by s c.args.fields.now) c.preempt_abort.result) (sym c.in-PreemptAndAbort.is) c.preempt_abort.ensures.answered

pub returns-in-RegisterAndIgnoreExistingKey-clause-step : goal.returns-in-RegisterAndIgnoreExistingKey-clause-step
returns-in-RegisterAndIgnoreExistingKey-clause-step g c = subst (λ (s : OutService). HasAnswered (link_of c.args.initiator.now) (link_of c.register_ignore.new.self) (changes_by s c.args.fields.now) c.register_ignore.result) (sym c.in-RegisterAndIgnoreExistingKey.is) c.register_ignore.ensures.answered
