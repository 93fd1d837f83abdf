use Rattle.std.proofs.Common.{ℕ, ◌∙◌, ap, subst}
use Rattle.pr_tool.specs.Counting.{sink_faults, CountsSource}
use Rattle.pr_tool.specs.Showing.{ViewerEnds, IsBegun}
use Rattle.pr_tool.proofs.show.show_within.Goals as goal

pub returns-in-Some-clause-shows : goal.returns-in-Some-clause-shows
returns-in-Some-clause-shows g c = (c.in-Some.ensures.steps c.args.budget _ _ c.steps.invariant.goes).0

pub returns-in-Some-clause-causes : goal.returns-in-Some-clause-causes
returns-in-Some-clause-causes g c = (c.in-Some.ensures.steps c.args.budget (g.S.Source.rest c.args.source.now) (g.K.Sink.written c.args.sink.now) c.steps.invariant.goes).1

pub returns-in-Some-clause-untouched : goal.returns-in-Some-clause-untouched
returns-in-Some-clause-untouched g c is =
    let stands : ViewerEnds c.args.budget (g.S.Source.rest c.args.source.now) (g.S.Source.rest c.step.new.source) (g.K.Sink.written c.args.sink.now) (g.K.Sink.written c.step.new.sink) c.in-Some.exit =
    c.in-Some.ensures.steps c.args.budget (g.S.Source.rest c.args.source.now) (g.K.Sink.written c.args.sink.now) c.steps.invariant.goes in
    absurd (subst IsBegun is stands.2)

pub returns-in-Some-clause-read_faults : goal.returns-in-Some-clause-read_faults
returns-in-Some-clause-read_faults g c =
    subst (λ (n : ℕ). CountsSource c.in-Some.exit n (g.S.Source.faults c.step.new.source)) c.steps.invariant.read_calm c.in-Some.ensures.read_faults

pub returns-in-Some-clause-write_faults : goal.returns-in-Some-clause-write_faults
returns-in-Some-clause-write_faults g c = c.in-Some.ensures.write_faults ∙ ap (sink_faults c.in-Some.exit) c.steps.invariant.write_calm
