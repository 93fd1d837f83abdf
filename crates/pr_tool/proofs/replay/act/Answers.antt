use Rattle.std.proofs.Common.{◌≡◌, take, sym, ap, subst}
use Rattle.std.specs.Prelude.{OnOk, OnErr}
use Rattle.pr_io.proofs.Sent.{on_err}
use Rattle.pr_grammar.specs.Schedules.{Record, Arrival, Step_of, Close_of}
use Rattle.pr_model.specs.Lanes.{Lane}
use Rattle.pr_model.specs.Runs.{RunsRecord, CutsRecord}
use Rattle.pr_io.specs.Told.{told_sink}
use Rattle.pr_tool.specs.Exits.{Ran}
use Rattle.pr_tool.specs.Reading.{lane_record_of}
use Rattle.pr_tool.specs.Lanes.{lane_of}
use Rattle.pr_tool.proofs.Running.{closed_ran}
use Rattle.pr_tool.proofs.replay.act.Goals as goal

pub returns-in-Arrival-clause-some : goal.returns-in-Arrival-clause-some
returns-in-Arrival-clause-some g c =
    let is : lane_record_of c.args.found c.args.body.now ≡ Arrival c.in-Arrival.who (take c.in-Arrival.len c.args.body.now) = ap (λ f. lane_record_of f c.args.body.now) c.in-Arrival.is in
    subst (λ (r : Record). OnErr c.arrive.result ((m : Lane) × Ran (CutsRecord r) (told_sink g.K.Sink c.args.sink.now) (told_sink g.K.Sink c.arrive.new.sink) c.args.core.now (lane_of c.args.lane.now) c.arrive.new.core m)) (sym is) c.arrive.ensures.some

pub returns-in-Step-clause-all : goal.returns-in-Step-clause-all
returns-in-Step-clause-all g c =
    let is : lane_record_of c.args.found c.args.body.now ≡ Step_of c.in-Step.who = ap (λ f. lane_record_of f c.args.body.now) c.in-Step.is in
    subst (λ (r : Record). OnOk c.turn.result (Ran (RunsRecord r) (told_sink g.K.Sink c.args.sink.now) (told_sink g.K.Sink c.turn.new.sink) c.args.core.now (lane_of c.args.lane.now) c.turn.new.core (lane_of c.turn.new.self))) (sym is) c.turn.ensures.all

pub returns-in-Step-clause-some : goal.returns-in-Step-clause-some
returns-in-Step-clause-some g c =
    let is : lane_record_of c.args.found c.args.body.now ≡ Step_of c.in-Step.who = ap (λ f. lane_record_of f c.args.body.now) c.in-Step.is in
    subst (λ (r : Record). OnErr c.turn.result ((m : Lane) × Ran (CutsRecord r) (told_sink g.K.Sink c.args.sink.now) (told_sink g.K.Sink c.turn.new.sink) c.args.core.now (lane_of c.args.lane.now) c.turn.new.core m)) (sym is)
    (on_err c.turn.result (λ p. (lane_of c.turn.new.self, p)) c.turn.ensures.some)

pub returns-in-Close-clause-all : goal.returns-in-Close-clause-all
returns-in-Close-clause-all g c =
    let is : lane_record_of c.args.found c.args.body.now ≡ Close_of c.in-Close.who = ap (λ f. lane_record_of f c.args.body.now) c.in-Close.is in
    subst (λ (r : Record). Ran (RunsRecord r) (told_sink g.K.Sink c.args.sink.now) (told_sink g.K.Sink c.args.sink.now) c.args.core.now (lane_of c.args.lane.now) c.close.new.core (lane_of c.close.new.self)) (sym is)
    (closed_ran c.in-Close.who c.args.core.now c.close.new.core (told_sink g.K.Sink c.args.sink.now) (lane_of c.args.lane.now) (lane_of c.close.new.self) c.close.ensures.entries c.close.ensures.lane)
