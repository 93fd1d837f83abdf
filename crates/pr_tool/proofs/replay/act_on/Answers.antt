use Rattle.std.proofs.Common.{◌≡◌, ◌<◌, ℕ, length, sym, subst, arith}
use Rattle.std.specs.Prelude.{slice_index_or}
use Rattle.pr_grammar.specs.Schedules.{Record}
use Rattle.pr_grammar.specs.Schedules as schedules
use Rattle.pr_io.proofs.Sent.{on_ok, on_err}
use Rattle.pr_model.specs.Runs.{RunsRecord, CutsRecord}
use Rattle.pr_core.specs.View.{KeepsOthers}
use Rattle.pr_session.specs.Driving.{Agrees}
use Rattle.pr_tool.specs.Reading.{lane_record_of}
use Rattle.pr_tool.specs.Lanes.{lane_of}
use Rattle.pr_tool.proofs.Places.{below, session_agrees, session_ran, session_cut, sessions_agree}
use Rattle.pr_tool.proofs.replay.act_on.Goals as goal

pub act-requires-clause-agrees : goal.act-requires-clause-agrees
act-requires-clause-agrees g c =
    let r : Record = lane_record_of c.args.found c.args.body.now in
    let at : c.lane.result ≡ schedules.lane_of r = c.lane.ensures c.args.body.now in
    let within : c.lane.result < length c.args.lanes.now = omega (arith, at, below (length c.args.lanes.now) r c.requires.valid) in
    subst (λ (k : ℕ). Agrees (lane_of (slice_index_or c.args.lanes.now c.lane.result c.index-lanes-lane.result)).phase k c.args.core.now) at (session_agrees c.args.lanes.now c.lane.result c.index-lanes-lane.result c.args.core.now within c.requires.agree)

pub returns-clause-all : goal.returns-clause-all
returns-clause-all g c =
    let r : Record = lane_record_of c.args.found c.args.body.now in
    let at : c.lane.result ≡ schedules.lane_of r = c.lane.ensures c.args.body.now in
    let within : c.lane.result < length c.args.lanes.now = omega (arith, at, below (length c.args.lanes.now) r c.requires.valid) in
    on_ok c.act.result (session_ran RunsRecord r c.args.lanes.now c.lane.result c.index-lanes-lane.result c.act.new.lane c.args.core.now c.act.new.core _ _ at within) c.act.ensures.all

pub returns-clause-some : goal.returns-clause-some
returns-clause-some g c =
    let r : Record = lane_record_of c.args.found c.args.body.now in
    let at : c.lane.result ≡ schedules.lane_of r = c.lane.ensures c.args.body.now in
    let within : c.lane.result < length c.args.lanes.now = omega (arith, at, below (length c.args.lanes.now) r c.requires.valid) in
    on_err c.act.result (session_cut CutsRecord r c.args.lanes.now c.lane.result c.index-lanes-lane.result c.args.core.now c.act.new.core _ _ at within) c.act.ensures.some

pub returns-clause-agree : goal.returns-clause-agree
returns-clause-agree g c =
    let r : Record = lane_record_of c.args.found c.args.body.now in
    let at : c.lane.result ≡ schedules.lane_of r = c.lane.ensures c.args.body.now in
    let within : c.lane.result < length c.args.lanes.now = omega (arith, at, below (length c.args.lanes.now) r c.requires.valid) in
    let keeps : KeepsOthers c.lane.result c.args.core.now c.act.new.core = subst (λ (k : ℕ). KeepsOthers k c.args.core.now c.act.new.core) (sym at) c.act.ensures.others in
    let agrees : Agrees (lane_of c.act.new.lane).phase c.lane.result c.act.new.core = subst (λ (k : ℕ). Agrees (lane_of c.act.new.lane).phase k c.act.new.core) (sym at) c.act.ensures.agrees in
    sessions_agree c.args.lanes.now c.lane.result c.act.new.lane c.args.core.now c.act.new.core within c.requires.agree keeps agrees
