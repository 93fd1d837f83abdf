use Rattle.std.proofs.Common.{◌≡◌, ◌-◌, ℕ, length, replicate, Ok, refl, sym, ap, ◌∙◌, subst, arith}
use Rattle.pr_io.specs.Told.{told_streams}
use Rattle.pr_model.specs.Lanes.{fresh}
use Rattle.pr_aptpl.specs.declared.fault.OpenFault.{OpenFault}
use Rattle.pr_tool.specs.declared.exit.Exit.{Exit}
use Rattle.pr_tool.specs.declared.replay.Event.{Event}
use Rattle.pr_tool.specs.declared.replay.Event.TheVariants.{Acted, PowerLoss}
use Rattle.pr_tool.specs.Exits.{RunEnds, Leaves, LeavesDisk, Reopened, Causes}
use Rattle.pr_tool.specs.Stops.{Did, LosesPower, RunsOne, StopsBy, exit_of, unopened_of}
use Rattle.pr_tool.specs.Lanes.{lanes_of}
use Rattle.pr_tool.proofs.Standing.{run_first, run_more, run_stops, run_unpowered, powered, stops_leave, unopened_leave, ends_serve, told_first, told_more, run_causes, unopened_causes}
use Rattle.pr_tool.proofs.Places.{fresh_agree, as_many}
use Rattle.pr_tool.proofs.replay.run.Goals as goal

pub records-init : goal.records-init
records-init g c =
    let lanes : ℕ = length c.args.lanes.now in
    record {
      goes = run_first lanes c.args.budget c.args.opened _ (lanes_of c.args.lanes.now) c.requires.fresh;
      carries = told_first lanes c.args.budget (g.S.Source.rest c.args.source.now);
      within = omega arith;
      agree = fresh_agree lanes (lanes_of c.args.lanes.now) c.args.opened c.requires.fresh;
      count = refl;
      room = c.requires.room;
    }

pub records-preserved-in-Ok-Acted : goal.records-preserved-in-Ok-Acted
records-preserved-in-Ok-Acted g c =
    let lanes : ℕ = length c.args.lanes.now in
    let left : ℕ = c.records.left in
    let size : ℕ = c.in-Ok-Acted.size in
    let before = told_streams g.S.Source g.K.Sink c.records.source c.records.sink in
    let after = told_streams g.S.Source g.K.Sink c.run_one.new.source c.run_one.new.sink in
    let runs : RunsOne (length c.records.lanes) left (Ok (Acted size)) before after c.records.core (lanes_of c.records.lanes) c.run_one.new.core (lanes_of c.run_one.new.lanes) =
    subst (λ (e : Event). RunsOne (length c.records.lanes) left (Ok e) before after c.records.core (lanes_of c.records.lanes) c.run_one.new.core (lanes_of c.run_one.new.lanes)) c.in-Ok-Acted.field-0-is c.in-Ok-Acted.ensures.does in
    let did : Did lanes left before after c.records.core (lanes_of c.records.lanes) c.run_one.new.core (lanes_of c.run_one.new.lanes) size =
    subst (λ (k : ℕ). Did k left before after c.records.core (lanes_of c.records.lanes) c.run_one.new.core (lanes_of c.run_one.new.lanes) size) c.records.invariant.count runs in
    record {
      goes = run_more lanes c.args.budget left size c.args.opened c.records.core c.run_one.new.core _ _ _ (lanes_of c.records.lanes) (lanes_of c.run_one.new.lanes) c.records.invariant.goes did;
      carries = told_more lanes c.args.budget left size did.first _ _ _ did.valid did.within did.counted did.took c.records.invariant.carries;
      within = omega (arith, c.records.invariant.within);
      agree = c.run_one.ensures.agree;
      count = c.run_one.ensures.count ∙ c.records.invariant.count;
      room = c.run_one.ensures.room;
    }

pub records-preserved : goal.records-preserved
records-preserved g c =
    let lanes : ℕ = length c.args.lanes.now in
    let left : ℕ = c.records.left in
    let before = told_streams g.S.Source g.K.Sink c.records.source c.records.sink in
    let after = told_streams g.S.Source g.K.Sink c.run_one.new.source c.run_one.new.sink in
    let runs : RunsOne (length c.records.lanes) left (Ok PowerLoss) before after c.records.core (lanes_of c.records.lanes) c.run_one.new.core (lanes_of c.run_one.new.lanes) =
    subst (λ (e : Event). RunsOne (length c.records.lanes) left (Ok e) before after c.records.core (lanes_of c.records.lanes) c.run_one.new.core (lanes_of c.run_one.new.lanes)) c.in-Ok-PowerLoss.field-0-is c.in-Ok-PowerLoss.ensures.does in
    let loses : LosesPower lanes left before after c.records.core (lanes_of c.records.lanes) c.run_one.new.core (lanes_of c.run_one.new.lanes) =
    subst (λ (k : ℕ). LosesPower k left before after c.records.core (lanes_of c.records.lanes) c.run_one.new.core (lanes_of c.run_one.new.lanes)) c.records.invariant.count runs in
    let new : lanes_of c.renew.new.lanes ≡ replicate (length (lanes_of c.run_one.new.lanes)) fresh = c.renew.ensures.fresh ∙ sym (ap (λ (n : ℕ). replicate n fresh) (as_many c.run_one.new.lanes)) in
    let did : Did lanes left before after c.records.core (lanes_of c.records.lanes) c.in-Ok.powered (lanes_of c.renew.new.lanes) 4 =
    powered lanes left before after c.records.core c.run_one.new.core c.in-Ok.powered (lanes_of c.records.lanes) (lanes_of c.run_one.new.lanes) (lanes_of c.renew.new.lanes) c.in-Ok.ensures.entry.0 loses c.in-Ok.ensures.entry.1 new in
    record {
      goes = run_more lanes c.args.budget left 4 c.args.opened c.records.core c.in-Ok.powered _ _ _ (lanes_of c.records.lanes) (lanes_of c.renew.new.lanes) c.records.invariant.goes did;
      carries = told_more lanes c.args.budget left 4 did.first _ _ _ did.valid did.within did.counted did.took c.records.invariant.carries;
      within = omega (arith, c.records.invariant.within);
      agree = fresh_agree (length c.run_one.new.lanes) (lanes_of c.renew.new.lanes) c.in-Ok.powered c.renew.ensures.fresh;
      count = c.renew.ensures.count ∙ c.run_one.ensures.count ∙ c.records.invariant.count;
      room = c.run_one.ensures.room;
    }

pub returns-in-Err-power-clause-ends : goal.returns-in-Err-power-clause-ends
returns-in-Err-power-clause-ends g c =
    let lanes : ℕ = length c.args.lanes.now in
    let left : ℕ = c.records.left in
    let before = told_streams g.S.Source g.K.Sink c.records.source c.records.sink in
    let after = told_streams g.S.Source g.K.Sink c.run_one.new.source c.run_one.new.sink in
    let fault : OpenFault = c.in-Err-power.parts.0 in
    let core = c.run_one.new.core in
    let runs : RunsOne (length c.records.lanes) left (Ok PowerLoss) before after c.records.core (lanes_of c.records.lanes) core (lanes_of c.run_one.new.lanes) =
    subst (λ (e : Event). RunsOne (length c.records.lanes) left (Ok e) before after c.records.core (lanes_of c.records.lanes) core (lanes_of c.run_one.new.lanes)) c.in-Ok-PowerLoss.field-0-is c.in-Ok-PowerLoss.ensures.does in
    let loses : LosesPower lanes left before after c.records.core (lanes_of c.records.lanes) core (lanes_of c.run_one.new.lanes) =
    subst (λ (k : ℕ). LosesPower k left before after c.records.core (lanes_of c.records.lanes) core (lanes_of c.run_one.new.lanes)) c.records.invariant.count runs in
    let re : Reopened fault core c.in-Err-power.parts.2 =
    record { reference = c.in-Err-power.ensures.parts.1; stays = c.in-Err-power.ensures.parts.2; untold = c.in-Err-power.ensures.untold; counted = c.in-Err-power.ensures.fault } in
    let leaves : LeavesDisk (unopened_of fault) core c.refused.result.1 = subst (LeavesDisk (unopened_of fault) core) (sym c.refused.ensures.1) (unopened_leave fault core c.in-Err-power.parts.2 re) in
    subst (λ (e : Exit). RunEnds (λ h. Leaves c.args.opened e c.refused.result.1 c.refused.result.2 h) lanes c.args.budget e (told_streams g.S.Source g.K.Sink c.args.source.now c.args.sink.now) after) (sym c.refused.ensures.0)
    (ends_serve (λ h extends. record { core = core; extends = extends; same = c.refused.ensures.2 ∙ c.in-Err-power.ensures.parts.0; left = leaves }) lanes c.args.budget (unopened_of fault) _ after
    (run_unpowered lanes c.args.budget left fault c.args.opened c.records.core core _ before after (lanes_of c.records.lanes) (lanes_of c.run_one.new.lanes) c.records.invariant.goes loses))

pub returns-in-Err-power-clause-causes : goal.returns-in-Err-power-clause-causes
returns-in-Err-power-clause-causes g c = unopened_causes (length c.args.lanes.now) c.args.budget c.in-Err-power.parts.0 c.refused.result.0 (g.S.Source.rest c.args.source.now) c.refused.ensures.0

pub returns-in-Err-clause-ends : goal.returns-in-Err-clause-ends
returns-in-Err-clause-ends g c =
    let lanes : ℕ = length c.args.lanes.now in
    let core = c.run_one.new.core in
    let place : ℕ = c.args.budget - c.records.left in
    let stops : StopsBy lanes c.records.left c.in-Err.stop (told_streams g.S.Source g.K.Sink c.records.source c.records.sink) (told_streams g.S.Source g.K.Sink c.run_one.new.source c.run_one.new.sink) c.records.core (lanes_of c.records.lanes) core =
    subst (λ (k : ℕ). StopsBy k c.records.left c.in-Err.stop (told_streams g.S.Source g.K.Sink c.records.source c.records.sink) (told_streams g.S.Source g.K.Sink c.run_one.new.source c.run_one.new.sink) c.records.core (lanes_of c.records.lanes) core) c.records.invariant.count c.in-Err.ensures.does in
    let leaves = stops_leave c.in-Err.stop place core c.parts_of-disk.result.0 c.parts_of-disk.ensures.0 in
    subst (λ (e : Exit). RunEnds (λ h. Leaves c.args.opened e c.parts_of-disk.result.0 c.parts_of-disk.result.1 h) lanes c.args.budget e (told_streams g.S.Source g.K.Sink c.args.source.now c.args.sink.now) (told_streams g.S.Source g.K.Sink c.run_one.new.source c.run_one.new.sink)) (sym c.exit.ensures)
    (ends_serve (λ h extends. record { core = core; extends = extends; same = c.parts_of-disk.ensures.1; left = leaves }) lanes c.args.budget (exit_of c.in-Err.stop place) _ _
    (run_stops lanes c.args.budget c.records.left c.in-Err.stop c.args.opened c.records.core core place _ _ _ (lanes_of c.records.lanes) (omega (arith, c.records.invariant.within)) c.records.invariant.goes stops))

pub returns-in-Err-clause-causes : goal.returns-in-Err-clause-causes
returns-in-Err-clause-causes g c =
    let lanes : ℕ = length c.args.lanes.now in
    let stops : StopsBy lanes c.records.left c.in-Err.stop (told_streams g.S.Source g.K.Sink c.records.source c.records.sink) (told_streams g.S.Source g.K.Sink c.run_one.new.source c.run_one.new.sink) c.records.core (lanes_of c.records.lanes) c.run_one.new.core =
    subst (λ (k : ℕ). StopsBy k c.records.left c.in-Err.stop (told_streams g.S.Source g.K.Sink c.records.source c.records.sink) (told_streams g.S.Source g.K.Sink c.run_one.new.source c.run_one.new.sink) c.records.core (lanes_of c.records.lanes) c.run_one.new.core) c.records.invariant.count c.in-Err.ensures.does in
    subst (λ (e : Exit). Causes lanes e c.args.budget (g.S.Source.rest c.args.source.now)) (sym c.exit.ensures)
    (run_causes lanes c.in-Err.stop c.args.budget c.records.left (c.args.budget - c.records.left) _ _ _ c.records.core c.run_one.new.core (lanes_of c.records.lanes) (omega (arith, c.records.invariant.within)) c.records.invariant.carries stops)
