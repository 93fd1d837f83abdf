use Rattle.std.proofs.Common.{rules}
use Rattle.pr_model.specs.Lanes.{turn}
use Rattle.pr_session.specs.Sessions.{lane_of, reply_of}
use Rattle.pr_session.proofs.Drivings.{ready_in, drives, agrees_then, answers_fit, onward, follows_calm}
use Rattle.pr_session.proofs.Shrinking.{less_left, rests_calm, some_wanted}
use Rattle.pr_session.proofs.Peers.{takes_one}
use Rattle.pr_session.proofs.lane_peer.take_turn.Goals as goal

pub perform-out-requires : goal.perform-out-requires
perform-out-requires g c =
    ready_in 0 c.args.core.now (lane_of c.args.session.now) (turn (lane_of c.args.session.now)) _ _ c.want.new.self (rw c.in-Act.is at (c.want.ensures.begins c.requires.settled)) c.requires.agrees

pub answer-requires : goal.answer-requires
answer-requires g c =
    answers_fit 0 c.args.core.now c.perform-out.new.core (lane_of c.args.session.now) (turn (lane_of c.args.session.now)) _ _ c.want.new.self c.perform-out.new.self c.perform-out.result
    (rw c.in-Act.is at (c.want.ensures.begins c.requires.settled)) c.perform-out.ensures.does c.perform-out.ensures.keeps.0

pub returns-in-Act-clause-takes : goal.returns-in-Act-clause-takes
returns-in-Act-clause-takes g c =
    takes_one 0 c.args.core.now c.perform-out.new.core c.args.session.now c.answer.new.self c.requires.replied
    (drives 0 c.args.core.now c.perform-out.new.core (lane_of c.args.session.now) (turn (lane_of c.args.session.now)) _ _ c.want.new.self c.perform-out.new.self c.answer.new.self c.perform-out.result
    (rw c.in-Act.is at (c.want.ensures.begins c.requires.settled)) c.perform-out.ensures.does c.perform-out.ensures.keeps.0 c.perform-out.ensures.keeps.1 c.answer.ensures.turned)

pub returns-in-Act-clause-agrees : goal.returns-in-Act-clause-agrees
returns-in-Act-clause-agrees g c =
    agrees_then 0 c.args.core.now c.perform-out.new.core (lane_of c.args.session.now) (turn (lane_of c.args.session.now)) _ _ c.want.new.self c.perform-out.new.self c.answer.new.self c.perform-out.result
    (rw c.in-Act.is at (c.want.ensures.begins c.requires.settled)) c.perform-out.ensures.does c.perform-out.ensures.keeps.0 c.perform-out.ensures.keeps.1 c.answer.ensures.turned

pub returns-in-Act-clause-less : goal.returns-in-Act-clause-less
returns-in-Act-clause-less g c =
    let before = lane_of c.args.session.now in
    let now = lane_of c.answer.new.self in
    let old = c.args.core.now in
    let new = c.perform-out.new.core in
    let b = rw c.in-Act.is at (c.want.ensures.begins c.requires.settled) in
    let follows = drives 0 old new before (turn before) _ _ c.want.new.self c.perform-out.new.self c.answer.new.self c.perform-out.result b c.perform-out.ensures.does c.perform-out.ensures.keeps.0 c.perform-out.ensures.keeps.1 c.answer.ensures.turned in
    less_left 0 new before now follows.entries (reply_of c.answer.new.self) (some_wanted before (turn before) _ _ c.want.new.self b) follows.makes
    (agrees_then 0 old new before (turn before) _ _ c.want.new.self c.perform-out.new.self c.answer.new.self c.perform-out.result b c.perform-out.ensures.does c.perform-out.ensures.keeps.0 c.perform-out.ensures.keeps.1 c.answer.ensures.turned)
    (onward 0 old new before (turn before) _ _ c.want.new.self c.perform-out.new.self c.answer.new.self c.perform-out.result b c.perform-out.ensures.does c.perform-out.ensures.keeps.0 c.perform-out.ensures.keeps.1 c.answer.ensures.turned)

pub returns-in-Need : goal.returns-in-Need
returns-in-Need g c =
    let before = lane_of c.args.session.now in
    record {
      takes = takes_one 0 c.args.core.now c.args.core.now c.args.session.now c.want.new.self c.requires.replied (follows_calm 0 c.args.core.now before (turn before) c.want.result c.want.new.self (c.want.ensures.begins c.requires.settled) (search rules));
      settled = search rules;
      agrees = search rules;
      less = rests_calm before c.want.result c.want.new.self (c.want.ensures.begins c.requires.settled) (search rules);
    }
