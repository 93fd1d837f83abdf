use Rattle.std.proofs.Common.{rules, refl}
use Rattle.pr_model.specs.Lanes.{turn}
use Rattle.pr_session.specs.Sessions.{lane_of}
use Rattle.pr_session.proofs.Drivings.{ready_in, drives, agrees_then, answers_fit, onward, follows_calm}
use Rattle.pr_session.proofs.driving.drive.Goals as goal

pub perform-out-requires : goal.perform-out-requires
perform-out-requires g c =
    ready_in c.args.who c.args.core.now (lane_of c.args.session.now) (turn (lane_of c.args.session.now)) _ _ c.want.new.self (rw c.in-Act.is at (c.want.ensures.begins c.requires.settled)) c.requires.agrees

pub returns-in-Act-clause-follows : goal.returns-in-Act-clause-follows
returns-in-Act-clause-follows g c =
    drives c.args.who c.args.core.now c.perform-out.new.core (lane_of c.args.session.now) (turn (lane_of c.args.session.now)) _ _ c.want.new.self c.perform-out.new.self c.answer.new.self c.perform-out.result
    (rw c.in-Act.is at (c.want.ensures.begins c.requires.settled)) c.perform-out.ensures.does c.perform-out.ensures.keeps.0 c.perform-out.ensures.keeps.1 c.answer.ensures.turned

pub returns-in-Act-clause-agrees : goal.returns-in-Act-clause-agrees
returns-in-Act-clause-agrees g c =
    agrees_then c.args.who c.args.core.now c.perform-out.new.core (lane_of c.args.session.now) (turn (lane_of c.args.session.now)) _ _ c.want.new.self c.perform-out.new.self c.answer.new.self c.perform-out.result
    (rw c.in-Act.is at (c.want.ensures.begins c.requires.settled)) c.perform-out.ensures.does c.perform-out.ensures.keeps.0 c.perform-out.ensures.keeps.1 c.answer.ensures.turned

pub answer-requires : goal.answer-requires
answer-requires g c =
    answers_fit c.args.who c.args.core.now c.perform-out.new.core (lane_of c.args.session.now) (turn (lane_of c.args.session.now)) _ _ c.want.new.self c.perform-out.new.self c.perform-out.result
    (rw c.in-Act.is at (c.want.ensures.begins c.requires.settled)) c.perform-out.ensures.does c.perform-out.ensures.keeps.0

pub returns-in-Act-clause-onward : goal.returns-in-Act-clause-onward
returns-in-Act-clause-onward g c =
    onward c.args.who c.args.core.now c.perform-out.new.core (lane_of c.args.session.now) (turn (lane_of c.args.session.now)) _ _ c.want.new.self c.perform-out.new.self c.answer.new.self c.perform-out.result
    (rw c.in-Act.is at (c.want.ensures.begins c.requires.settled)) c.perform-out.ensures.does c.perform-out.ensures.keeps.0 c.perform-out.ensures.keeps.1 c.answer.ensures.turned

pub returns-in-Need : goal.returns-in-Need
returns-in-Need g c =
    record {
      follows = follows_calm c.args.who c.args.core.now (lane_of c.args.session.now) (turn (lane_of c.args.session.now)) c.want.result c.want.new.self (c.want.ensures.begins c.requires.settled) (search rules);
      settled = search rules;
      agrees = search rules;
      onward = search rules;
      others = λ other n apart owned. (owned, refl);
    }
