use Rattle.pr_session.proofs.Peers.{takes_none, takes_more}
use Rattle.pr_session.proofs.lane_peer.take_turns.Goals as goal

pub loop-session-init : goal.loop-session-init
loop-session-init g c = record { takes = takes_none 0 c.args.core.now c.args.session.now; settled = c.requires.settled; agrees = c.requires.agrees }

pub returns-then-not-take_turn-clause-takes : goal.returns-then-not-take_turn-clause-takes
returns-then-not-take_turn-clause-takes g c =
    takes_more 0 c.args.core.now c.loop-session.core c.take_turn.new.core c.args.session.now c.loop-session.session c.take_turn.new.session c.loop-session.invariant.takes c.take_turn.ensures.takes

pub loop-session-preserved : goal.loop-session-preserved
loop-session-preserved g c =
    record {
      takes = takes_more 0 c.args.core.now c.loop-session.core c.take_turn.new.core c.args.session.now c.loop-session.session c.take_turn.new.session c.loop-session.invariant.takes c.take_turn.ensures.takes;
      settled = c.take_turn.ensures.settled;
      agrees = c.take_turn.ensures.agrees;
    }
