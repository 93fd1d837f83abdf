use Rattle.pr_session.specs.Sessions.{IsSettled, lane_of}
use Rattle.pr_session.specs.Driving.{Agrees}
use Rattle.pr_session.specs.Answering.{work_left, TakesTurns}
use Rattle.pr_session.proofs.lane_peer.take_turns.Given as goal

abbrev pub invariant-loop-session : goal.invariant-loop-session
invariant-loop-session g l =
    record {
      takes : TakesTurns 0 l.initial.core l.initial.session l.core l.session;
      settled : IsSettled l.session;
      agrees : Agrees (lane_of l.session).phase 0 l.core;
    }

abbrev pub decreases-loop-session : goal.decreases-loop-session
decreases-loop-session g l = work_left (lane_of l.session)
