use Rattle.std.proofs.Common.{◌≡◌, ◌<◌, ◌+◌, [], Some}
use mathlib.Core.List.{IsPrefix}
use Rattle.pr_model.specs.Lanes.{Dead}
use Rattle.pr_core.specs.declared.ground.Ground.{Ground}
use Rattle.pr_core.specs.Shared.{IsRightOn}
use Rattle.pr_gate.specs.Passes.{IsOf, IsFree, IsSamePass, number_of, seen_of, own_of, ground_of}
use Rattle.pr_session.specs.declared.session_end.TheConstants.{FRAMES}
use Rattle.pr_session.specs.Sessions.{IsSettled, lane_of, reply_of}
use Rattle.pr_session.specs.Sharing.{WillAgree}
use Rattle.pr_session.specs.Ends.{Since, replies_in}
use Rattle.pr_session.proofs.held.serve_frames.Given as goal

abbrev pub invariant-loop : goal.invariant-loop
invariant-loop g l =
    record {
      next : (goal.iterator-loop g).can_next l.iterator';
      finite : (goal.iterator-loop g).is_finite l.iterator';
      settled : IsSettled l.session;
      sent : reply_of l.session ≡ [];
      lives : (lane_of l.session).phase ≡ Dead → ⊥;
      gate : IsOf l.gate l.pass × IsFree l.pass;
      agrees : WillAgree g.M.Medium g.D.Disk (lane_of l.session).phase (ground_of l.pass) (number_of l.pass) (seen_of l.pass);
      same : IsSamePass l.initial.pass l.pass;
      seen : IsPrefix (seen_of l.initial.pass) (seen_of l.pass);
      right : (k : Ground) → ground_of l.initial.pass ≡ Some k → IsRightOn g.M.Medium g.D.Disk k (seen_of l.initial.pass) → IsRightOn g.M.Medium g.D.Disk k (seen_of l.pass);
      since : Since (number_of l.initial.pass) (g.S.Source.rest l.initial.source) (g.S.Source.rest l.source) (g.K.Sink.written l.initial.sink) (g.K.Sink.written l.sink) (own_of l.initial.pass) (own_of l.pass) l.session;
      frames : replies_in (own_of l.pass) ≡ l.replied + replies_in (own_of l.initial.pass);
      few : l.replied < FRAMES;
      source : g.S.Source.faults l.source ≡ g.S.Source.faults l.initial.source;
      sink : g.K.Sink.faults l.sink ≡ g.K.Sink.faults l.initial.sink;
    }
