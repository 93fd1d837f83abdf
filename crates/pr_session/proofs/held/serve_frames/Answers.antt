use Rattle.std.proofs.Common.{rules, refl, ◌∙◌}
use Rattle.pr_gate.specs.Passes.{number_of, seen_of, own_of, ground_of}
use Rattle.pr_session.specs.Sessions.{lane_of}
use Rattle.pr_session.specs.Ends.{replies_in}
use Rattle.pr_session.proofs.Servings.{since_new}
use Rattle.pr_session.proofs.Holdings.{new_lives, new_agrees, since_goes, over_frames, prefix_trans}
use Rattle.pr_session.proofs.Closings.{within_all, within_last}
use Rattle.pr_session.proofs.held.serve_frames.Goals as goal

pub loop-init : goal.loop-init
loop-init g c =
    let s = c.args.session.now in
    let p = c.args.pass.now in
    let new = c.requires.new in
    record {
      next = tt;
      finite = tt;
      settled = new.settled;
      sent = new.reply;
      lives = new_lives s new;
      gate = c.requires.gate;
      agrees = new_agrees g.M.Medium g.D.Disk s (ground_of p) (number_of p) (seen_of p) new;
      same = search rules;
      seen = search rules;
      right = λ k is right. right;
      since = since_new (number_of p) (g.S.Source.rest c.args.source.now) (g.K.Sink.written c.args.sink.now) (own_of p) s new;
      frames = search rules;
      few = search rules;
      source = refl;
      sink = refl;
    }

pub loop-preserved-else-replied-eq-FRAMES : goal.loop-preserved-else-replied-eq-FRAMES
loop-preserved-else-replied-eq-FRAMES g c =
    let rest = g.S.Source.rest c.args.source.now in
    let written = g.K.Sink.written c.args.sink.now in
    let own = own_of c.args.pass.now in
    record {
      next = tt;
      finite = tt;
      settled = c.in-Ok-true.ensures.goes_on.0;
      sent = c.in-Ok-true.ensures.goes_on.1;
      lives = c.in-Ok-true.ensures.goes_on.2;
      gate = search rules;
      agrees = c.in-Ok-true.ensures.agrees;
      same = search rules;
      seen = prefix_trans (seen_of c.args.pass.now) (seen_of c.loop.pass) (seen_of c.serve_turn.new.pass) c.loop.invariant.seen c.serve_turn.ensures.seen;
      right = λ k is right. c.serve_turn.ensures.right k (c.loop.invariant.same.4 ∙ is) (c.loop.invariant.right k is right);
      since = since_goes (number_of c.args.pass.now) (number_of c.loop.pass) rest (g.S.Source.rest c.loop.source) (g.S.Source.rest c.serve_turn.new.source) written (g.K.Sink.written c.loop.sink) (g.K.Sink.written c.serve_turn.new.sink) own (own_of c.loop.pass) (own_of c.serve_turn.new.pass) c.loop.session c.serve_turn.new.session
          c.loop.invariant.same.1 (c.in-Ok-true.ensures.since rest written own) c.loop.invariant.since;
      frames = search rules;
      few = search rules;
      source = c.in-Ok-true.ensures.calm.0 ∙ c.loop.invariant.source;
      sink = c.in-Ok-true.ensures.calm.1 ∙ c.loop.invariant.sink;
    }

pub loop-preserved : goal.loop-preserved
loop-preserved g c =
    let rest = g.S.Source.rest c.args.source.now in
    let written = g.K.Sink.written c.args.sink.now in
    let own = own_of c.args.pass.now in
    record {
      next = tt;
      finite = tt;
      settled = c.in-Ok-false.ensures.goes_on.0;
      sent = c.in-Ok-false.ensures.goes_on.1;
      lives = c.in-Ok-false.ensures.goes_on.2;
      gate = search rules;
      agrees = c.in-Ok-false.ensures.agrees;
      same = search rules;
      seen = prefix_trans (seen_of c.args.pass.now) (seen_of c.loop.pass) (seen_of c.serve_turn.new.pass) c.loop.invariant.seen c.serve_turn.ensures.seen;
      right = λ k is right. c.serve_turn.ensures.right k (c.loop.invariant.same.4 ∙ is) (c.loop.invariant.right k is right);
      since = since_goes (number_of c.args.pass.now) (number_of c.loop.pass) rest (g.S.Source.rest c.loop.source) (g.S.Source.rest c.serve_turn.new.source) written (g.K.Sink.written c.loop.sink) (g.K.Sink.written c.serve_turn.new.sink) own (own_of c.loop.pass) (own_of c.serve_turn.new.pass) c.loop.session c.serve_turn.new.session
          c.loop.invariant.same.1 (c.in-Ok-false.ensures.since rest written own) c.loop.invariant.since;
      frames = search rules;
      few = search rules;
      source = c.in-Ok-false.ensures.calm.0 ∙ c.loop.invariant.source;
      sink = c.in-Ok-false.ensures.calm.1 ∙ c.loop.invariant.sink;
    }

pub returns-then-replied-eq-FRAMES-clause-over : goal.returns-then-replied-eq-FRAMES-clause-over
returns-then-replied-eq-FRAMES-clause-over g c =
    let rest = g.S.Source.rest c.args.source.now in
    let written = g.K.Sink.written c.args.sink.now in
    let own = own_of c.args.pass.now in
    over_frames (number_of c.args.pass.now) rest (g.S.Source.rest c.serve_turn.new.source) written (g.K.Sink.written c.serve_turn.new.sink) own (own_of c.serve_turn.new.pass) c.serve_turn.new.session
    (since_goes (number_of c.args.pass.now) (number_of c.loop.pass) rest (g.S.Source.rest c.loop.source) (g.S.Source.rest c.serve_turn.new.source) written (g.K.Sink.written c.loop.sink) (g.K.Sink.written c.serve_turn.new.sink) own (own_of c.loop.pass) (own_of c.serve_turn.new.pass) c.loop.session c.serve_turn.new.session
    c.loop.invariant.same.1 (c.in-Ok-true.ensures.since rest written own) c.loop.invariant.since) c.in-Ok-true.ensures.goes_on.1

pub returns-then-replied-eq-FRAMES-clause-within : goal.returns-then-replied-eq-FRAMES-clause-within
returns-then-replied-eq-FRAMES-clause-within g c n is =
    within_all c.in-Ok-true.field-0 (replies_in (own_of c.loop.pass)) (replies_in (own_of c.serve_turn.new.pass)) (replies_in (own_of c.args.pass.now)) n c.loop.replied (search rules) c.in-Ok-true.ensures.frames c.loop.invariant.frames (search rules) is

pub returns-in-Err-clause-within : goal.returns-in-Err-clause-within
returns-in-Err-clause-within g c n is =
    within_last c.in-Err.end (lane_of c.serve_turn.new.session) (replies_in (own_of c.loop.pass)) (replies_in (own_of c.serve_turn.new.pass)) (replies_in (own_of c.args.pass.now)) n c.loop.replied c.in-Err.ensures.last c.loop.invariant.few c.loop.invariant.frames is
