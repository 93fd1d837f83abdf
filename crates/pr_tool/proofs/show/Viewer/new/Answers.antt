use Rattle.std.proofs.Common.{refl, ap, ◌∙◌, arith}
use Rattle.pr_words.specs.declared.nexus.Side.TheVariants.{Target}
use Rattle.pr_grammar.specs.Frames.{front}
use Rattle.pr_grammar.proofs.Framings.{front_none}
use Rattle.pr_link.specs.Streams.{Stream}
use Rattle.pr_link.specs.Deframer.{stream_of}
use Rattle.pr_tool.proofs.Showings.{going_first}
use Rattle.pr_tool.proofs.show.Viewer.new.Goals as goal

pub returns-clause-ready : goal.returns-clause-ready
returns-clause-ready c =
    let fresh = rw c.in_ok-new.was at c.new.ensures in
    let len = rw c.in_ok-text_buffer.was at c.text_buffer.ensures.len in
    record {
      side = ap (λ (s : Stream). s.side) fresh;
      unbroken = ap (λ (s : Stream). s.broken) fresh;
      short = ap (λ (s : Stream). front Target s.held) fresh ∙ front_none Target;
      work = rw c.in_ok-work_buffer.was at c.work_buffer.ensures;
      taken = rw c.in_ok-text_buffer.was at c.text_buffer.ensures.room;
      room = omega (arith, len);
      count = omega (arith, c.ranges.budget);
    }

pub returns-clause-goes : goal.returns-clause-goes
returns-clause-goes c r w =
    let fresh = rw c.in_ok-new.was at c.new.ensures in
    going_first c.args.budget c.args.budget 0 r w (stream_of c.in_ok-new.field-0) c.in_ok-text_buffer.field-0.items (ap (λ (s : Stream). s.held) fresh) (ap (λ (s : Stream). s.place) fresh)
    (rw c.in_ok-text_buffer.was at c.text_buffer.ensures.items) refl refl (omega (arith, c.ranges.budget))
