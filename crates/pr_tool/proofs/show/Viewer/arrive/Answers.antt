use Rattle.std.proofs.Common.{◌≡◌, ◌-◌, ◌≤◌, ℕ, List, ◌++◌, length, take, true, ◌∙◌, ap, subst, sym, arith}
use Rattle.std.proofs.lemmas.List.{length-take}
use Rattle.pr_io.specs.Streams.{PutSome}
use Rattle.pr_words.specs.declared.nexus.Side.TheVariants.{Target}
use Rattle.pr_grammar.specs.Frames.{front, is_body}
use Rattle.pr_grammar.specs.Shows.{line_of}
use Rattle.pr_grammar.proofs.Framings.{short_most}
use Rattle.pr_link.specs.Streams.{Stream, frame_of}
use Rattle.pr_link.specs.Deframer.{stream_of, held_of}
use Rattle.pr_tool.specs.declared.exit.Exit.TheVariants.{Done}
use Rattle.pr_tool.proofs.Showings.{going_need, going_frame, bad_stands, frame_fault, four_lack, last_bad, ends_text, ends_unread, ends_counted, not_read, not_write, same_exit, piece_size}
use Rattle.pr_tool.proofs.show.Viewer.arrive.Goals as goal

pub next_in-requires-clause-room : goal.next_in-requires-clause-room
next_in-requires-clause-room g c = omega (arith, short_most Target (held_of c.args.self.now.deframer) c.args.self.now.need c.requires.ready.short, c.requires.few)

pub put_line-requires-clause-within : goal.put_line-requires-clause-within
put_line-requires-clause-within g c =
    let finds = c.in-Frame.ensures.finds in
    omega (arith, ap length c.deref-in-Frame.ensures.value, finds.3.0, c.next_in.ensures.len, c.requires.ready.work)

pub put_line-requires-clause-body : goal.put_line-requires-clause-body
put_line-requires-clause-body g c =
    let finds = c.in-Frame.ensures.finds in
    subst (λ (w : List ℕ). is_body Target c.in-Frame.frame.kind (take c.in-Frame.frame.body w) ≡ true) (sym c.deref-in-Frame.ensures.value) finds.3.1

pub returns-in-Need-clause-steps : goal.returns-in-Need-clause-steps
returns-in-Need-clause-steps g c budget ra rb rc wa goes took =
    let v = c.args.self.now in
    let finds = c.in-Need.ensures.finds in
    let some : c.args.n ≤ length v.work.items = omega (arith, c.requires.few, c.requires.ready.work, short_most Target (held_of v.deframer) v.need c.requires.ready.short) in
    let size : length (take c.args.n v.work.items) ≡ c.args.n = piece_size v.work.items c.args.n some in
    going_need budget v.left (v.left - c.args.n) v.frames ra rb rc wa _ (stream_of v.deframer) (stream_of c.next_in.new.deframer) v.text.items (take c.args.n v.work.items) goes took
    (ap (λ (s : Stream). s.held) finds.1) (ap (λ (s : Stream). s.place) finds.1) (omega (arith, size, c.requires.looked))

pub returns-in-Need-clause-ready : goal.returns-in-Need-clause-ready
returns-in-Need-clause-ready g c is =
    let finds = c.in-Need.ensures.finds in
    let ready = c.requires.ready in
    record {
      side = ap (λ (s : Stream). s.side) finds.1 ∙ ready.side;
      unbroken = ap (λ (s : Stream). s.broken) finds.1 ∙ ready.unbroken;
      short = ap (λ (s : Stream). front Target s.held) finds.1 ∙ finds.0;
      work = c.next_in.ensures.len ∙ ready.work;
      taken = ready.taken;
      room = ready.room;
      count = omega (arith, ready.count);
    }

pub returns-in-Bad-clause-steps : goal.returns-in-Bad-clause-steps
returns-in-Bad-clause-steps g c budget ra rb rc wa goes took =
    let v = c.args.self.now in
    let finds = c.in-Bad.ensures.finds in
    let piece : List ℕ = take c.args.n v.work.items in
    let some : c.args.n ≤ length v.work.items = omega (arith, c.requires.few, c.requires.ready.work, short_most Target (held_of v.deframer) v.need c.requires.ready.short) in
    let size : length piece ≡ c.args.n = piece_size v.work.items c.args.n some in
    bad_stands budget v.left v.frames v.need c.in-Bad.reason _ _ ra rb rc wa (g.K.Sink.written c.args.sink.now) (g.K.Sink.written c.stop.new.sink) (stream_of v.deframer) v.text.items piece c.stop.result goes c.requires.ready.short took
    (omega (arith, size, c.requires.some)) (omega (arith, size, c.requires.few)) (omega (arith, size, c.requires.looked)) finds.0
    (ends_text Done c.stop.result _ _ _ _ _ _ c.stop.ensures.ends (c.deref.ensures.value ∙ c.push_bad.ensures.items ∙ last_bad goes.frames (held_of v.deframer ++ piece) v.text.items c.in-Bad.place c.in-Bad.reason (finds.1 ∙ goes.placed)))

pub returns-in-Bad-clause-read : goal.returns-in-Bad-clause-read
returns-in-Bad-clause-read g c is = ends_unread Done c.stop.result _ _ _ _ _ c.stop.ensures.ends not_read (same_exit _ _ is)

pub returns-in-Bad-clause-faults : goal.returns-in-Bad-clause-faults
returns-in-Bad-clause-faults g c = ends_counted Done c.stop.result _ _ _ _ _ c.stop.ensures.ends not_write

pub returns-in-Ok-clause-steps : goal.returns-in-Ok-clause-steps
returns-in-Ok-clause-steps g c budget ra rb rc wa goes took =
    let v = c.args.self.now in
    let finds = c.in-Frame.ensures.finds in
    let all = c.in-Ok.ensures.all in
    let piece : List ℕ = take c.args.n v.work.items in
    let some : c.args.n ≤ length v.work.items = omega (arith, c.requires.few, c.requires.ready.work, short_most Target (held_of v.deframer) v.need c.requires.ready.short) in
    let size : length piece ≡ c.args.n = piece_size v.work.items c.args.n some in
    going_frame budget v.left (v.left - c.args.n) v.frames ra rb rc wa (g.K.Sink.written c.args.sink.now) (g.K.Sink.written c.put_line.new.sink) (stream_of v.deframer) (stream_of c.next_in.new.deframer) v.text.items c.put_line.new.text.items piece all.0 finds.0
    (frame_of c.in-Frame.frame (take c.in-Frame.frame.body c.next_in.new.work.items)) goes took finds.1 (ap (λ (s : Stream). s.held) finds.2) (ap (λ (s : Stream). s.place) finds.2) (omega (arith, size, c.requires.looked)) all.1
    (ap (λ (w : List ℕ). v.text.items ++ line_of (frame_of c.in-Frame.frame (take c.in-Frame.frame.body w))) (sym c.deref-in-Frame.ensures.value) ∙ all.2)

pub returns-in-Ok-clause-ready : goal.returns-in-Ok-clause-ready
returns-in-Ok-clause-ready g c is =
    let v = c.args.self.now in
    let finds = c.in-Frame.ensures.finds in
    let ready = c.requires.ready in
    let piece : List ℕ = take c.args.n v.work.items in
    let few : length piece ≤ v.need = omega (arith, length-take c.args.n v.work.items, c.requires.few) in
    record {
      side = ap (λ (s : Stream). s.side) finds.2 ∙ ready.side;
      unbroken = ap (λ (s : Stream). s.broken) finds.2 ∙ ready.unbroken;
      short = ap (λ (s : Stream). front Target s.held) finds.2 ∙ four_lack (held_of v.deframer) piece finds.0 v.need _ ready.short few finds.1;
      work = c.next_in.ensures.len ∙ ready.work;
      taken = c.put_line.ensures.taken;
      room = c.in-Ok.ensures.room;
      count = omega (arith, ready.count, c.requires.some, c.requires.looked);
    }

pub returns-in-Err-clause-steps : goal.returns-in-Err-clause-steps
returns-in-Err-clause-steps g c budget ra rb rc wa goes took =
    let v = c.args.self.now in
    let finds = c.in-Frame.ensures.finds in
    let piece : List ℕ = take c.args.n v.work.items in
    let few : length piece ≤ v.need = omega (arith, length-take c.args.n v.work.items, c.requires.few) in
    let f = frame_of c.in-Frame.frame (take c.in-Frame.frame.body c.next_in.new.work.items) in
    let some : PutSome (g.K.Sink.written c.args.sink.now) (g.K.Sink.written c.put_line.new.sink) (v.text.items ++ line_of f) =
    subst (λ (w : List ℕ). PutSome (g.K.Sink.written c.args.sink.now) (g.K.Sink.written c.put_line.new.sink) (v.text.items ++ line_of (frame_of c.in-Frame.frame (take c.in-Frame.frame.body w)))) c.deref-in-Frame.ensures.value c.in-Err.ensures.some in
    frame_fault budget v.left v.frames v.need ra rb rc wa (g.K.Sink.written c.args.sink.now) (g.K.Sink.written c.put_line.new.sink) (stream_of v.deframer) v.text.items piece finds.0 f goes c.requires.ready.short took few finds.1 some
