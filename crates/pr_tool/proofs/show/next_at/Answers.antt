use Rattle.std.proofs.Common.{ℕ, ◌+◌, ◌≤◌, List, length, take, arith}
use Rattle.std.proofs.lemmas.List.{length-take}
use Rattle.pr_words.specs.declared.limits.TheConstants.{HELD}
use Rattle.pr_link.specs.Deframer.{stream_of, held_of}
use Rattle.pr_tool.proofs.Showings.{finds, fed_all}
use Rattle.pr_tool.proofs.show.next_at.Goals as goal

pub returns : goal.returns
returns c =
    let piece : List ℕ = take c.args.n c.args.work.now in
    let room : length (held_of c.args.deframer.now) + length piece ≤ HELD = omega (arith, length-take c.args.n c.args.work.now, c.requires.room) in
    finds (stream_of c.args.deframer.now) (stream_of c.feed.new.self) (stream_of c.next.new.self) piece c.next.new.buf c.next.result c.requires.side c.requires.unbroken
    (fed_all (stream_of c.args.deframer.now) (stream_of c.feed.new.self) piece c.feed.result c.feed.ensures.feeds c.requires.unbroken room) c.next.ensures
