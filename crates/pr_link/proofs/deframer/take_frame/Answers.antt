use Rattle.std.proofs.Common.{◌≡◌, ◌-◌, length, drop, take, arith, ap, sym, ◌∙◌}
use Rattle.std.proofs.lemmas.List.{length-take, length-drop, drop-take, drop-drop, take_all}
use Rattle.pr_link.proofs.Parts.{in_parts}
use Rattle.pr_link.proofs.deframer.take_frame.Goals as goal

pub returns-clause-gives : goal.returns-clause-gives
returns-clause-gives c =
    let xs = c.args.held.now.items in
    let k : length (take (c.args.len - 8) c.args.buf.now) ≡ c.args.len - 8 = omega (arith, length-take (c.args.len - 8) c.args.buf.now) in
    let left : c.read_front.new.held.items ≡ drop 8 (drop 4 xs) = ap (λ b. b.items) c.read_front.ensures.rest ∙ sym (drop-drop 8 4 xs) in
    let size : length (drop 4 c.read_front.new.dst) ≡ 8 = omega (arith, ap length c.read_front.ensures.bytes, length-take 12 xs, length-drop 4 c.read_front.new.dst, c.requires.size, c.requires.whole) in
    let short : take 8 (drop 4 c.read_front.new.dst) ≡ drop 4 c.read_front.new.dst = take_all 8 (drop 4 c.read_front.new.dst) (omega (arith, size)) in
    in_parts c.args.side xs c.args.len (length (take (c.args.len - 8) c.args.buf.now)) (take 8 (drop 4 c.read_front.new.dst)) c.read_front-2.new.dst (drop (c.args.len - 8) c.args.buf.now) c.read_front-2.new.held.items c.checked_frame.result k c.requires.size c.requires.whole
    (short ∙ ap (drop 4) c.read_front.ensures.bytes ∙ drop-take 4 8 xs)
    (c.read_front-2.ensures.bytes ∙ ap (take (length (take (c.args.len - 8) c.args.buf.now))) left)
    (ap (λ b. b.items) c.read_front-2.ensures.rest ∙ ap (drop (length (take (c.args.len - 8) c.args.buf.now))) left)
    c.checked_frame.ensures
