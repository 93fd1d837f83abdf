use Rattle.std.proofs.Common.{◌<◌, ℕ, List, length, take, ◌-◌, arith}
use Rattle.std.proofs.lemmas.List.{length-take}
use Rattle.pr_initiator.proofs.Fronting.{short_lacks}
use Rattle.pr_initiator.proofs.receiving.hear_length.Goals as goal

pub returns-then-n-lt4-clause-none : goal.returns-then-n-lt4-clause-none
returns-then-n-lt4-clause-none g c =
    let heard : List ℕ = take c.in-Ok.n c.receive_up_to.new.buf in
    let few : length heard < 4 = omega (arith, length-take c.in-Ok.n c.receive_up_to.new.buf, c.if-n-lt4.true) in
    (heard, 4 - length heard, c.in-Ok.ensures.goes, short_lacks heard few, c.in-Ok.ensures.ended (omega (arith, length-take 4 c.args.work.now, c.requires, c.if-n-lt4.true)))
