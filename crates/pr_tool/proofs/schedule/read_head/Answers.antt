use Rattle.std.proofs.Common.{◌≡◌, ◌≤◌, length, take, arith, false, ℕ, List, Option, ltb, ap, sym, ◌∙◌}
use Rattle.std.proofs.lemmas.List.{length-take, take_all}
use Rattle.pr_io.specs.Streams.{Took, EndedShort}
use Rattle.pr_grammar.specs.Schedules.{can_begin}
use Rattle.pr_grammar.proofs.Records.{short_unfinished}
use Rattle.pr_tool.specs.Reading.{IsAtEnd, end_at}
use Rattle.pr_tool.proofs.Stopping.{at_end, stops_ended, stops_faulty}
use Rattle.pr_tool.proofs.schedule.read_head.Goals as goal

pub returns-in_default-clause-stops : goal.returns-in_default-clause-stops
returns-in_default-clause-stops g c =
    let some = rw c.in_default.is at c.read_up_to.ensures.took_fewer in
    (some.0, some.1, short_unfinished c.args.lanes some.0 (omega (arith, some.2)), omega (arith, some.2, c.if-left-lt4.false))

pub returns-then-got-lt4-clause-stops : goal.returns-then-got-lt4-clause-stops
returns-then-got-lt4-clause-stops g c =
    let got : ℕ = c.in-Ok.got in
    let buf : List ℕ = c.read_up_to.new.buf in
    let before : Option (List ℕ) = g.S.Source.rest c.args.source.now in
    let now : Option (List ℕ) = g.S.Source.rest c.read_up_to.new.source in
    let took : Took before now (take got buf) = rw c.in-Ok.is at c.read_up_to.ensures.took in
    let short : EndedShort now got 4 = rw c.in-Ok.is at c.read_up_to.ensures.short in
    let filled : length buf ≡ 4 = c.read_up_to.auto.buf in
    let size : length (take got buf) ≡ got = omega (arith, length-take got buf, filled, c.if-got-lt4.true) in
    let ended : IsAtEnd now = at_end now got 4 short c.if-got-lt4.true in
    stops_ended c.args.lanes c.args.left c.at.result before now (take got buf) took (omega (arith, size, c.if-got-lt4.true)) (omega (arith, size, c.if-got-lt4.true, c.if-left-lt4.false)) ended
    (c.at.ensures ∙ ap (λ (n : ℕ). end_at (ltb 0 n)) (sym size))

pub returns-then-not-can_begin-clause-stops : goal.returns-then-not-can_begin-clause-stops
returns-then-not-can_begin-clause-stops g c =
    let got : ℕ = c.in-Ok.got in
    let buf : List ℕ = c.read_up_to.new.buf in
    let before : Option (List ℕ) = g.S.Source.rest c.args.source.now in
    let now : Option (List ℕ) = g.S.Source.rest c.read_up_to.new.source in
    let took : Took before now (take got buf) = rw c.in-Ok.is at c.read_up_to.ensures.took in
    let filled : length buf ≡ 4 = c.read_up_to.auto.buf in
    let same : take got buf ≡ buf = take_all got buf (omega (arith, filled, c.if-got-lt4.false)) in
    let size : length (take got buf) ≤ c.args.left = omega (arith, ap length same, filled, c.if-left-lt4.false) in
    let not_begun : can_begin c.args.lanes (take got buf) ≡ false = ap (can_begin c.args.lanes) same ∙ sym c.can_begin.ensures ∙ c.if-not-can_begin.true in
    stops_faulty c.args.lanes c.args.left before now (take got buf) took size not_begun
