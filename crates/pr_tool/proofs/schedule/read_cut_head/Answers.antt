use Rattle.std.proofs.Common.{◌≡◌, ◌≤◌, ◌++◌, length, take, drop, arith, true, false, ℕ, List, [], ◌∷◌, Option, ltb, ap, sym, ◌∙◌, subst}
use Rattle.std.proofs.lemmas.List.{length-take}
use Rattle.pr_io.specs.Streams.{Took, EndedShort}
use Rattle.pr_grammar.specs.Schedules.{can_begin}
use Rattle.pr_grammar.proofs.Records.{short_unfinished}
use Rattle.pr_tool.specs.Reading.{IsAtEnd, Ends, end_at}
use Rattle.pr_tool.proofs.Stopping.{at_end, all_read, stops_ended, stops_faulty, stops_behind}
use Rattle.pr_tool.proofs.schedule.read_cut_head.Goals as goal

abbrev zeros : List ℕ
zeros = 0 ∷ 0 ∷ 0 ∷ 0 ∷ []

pub returns-in_default-clause-stops : goal.returns-in_default-clause-stops
returns-in_default-clause-stops g c =
    let some = rw c.in_default.is at c.read_up_to.ensures.took_fewer in
    let size = length-take c.args.left zeros in
    (some.0, some.1, short_unfinished c.args.lanes some.0 (omega (arith, some.2, size, c.requires)), omega (arith, some.2, size))

pub returns-then-got-room-clause-stops : goal.returns-then-got-room-clause-stops
returns-then-got-room-clause-stops g c =
    let room : ℕ = c.args.left in
    let got : ℕ = c.in-Ok.got in
    let buf : List ℕ = c.read_up_to.new.buf in
    let before : Option (List ℕ) = g.S.Source.rest c.args.source.now in
    let now : Option (List ℕ) = g.S.Source.rest c.read_up_to.new.source in
    let took : Took before now (take got buf) = rw c.in-Ok.is at c.read_up_to.ensures.took in
    let count : got ≤ length (take room zeros) = rw c.in-Ok.is at c.read_up_to.ensures.count in
    let short : EndedShort now got (length (take room zeros)) = rw c.in-Ok.is at c.read_up_to.ensures.short in
    let filled : length buf ≡ length (take room zeros) = c.read_up_to.auto.buf in
    let room_is : length (take room zeros) ≡ room = omega (arith, length-take room zeros, c.requires) in
    let size : length (take got buf) ≡ got = omega (arith, length-take got buf, filled, count) in
    let ended : IsAtEnd now = at_end now got (length (take room zeros)) short (omega (arith, room_is, c.if-got-room.true)) in
    stops_ended c.args.lanes c.args.left c.at.result before now (take got buf) took (omega (arith, size, c.if-got-room.true, c.requires)) (omega (arith, size, c.if-got-room.true)) ended (c.at.ensures ∙ ap (λ (n : ℕ). end_at (ltb 0 n)) (sym size))

pub returns-then-not-can_begin-clause-stops : goal.returns-then-not-can_begin-clause-stops
returns-then-not-can_begin-clause-stops g c =
    let room : ℕ = c.args.left in
    let got : ℕ = c.in-Ok.got in
    let buf : List ℕ = c.read_up_to.new.buf in
    let before : Option (List ℕ) = g.S.Source.rest c.args.source.now in
    let now : Option (List ℕ) = g.S.Source.rest c.read_up_to.new.source in
    let took : Took before now (take got buf) = rw c.in-Ok.is at c.read_up_to.ensures.took in
    let count : got ≤ length (take room zeros) = rw c.in-Ok.is at c.read_up_to.ensures.count in
    let filled : length buf ≡ length (take room zeros) = c.read_up_to.auto.buf in
    let room_is : length (take room zeros) ≡ room = omega (arith, length-take room zeros, c.requires) in
    let same : take got buf ≡ take room (buf ++ drop room zeros) = all_read zeros buf (drop room zeros) got room count filled (omega (arith, c.if-got-room.false)) in
    let size : length (take got buf) ≤ c.args.left = omega (arith, length-take got buf, filled, count, room_is) in
    let not_begun : can_begin c.args.lanes (take got buf) ≡ false = ap (can_begin c.args.lanes) same ∙ sym c.can_begin.ensures ∙ c.if-not-can_begin.true in
    stops_faulty c.args.lanes c.args.left before now (take got buf) took size not_begun

pub returns-clause-stops : goal.returns-clause-stops
returns-clause-stops g c =
    let room : ℕ = c.args.left in
    let got : ℕ = c.in-Ok.got in
    let buf : List ℕ = c.read_up_to.new.buf in
    let before : Option (List ℕ) = g.S.Source.rest c.args.source.now in
    let now : Option (List ℕ) = g.S.Source.rest c.read_up_to.new.source in
    let later : Option (List ℕ) = g.S.Source.rest c.look_behind.new.source in
    let took : Took before now (take got buf) = rw c.in-Ok.is at c.read_up_to.ensures.took in
    let count : got ≤ length (take room zeros) = rw c.in-Ok.is at c.read_up_to.ensures.count in
    let filled : length buf ≡ length (take room zeros) = c.read_up_to.auto.buf in
    let room_is : length (take room zeros) ≡ room = omega (arith, length-take room zeros, c.requires) in
    let same : take got buf ≡ take room (buf ++ drop room zeros) = all_read zeros buf (drop room zeros) got room count filled (omega (arith, c.if-got-room.false)) in
    let size : length (take got buf) ≡ room = omega (arith, length-take got buf, filled, count, room_is, c.if-got-room.false) in
    let begun : can_begin c.args.lanes (take got buf) ≡ true = ap (can_begin c.args.lanes) same ∙ sym c.can_begin.ensures ∙ c.if-not-can_begin.false in
    let ends : Ends (ltb 0 (length (take got buf))) c.look_behind.result now later = subst (λ (n : ℕ). Ends (ltb 0 n) c.look_behind.result now later) (sym size) c.look_behind.ensures.ends in
    stops_behind c.args.lanes c.args.left c.look_behind.result before now later (take got buf) took begun (omega (arith, size, c.requires)) (omega (arith, size, c.requires)) ends
