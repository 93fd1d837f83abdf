use Rattle.std.proofs.Common.{◌≡◌, ◌≤◌, ◌-◌, length, take, arith, true, ℕ, List, Option, rules}
use Rattle.std.proofs.lemmas.List.{length-take}
use Rattle.pr_words.specs.Fields.{number16_at}
use Rattle.pr_io.specs.Streams.{Took}
use Rattle.pr_grammar.specs.Schedules.{can_begin}
use Rattle.pr_tool.specs.Reading.{Cuts}
use Rattle.pr_tool.proofs.Stopping.{stops_in_body, stops_read}
use Rattle.pr_tool.proofs.schedule.read_record.Goals as goal

pub returns-in_err-read_body-clause-reads : goal.returns-in_err-read_body-clause-reads
returns-in_err-read_body-clause-reads g c =
    let head : List ℕ = c.in_ok-head.head in
    let size : ℕ = length (take c.from-len.result c.args.body.now) in
    let left : ℕ = c.args.left in
    let before : Option (List ℕ) = g.S.Source.rest c.args.source.now in
    let now : Option (List ℕ) = g.S.Source.rest c.read_head.new.source in
    let later : Option (List ℕ) = g.S.Source.rest c.read_body.new.source in
    let took : Took before now head = rw c.in_ok-head.was at c.read_head.ensures.took in
    let begins : can_begin c.args.lanes head ≡ true = rw c.in_ok-head.was at c.read_head.ensures.begins in
    let room : 4 ≤ left = rw c.in_ok-head.was at c.read_head.ensures.room in
    let four : length head ≡ 4 = search rules in
    let is : size ≡ number16_at head 2 = omega (arith, length-take c.from-len.result c.args.body.now, c.from-len.ensures, c.get_u16.ensures.number, c.requires) in
    let cuts : Cuts size (left - 4) c.in_err-read_body.field-0.0 now later = rw c.in_err-read_body.was at c.read_body.ensures.cuts in
    let stops = stops_in_body c.args.lanes left size c.in_err-read_body.field-0.0 before now later head took begins four room is cuts in
    stops_read c.args.lanes left c.from_residual-in_err-read_body.result c.in_err-read_body.field-0.0 before later _ c.from_residual-in_err-read_body.ensures.1 stops
