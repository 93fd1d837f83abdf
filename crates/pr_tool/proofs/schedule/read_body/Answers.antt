use Rattle.std.proofs.Common.{◌≡◌, ◌≤◌, ◌<◌, ◌++◌, ℕ, List, Option, length, take, drop, arith}
use Rattle.std.proofs.lemmas.List.{length-take, length-drop, length-append}
use Rattle.pr_io.specs.Streams.{Took}
use Rattle.pr_tool.proofs.Stopping.{cuts_behind}
use Rattle.pr_tool.proofs.schedule.read_body.Goals as goal

pub returns-then-room-body-clause-cuts : goal.returns-then-room-body-clause-cuts
returns-then-room-body-clause-cuts g c =
    let room : ℕ = c.min-room.result in
    let got : ℕ = c.in-Ok.got in
    let body : List ℕ = c.args.body.now in
    let buf : List ℕ = c.read_up_to.new.buf in
    let before : Option (List ℕ) = g.S.Source.rest c.args.source.now in
    let now : Option (List ℕ) = g.S.Source.rest c.read_up_to.new.source in
    let took : Took before now (take got buf) = rw c.in-Ok.is at c.read_up_to.ensures.took in
    let count : got ≤ length (take room body) = rw c.in-Ok.is at c.read_up_to.ensures.count in
    let filled : length buf ≡ length (take room body) = c.read_up_to.auto.buf in
    let front : length (take room body) ≡ room = omega (arith, length-take room body, c.min-room.ensures) in
    let less : room < length (buf ++ drop room body) = c.if-room-body.true in
    let within : room < length body = omega (arith, less, length-append buf (drop room body), length-drop room body, filled, front) in
    let size : length (take got buf) ≡ room = omega (arith, length-take got buf, filled, count, front, c.if-got-room.false) in
    cuts_behind (length body) c.args.left c.look_behind.result before now (g.S.Source.rest c.look_behind.new.source) (take got buf) took (omega (arith, size, within)) (omega (arith, size, within, c.min-room.ensures)) c.look_behind.ensures.ends
