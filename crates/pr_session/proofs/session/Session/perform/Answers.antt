use Rattle.std.proofs.Common.{◌≡◌, ◌≤◌, ℕ, List, Option, Some, length, drop, ap, ◌∙◌, arith}
use Rattle.std.proofs.lemmas.List.{length-drop}
use Rattle.pr_words.specs.declared.nexus.Nexus.{Nexus}
use Rattle.pr_words.specs.declared.limits.TheConstants.{HELD, COMMAND_HEAD}
use Rattle.pr_session.specs.declared.asked.Asked.{Asked}
use Rattle.pr_session.specs.declared.asked.Asked.TheVariants.{Command, Step}
use Rattle.pr_session.specs.States.{asked_in}
use Rattle.pr_session.specs.Works.{bytes_of}
use Rattle.pr_session.specs.Sessions.{work_of}
use Rattle.pr_session.proofs.Doing.{does_command, does_step}
use Rattle.pr_session.proofs.Drivings.{ready_of, does_as}
use Rattle.pr_session.proofs.session.Session.perform.Goals as goal

pub returns-in-Command-clause-does : goal.returns-in-Command-clause-does
returns-in-Command-clause-does g c a is =
    let n : Nexus = c.in-Command.nexus in
    let what : Asked = Command c.in-Command.head n c.in-Command.cdb c.in-Command.out_len in
    let asked : asked_in c.args.self.now.state ≡ Some what = c.asked.ensures ∙ ap Some c.in-Command.is in
    let ready = ready_of c.args.self.now c.args.core.now c.args.who what asked c.requires in
    let left : List ℕ = bytes_of c.command.new.self in
    let within : c.in-Command.out_len ≤ length (drop COMMAND_HEAD left) = omega (arith, length-drop COMMAND_HEAD left, c.command.new.self.room, ready.1) in
    let owns = ap (λ (o : Nexus → Option ℕ). o n) c.command.ensures.owner ∙ ready.0.0 in
    does_as c.args.self.now.state what a c.args.who c.args.core.now c.command.new.core (work_of c.args.self.now) left _ asked is
    (does_command c.args.who c.args.core.now c.command.new.core c.in-Command.head n c.in-Command.cdb c.in-Command.out_len c.command.result (work_of c.args.self.now) left c.command.ensures.entry owns c.command.ensures.begins c.command.ensures.fed c.command.ensures.proper c.command.ensures.kept within)

pub returns-in-Step-clause-does : goal.returns-in-Step-clause-does
returns-in-Step-clause-does g c a is =
    let n : Nexus = c.in-Step.nexus in
    let what : Asked = Step n c.in-Step.job in
    let asked : asked_in c.args.self.now.state ≡ Some what = c.asked.ensures ∙ ap Some c.in-Step.is in
    let ready = ready_of c.args.self.now c.args.core.now c.args.who what asked c.requires in
    let left : List ℕ = bytes_of c.step.new.self in
    let owns = ap (λ (o : Nexus → Option ℕ). o n) c.step.ensures.owner ∙ ready.owner in
    let size : length (work_of c.args.self.now) ≡ HELD = omega (arith, c.args.self.now.work.room) in
    let size_left : length left ≡ HELD = omega (arith, c.step.new.self.room) in
    does_as c.args.self.now.state what a c.args.who c.args.core.now c.step.new.core (work_of c.args.self.now) left _ asked is
    (does_step c.args.who c.args.core.now c.step.new.core n c.in-Step.job (work_of c.args.self.now) left size size_left owns c.block_place.result c.block_place.ensures.place c.step.result c.step.ensures.entry ready c.step.ensures.before c.step.ensures.kept c.step.ensures.progress)
