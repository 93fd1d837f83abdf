use Rattle.std.proofs.Common.{◌-◌}
use Rattle.std.specs.Prelude.{Result}
use Rattle.pr_initiator.specs.declared.answer.Answer.{Answer}
use Rattle.pr_initiator.specs.declared.link_fault.LinkFault.{LinkFault}
use Rattle.pr_initiator.specs.declared.commands.TheConstants.{READINESS}
use Rattle.pr_initiator.specs.Links.{Comes, Link, link_of}
use Rattle.pr_initiator.specs.Commands.{IsReady}
use Rattle.pr_initiator.proofs.initiator.Initiator.ready.Given as goal

abbrev pub invariant-loop : goal.invariant-loop
invariant-loop g l =
    record {
      ready : (now : Link) (r : Result Answer LinkFault) → IsReady (READINESS - l.counter) l.last (link_of l.self) now r → IsReady READINESS l.initial.last (link_of l.initial.self) now r;
      comes : Comes l.initial.self l.self;
    }
