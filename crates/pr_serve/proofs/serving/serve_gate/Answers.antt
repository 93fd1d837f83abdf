use Rattle.std.proofs.Common.{◌≡◌, [], OnOk, length, refl, subst}
use Rattle.pr_io.specs.Told.{told_sink}
use Rattle.pr_serve.specs.Accepting.{asked, EndsSo}
use Rattle.pr_serve.proofs.Crowding.{goes-none}
use Rattle.pr_serve.proofs.Acceptings.{took-none}
use Rattle.pr_serve.proofs.serving.serve_gate.Goals as goal

pub returns-in_default-clause-serves : goal.returns-in_default-clause-serves
returns-in_default-clause-serves g c = ([], [], record { took = took-none _; goes = goes-none _; served = λ first is. tt }, (refl, refl))

pub returns-clause-serves : goal.returns-clause-serves
returns-clause-serves g c =
    let made = c.serve_all-door.ensures.serves in (
      made.0,
      made.1,
      made.3,
      subst (λ turns. EndsSo c.tell-exit.result (asked c.args.accept) (length made.0) made.1 (g.A.Door.faults c.args.door) (g.A.Door.faults c.serve_all-door.result.0)
          (told_sink g.K.Sink c.args.sink.now) (told_sink g.K.Sink c.tell-exit.new.sink) turns) c.length.ensures
          (c.tell-exit.ensures.ends (asked c.args.accept) (length made.0) made.1 (g.A.Door.faults c.args.door) (g.A.Door.faults c.serve_all-door.result.0)
          (subst (λ m. OnOk c.serve_all-door.result.2 (length made.0 ≡ m)) c.most-many.ensures made.2) made.4),
    )
