use Rattle.pr_serve.proofs.Openings.{ran-opened}
use Rattle.pr_serve.proofs.opened.serve_main.Goals as goal

pub returns-in-Ok : goal.returns-in-Ok
returns-in-Ok g c =
    let served = c.serve_gate-exit.ensures.serves in let ground = c.in-Ok.ensures.ground in let q = c.serve_gate-exit.result.2 in
    record {
      ran = ran-opened g.M.Medium g.D.Disk _ _ (g.D.Disk.story c.args.disk) (g.D.Disk.faults c.args.disk) _ _ _ _ _ _ _ c.in-Ok.pass q served.0 served.1 ground.0 ground.1 ground.2 ground.3 c.in-Ok.ensures.lists.1 c.in-Ok.ensures.number.0 c.in-Ok.ensures.number.1
          served.2 c.serve_gate-exit.ensures.right q.named q.owned q.spared served.3;
    }
