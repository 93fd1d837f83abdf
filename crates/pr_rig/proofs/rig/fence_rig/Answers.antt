use Rattle.std.proofs.Common.{refl}
use Rattle.pr_fence.specs.Views.{texts_of}
use Rattle.pr_io.specs.Recordings.{talk_of}
use Rattle.pr_rig.proofs.Fenced.{run_fences}
use Rattle.pr_rig.proofs.Nodes.{name_fits, own_differs, own_fits, own_some, port_is_one, victim_fits, victim_some}
use Rattle.pr_rig.proofs.Owning.{AreKeys}
use Rattle.pr_rig.proofs.Unstopped.{completes_by}
use Rattle.pr_rig.proofs.rig.fence_rig.Goals as goal

pub returns-clause-fenced : goal.returns-clause-fenced
returns-clause-fenced g c w victim off done made =
    run_fences c.fence_main.new.wire victim (c.fence_main.ensures.comes made).0 w (talk_of c.args.wire.now.earlier.items c.args.wire.now.current) _ _ (own_fits (texts_of c.args.words.now) w victim off)
    (victim_fits (texts_of c.args.words.now) w victim off) (own_differs (texts_of c.args.words.now) w victim off) refl refl (c.fence_main.ensures.ousts w victim off.0 off.1 done)

pub returns-clause-completes : goal.returns-clause-completes
returns-clause-completes g c w victim off made ready serve disks wires sinks =
    let words = texts_of c.args.words.now in
    let keys : AreKeys w.own victim w.nexus =
    record {
      own_fits = own_fits words w victim off;
      victim_fits = victim_fits words w victim off;
      differ = own_differs words w victim off;
      own_some = own_some words w victim off;
      victim_some = victim_some words w victim off;
      name = name_fits words w victim off;
      port = port_is_one words w victim off;
    } in
    completes_by c.args.wire.now c.fence_main.new.wire words w victim keys off _ _ _ _ c.fence_main.result refl refl made (c.fence_main.ensures.comes made).1 ready serve disks wires sinks c.fence_main.ensures.ends
