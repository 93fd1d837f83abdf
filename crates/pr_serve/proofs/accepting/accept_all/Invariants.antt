use Rattle.std.proofs.Common.{◌≡◌, ◌≤◌, ◌-◌, List, length}
use Rattle.pr_io.specs.Told.{ToldStreams}
use Rattle.pr_serve.specs.Connections.{IsRightPass}
use Rattle.pr_serve.specs.Accepting.{told_door, Accepts}
use Rattle.pr_serve.proofs.accepting.accept_all.Given as goal

abbrev pub invariant-loop-taken : goal.invariant-loop-taken
invariant-loop-taken g l =
    (l.taken ≤ l.many) × IsRightPass g.M.Medium g.D.Disk l.main × (l.many ≡ l.fn.many) × (g.A.Door.faults l.fn.door ≤ g.A.Door.faults l.door)
    × ((more : List ToldStreams) × (length more ≡ l.taken)
    × Accepts g.A.In.Source g.A.Out.Sink (told_door (g.A.Door.waiting l.fn.door) (g.A.Door.taken l.fn.door)) (told_door (g.A.Door.waiting l.door) (g.A.Door.taken l.door)) more l.fn.main l.main l.fn.sessions l.sessions)

abbrev pub decreases-loop-taken : goal.decreases-loop-taken
decreases-loop-taken g l = l.many - l.taken
