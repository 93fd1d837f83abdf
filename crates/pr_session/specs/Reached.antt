-- That a core has what a session has reached, said as one fact, which a type can keep.
use Rattle.std.specs.Prelude.{◌≡◌, ℕ, ◌≤◌, length, Option, Some, None}
use Rattle.std.proofs.Props.{props}
use Rattle.pr_words.specs.declared.limits.TheConstants.{TRANSFER}
use Rattle.pr_words.specs.declared.task.Way.{Way}
use Rattle.pr_words.specs.declared.task.Way.TheVariants as ways
use Rattle.pr_model.specs.Lanes.{Job, Phase, Fresh, In, Busy, Dead}
use Rattle.pr_io.specs.declared.outside.Medium as media
use Rattle.pr_io.specs.declared.outside.Disk as disks
use Rattle.pr_core.specs.declared.target.Core.{Core}
use Rattle.pr_core.specs.States.{Progress}
use Rattle.pr_core.specs.View.{owner_of, progress_of}
use Rattle.pr_session.specs.Coming.{HasCome}

-- no task runs
abbrev pub IsAtRest : Option Progress → Type 0
IsAtRest None = Unit {0}
IsAtRest (Some p) = ⊥

abbrev pub IsSameWay : Way → Way → Type 0
IsSameWay ways.Read ways.Read = Unit {0}
IsSameWay ways.Write ways.Write = Unit {0}
IsSameWay _ _ = ⊥

-- a task runs, which has come as far as this one
abbrev pub HasComeTo : Option Progress → Job → Type 0
HasComeTo None j = ⊥
HasComeTo (Some p) j = IsSameWay p.way j.way × HasCome j.way p (length j.bytes) × (p.count ≤ TRANSFER)

abbrev pub HasReached : {M D : Type 0} {gm : media.Ghosts M} {gd : disks.Ghosts D} → Phase → ℕ → Core M D gm gd → Type 0
HasReached Fresh who c = Unit {0}
HasReached (In n) who c = (owner_of c n ≡ Some who) × IsAtRest (progress_of c n)
HasReached (Busy n j) who c = (owner_of c n ≡ Some who) × HasComeTo (progress_of c n) j
HasReached Dead who c = Unit {0}

at_rest_once : (o : Option Progress) → IsProp (IsAtRest o)
at_rest_once None = Prim.hlevel props
at_rest_once (Some p) = Prim.hlevel props

same_way_once : (a b : Way) → IsProp (IsSameWay a b)
same_way_once ways.Read ways.Read = Prim.hlevel props
same_way_once ways.Read ways.Write = Prim.hlevel props
same_way_once ways.Write ways.Read = Prim.hlevel props
same_way_once ways.Write ways.Write = Prim.hlevel props

come_once : (w : Way) (p : Progress) (size : ℕ) → IsProp (HasCome w p size)
come_once ways.Read p size = Prim.hlevel props
come_once ways.Write p size = Prim.hlevel props

come_to_once : (o : Option Progress) (j : Job) → IsProp (HasComeTo o j)
come_to_once None j = Prim.hlevel props
come_to_once (Some p) j = Prim.hlevel (props, same_way_once p.way j.way, come_once j.way p (length j.bytes))

-- it is one fact
pub is_one_fact : {M D : Type 0} {gm : media.Ghosts M} {gd : disks.Ghosts D} (p : Phase) (who : ℕ) (c : Core M D gm gd) → IsProp (HasReached p who c)
is_one_fact Fresh who c = Prim.hlevel props
is_one_fact (In n) who c = Prim.hlevel (props, at_rest_once (progress_of c n))
is_one_fact (Busy n j) who c = Prim.hlevel (props, come_to_once (progress_of c n) j)
is_one_fact Dead who c = Prim.hlevel props
