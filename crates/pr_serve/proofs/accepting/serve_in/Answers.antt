use Rattle.std.proofs.Common.{ℕ, ◌+◌, ◌-◌, ◌^◌, [], ◌++◌, arith}
use Rattle.pr_gate.specs.Passes.{spare_of}
use Rattle.pr_serve.proofs.Crowding.{stands-new, goes-same, right-same}
use Rattle.pr_serve.proofs.Acceptings.{serves-all, on-all, cause-of}
use Rattle.pr_serve.proofs.accepting.serve_in.Goals as goal

pub take_in_all-requires-clause-stands : goal.take_in_all-requires-clause-stands
take_in_all-requires-clause-stands g c =
    let took = c.accept_all-taken.ensures.took in let few = c.requires.few in
    let first : ℕ = 2 ^ 62 + 1 - spare_of c.args.main in (
      first,
      [] ++ took.0,
      took.2.stands first [] (omega arith) (stands-new g.A.In.Source g.A.Out.Sink first c.args.main c.args.sessions c.requires.none.0 c.requires.none.1 c.requires.none.2),
    )

pub settle-requires-clause-stands : goal.settle-requires-clause-stands
settle-requires-clause-stands g c =
    let took = c.accept_all-taken.ensures.took in let few = c.requires.few in
    let first : ℕ = 2 ^ 62 + 1 - spare_of c.args.main in (
      first,
      [] ++ took.0,
      c.take_in_all.ensures.takes.stands first ([] ++ took.0)
          (took.2.stands first [] (omega arith) (stands-new g.A.In.Source g.A.Out.Sink first c.args.main c.args.sessions c.requires.none.0 c.requires.none.1 c.requires.none.2)),
    )

pub returns-clause-right : goal.returns-clause-right
returns-clause-right g c = right-same g.M.Medium g.D.Disk c.take_in_all.new.main c.settle.new.main c.settle.ensures.same c.take_in_all.ensures.right

pub returns-clause-serves : goal.returns-clause-serves
returns-clause-serves g c =
    let took = c.accept_all-taken.ensures.took in let few = c.requires.few in let takes = c.take_in_all.ensures.takes in
    let first : ℕ = 2 ^ 62 + 1 - spare_of c.args.main in
    let settled = c.settle.ensures.served first ([] ++ took.0) (takes.stands first ([] ++ took.0)
    (took.2.stands first [] (omega arith) (stands-new g.A.In.Source g.A.Out.Sink first c.args.main c.args.sessions c.requires.none.0 c.requires.none.1 c.requires.none.2))) in (
      took.0,
      settled.0,
      on-all _ _ _ c.unless_spent-stopped.ensures.all took.1,
      serves-all g.A.In.Source g.A.Out.Sink _ _ took.0 c.args.main c.accept_all-taken.new.main c.take_in_all.new.main c.settle.new.main c.args.sessions c.accept_all-taken.new.sessions c.take_in_all.new.sessions
          took.2 takes (goes-same c.take_in_all.new.main c.settle.new.main c.settle.ensures.same) first (omega arith) settled.0 settled.1,
      cause-of _ _ _ _ _ settled.2 (c.unless_spent-stopped.ensures.cause _ _ _ takes.spent c.accept_all-taken.ensures.cause),
    )
