use Rattle.std.proofs.Common.{◌≡◌, sym, subst}
use Rattle.pr_io.specs.Told.{told}
use Rattle.pr_tool.specs.Exits.{Stands}
use Rattle.pr_tool.proofs.Standing.{same_name}
use Rattle.pr_tool.proofs.replay.replay_within.Goals as goal

-- the disk that is handed back is the one that was lent
pub returns-clause-stands : goal.returns-clause-stands
returns-clause-stands g c =
    let is = sym (c.disk-1.given.1 (sym (same_name _ _ c.replay_over-exit.ensures.disk))) in
    subst
    (λ (d : g.row.D.Denot).
    Stands ((c.replay_over-exit.new.source ≡ c.args.source.now) × (c.replay_over-exit.new.sink ≡ c.args.sink.now) × (c.replay_over-exit.new.medium ≡ c.args.medium.now)) c.args.lanes c.args.budget c.replay_over-exit.result.0 (told g.S.Source g.K.Sink g.M.Medium g.D.Disk c.args.source.now c.args.sink.now c.args.medium.now c.args.disk.now)
    (told g.S.Source g.K.Sink g.M.Medium g.D.Disk c.replay_over-exit.new.source c.replay_over-exit.new.sink c.replay_over-exit.new.medium d)
    (g.D.Disk.story c.args.disk.now) (g.D.Disk.story d))
    is c.replay_over-exit.ensures.stands
