use Rattle.std.proofs.Common.{◌∙◌, sym, subst}
use Rattle.pr_model.specs.Runs.{closing}
use Rattle.pr_core.specs.declared.target.Core.{Core}
use Rattle.pr_core.specs.View.{Extends}
use Rattle.pr_session.specs.Sessions.{work_of, lane_of}
use Rattle.pr_session.proofs.Drivings.{closes_calm, closes_out}
use Rattle.pr_session.proofs.driving.close.Goals as goal
use Rattle.pr_session.proofs.driving.close.Goals.{in-Some, in_default}

pub returns-clause-entries : goal.returns-clause-entries
returns-clause-entries g c =
    let s = c.args.session.now in
    elim c.match-nexus.branch [
      | in-Some w ↦
          subst (λ (k : Core g.row.M.Denot g.row.D.Denot g.M.Medium g.D.Disk). Extends c.args.core.now k (closing c.args.who (lane_of s).phase)) (sym w.core-is)
          (closes_out c.args.who c.args.core.now w.logout.new.self s.state (work_of s) w.in-Some.nexus c.requires.settled (sym c.nexus.ensures ∙ w.in-Some.is) w.logout.ensures.entry)
      | in_default w ↦
          subst (λ (k : Core g.row.M.Denot g.row.D.Denot g.M.Medium g.D.Disk). Extends c.args.core.now k (closing c.args.who (lane_of s).phase)) (sym w.core-is)
          (closes_calm c.args.who c.args.core.now s.state (work_of s) (sym c.nexus.ensures ∙ w.in_default.is))
    ]
