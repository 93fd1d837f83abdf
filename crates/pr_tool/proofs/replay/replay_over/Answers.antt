use Rattle.std.proofs.Common.{◌≡◌, ◌∙◌, ℕ, is_some, length, ap, sym, subst, arith, refl}
use Rattle.std.specs.Borrow.{MutBor}
use Rattle.pr_io.specs.Told.{told, told_medium, told_disk, told_streams}
use Rattle.pr_model.specs.Entries.{History}
use Rattle.pr_core.specs.View.{Extends}
use Rattle.pr_tool.specs.declared.exit.Exit.{Exit}
use Rattle.pr_tool.specs.Exits.{Causes, RunEnds, Leaves, Stands, IsServedOn}
use Rattle.pr_tool.proofs.Standing.{early_decides, causes_decide, ends_stand, ends_serve, ends_served, more_by, same_name, unopened_stands, unopened_causes, unopened_early, unopened_begun}
use Rattle.pr_tool.proofs.Serving.{served, left_serves, left_untold, left_reference}
use Rattle.pr_tool.proofs.replay.replay_over.Goals as goal

pub returns-in-Ok-open-clause-decides : goal.returns-in-Ok-open-clause-decides
returns-in-Ok-open-clause-decides g c =
    let count : length c.deref_mut.result.now ≡ c.args.lanes = omega (arith, c.deref_mut.ensures.len, c.in-Ok.ensures.count) in
    let causes = subst (λ (k : ℕ). Causes k c.run-exit.result.0 c.args.budget (g.S.Source.rest c.args.source.now)) count c.run-exit.ensures.causes in
    causes_decide c.args.lanes c.run-exit.result.0 c.args.budget (g.S.Source.rest c.args.source.now) (omega (arith, c.requires.0)) causes

-- the core has the medium that was lent to it to the end, so what it holds is what is left of it
pub returns-in-Ok-open-clause-stands : goal.returns-in-Ok-open-clause-stands
returns-in-Ok-open-clause-stands g c =
    let count : length c.deref_mut.result.now ≡ c.args.lanes = omega (arith, c.deref_mut.ensures.len, c.in-Ok.ensures.count) in
    let start = c.in-Ok-open.core in
    let opens = c.in-Ok-open.ensures in
    let e : Exit = c.run-exit.result.0 in
    let left = c.run-exit.result.1 in
    let last = c.run-exit.result.2 in
    let ends = subst (λ (k : ℕ). RunEnds (λ h. Leaves start e left last h) k c.args.budget e (told_streams g.S.Source g.K.Sink c.args.source.now c.args.sink.now) (told_streams g.S.Source g.K.Sink c.run-exit.new.source c.run-exit.new.sink)) count c.run-exit.ensures.ends in
    let some = ends_served c.args.lanes c.args.budget e _ _ ends in
    let name = sym (ap (λ (r : MutBor g.row.M.Denot). r.ghost_name) opens.over.0) ∙ sym (same_name _ _ some.1.extends.medium) ∙ ap (λ (r : MutBor g.row.M.Denot). r.ghost_name) (sym some.1.same) in
    let is : last.now ≡ c.medium-1.given.0 = sym (c.medium-1.given.1 name) in
    let serves : (h : History) → Leaves start e left last h
    → IsServedOn (more_by e) (told_medium g.M.Medium c.args.medium.now) (told_medium g.M.Medium c.medium-1.given.0) (told_disk g.D.Disk c.args.disk) (told_disk g.D.Disk left) (g.D.Disk.story c.args.disk) (g.D.Disk.story left) h =
    λ h leaves.
    subst (λ (m : g.row.M.Denot). IsServedOn (more_by e) (told_medium g.M.Medium c.args.medium.now) (told_medium g.M.Medium m) (told_disk g.D.Disk c.args.disk) (told_disk g.D.Disk left) (g.D.Disk.story c.args.disk) (g.D.Disk.story left) h)
    (sym (ap (λ (r : MutBor g.row.M.Denot). r.now) leaves.same) ∙ is)
    (left_serves leaves.core left (g.met.D.Disk.since left) _ _ _ _ h (served _ c.args.disk start leaves.core h (λ m count blocks. opens.stands m (is_some (g.D.Disk.story c.args.disk).now) count blocks (λ told. told)) opens.opens opens.over.0 opens.over.2 leaves.extends) e leaves.left) in
    ends_stand _ c.args.lanes c.args.budget e
    (told g.S.Source g.K.Sink g.M.Medium g.D.Disk c.args.source.now c.args.sink.now c.args.medium.now c.args.disk)
    _ _ _ (λ place bad. left_untold c.args.medium (is_some (g.D.Disk.story c.args.disk).now) start left last some.0 e place (λ m count blocks. opens.stands m (is_some (g.D.Disk.story c.args.disk).now) count blocks (λ told. told)) some.1 bad) (ends_serve serves c.args.lanes c.args.budget e _ _ ends)

pub returns-in-Ok-open-clause-disk : goal.returns-in-Ok-open-clause-disk
returns-in-Ok-open-clause-disk g c =
    let some = ends_served _ _ c.run-exit.result.0 _ _ c.run-exit.ensures.ends in
    left_reference some.1.core c.run-exit.result.1 c.run-exit.result.0 some.1.left ∙ some.1.extends.disk ∙ c.in-Ok-open.ensures.over.1

pub returns-clause-stands : goal.returns-clause-stands
returns-clause-stands g c =
    let lent = c.in-Err.ensures.parts.0 in
    let back = c.refused-exit.ensures.2 in
    let is = c.medium-in-Err-1.given.1 (ap (λ (r : MutBor g.row.M.Denot). r.ghost_name) (sym lent) ∙ ap (λ (r : MutBor g.row.M.Denot). r.ghost_name) (sym back)) ∙ ap (λ (r : MutBor g.row.M.Denot). r.now) (back ∙ lent) in
    subst
    (λ (d : g.row.D.Denot).
    Stands ((c.args.source.now ≡ c.args.source.now) × (c.args.sink.now ≡ c.args.sink.now) × (c.medium-in-Err-1.given.0 ≡ c.args.medium.now)) c.args.lanes c.args.budget c.refused-exit.result.0 (told g.S.Source g.K.Sink g.M.Medium g.D.Disk c.args.source.now c.args.sink.now c.args.medium.now c.args.disk)
    (told g.S.Source g.K.Sink g.M.Medium g.D.Disk c.args.source.now c.args.sink.now c.medium-in-Err-1.given.0 d) (g.D.Disk.story c.args.disk) (g.D.Disk.story d))
    (sym c.refused-exit.ensures.1)
    (unopened_stands _ c.args.lanes c.args.budget c.in-Err.parts.0 c.refused-exit.result.0 _ _ _ _ c.refused-exit.ensures.0 refl (ap (told_medium g.M.Medium) is) c.in-Err.ensures.fault c.in-Err.ensures.fails c.in-Err.ensures.parts.2 (refl, refl, is))

pub returns-clause-causes : goal.returns-clause-causes
returns-clause-causes g c = unopened_causes c.args.lanes c.args.budget _ c.refused-exit.result.0 (g.S.Source.rest c.args.source.now) c.refused-exit.ensures.0

pub returns-clause-decides : goal.returns-clause-decides
returns-clause-decides g c = early_decides c.args.lanes c.refused-exit.result.0 c.args.budget (g.S.Source.rest c.args.source.now) (unopened_early _ c.refused-exit.result.0 c.refused-exit.ensures.0)

pub returns-clause-begun : goal.returns-clause-begun
returns-clause-begun g c = unopened_begun _ c.refused-exit.result.0 c.refused-exit.ensures.0

pub returns-clause-disk : goal.returns-clause-disk
returns-clause-disk g c = ap g.D.Disk.reference c.refused-exit.ensures.1 ∙ c.in-Err.ensures.parts.1
