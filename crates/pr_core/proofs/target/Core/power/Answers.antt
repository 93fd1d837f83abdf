use Rattle.std.proofs.Common.{Option, is_some, refl, sym, ap, ◌∙◌, subst}
use Rattle.pr_io.specs.Images.{Image}
use Rattle.pr_grammar.specs.Files.{file_head, file_layout}
use Rattle.pr_model.specs.Keeping.{Kept}
use Rattle.pr_model.specs.Entries.{power_up}
use Rattle.pr_aptpl.specs.Keepers as keepers
use Rattle.pr_aptpl.specs.Opens.{FailsAt}
use Rattle.pr_core.proofs.Entering.{extends_one}
use Rattle.pr_core.proofs.Powering.{untold, makes}
use Rattle.pr_core.proofs.target.Core.power.Goals as goal

pub returns-in-Ok-clause-entry : goal.returns-in-Ok-clause-entry
returns-in-Ok-clause-entry g c =
    let value : Kept = c.in-Ok.field-0-2 in
    let opens = subst (λ (d : g.row.D.Denot). keepers.Opens (g.D.Disk.story d) c.in-Ok.keeper value) c.into_disk.ensures c.in-Ok.ensures.opens in (
      value,
      extends_one c.args.self _ (power_up value) (c.in-Ok.ensures.blocks ∙ c.blocks-2.ensures.count ∙ c.args.self.size) refl refl refl (c.in-Ok.ensures.reference ∙ ap g.D.Disk.reference c.into_disk.ensures)
          (c.in-Ok.ensures.calm.0 ∙ ap g.D.Disk.faults c.into_disk.ensures) (ap (λ (o : Option Image). is_some o) opens.stays.now)
          (makes c.args.self _ value refl opens c.in-Ok.ensures.sound (λ m tells count. c.in-Ok.ensures.depicts m tells (count ∙ sym c.blocks-2.ensures.count)) c.in-Ok.ensures.calm.1),
    )

pub returns-clause-untold : goal.returns-clause-untold
returns-clause-untold g c w is = untold c.args.self w is c.in-Err.fault (subst (λ (d : g.row.D.Denot). FailsAt file_head file_layout c.in-Err.fault (g.D.Disk.story d)) c.into_disk.ensures c.in-Err.ensures.fails.0)
