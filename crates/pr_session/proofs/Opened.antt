-- A target that was just opened has made no entry.
use Rattle.std.proofs.Common.{◌≡◌, Bool, true, [], ◌∙◌, subst}
use Rattle.pr_model.specs.Worlds.{Blocks, opened}
use Rattle.pr_model.specs.Histories.{AreBlocksOf}
use Rattle.pr_io.specs.declared.outside.Medium as media
use Rattle.pr_io.specs.declared.outside.Disk as disks
use Rattle.pr_core.specs.declared.target.Core.{Core}
use Rattle.pr_core.specs.View.{StandsFor, medium_of, blocks_of, opening_of}
use Rattle.pr_core.specs.Shared.{Stands}
use Rattle.pr_core.proofs.SharedLaws.{opened_stands}

pub just_opened : {M D : Type 0} {gm : media.Ghosts M} {gd : disks.Ghosts D} (c : Core M D gm gd) (medium : M) (told : Bool) → blocks_of c ≡ gm.count medium → medium_of c ≡ medium
    → ((m : Blocks) (tells : Bool) → m.count ≡ gm.count medium → AreBlocksOf (gm.contents medium) m → (tells ≡ true → told ≡ true) → StandsFor c (opened m tells (opening_of c))) → Stands c []
just_opened {M} {D} {gm} c medium told size over stands =
    opened_stands c told (λ m tells count blocks is. stands m tells (count ∙ size) (subst (λ (x : M). AreBlocksOf (gm.contents x) m) over blocks) is)
