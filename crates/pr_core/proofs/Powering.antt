-- Power that is lost and comes back.
use Rattle.std.proofs.Common.{◌≡◌, ◌⊎◌, inl, inr, true, false, Bool, [], ◌∷◌, Option, Some, None, is_some, refl, sym, ◌∙◌, subst, arith}
use Rattle.pr_io.specs.Images.{Image, Story}
use Rattle.pr_io.specs.Spans.{Goes}
use Rattle.pr_io.specs.declared.outside.Medium as media
use Rattle.pr_io.specs.declared.outside.Disk as disks
use Rattle.pr_grammar.specs.Files.{Restoration, file_head, file_layout}
use Rattle.pr_model.specs.Keeping.{Kept, IsIn}
use Rattle.pr_model.specs.Worlds.{Blocks, World, opened}
use Rattle.pr_model.specs.Entries.{power_up}
use Rattle.pr_model.specs.Saving.{restorable}
use Rattle.pr_model.specs.Histories.{AreBlocksOf}
use Rattle.pr_model.specs.Stamps.{IsOneOf, Restores}
use Rattle.pr_model.proofs.Settling.{restored_is_kept}
use Rattle.pr_aptpl.specs.declared.keeper.Keeper.{Keeper}
use Rattle.pr_aptpl.specs.declared.fault.OpenFault.{OpenFault}
use Rattle.pr_aptpl.specs.declared.fault.OpenFault.TheVariants.{BadFile, DiskFault, OutOfMemory}
use Rattle.pr_aptpl.specs.Doubts.{IsKeepable}
use Rattle.pr_aptpl.specs.Keepers as keepers
use Rattle.pr_aptpl.specs.Opens.{FailsAt}
use Rattle.pr_core.specs.declared.target.Core.{Core}
use Rattle.pr_core.specs.Saves.{Holds, Leads}
use Rattle.pr_core.specs.States.{Depicts}
use Rattle.pr_core.specs.View.{StandsFor, IsUntold, medium_of, story_of}
use Rattle.pr_core.proofs.Entering.{Makes}
use Rattle.pr_core.proofs.Settled.{holds_restores}

told_image : (o : Option Image) → is_some o ≡ true → (image : Image) × (o ≡ Some image)
told_image None is = absurd cc
told_image (Some image) is = (image, refl)

module _ {D : Type 0} {gd : disks.Ghosts D} where
  -- what a keeper holds that has opened the file
  pub opened_holds : (old : Story) (k : Keeper D gd) (m : Blocks) (tells : Bool) (value : Kept) → keepers.Opens old k value → keepers.is_in_doubt k ≡ false → Holds k (opened m tells value)
  opened_holds old k m tells value opens calm = record {
    stands = subst (λ (x : Kept). keepers.StandsFor k (x ∷ [])) (sym (restored_is_kept value)) opens.at.stands;
    doubt = calm;
  }

module _ {M D : Type 0} {gm : media.Ghosts M} {gd : disks.Ghosts D} (old : Core M D gm gd) where
  restores_now : (w : World) → StandsFor old w → (image : Image) → (story_of old).now ≡ Some image → Restores w image
  restores_now w is image now = holds_restores old.keeper w is.2 image (inl now)

  -- where the disk tells what it holds, that is what may be restored
  pub untold : (w : World) → StandsFor old w → (fault : OpenFault) → FailsAt file_head file_layout fault (story_of old) → IsUntold fault (story_of old).now
  untold w is DiskFault fails = tt
  untold w is OutOfMemory fails = tt
  untold w is (BadFile place) fails = by (story_of old).now refl
    where
      by : (o : Option Image) → (story_of old).now ≡ o → o ≡ None
      by None now = refl
      by (Some image) now = absurd (subst (λ (r : Restoration). IsOneOf (restorable w) r) (fails image now) (restores_now w is image now))

  -- the disk was opened again as it read, over the same medium
  module _ (new : Core M D gm gd) (value : Kept) (same : medium_of new ≡ medium_of old) (opens : keepers.Opens (story_of old) new.keeper value) (sound : IsKeepable value)
      (depicts : (m : Blocks) (tells : Bool) → m.count ≡ gm.count (medium_of old) → Depicts new.state (opened m tells value)) (calm : keepers.is_in_doubt new.keeper ≡ false) where
    restorable_here : (w : World) → StandsFor old w → w.file_tells ≡ true → IsIn (restorable w) value
    restorable_here w is tells =
        let now = told_image (story_of old).now (is.3.told tells) in
        subst (λ (r : Restoration). IsOneOf (restorable w) r) (opens.at.read now.0 now.1) (restores_now w is now.0 now.1)

    goes : (w : World) → StandsFor old w → Goes (story_of old) (story_of new) (λ c. Restores w c ⊎ Restores (opened w.medium w.file_tells value) c)
    goes w is = record {
      later = opens.stays.later;
      each = λ c may. inl (holds_restores old.keeper w is.2 c (inr (opens.stays.may (story_of old).moment c (omega arith) may)));
      before = λ t c le may. inl (opens.stays.may t c le may);
    }

    leads : (w : World) → StandsFor old w → Leads old.keeper new.keeper w (opened w.medium w.file_tells value)
    leads w is = record { holds = opened_holds (story_of old) new.keeper w.medium w.file_tells value opens calm; goes = goes w is }

    pub makes : Makes old new (power_up value)
    makes = record {
      by = λ w is. (
        (sound.formed, restorable_here w is),
        depicts w.medium w.file_tells (is.0.blocks ∙ sym old.size),
        subst (λ (x : M). AreBlocksOf (gm.contents x) w.medium) (sym same) is.1,
        leads w is,
      );
    }
