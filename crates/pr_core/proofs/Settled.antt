-- Commands that end as they were answered, or with a save that failed.
use Rattle.std.proofs.Common.{◌≡◌, inl, inr, ℕ, ◌<◌, ◌==◌, Bool, true, false, cond, not, List, [], ◌∷◌, ◌++◌, drop, None, refl, sym, ap, ◌∙◌, subst, arith, lit<}
use Rattle.std.proofs.lemmas.Bool.{and_parts}
use Rattle.std.proofs.lemmas.Bool.Decides.{nat_tests}
use Rattle.pr_words.specs.declared.code.Code.{Code}
use Rattle.pr_io.specs.Causes.{next_fault}
use Rattle.pr_io.specs.Images.{Image, Story}
use Rattle.pr_io.specs.Spans.{Goes, Admits}
use Rattle.pr_io.specs.declared.outside.Disk as disks
use Rattle.pr_grammar.specs.Files.{file_head, file_layout}
use Rattle.pr_model.specs.Keeping.{Kept, is_empty}
use Rattle.pr_model.specs.Worlds.{World}
use Rattle.pr_model.specs.Entries.{Out}
use Rattle.pr_model.specs.Commands.{Answer, answer, good, checking}
use Rattle.pr_model.specs.Saving.{restorable, asks_to_save, tells_failure, is_unsaved, doubted, settled}
use Rattle.pr_model.specs.Histories.{failures_by}
use Rattle.pr_model.specs.Stamps.{Restores}
use Rattle.pr_model.proofs.Settling.{asks_nothing}
use Rattle.pr_aptpl.specs.declared.keeper.Keeper.{Keeper}
use Rattle.pr_aptpl.specs.Keepers.{StandsFor, story_of, disk_of, is_told}
use Rattle.pr_aptpl.proofs.Apart.{apart}
use Rattle.pr_aptpl.proofs.Saving.{restores_of}
use Rattle.pr_core.specs.declared.answers.CommandOut.{CommandOut}
use Rattle.pr_core.specs.declared.answers.CommandOut.TheVariants as outs
use Rattle.pr_words.specs.declared.code.Status.TheVariants as status
use Rattle.pr_words.specs.declared.code.TheConstants.Code.{INTERNAL_TARGET_FAILURE}
use Rattle.pr_words.specs.declared.code.TheConstants.{ILLEGAL_REQUEST, HARDWARE_ERROR}
use Rattle.pr_core.specs.declared.state.State.{State}
use Rattle.pr_core.specs.Counting.{faults_after}
use Rattle.pr_core.specs.Outs.{out_of}
use Rattle.pr_core.specs.Passing.{IsRefusal}
use Rattle.pr_core.specs.Saves.{Holds, Leads, Ends, Counts}
use Rattle.pr_core.specs.States.{Depicts}

-- no code of a refusal is that of a save that failed

no_failure : (k : ℕ) → HARDWARE_ERROR < k → (k == HARDWARE_ERROR) ≡ false
no_failure k more = grind (arith, nat_tests)

pub refusal_counts : (c : Code) → IsRefusal c → failures_by (checking c) ≡ 0
refusal_counts c refusal = rw (no_failure c.key refusal.0) refl

pub illegal_request : (c : Code) → c.key ≡ ILLEGAL_REQUEST → IsRefusal c
illegal_request c five = (subst (λ (k : ℕ). HARDWARE_ERROR < k) (sym five) (lit< tt), subst (λ (k : ℕ). k < 16) (sym five) (lit< tt))

-- a story to which nothing happened
pub still_goes : (s : Story) (P : Image → Type 0) → ((c : Image) → s.may s.moment c → P c) → Goes s s P
still_goes s P each = record { later = omega arith; each = each; before = λ t c le may. inl may }

-- the same may be restored, so the same is in doubt
same_doubts : (w v : World) → restorable v ≡ restorable w → v.doubts ≡ w.doubts
same_doubts w v same = ap (λ (ks : List Kept). drop 1 ks) same

pub some_doubt : (ks : List Kept) (k : Kept) → is_empty (ks ++ k ∷ []) ≡ false
some_doubt [] k = refl
some_doubt (x ∷ ks) k = refl

still_settles : (w v : World) (out : Out) → restorable v ≡ restorable w → settled w (answer v out) out ≡ v
still_settles w v out same = by (is_unsaved w (answer v out) out) refl
  where
    by : (b : Bool) → is_unsaved w (answer v out) out ≡ b → cond b (doubted w (answer v out)) v ≡ v
    by true is = absurd (asks_nothing w (answer v out) same (and_parts (tells_failure out) (asks_to_save w (answer v out)) is).1)
    by false is = refl

unsaved_is : (w : World) (a : Answer) → asks_to_save w a ≡ true → settled w a (checking INTERNAL_TARGET_FAILURE) ≡ doubted w a
unsaved_is w a asks = ap (λ (b : Bool). cond b (doubted w a) a.world) asks

module _ {D : Type 0} {gd : disks.Ghosts D} where
  -- all that the keeper's disk may hold restores what may be restored
  pub holds_restores : (k : Keeper D gd) (w : World) → Holds k w → (c : Image) → Admits (story_of k) c → Restores w c
  holds_restores k w holds c admitted = restores_of file_head file_layout apart k.aim.target k.aim.turn k.aim.may_be_open (story_of k) (restorable w) holds.stands c admitted

  pub leads_still : (k : Keeper D gd) (w v : World) → restorable v ≡ restorable w → Holds k w → Leads k k w v
  leads_still k w v same holds = record {
    holds = record { stands = subst (StandsFor k) (sym same) holds.stands; doubt = holds.doubt ∙ ap (λ (ks : List Kept). not (is_empty ks)) (sym (same_doubts w v same)) };
    goes = still_goes (story_of k) (λ c. _) (λ c may. inl (holds_restores k w holds c (inr may)));
  }

  -- an answer that changes nothing of what may be restored
  pub ends_still : (k : Keeper D gd) (new : State) (w v : World) (a : Answer) (out : Out) → a ≡ answer v out → restorable v ≡ restorable w → Depicts new v → Holds k w → Ends k k new w a out
  ends_still k new w v a out is same depicts holds =
      let there : settled w a out ≡ v = ap (λ (x : Answer). settled w x out) is ∙ still_settles w v out same in
      record {
        may = inl (sym (ap (λ (x : Answer). x.out) is));
        depicts = subst (Depicts new) (sym there) depicts;
        leads = subst (Leads k k w) (sym there) (leads_still k w v same holds);
      }

  -- an answer whose save succeeded, and one whose save failed
  pub ends_saved : (before now : Keeper D gd) (new : State) (w v : World) (a : Answer) (out : Out) → a ≡ answer v (good []) → out ≡ good [] → Depicts new v → Leads before now w v → Ends before now new w a out
  ends_saved before now new w v a out is told depicts leads =
      let there : settled w a out ≡ v = ap (λ (x : Answer). settled w x out) is ∙ ap (settled w (answer v (good []))) told in
      record {
        may = inl (told ∙ sym (ap (λ (x : Answer). x.out) is));
        depicts = subst (Depicts new) (sym there) depicts;
        leads = subst (Leads before now w) (sym there) leads;
      }

  pub ends_unsaved : (before now : Keeper D gd) (new : State) (w v : World) (a : Answer) (out : Out) → a ≡ answer v (good []) → out ≡ checking INTERNAL_TARGET_FAILURE → Depicts new (doubted w (answer v (good [])))
      → Leads before now w (doubted w (answer v (good []))) → asks_to_save w (answer v (good [])) ≡ true → Ends before now new w a out
  ends_unsaved before now new w v a out is told depicts leads asks =
      let there : settled w a out ≡ doubted w (answer v (good [])) = ap (λ (x : Answer). settled w x out) is ∙ ap (settled w (answer v (good []))) told ∙ unsaved_is w (answer v (good [])) asks in
      record {
        may = inr (ap (asks_to_save w) is ∙ asks, told);
        depicts = subst (Depicts new) (sym there) depicts;
        leads = subst (Leads before now w) (sym there) leads;
      }

  -- where no save failed, the disk has failed as often
  pub counts_still : (k : Keeper D gd) (result : CommandOut) → ((buf : List ℕ) → failures_by (out_of result buf) ≡ 0) → Counts k k result
  counts_still k result none = record { reference = refl; told = refl; faults = λ buf. ap (λ (i : ℕ). faults_after i (gd.faults (disk_of k))) (sym (none buf)) }

  pub counts_saved : (before now : Keeper D gd) (result : CommandOut) (len : ℕ) → gd.reference (disk_of now) ≡ gd.reference (disk_of before) → is_told now ≡ is_told before → gd.faults (disk_of now) ≡ gd.faults (disk_of before) → result ≡ outs.Ended status.Good None len → Counts before now result
  counts_saved before now result len reference tells calm told = record {
    reference = reference;
    told = tells;
    faults = λ buf. calm ∙ ap (λ (r : CommandOut). faults_after (failures_by (out_of r buf)) (gd.faults (disk_of before))) (sym told);
  }

  pub counts_unsaved : (before now : Keeper D gd) (result : CommandOut) → gd.reference (disk_of now) ≡ gd.reference (disk_of before) → is_told now ≡ is_told before → gd.faults (disk_of now) ≡ next_fault (gd.faults (disk_of before)) → ((buf : List ℕ) → out_of result buf ≡ checking INTERNAL_TARGET_FAILURE) → Counts before now result
  counts_unsaved before now result reference tells once out = record {
    reference = reference;
    told = tells;
    faults = λ buf. once ∙ ap (λ (o : Out). faults_after (failures_by o) (gd.faults (disk_of before))) (sym (out buf));
  }
