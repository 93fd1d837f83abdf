-- Entries that a core makes, one after another.
use Rattle.std.proofs.Common.{◌≡◌, inr, ℕ, zero, suc, ◌+◌, ◌-◌, ◌^◌, ◌<◌, ◌≤◌, min, List, Option, [], ◌∷◌, ◌++◌, refl, sym, ap, ◌∙◌, subst, arith}
use Rattle.std.proofs.Math.Nat.{ℕ_set}
use Rattle.pr_words.specs.declared.nexus.Nexus.{Nexus}
use Rattle.pr_model.specs.Entries.{Act, Out, Entry, History, entry, Login, Command, Step, Logout}
use Rattle.pr_model.specs.Worlds.{Blocks, World}
use Rattle.pr_model.specs.Saving.{restorable}
use Rattle.pr_model.specs.Histories.{moved, after, MayFollow, faults_by, faults_in, failures_by, failures_in, AreBlocksOf}
use Rattle.pr_model.specs.Stamps.{Restores}
use Rattle.pr_model.proofs.HistoryLaws.{after-append, legal-append, faults-append, failures-append}
use Rattle.pr_model.proofs.Acknowledged.{some_first, some_last, acknowledged_append}
use Rattle.pr_model.proofs.Moved.{only_steps_move}
use Rattle.pr_model.proofs.Sizes.{keeps_telling}
use Rattle.pr_io.specs.Causes.{HasCause, next_fault}
use Rattle.pr_io.specs.declared.outside.Medium as media
use Rattle.pr_io.specs.declared.outside.Disk as disks
use Rattle.pr_tasks.specs.declared.step_out.StepOut.{StepOut}
use Rattle.pr_tasks.specs.declared.step_out.StepOut.TheVariants as steps
use Rattle.pr_tasks.specs.Steps.{answered}
use Rattle.pr_core.specs.declared.answers.CommandOut.{CommandOut}
use Rattle.pr_core.specs.declared.answers.CommandOut.TheVariants as outs
use Rattle.pr_core.specs.declared.target.Core.{Core}
use Rattle.pr_core.specs.declared.state.State.{State}
use Rattle.pr_core.specs.Outs.{out_of, step_out}
use Rattle.pr_io.specs.Images.{Story}
use Rattle.pr_aptpl.specs.declared.keeper.Keeper.{Keeper}
use Rattle.pr_aptpl.specs.Keepers.{is_told}
use Rattle.pr_aptpl.proofs.Guarding.{goes_as, goes_on}
use Rattle.pr_core.specs.Counting.{faults_after}
use Rattle.pr_core.specs.Saves.{Leads}
use Rattle.pr_core.specs.States.{Depicts, Enters, EntersOver}
use Rattle.pr_core.specs.View.{StandsFor, medium_of, disk_of, story_of, blocks_of, opening_of, Stamped, Extends}
use Rattle.pr_core.proofs.Settled.{still_goes, holds_restores, leads_still}

-- an entry that is no step leaves the medium as it is
pub blocks_still : (held : Option (ℕ → List ℕ)) (w : World) (who : ℕ) (n : Nexus) (act : Act) (out : Out) → ((sent : List ℕ) → act ≡ Step sent → ⊥) → AreBlocksOf held w.medium → AreBlocksOf held (moved w (entry who n act out)).medium
blocks_still held w who n act out other holds = subst (λ (m : Blocks). AreBlocksOf held m) (sym (only_steps_move w who n act out other)) holds

pub enters_still : (held : Option (ℕ → List ℕ)) (old new : State) (who : ℕ) (n : Nexus) (act : Act) (out : Out) → ((sent : List ℕ) → act ≡ Step sent → ⊥) → Enters old new (entry who n act out) → EntersOver held held old new (entry who n act out)
enters_still held old new who n act out other enters w depicts holds =
    let r = enters w depicts in (r.0, r.1, blocks_still held w who n act out other holds)

pub no_login : (version : ℕ) (sent : List ℕ) → Login version ≡ Step sent → ⊥
no_login version sent is = absurd cc

pub no_logout : (sent : List ℕ) → Logout ≡ Step sent → ⊥
no_logout sent is = absurd cc

pub no_command : (lun : ℕ) (cdb data_out sent : List ℕ) → Command lun cdb data_out ≡ Step sent → ⊥
no_command lun cdb data_out sent is = absurd cc

-- one entry, over the medium as it was or as a step left it, and over the disk as it was or as a save left it
pub record Makes {M D : Type 0} {gm : media.Ghosts M} {gd : disks.Ghosts D} (old new : Core M D gm gd) (e : Entry) : Type 0 where
  pub by : (w : World) → StandsFor old w → MayFollow w e × Depicts new.state (moved w e) × AreBlocksOf (gm.contents (medium_of new)) (moved w e).medium × Leads old.keeper new.keeper w (moved w e)

pub extends_one : {M D : Type 0} {gm : media.Ghosts M} {gd : disks.Ghosts D} (old new : Core M D gm gd) (e : Entry) → blocks_of new ≡ blocks_of old → opening_of new ≡ opening_of old
    → gm.reference (medium_of new) ≡ gm.reference (medium_of old) → gm.faults (medium_of new) ≡ faults_after (faults_by e.out) (gm.faults (medium_of old))
    → gd.reference (disk_of new) ≡ gd.reference (disk_of old) → gd.faults (disk_of new) ≡ faults_after (failures_by e.out) (gd.faults (disk_of old)) → is_told new.keeper ≡ is_told old.keeper → Makes old new e → Extends old new (e ∷ [])
extends_one {M} {D} {gm} {gd} old new e same opening medium counted disk saved told makes =
    record {
      blocks = same;
      opening = opening;
      medium = medium;
      counted = counted ∙ ap (λ (k : ℕ). faults_after k (gm.faults (medium_of old))) one;
      disk = disk;
      saved = saved ∙ ap (λ (k : ℕ). faults_after k (gd.faults (disk_of old))) one_failure;
      legal = λ w is. ((makes.by w is).0, tt);
      leads = λ w is. let r = makes.by w is in (r.1, r.2, r.3.holds, record { told = λ tells. told ∙ is.3.told (sym (keeps_telling w e) ∙ tells) });
      stamps = (story_of new).moment ∷ [];
      stamped = λ w is. stamped_one w (makes.by w is).3;
    }
  where
    one : faults_by e.out ≡ faults_in (e ∷ [])
    one = omega arith

    one_failure : failures_by e.out ≡ failures_in (e ∷ [])
    one_failure = omega arith

    stamped_one : (w : World) → Leads old.keeper new.keeper w (moved w e) → Stamped (story_of old) (story_of new) w (e ∷ []) ((story_of new).moment ∷ [])
    stamped_one w leads = record {
      goes = leads.goes;
      acknowledged = (leads.goes.later, λ bytes may. holds_restores new.keeper (moved w e) leads.holds bytes (inr may), omega arith);
    }

-- an entry that calls no disk
pub makes_still : {M D : Type 0} {gm : media.Ghosts M} {gd : disks.Ghosts D} (old new : Core M D gm gd) (e : Entry) → new.keeper ≡ old.keeper → ((w : World) → restorable (moved w e) ≡ restorable w)
    → EntersOver (gm.contents (medium_of old)) (gm.contents (medium_of new)) old.state new.state e → Makes old new e
makes_still {M} {D} {gm} {gd} old new e keeper same enters = record {
  by = λ w is.
      let r = enters w is.0 is.1 in
      (r.0, r.1, r.2, subst (λ (k : Keeper D gd). Leads old.keeper k w (moved w e)) (sym keeper) (leads_still old.keeper w (moved w e) (same w) is.2));
}

-- no fault of the medium is among what commands answer
pub command_calm : (out : CommandOut) (buf : List ℕ) → faults_by (out_of out buf) ≡ 0
command_calm (outs.Ended s sense len) buf = refl
command_calm (outs.Started way count) buf = refl

pub command_counted : (count : ℕ) (out : CommandOut) (buf : List ℕ) → count ≡ faults_after (faults_by (out_of out buf)) count
command_counted count (outs.Ended s sense len) buf = refl
command_counted count (outs.Started way n) buf = refl

-- a step counts its fault
pub step_counted : (before now : ℕ) (out : StepOut) (block : List ℕ) → HasCause before now (answered out) → now ≡ faults_after (faults_by (step_out out block)) before
step_counted before now (steps.Wrote lba) block cause = cause.calm
step_counted before now (steps.Read lba) block cause = cause.calm
step_counted before now (steps.Fault code) block cause = cause.once
step_counted before now steps.Done block cause = cause.calm
step_counted before now steps.Aborted block cause = cause.calm

-- and it saves nothing
pub step_failures : (out : StepOut) (block : List ℕ) (count : ℕ) → count ≡ faults_after (failures_by (step_out out block)) count
step_failures (steps.Wrote lba) block count = refl
step_failures (steps.Read lba) block count = refl
step_failures (steps.Fault code) block count = refl
step_failures steps.Done block count = refl
step_failures steps.Aborted block count = refl

-- no entry
pub extends_none : {M D : Type 0} {gm : media.Ghosts M} {gd : disks.Ghosts D} (c : Core M D gm gd) → Extends c c []
extends_none c = record {
  blocks = refl;
  opening = refl;
  medium = refl;
  counted = refl;
  disk = refl;
  saved = refl;
  legal = λ w is. tt;
  leads = λ w is. is;
  stamps = [];
  stamped = λ w is. record { goes = still_goes (story_of c) (Restores w) (λ bytes may. holds_restores c.keeper w is.2 bytes (inr may)); acknowledged = omega arith };
}

pub faults_more : (i j count : ℕ) → faults_after (i + j) count ≡ faults_after j (faults_after i count)
faults_more zero j count = let none : zero + j ≡ j = omega arith in ap (λ (k : ℕ). faults_after k count) none
faults_more (suc i) j count =
    let next : suc i + j ≡ suc (i + j) = omega arith in ap (λ (k : ℕ). faults_after k count) next ∙ faults_more i j (next_fault count)

stamped_append : (a b c : Story) (w : World) (xs ys : History) (ts us : List ℕ) → Stamped a b w xs ts → Stamped b c (after w xs) ys us → Stamped a c w (xs ++ ys) (ts ++ us)
stamped_append a b c w xs ys ts us first second = record {
  goes = goes_on a b c _ (goes_as a b _ _ first.goes (λ bytes is. some_first w xs ys bytes is)) (goes_as b c _ _ second.goes (λ bytes is. some_last w xs ys bytes is));
  acknowledged = acknowledged_append b.may c.may a.moment b.moment c.moment w xs ys ts us (λ t bytes le may. second.goes.before t bytes le may) first.acknowledged second.acknowledged;
}

-- entries, and then others
pub extends_append : {M D : Type 0} {gm : media.Ghosts M} {gd : disks.Ghosts D} (a b c : Core M D gm gd) (xs ys : History) → Extends a b xs → Extends b c ys → Extends a c (xs ++ ys)
extends_append {M} {D} {gm} {gd} a b c xs ys first second =
    record {
      blocks = second.blocks ∙ first.blocks;
      opening = second.opening ∙ first.opening;
      medium = second.medium ∙ first.medium;
      counted =
          second.counted ∙ ap (faults_after (faults_in ys)) first.counted ∙ sym (faults_more (faults_in xs) (faults_in ys) (gm.faults (medium_of a)))
          ∙ ap (λ (k : ℕ). faults_after k (gm.faults (medium_of a))) (sym (faults-append xs ys));
      disk = second.disk ∙ first.disk;
      saved =
          second.saved ∙ ap (faults_after (failures_in ys)) first.saved ∙ sym (faults_more (failures_in xs) (failures_in ys) (gd.faults (disk_of a)))
          ∙ ap (λ (k : ℕ). faults_after k (gd.faults (disk_of a))) (sym (failures-append xs ys));
      legal = λ w is. legal-append w xs ys (first.legal w is) (second.legal (after w xs) (first.leads w is));
      leads = λ w is. subst (λ (v : World). StandsFor c v) (sym (after-append w xs ys)) (second.leads (after w xs) (first.leads w is));
      stamps = first.stamps ++ second.stamps;
      stamped = λ w is. stamped_append (story_of a) (story_of b) (story_of c) w xs ys first.stamps second.stamps (first.stamped w is) (second.stamped (after w xs) (first.leads w is));
    }

-- a core whose state stays is the same
pub same_core : {M D : Type 0} {gm : media.Ghosts M} {gd : disks.Ghosts D} (c : Core M D gm gd) (s : State) (size : gm.count c.medium ≡ s.blocks) → s ≡ c.state
    → record { medium = c.medium; keeper = c.keeper; opening = c.opening; state = s; size = size } ≡ c
same_core {M} {D} {gm} {gd} c s size same = by s same size
  where
    sized : gm.count c.medium ≡ c.state.blocks → Core M D gm gd
    sized z = record { medium = c.medium; keeper = c.keeper; opening = c.opening; state = c.state; size = z }

    by : (s : State) → s ≡ c.state → (size : gm.count c.medium ≡ s.blocks) → record { medium = c.medium; keeper = c.keeper; opening = c.opening; state = s; size = size } ≡ c
    by s same = subst (λ (t : State). (size : gm.count c.medium ≡ t.blocks) → record { medium = c.medium; keeper = c.keeper; opening = c.opening; state = t; size = size } ≡ c) (sym same) (λ size. ap sized (ℕ_set _ _ size c.size))

-- a count that doesn't stand at its end rose by as much as there were faults

next_below : (limit count : ℕ) → min (count + 1) limit < limit → min (count + 1) limit ≡ count + 1
next_below limit count less = omega (arith, less)

grown : (k count : ℕ) → min count (2 ^ 64 - 1) ≤ faults_after k count
grown zero count = omega arith
grown (suc k) count = let more = grown k (next_fault count) in omega (arith, more)

pub faults_rose : (k count : ℕ) → faults_after k count < 2 ^ 64 - 1 → faults_after k count ≡ count + k
faults_rose zero count less = omega arith
faults_rose (suc k) count less =
    let rest : faults_after k (next_fault count) ≡ next_fault count + k = faults_rose k (next_fault count) less in
    let low : next_fault count < 2 ^ 64 - 1 = omega (arith, rest, less) in
    rest ∙ (let here : next_fault count ≡ count + 1 = next_below (2 ^ 64 - 1) count low in omega (arith, here))
