-- What an opened core did, it served over its medium and its disk.
use Rattle.std.proofs.Common.{◌≡◌, ◌⊎◌, inl, inr, ℕ, ◌+◌, ◌-◌, ◌^◌, ◌≤◌, ◌<◌, Bool, false, List, [], ◌∷◌, Option, Some, None, is_some, refl, sym, ap, ◌∙◌, subst, arith}
use Rattle.pr_io.specs.Causes.{next_fault}
use Rattle.pr_io.specs.Images.{Image, Story, Stays}
use Rattle.pr_io.specs.Spans.{Admits}
use Rattle.pr_io.specs.Told.{ToldMedium, ToldDisk, told_medium, told_disk}
use Rattle.pr_io.specs.declared.outside.Medium as media
use Rattle.pr_io.specs.declared.outside.Disk as disks
use Rattle.pr_grammar.specs.Files.{Restoration, Keeps, file_restores}
use Rattle.pr_grammar.specs.Standings.{Standing}
use Rattle.pr_model.specs.Registrants.{IsSound}
use Rattle.pr_model.specs.Keeping.{Kept}
use Rattle.pr_model.specs.Worlds.{Blocks, World, opened}
use Rattle.pr_model.specs.Entries.{History}
use Rattle.pr_model.specs.Saving.{restorable}
use Rattle.pr_model.specs.Histories.{AreBlocksOf, moved, after, faults_in, failures_in}
use Rattle.pr_model.specs.Stamps.{IsOneOf, Restores, RestoresSome, AreAcknowledged, AreStamps}
use Rattle.pr_model.proofs.Walk.{legal_is_fenced}
use Rattle.pr_model.proofs.Settling.{restored_is_kept}
use Rattle.pr_model.proofs.Doubts.{nothing_in_doubt, some_is_kept}
use Rattle.pr_model.proofs.Acknowledged.{some_here, acknowledged_within, acknowledged_earlier}
use Rattle.pr_core.specs.declared.target.Core.{Core}
use Rattle.pr_core.specs.View.{StandsFor, Opens, Extends, Stamped, medium_of, disk_of, story_of, opening_of, faults_after}
use Rattle.pr_core.proofs.Settled.{holds_restores}
use Rattle.pr_core.proofs.Entering.{faults_more, faults_rose}
use Rattle.pr_aptpl.specs.declared.fault.OpenFault.{OpenFault}
use Rattle.pr_aptpl.specs.declared.fault.OpenFault.TheVariants as faults
use Rattle.pr_aptpl.specs.Opens.{IsFaultOf}
use Rattle.pr_tool.specs.Exits.{IsServedOn, Reopened, LeavesDisk, Leaves}
use Rattle.pr_tool.specs.declared.exit.Exit.{Exit}
use Rattle.pr_tool.specs.declared.exit.Exit.TheVariants as exits
use Rattle.pr_tool.proofs.Standing.{more_by}

-- what was kept is what may be restored after the opening
kept_restores : (m : Blocks) (tells : Bool) (k : Kept) (image : Image) → file_restores image ≡ Keeps k → Restores (opened m tells k) image
kept_restores m tells k image is = subst (λ (r : Restoration). IsOneOf (restorable (opened m tells k)) r) (sym is) (inl (restored_is_kept k))

-- a count that hasn't risen counted nothing
no_failures : (more failures before now : ℕ) → now ≡ faults_after (failures + more) before → (now ≡ before) × (before < 2 ^ 64 - 1) → failures ≡ 0
no_failures more failures before now counted never =
    let low : faults_after (failures + more) before < 2 ^ 64 - 1 = subst (λ (k : ℕ). k < 2 ^ 64 - 1) (sym never.0 ∙ counted) never.1 in
    let rose : faults_after (failures + more) before ≡ before + (failures + more) = faults_rose (failures + more) before low in
    grown_none before failures more (sym rose ∙ sym counted ∙ never.0)
  where
    grown_none : (before failures more : ℕ) → before + (failures + more) ≡ before → failures ≡ 0
    grown_none before failures more is = omega (arith, is)

module _ {M D : Type 0} {gm : media.Ghosts M} {gd : disks.Ghosts D} (medium : M) (disk : D) (start core : Core M D gm gd) (h : History)
    (stands : (m : Blocks) → m.count ≡ gm.count medium → AreBlocksOf (gm.contents medium) m → StandsFor start (opened m (is_some (gd.story disk).now) (opening_of start)))
    (opens : Opens (gd.story disk) (story_of start) (opening_of start)) (over : medium_of start ≡ medium) (calm : gd.faults (disk_of start) ≡ gd.faults disk) (extends : Extends start core h) where
  abbrev tells : Bool
  tells = is_some (gd.story disk).now

  sound : (m : Blocks) → StandsFor start (opened m tells (opening_of start)) → IsSound (opened m tells (opening_of start)).standing
  sound m is = subst (λ (s : Standing). IsSound s) (sym (ap (λ (w : World). w.standing) is.0.world)) start.state.sound

  stamps_of : (m : Blocks) → m.count ≡ gm.count medium → AreBlocksOf (gm.contents medium) m
      → AreStamps (story_of core).now (story_of core).may opens.since_sync.0 (story_of core).moment (opened m tells (opening_of start)) h extends.stamps
  stamps_of m count holds =
      let w : World = opened m tells (opening_of start) in
      let is : StandsFor start w = stands m count holds in
      let st : Stamped (story_of start) (story_of core) w h extends.stamps = extends.stamped w is in
      let left : (c : Image) → Admits (story_of core) c → Restores (after w h) c = holds_restores core.keeper (after w h) (extends.leads w is).2 in
      record {
        since_start = λ c may. since m c (st.goes.before opens.since_sync.0 c opens.since_sync.2 may);
        acknowledged = acknowledged_earlier (story_of core).may opens.since_sync.0 (story_of start).moment (story_of core).moment w h extends.stamps opens.since_sync.2 st.acknowledged;
        at_end = λ c may. left c (inr may);
        read = λ c now. left c (inl now);
      }
    where
      since : (m : Blocks) (c : Image) → (story_of start).may opens.since_sync.0 c ⊎ RestoresSome (opened m tells (opening_of start)) h c → RestoresSome (opened m tells (opening_of start)) h c
      since m c (inl before) = some_here (opened m tells (opening_of start)) h c (kept_restores m tells (opening_of start) c (opens.since_sync.3 c before))
      since m c (inr later) = later

  from_start : ((image : Image) → (gd.story disk).may (gd.story disk).moment image → (gd.story disk).now ≡ Some image) → (m : Blocks) → m.count ≡ gm.count medium → AreBlocksOf (gm.contents medium) m
      → (c : Image) → (story_of core).may (gd.story disk).moment c → RestoresSome (opened m tells (opening_of start)) h c
  from_start settled m count holds c may =
      let w : World = opened m tells (opening_of start) in
      let st : Stamped (story_of start) (story_of core) w h extends.stamps = extends.stamped w (stands m count holds) in
      by (st.goes.before (gd.story disk).moment c opens.stays.later may)
    where
      by : (story_of start).may (gd.story disk).moment c ⊎ RestoresSome (opened m tells (opening_of start)) h c → RestoresSome (opened m tells (opening_of start)) h c
      by (inl before) = some_here (opened m tells (opening_of start)) h c (kept_restores m tells (opening_of start) c (opens.read c (settled c (opens.stays.may (gd.story disk).moment c (omega arith) before))))
      by (inr later) = later

  pub served : IsServedOn 0 (told_medium gm medium) (told_medium gm (medium_of core)) (told_disk gd disk) (told_disk gd (disk_of core)) (gd.story disk) (story_of core) h
  served =
      let none_more : failures_in h ≡ failures_in h + 0 = omega arith in
      let counted = extends.saved ∙ ap (faults_after (failures_in h)) calm ∙ ap (λ (k : ℕ). faults_after k (gd.faults disk)) none_more in
      record {
        kept = opening_of start;
        restores = opens.read;
        legal = λ m count holds. extends.legal (opened m tells (opening_of start)) (stands m count holds);
        fenced = λ m count holds.
            let is = stands m count holds in legal_is_fenced (opened m tells (opening_of start)) h (sound m is) (extends.legal (opened m tells (opening_of start)) is);
        holds = λ m count holds. (extends.leads (opened m tells (opening_of start)) (stands m count holds)).1;
        blocks = core.size ∙ extends.blocks ∙ sym start.size ∙ ap gm.count over;
        faults = extends.counted ∙ ap (λ (x : M). faults_after (faults_in h) (gm.faults x)) over;
        failures = counted;
        start = opens.since_sync.0;
        later = opens.since_sync.1;
        stamps = extends.stamps;
        stamped = stamps_of;
        since_start = from_start;
        exact = λ never m count holds. nothing_in_doubt _ _ _ _ (opened m tells (opening_of start)) h extends.stamps refl (no_failures 0 (failures_in h) (gd.faults disk) (gd.faults (disk_of core)) counted never) (stamps_of m count holds);
        exact_since = λ never settled m count holds c may. some_is_kept (opened m tells (opening_of start)) h c refl (no_failures 0 (failures_in h) (gd.faults disk) (gd.faults (disk_of core)) counted never) (from_start settled m count holds c may);
      }

-- a disk that couldn't be opened again: nothing was written to it

module _ (old now : Story) (stays : Stays old now) (since : (t u : ℕ) (c : Image) → t ≤ u → now.may u c → now.may t c) where
  acknowledged_still : (start : ℕ) (w : World) (es : History) (ts : List ℕ) → AreAcknowledged old.may start old.moment w es ts → AreAcknowledged now.may start now.moment w es ts
  acknowledged_still start w [] [] is = omega (arith, is, stays.later)
  acknowledged_still start w [] (t ∷ ts) is = absurd is
  acknowledged_still start w (e ∷ es) [] is = absurd is
  acknowledged_still start w (e ∷ es) (t ∷ ts) is = (
    is.0,
    λ c may. is.1 c (stays.may t c (acknowledged_within old.may t old.moment (moved w e) es ts is.2) may),
    acknowledged_still t (moved w e) es ts is.2,
  )

  stamps_still : (start : ℕ) (w : World) (h : History) (stamps : List ℕ) → AreStamps old.now old.may start old.moment w h stamps → AreStamps now.now now.may start now.moment w h stamps
  stamps_still start w h stamps is = record {
    since_start = λ c may. is.since_start c (stays.may start c (acknowledged_within old.may start old.moment w h stamps is.acknowledged) may);
    acknowledged = acknowledged_still start w h stamps is.acknowledged;
    at_end = λ c may. is.at_end c (stays.may old.moment c (omega arith) (since old.moment now.moment c stays.later may));
    read = λ c told. is.read c (sym stays.now ∙ told);
  }

-- how often more the disk has failed
abbrev failed_more : OpenFault → ℕ
failed_more faults.DiskFault = 1
failed_more _ = 0

counted_more : (f : OpenFault) (failures first before now : ℕ) → before ≡ faults_after (failures + 0) first → IsFaultOf f before now → now ≡ faults_after (failures + failed_more f) first
counted_more (faults.BadFile place) failures first before now is fault = fault ∙ is
counted_more faults.OutOfMemory failures first before now is fault = fault ∙ is
counted_more faults.DiskFault failures first before now is fault =
    let none : failures + 0 ≡ failures = omega arith in
    fault.0 ∙ ap next_fault (is ∙ ap (λ (k : ℕ). faults_after k first) none) ∙ sym (faults_more failures 1 first)

module _ {M D : Type 0} {gm : media.Ghosts M} {gd : disks.Ghosts D} (core : Core M D gm gd) (left : D) (since : (t u : ℕ) (c : Image) → t ≤ u → (gd.story left).may u c → (gd.story left).may t c)
    (old new : ToldMedium) (disk : ToldDisk) (story : Story) (h : History) (serves : IsServedOn 0 old new disk (told_disk gd (disk_of core)) story (story_of core) h) where
  module _ (f : OpenFault) (re : Reopened f core left) where
    counted : gd.faults left ≡ faults_after (failures_in h + failed_more f) disk.faults
    counted = counted_more f (failures_in h) disk.faults (gd.faults (disk_of core)) (gd.faults left) serves.failures re.counted

    stamped : (m : Blocks) → m.count ≡ old.blocks → AreBlocksOf old.contents m → AreStamps (gd.story left).now (gd.story left).may serves.start (gd.story left).moment (opened m (is_some story.now) serves.kept) h serves.stamps
    stamped m count holds = stamps_still (story_of core) (gd.story left) re.stays since serves.start (opened m (is_some story.now) serves.kept) h serves.stamps (serves.stamped m count holds)

    since_start : ((image : Image) → story.may story.moment image → story.now ≡ Some image) → (m : Blocks) → m.count ≡ old.blocks → AreBlocksOf old.contents m
        → (c : Image) → (gd.story left).may story.moment c → RestoresSome (opened m (is_some story.now) serves.kept) h c
    since_start settled m count holds c may =
        let within = acknowledged_within (story_of core).may serves.start (story_of core).moment (opened m (is_some story.now) serves.kept) h serves.stamps (serves.stamped m count holds).acknowledged in
        serves.since_start settled m count holds c (re.stays.may story.moment c (omega (arith, serves.later, within)) may)

    reopened_serves : IsServedOn (failed_more f) old new disk (told_disk gd left) story (gd.story left) h
    reopened_serves = record {
      kept = serves.kept;
      restores = serves.restores;
      legal = serves.legal;
      fenced = serves.fenced;
      holds = serves.holds;
      blocks = serves.blocks;
      faults = serves.faults;
      failures = counted;
      start = serves.start;
      later = serves.later;
      stamps = serves.stamps;
      stamped = stamped;
      since_start = since_start;
      exact = λ never m count holds. nothing_in_doubt _ _ _ _ (opened m (is_some story.now) serves.kept) h serves.stamps refl (no_failures (failed_more f) (failures_in h) disk.faults (gd.faults left) counted never) (stamped m count holds);
      exact_since = λ never settled m count holds c may. some_is_kept (opened m (is_some story.now) serves.kept) h c refl (no_failures (failed_more f) (failures_in h) disk.faults (gd.faults left) counted never) (since_start settled m count holds c may);
    }

  -- whatever a run leaves of its disk
  pub left_serves : (e : Exit) → LeavesDisk e core left → IsServedOn (more_by e) old new disk (told_disk gd left) story (gd.story left) h
  left_serves e leaves = by e leaves
    where
      same : left ≡ disk_of core → IsServedOn 0 old new disk (told_disk gd left) story (gd.story left) h
      same is = subst (λ (d : D). IsServedOn 0 old new disk (told_disk gd d) story (gd.story d) h) (sym is) serves

      by : (e : Exit) → LeavesDisk e core left → IsServedOn (more_by e) old new disk (told_disk gd left) story (gd.story left) h
      by exits.Done is = same is
      by exits.BadWords is = same is
      by exits.ReadFault is = same is
      by exits.WriteFault is = same is
      by (exits.BadSchedule place) is = same is
      by (exits.BadFile place) re = reopened_serves (faults.BadFile place) re
      by exits.NoMemory re = reopened_serves faults.OutOfMemory re
      by exits.DiskFault re = reopened_serves faults.DiskFault re
      by exits.TooLong is = same is

-- a medium of which nothing is known
nothing_known : (held : Option (ℕ → List ℕ)) (count : ℕ) → AreBlocksOf held (record { count = count; tells = false; at = λ lba. None })
nothing_known None count = refl
nothing_known (Some held) count = λ lba bytes is. absurd cc

-- what breaks the grammar after a power loss isn't told
pub left_untold : {M D : Type 0} {gm : media.Ghosts M} {gd : disks.Ghosts D} (medium : M) (tells : Bool) (start : Core M D gm gd) (left : D) (last : M) (h : History) (e : Exit) (place : ℕ)
    → ((m : Blocks) → m.count ≡ gm.count medium → AreBlocksOf (gm.contents medium) m → StandsFor start (opened m tells (opening_of start)))
    → Leaves start e left last h → e ≡ exits.BadFile place → (gd.story left).now ≡ None
left_untold {M} {D} {gm} {gd} medium tells start left last h e place stands leaves is =
    let re : Reopened (faults.BadFile place) leaves.core left = subst (λ (x : Exit). LeavesDisk x leaves.core left) is leaves.left in
    let w : World = opened (record { count = gm.count medium; tells = false; at = λ lba. None }) tells (opening_of start) in
    re.stays.now ∙ re.untold (after w h) (leaves.extends.leads w (stands (record { count = gm.count medium; tells = false; at = λ lba. None }) refl (nothing_known (gm.contents medium) (gm.count medium))))

pub left_reference : {M D : Type 0} {gm : media.Ghosts M} {gd : disks.Ghosts D} (core : Core M D gm gd) (left : D) (e : Exit) → LeavesDisk e core left → gd.reference left ≡ gd.reference (disk_of core)
left_reference {M} {D} {gm} {gd} core left exits.Done is = ap gd.reference is
left_reference {M} {D} {gm} {gd} core left exits.BadWords is = ap gd.reference is
left_reference {M} {D} {gm} {gd} core left exits.ReadFault is = ap gd.reference is
left_reference {M} {D} {gm} {gd} core left exits.WriteFault is = ap gd.reference is
left_reference {M} {D} {gm} {gd} core left (exits.BadSchedule place) is = ap gd.reference is
left_reference core left (exits.BadFile place) re = re.reference
left_reference core left exits.NoMemory re = re.reference
left_reference core left exits.DiskFault re = re.reference
left_reference {M} {D} {gm} {gd} core left exits.TooLong is = ap gd.reference is
