-- How a run ends, by its words.
use Rattle.std.proofs.Common.{◌≡◌, inl, inr, Bool, true, false, refl, sym, subst}
use Rattle.std.specs.Prelude.{Result, Ok, Err}
use Rattle.pr_words.specs.declared.nexus.Key.{Key}
use Rattle.pr_io.specs.Told.{ToldSink}
use Rattle.pr_fence.specs.declared.exit.FenceExit.{FenceExit}
use Rattle.pr_fence.specs.declared.exit.FenceExit.TheVariants as exit
use Rattle.pr_fence.specs.declared.plan.Errand.{Errand}
use Rattle.pr_fence.specs.declared.plan.Errand.TheVariants.{On, Off, Status}
use Rattle.pr_fence.specs.declared.words.Refusal.{Refusal}
use Rattle.pr_fence.specs.declared.words.Refusal.TheVariants.{BadWords, SelfFence}
use Rattle.pr_fence.specs.Ousting.{OustsAll}
use Rattle.pr_fence.specs.Whole.{At, Ends, HasRun, Runs, ToldWire, exit_of, refused_by, at}
use Rattle.pr_fence.specs.Exits.{ended}
use Rattle.pr_fence.specs.Words.{Wanted}
use Rattle.pr_fence.proofs.Ousted.{IsEarly, early, all_ousted}

-- the exits of a run that was made
abbrev IsMade : FenceExit → Type 0
IsMade exit.BadWords = ⊥
IsMade exit.SelfFence = ⊥
IsMade exit.NoMemory = ⊥
IsMade _ = Unit {0}

made_early : (e : FenceExit) → IsEarly e → IsMade e
made_early exit.Done is = absurd is
made_early exit.Present is = absurd is
made_early exit.Absent is = absurd is
made_early exit.BadWords is = absurd is
made_early exit.SelfFence is = absurd is
made_early exit.NoMemory is = absurd is
made_early exit.WriteFault is = tt
made_early (exit.StillThere device) is = tt
made_early (exit.Link device asked fault) is = tt
made_early (exit.Conflict device asked) is = tt
made_early (exit.Check device asked code) is = tt
made_early (exit.OddStatus device asked status) is = tt
made_early (exit.BadData device asked place) is = tt

made_ended : (errand : Errand) (found : Bool) → IsMade (ended errand found)
made_ended On found = tt
made_ended (Off victim) found = tt
made_ended (Status key) true = tt
made_ended (Status key) false = tt

made_by : (w : Wanted) (old new : At) (r : Result Bool FenceExit) → Runs w old new r → IsMade (exit_of w.errand r)
made_by w old new (Ok found) runs = made_ended w.errand found
made_by w old new (Err e) runs = made_early e (early w w.addresses 0 false old new e runs)

made : (w : Wanted) (old new : ToldWire) (sink printed : ToldSink) (outcome : FenceExit) → HasRun w old new sink printed outcome → IsMade outcome
made w old new sink printed outcome run = subst IsMade (sym run.ends) (made_by w (at run.first sink) (at run.last printed) run.result run.runs)

-- no run was made, whose exit is that of words that ask for nothing
refused_so : (asked : Result Wanted Refusal) (old new : ToldWire) (sink printed : ToldSink) (refusal : Refusal) → (IsMade (refused_by refusal) → ⊥) → (refused_by refusal ≡ exit.NoMemory → ⊥) → Ends asked old new sink printed (refused_by refusal)
    → (e : Refusal) × (asked ≡ Err e) × (refused_by refusal ≡ refused_by e)
refused_so (Err e) old new sink printed refusal never starved is = (e, refl, is.0)
refused_so (Ok w) old new sink printed refusal never starved (inl (none, same)) = absurd (starved none)
refused_so (Ok w) old new sink printed refusal never starved (inr run) = absurd (never (made w old new sink printed (refused_by refusal) run))

same_refusal : (a b : Refusal) → refused_by a ≡ refused_by b → a ≡ b
same_refusal BadWords BadWords is = refl
same_refusal SelfFence SelfFence is = refl
same_refusal BadWords SelfFence is = absurd cc
same_refusal SelfFence BadWords is = absurd cc

pub refused : (asked : Result Wanted Refusal) (old new : ToldWire) (sink printed : ToldSink) (refusal : Refusal) → Ends asked old new sink printed (refused_by refusal) → asked ≡ Err refusal
refused asked old new sink printed BadWords is =
    let r = refused_so asked old new sink printed BadWords (λ p. p) (λ p. cc) is in
    subst (λ (e : Refusal). asked ≡ Err e) (sym (same_refusal BadWords r.0 r.2)) r.1
refused asked old new sink printed SelfFence is =
    let r = refused_so asked old new sink printed SelfFence (λ p. p) (λ p. cc) is in
    subst (λ (e : Refusal). asked ≡ Err e) (sym (same_refusal SelfFence r.0 r.2)) r.1

went_well : (w : Wanted) (victim : Key) (old new : At) (r : Result Bool FenceExit) → Runs w old new r → exit.Done ≡ exit_of w.errand r → (v : Bool) × (r ≡ Ok v)
went_well w victim old new (Ok v) runs is = (v, refl)
went_well w victim old new (Err e) runs is = absurd (subst IsEarly (sym is) (early w w.addresses 0 false old new e runs))

-- off that is done has ousted the victim from every device
pub done : (w : Wanted) (victim : Key) (old new : ToldWire) (sink printed : ToldSink) → w.errand ≡ Off victim → Ends (Ok w) old new sink printed exit.Done → OustsAll w victim old new
done w victim old new sink printed off (inl (none, same)) = absurd cc
done w victim old new sink printed off (inr run) =
    let well = went_well w victim (at run.first sink) (at run.last printed) run.result run.runs run.ends in
    record {
      first = run.first;
      last = run.last;
      ousted = all_ousted w victim w.addresses 0 false well.0 (at run.first sink) (at run.last printed) off (subst (λ (r : Result Bool FenceExit). Runs w (at run.first sink) (at run.last printed) r) well.1 run.runs);
      before = run.before;
      after = run.after;
    }
