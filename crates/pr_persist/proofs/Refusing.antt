-- A run never ends as if its words were bad, and never without memory.
use Rattle.std.proofs.Common.{◌≡◌, ℕ, Bool, true, false, cond, List, sym, subst, refl, inl, inr}
use Rattle.std.specs.Prelude.{Result, Ok, Err, Option, Some, None, ◌==◌}
use Rattle.pr_words.specs.declared.code.Sense.{Sense}
use Rattle.pr_io.specs.declared.outside.Failed.{Failed}
use Rattle.pr_io.specs.Told.{ToldSink}
use Rattle.pr_initiator.specs.declared.answer.Answer.{Answer}
use Rattle.pr_initiator.specs.declared.link_fault.LinkFault.{LinkFault}
use Rattle.pr_initiator.specs.Links.{Link}
use Rattle.pr_persist.specs.declared.asked.Asked.{Asked}
use Rattle.pr_persist.specs.declared.exit.PersistExit.{PersistExit}
use Rattle.pr_persist.specs.declared.exit.PersistExit.TheVariants as exit
use Rattle.pr_persist.specs.declared.plan.Action.{Action}
use Rattle.pr_persist.specs.declared.plan.Action.TheVariants.{In, Out}
use Rattle.pr_persist.specs.Asking.{Wanted}
use Rattle.pr_persist.specs.Exits.{checked_by, judged_by, linked_by}
use Rattle.pr_persist.specs.Runs.{Step, Then, Linked, Judged, Opens, Inquires, Acts, Closes}
use Rattle.pr_persist.specs.Shows.{HasShown, written_by, inquiry_text, reply_text}
use Rattle.pr_persist.specs.Whole.{At, Quiet, Showing, Skips, Looks, Tells, ActsAndTells, Finishes, Runs, exit_of, ToldWire, Ends}

-- an exit of a run
abbrev pub IsOfRun : PersistExit → Type 0
IsOfRun exit.BadWords = ⊥
IsOfRun exit.NoMemory = ⊥
IsOfRun exit.Done = ⊥
IsOfRun _ = Unit {0}

abbrev Proper : {S T : Type 0} → Step S T → Type 0
Proper {S} step = (old new : S) (e : PersistExit) → step old new (Err e) → IsOfRun e

then_proper : {S T U : Type 0} (first : Step S T) (next : T → Step S U) → Proper first → ((v : T) → Proper (next v)) → Proper (Then first next)
then_proper first next p q old new e (mid, Ok v, is, more) = q v mid new e more
then_proper first next p q old new e (mid, Err x, is, (same, by)) =
    let one : e ≡ x = cc in
    subst IsOfRun (sym one) (p old mid x is)

linked_exit : (k : Asked) (r : Result Unit LinkFault) (e : PersistExit) → Err e ≡ linked_by k r → IsOfRun e
linked_exit k (Ok u) e is = absurd cc
linked_exit k (Err f) e is = let one : e ≡ exit.Link k f = cc in subst IsOfRun (sym one) tt

checked_exit : (k : Asked) (s : Option Sense) (e : PersistExit) → e ≡ checked_by k s → IsOfRun e
checked_exit k (Some s) e is = subst IsOfRun (sym is) tt
checked_exit k None e is = subst IsOfRun (sym is) tt

good_exit : (k : Asked) (a b c : Bool) (n : ℕ) (x : Answer) (s : Option Sense) (e : PersistExit) → Err e ≡ cond a (Ok x) (cond b (Err (checked_by k s)) (cond c (Err (exit.Conflict k)) (Err (exit.OddStatus k n)))) → IsOfRun e
good_exit k true b c n x s e is = absurd cc
good_exit k false true c n x s e is = let one : e ≡ checked_by k s = cc in checked_exit k s e one
good_exit k false false true n x s e is = let one : e ≡ exit.Conflict k = cc in subst IsOfRun (sym one) tt
good_exit k false false false n x s e is = let one : e ≡ exit.OddStatus k n = cc in subst IsOfRun (sym one) tt

judged_exit : (k : Asked) (r : Result Answer LinkFault) (e : PersistExit) → Err e ≡ judged_by k r → IsOfRun e
judged_exit k (Ok a) e is = good_exit k (a.status == 0x00) (a.status == 0x02) (a.status == 0x18) a.status a a.sense e is
judged_exit k (Err f) e is = let one : e ≡ exit.Link k f = cc in subst IsOfRun (sym one) tt

written_exit : (p : Result Unit Failed) (e : PersistExit) → Err e ≡ written_by p → IsOfRun e
written_exit (Ok u) e is = absurd cc
written_exit (Err f) e is = let one : e ≡ exit.WriteFault = cc in subst IsOfRun (sym one) tt

shown_exit : (k : Asked) (t : Result (List ℕ) ℕ) (old new : ToldSink) (e : PersistExit) → HasShown k t old new (Err e) → IsOfRun e
shown_exit k (Ok text) old new e (p, printed, is) = written_exit p e is
shown_exit k (Err place) old new e (same, is) = let one : e ≡ exit.BadData k place = cc in subst IsOfRun (sym one) tt

skips_proper : Proper Skips
skips_proper old new e (same, is) = absurd cc

showing_proper : (k : Asked) (text : List ℕ → Result (List ℕ) ℕ) → Proper (Showing k text)
showing_proper k text old new e is = shown_exit k (text old.link.received) old.sink new.sink e is.1

linked_proper : (k : Asked) (call : Link → Link → Result Unit LinkFault → Type 0) → Proper (Linked k call)
linked_proper k call old new e is = linked_exit k is.0 e is.2

judged_proper : (k : Asked) (call : Link → Link → Result Answer LinkFault → Type 0) → Proper (Judged k call)
judged_proper k call old new e is = judged_exit k is.0 e is.2

quiet_proper : {T : Type 0} (step : Step Link T) → Proper step → Proper (Quiet step)
quiet_proper step p old new e is = p old.link new.link e is.0

looks_proper : (b : Bool) → Proper (Looks b)
looks_proper true = then_proper (Quiet Inquires) _ (quiet_proper Inquires (judged_proper _ _)) (λ a. showing_proper _ inquiry_text)
looks_proper false = skips_proper

tells_proper : (a : Action) → Proper (Tells a)
tells_proper (In service) = showing_proper _ (reply_text service)
tells_proper (Out service) = skips_proper

pub runs_proper : (w : Wanted) (old new : At) (e : PersistExit) → Runs w old new (Err e) → IsOfRun e
runs_proper w =
    let opens : Proper (Opens w) = then_proper _ _ (linked_proper _ _) (λ u. then_proper _ _ (linked_proper _ _) (λ v. judged_proper _ _)) in
    let acts : Proper (ActsAndTells w) = then_proper (Quiet (Acts w)) _ (quiet_proper (Acts w) (judged_proper _ _)) (λ a. tells_proper w.action) in
    let finishes : Proper (Finishes w) = then_proper (ActsAndTells w) _ acts (λ u. quiet_proper Closes (linked_proper _ _)) in
    then_proper (Quiet (Opens w)) _ (quiet_proper (Opens w) opens) (λ a. then_proper (Looks w.inquires) _ (looks_proper w.inquires) (λ u. finishes))

never_bad : (w : Wanted) (old new : At) (r : Result Unit PersistExit) → Runs w old new r → exit.BadWords ≡ exit_of r → ⊥
never_bad w old new (Ok u) runs is = absurd cc
never_bad w old new (Err e) runs is = subst IsOfRun (sym is) (runs_proper w old new e runs)

-- words are refused only where they ask for nothing
pub refused_alone : (o : Option Wanted) (old new : ToldWire) (sink printed : ToldSink) → Ends o old new sink printed exit.BadWords → o ≡ None
refused_alone None old new sink printed ends = refl
refused_alone (Some w) old new sink printed (inl (is, same)) = absurd cc
refused_alone (Some w) old new sink printed (inr has) = absurd (never_bad w _ _ has.result has.runs has.ends)
