-- Commands whose save succeeded, was not asked for, or failed.
use Rattle.std.proofs.Common.{◌≡◌, ◌⊎◌, inl, inr, ℕ, Bool, true, false, cond, ◌&&◌, not, List, [], ◌∷◌, refl, sym, ap, ◌∙◌, subst}
use Rattle.std.proofs.lemmas.Bool.{true≢false, false≢true, and_parts}
use Rattle.pr_words.specs.declared.nexus.Nexus.{Nexus}
use Rattle.pr_words.specs.declared.code.Status.TheVariants as status
use Rattle.pr_grammar.specs.Cdbs.{operation_code}
use Rattle.pr_model.specs.Keeping.{Kept, Nothing, Some_kept, kept, same_kept, same_kepts, is_empty}
use Rattle.pr_model.specs.Acts.{Verdict, Good, Conflict, Bad}
use Rattle.pr_model.specs.Attentions.{told}
use Rattle.pr_model.specs.Tasks.{marked}
use Rattle.pr_model.specs.Worlds.{World}
use Rattle.pr_model.specs.Entries as entries
use Rattle.pr_model.specs.Entries.{Out, Ended}
use Rattle.pr_model.specs.Commands.{Answer, by_verdict, answered}
use Rattle.pr_model.specs.Saving.{restorable, asks_to_save, tells_failure, is_unsaved, doubted, settled, MayAnswer}
use Rattle.pr_model.specs.Laws.{IsRefused, AnswersSettle, AcceptedAreSaved, RestoredIsKept}
use Rattle.pr_model.proofs.SameKept.{same_kept_itself}
use Rattle.pr_model.proofs.Checked.{reported}
use Rattle.pr_model.proofs.Refused.{refusals_change_little}

-- a command ended as it was answered and left that world, or its save failed
pub settles : (w : World) (a : Answer) (out : Out) → MayAnswer w a out → ((out ≡ a.out) × (settled w a out ≡ a.world)) ⊎ ((tells_failure out ≡ true) × (settled w a out ≡ doubted w a))
settles w a out may = by (is_unsaved w a out) refl
  where
    unsaved : MayAnswer w a out → is_unsaved w a out ≡ false → out ≡ a.out
    unsaved (inl e) is = e
    unsaved (inr f) is = absurd (true≢false (sym (subst (λ (o : Out). is_unsaved w a o ≡ true) (sym f.1) f.0) ∙ is))

    by : (b : Bool) → is_unsaved w a out ≡ b → ((out ≡ a.out) × (cond b (doubted w a) a.world ≡ a.world)) ⊎ ((tells_failure out ≡ true) × (cond b (doubted w a) a.world ≡ doubted w a))
    by true is = inr ((and_parts (tells_failure out) (asks_to_save w a) is).0, refl)
    by false is = inl (unsaved may is, refl)

-- neither of the two moves a block, or changes whether the file tells what it holds
pub settled_keeps : (w : World) (a : Answer) (out : Out) → (a.world.medium ≡ w.medium) × (a.world.file_tells ≡ w.file_tells)
    → ((settled w a out).medium ≡ w.medium) × ((settled w a out).file_tells ≡ w.file_tells)
settled_keeps w a out same = by (is_unsaved w a out)
  where
    by : (b : Bool) → ((cond b (doubted w a) a.world).medium ≡ w.medium) × ((cond b (doubted w a) a.world).file_tells ≡ w.file_tells)
    by true = (refl, refl)
    by false = same

failure_refuses : (out : Out) → tells_failure out ≡ true → IsRefused out
failure_refuses (Ended status.Good sense data_in) tells = absurd (false≢true tells)
failure_refuses (Ended status.CheckCondition sense data_in) tells = tt
failure_refuses (Ended status.ReservationConflict sense data_in) tells = tt
failure_refuses (Ended status.TaskAborted sense data_in) tells = absurd (false≢true tells)
failure_refuses (entries.Login_code code) tells = absurd (false≢true tells)
failure_refuses (entries.Started way) tells = absurd (false≢true tells)
failure_refuses entries.Wrote tells = absurd (false≢true tells)
failure_refuses (entries.Read block) tells = absurd (false≢true tells)
failure_refuses entries.Done tells = absurd (false≢true tells)
failure_refuses entries.Aborted tells = absurd (false≢true tells)
failure_refuses (entries.Fault code) tells = absurd (false≢true tells)
failure_refuses entries.Left tells = absurd (false≢true tells)
failure_refuses (entries.Restored value) tells = absurd (false≢true tells)

same_kepts_itself : (ks : List Kept) → same_kepts ks ks ≡ true
same_kepts_itself [] = refl
same_kepts_itself (k ∷ ks) = rw (same_kept_itself k) (same_kepts_itself ks)

pub asks_nothing : (w : World) (a : Answer) → restorable a.world ≡ restorable w → asks_to_save w a ≡ true → ⊥
asks_nothing w a same asks =
    let itself : not (same_kepts (restorable w) (restorable w)) ≡ true = subst (λ (ks : List Kept). not (same_kepts (restorable w) ks) ≡ true) same asks in
    false≢true (sym (ap not (same_kepts_itself (restorable w))) ∙ itself)

-- a refusal asks for no save
refused_keep : (w : World) (n : Nexus) (lun : ℕ) (cdb sent : List ℕ) → IsRefused (answered w n lun cdb sent).out → restorable (answered w n lun cdb sent).world ≡ restorable w
refused_keep w n lun cdb sent refused =
    elim (refusals_change_little w n lun cdb sent refused) [
      | inl same ↦ ap restorable same
      | inr told ↦ reported w n (operation_code cdb) (w.attentions n) (λ (a : Answer). restorable a.world ≡ restorable w) (λ c rest. refl) (answered w n lun cdb sent) told
    ]

pub answers_settle : AnswersSettle
answers_settle w n lun cdb sent = by (is_unsaved w a a.out) refl
  where
    a : Answer
    a = answered w n lun cdb sent

    by : (b : Bool) → is_unsaved w a a.out ≡ b → cond b (doubted w a) a.world ≡ a.world
    by true is =
        let parts = and_parts (tells_failure a.out) (asks_to_save w a) is in
        absurd (asks_nothing w a (refused_keep w n lun cdb sent (failure_refuses a.out parts.0)) parts.1)
    by false is = refl

pub none_left : (ks : List Kept) → same_kepts ks [] ≡ is_empty ks
none_left [] = refl
none_left (k ∷ ks) = refl

pub accepted_are_saved : AcceptedAreSaved
accepted_are_saved w n action a good = by a.verdict good
  where
    next : World
    next = record w { standing = a.standing; attentions = told n a w.attentions; task = marked action a.removed w.task; doubts = [] }

    by : (v : Verdict) → v ≡ Good → asks_to_save w (by_verdict w next v) ≡ not (same_kept (kept w.standing) (kept a.standing) && is_empty w.doubts)
    by Good is = ap (λ (b : Bool). not (same_kept (kept w.standing) (kept a.standing) && b)) (none_left w.doubts)
    by Conflict is = absurd cc
    by (Bad c) is = absurd cc

pub restored_is_kept : RestoredIsKept
restored_is_kept Nothing = refl
restored_is_kept (Some_kept pairs reservation) = refl
