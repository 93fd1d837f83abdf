-- Fencing, and which tasks end with TASK ABORTED, by induction over the entries.
use Rattle.std.proofs.Common.{◌≡◌, ◌⊎◌, inl, inr, ℕ, Bool, true, false, cond, ◌==◌, ◌↔◌, arith, List, [], ◌∷◌, ◌++◌, Option, Some, None, refl, sym, ap, ◌∙◌, subst}
use Rattle.std.specs.List.{AllByRecursion}
use Rattle.std.proofs.lemmas.Bool.{true≢false, false≢true}
use Rattle.pr_words.specs.declared.nexus.Nexus.{Nexus}
use Rattle.pr_words.specs.declared.nexus.Pair.{Pair}
use Rattle.pr_words.specs.declared.code.Code.{Code}
use Rattle.pr_words.specs.declared.task.Way.{Way}
use Rattle.pr_words.specs.declared.task.Way.TheVariants as ways
use Rattle.pr_words.specs.declared.reservation.Kind.{Kind}
use Rattle.pr_words.specs.declared.reservation.Kind.TheVariants.{WriteExclusive, ExclusiveAccess, WriteRegistrants, ExclusiveRegistrants, WriteAll, ExclusiveAll}
use Rattle.pr_words.specs.declared.reservation.Reservation.{Reservation}
use Rattle.pr_words.specs.declared.reservation.Reservation.TheVariants.{Free, OfOne, OfAll}
use Rattle.pr_words.specs.declared.role.Role.TheVariants.{Holder, Registered, Stranger}
use Rattle.pr_words.specs.declared.limits.TheConstants.{LIMIT}
use Rattle.pr_grammar.specs.declared.cdb.Class.TheVariants.{Writes}
use Rattle.pr_grammar.specs.Cdbs.{operation_code, command_of}
use Rattle.pr_grammar.specs.declared.cdb.Command.{Command}
use Rattle.pr_grammar.specs.declared.cdb.Command.TheVariants as commands
use Rattle.pr_grammar.specs.OutLists.{list_of}
use Rattle.pr_grammar.specs.Standings.{Standing, IsAscending, is_registered, kind_of, is_holder, is_holder_in}
use Rattle.pr_model.specs.Registrants.{IsSound, IsHeldIn, IsWellFormed}
use Rattle.pr_model.specs.Conflicts.{is_forbidden, conflicts, conflicts_in, role_of}
use Rattle.pr_model.specs.Acts.{ReserveOut, Verdict, Good, Conflict, Bad, acted}
use Rattle.pr_model.specs.Worlds.{World, Task, set_at, restored}
use Rattle.pr_model.specs.Tasks.{new_task, medium_error}
use Rattle.pr_model.specs.Entries as entries
use Rattle.pr_model.specs.Entries.{Act, Out, Entry, History, Login, Step, Logout, Power, entry, Started, Ended, Wrote, Fault, Aborted}
use Rattle.pr_model.specs.Commands.{Answer, answer, good, by_verdict, out_request, hand_out, served, answered}
use Rattle.pr_model.specs.Saving.{tells_failure, is_unsaved, doubted, settled, MayAnswer, MayRestore}
use Rattle.pr_model.specs.Steps.{MayStep, MayStepIn, stepped_in}
use Rattle.pr_model.specs.Histories.{MayEnd, MayFollow, moved, moved_by, after, IsLegalFrom, login_code, logged_in}
use Rattle.pr_model.specs.Fencing.{Fences, IsStarted, IsStartOf, Began, BeganOpen, IsOpenTo, IsWrite, WasFenced}
use Rattle.pr_model.specs.Laws.{LegalIsFenced, AbortedIsFenced}
use Rattle.pr_model.proofs.Orders.{same_is}
use Rattle.pr_model.proofs.Checked.{answer_fits, reported}
use Rattle.pr_model.proofs.Holders.{acted_sound}
use Rattle.pr_model.proofs.WellFormed.{well_formed}
use Rattle.pr_model.proofs.Settling.{settles}
use Rattle.pr_model.proofs.Came.{CameBy, came_by}

-- What every act of PERSISTENT RESERVE OUT keeps, and all well formed registrants have, every entry keeps

module _ (Q : Standing → Type 0) (kept : (s : Standing) (n : Nexus) (o : ReserveOut) → Q s → Q (acted LIMIT s n o).standing) (formed : (s : Standing) → IsWellFormed LIMIT s → Q s) where
  abbrev Keeps : World → Answer → Type 0
  Keeps w a = Q w.standing → Q a.world.standing

  begin_keeps : (w : World) (n : Nexus) (way : Way) (lba count : ℕ) (none : Bool) → Keeps w (cond none (answer w (good [])) (answer (record w { task = set_at w.task n (Some (new_task way lba count)) }) (Started way)))
  begin_keeps w n way lba count true q = q
  begin_keeps w n way lba count false q = q

  hand_out_keeps : (w : World) (n : Nexus) (descriptor : Bool) (allocation : ℕ) (cs : List Code) → Keeps w (hand_out w n descriptor allocation cs)
  hand_out_keeps w n descriptor allocation [] q = q
  hand_out_keeps w n descriptor allocation (c ∷ cs) q = q

  sense_keeps : (w : World) (n : Nexus) (here : Bool) (descriptor : Bool) (allocation : ℕ) (last : Answer) → Keeps w last → Keeps w (cond here (hand_out w n descriptor allocation (w.attentions n)) last)
  sense_keeps w n true descriptor allocation last end = hand_out_keeps w n descriptor allocation (w.attentions n)
  sense_keeps w n false descriptor allocation last end = end

  verdict_keeps : (w next : World) (v : Verdict) → (Q w.standing → Q next.standing) → Keeps w (by_verdict w next v)
  verdict_keeps w next Good keeps q = keeps q
  verdict_keeps w next Conflict keeps q = q
  verdict_keeps w next (Bad c) keeps q = q

  served_keeps : (w : World) (n : Nexus) (lun : ℕ) (command : Command) (sent : List ℕ) → Keeps w (served w n lun command sent)
  served_keeps w n lun commands.TestUnitReady sent q = q
  served_keeps w n lun (commands.RequestSense descriptor allocation) sent q = sense_keeps w n (lun == 0) descriptor allocation _ (λ q. q) q
  served_keeps w n lun (commands.ReserveIn action allocation) sent q = q
  served_keeps w n lun (commands.ReserveOut action scope kind list) sent q = verdict_keeps w _ _ (kept w.standing n (out_request action scope kind (list_of sent))) q
  served_keeps w n lun (commands.Inquiry vital page allocation) sent q = q
  served_keeps w n lun commands.ReadCapacity10 sent q = q
  served_keeps w n lun (commands.ReadCapacity16 action allocation) sent q = q
  served_keeps w n lun (commands.ReportLuns select allocation) sent q = q
  served_keeps w n lun (commands.Read wide protect lba count) sent q = begin_keeps w n ways.Read lba count (count == 0) q
  served_keeps w n lun (commands.Write wide protect lba count) sent q = begin_keeps w n ways.Write lba count (count == 0) q
  served_keeps w n lun (commands.SynchronizeCache lba count) sent q = q

  answered_keeps : (w : World) (n : Nexus) (lun : ℕ) (cdb sent : List ℕ) → Keeps w (answered w n lun cdb sent)
  answered_keeps w n lun cdb sent =
      answer_fits (Keeps w) w (λ c q. q) n lun cdb sent (λ q. q) (reported w n (operation_code cdb) (w.attentions n) (Keeps w) (λ c rest q. q)) (λ free. served_keeps w n lun (command_of (operation_code cdb) cdb) sent)

  step_keeps : (w : World) (n : Nexus) (o : Option Task) (sent : List ℕ) (out : Out) → Q w.standing → Q (stepped_in w n o sent out).standing
  step_keeps w n None sent out q = q
  step_keeps w n (Some t) sent entries.Wrote q = q
  step_keeps w n (Some t) sent (entries.Read bytes) q = q
  step_keeps w n (Some t) sent (entries.Fault code) q = q
  step_keeps w n (Some t) sent entries.Done q = q
  step_keeps w n (Some t) sent entries.Aborted q = q
  step_keeps w n (Some t) sent (entries.Login_code code) q = q
  step_keeps w n (Some t) sent (entries.Ended status sense data_in) q = q
  step_keeps w n (Some t) sent (entries.Started way) q = q
  step_keeps w n (Some t) sent entries.Left q = q
  step_keeps w n (Some t) sent (entries.Restored value) q = q

  login_keeps : (w next : World) (b : Bool) → Q next.standing → Q w.standing → Q (cond b next w).standing
  login_keeps w next true p q = p
  login_keeps w next false p q = q

  settled_keep : (w : World) (a : Answer) (out : Out) → Keeps w a → Q w.standing → Q (settled w a out).standing
  settled_keep w a out keeps q = by (is_unsaved w a out)
    where
      by : (b : Bool) → Q (cond b (doubted w a) a.world).standing
      by true = q
      by false = keeps q

  power_keeps : (w : World) (who : ℕ) (n : Nexus) (out : Out) → MayRestore w out → Q (moved_by w who n Power out).standing
  power_keeps w who n (entries.Restored value) may = formed (restored value) may.0
  power_keeps w who n entries.Wrote may = absurd may
  power_keeps w who n (entries.Read bytes) may = absurd may
  power_keeps w who n (entries.Fault code) may = absurd may
  power_keeps w who n entries.Done may = absurd may
  power_keeps w who n entries.Aborted may = absurd may
  power_keeps w who n (entries.Login_code code) may = absurd may
  power_keeps w who n (entries.Ended status sense data_in) may = absurd may
  power_keeps w who n (entries.Started way) may = absurd may
  power_keeps w who n entries.Left may = absurd may

  pub entry_keeps : (w : World) (e : Entry) → MayFollow w e → Q w.standing → Q (moved w e).standing
  entry_keeps w e may q = by e.who e.nexus e.act e.out may
    where
      by : (who : ℕ) (m : Nexus) (act : Act) (out : Out) → MayEnd w who m act out → Q (moved_by w who m act out).standing
      by who m (Login version) out may = login_keeps w (logged_in w who m) (login_code w version m == 0) q q
      by who m (entries.Command lun cdb sent) out may = settled_keep w (answered w m lun cdb sent) out (answered_keeps w m lun cdb sent) q
      by who m (Step sent) out may = step_keeps w m (w.task m) sent out q
      by who m Logout out may = q
      by who m Power out may = power_keeps w who m out may

  pub history_keeps : (w : World) (xs ys : History) → IsLegalFrom w (xs ++ ys) → Q w.standing → Q (after w xs).standing
  history_keeps w [] ys legal q = q
  history_keeps w (x ∷ xs) ys legal q = history_keeps (moved w x) xs ys legal.1 (entry_keeps w x legal.0 q)

well_is_sound : (s : Standing) → IsWellFormed LIMIT s → IsSound s
well_is_sound s well = well.sound

pub legal_behind : (w : World) (xs ys : History) → IsLegalFrom w (xs ++ ys) → IsLegalFrom (after w xs) ys
legal_behind w [] ys legal = legal
legal_behind w (x ∷ xs) ys legal = legal_behind (moved w x) xs ys legal.1

-- Whoever may write is registered, or meets no reservation

open_role : (kind : Kind) (s : Standing) (n : Nexus) (holder registered : Bool) → (holder ≡ true → is_registered s.pairs n ≡ true) → is_registered s.pairs n ≡ registered
    → conflicts kind (cond holder Holder (cond registered Registered Stranger)) Writes ≡ false → is_registered s.pairs n ≡ true
open_role kind s n true registered holds is e = holds refl
open_role kind s n false true holds is e = is
open_role WriteExclusive s n false false holds is e = absurd (true≢false e)
open_role ExclusiveAccess s n false false holds is e = absurd (true≢false e)
open_role WriteRegistrants s n false false holds is e = absurd (true≢false e)
open_role ExclusiveRegistrants s n false false holds is e = absurd (true≢false e)
open_role WriteAll s n false false holds is e = absurd (true≢false e)
open_role ExclusiveAll s n false false holds is e = absurd (true≢false e)

holder_registered : (r : Reservation) (ps : List Pair) (n : Nexus) → IsHeldIn r ps → is_holder_in r ps n ≡ true → is_registered ps n ≡ true
holder_registered Free ps n held e = absurd (false≢true e)
holder_registered (OfOne kind holder) ps n held e = subst (λ (m : Nexus). is_registered ps m ≡ true) (same_is holder n e) held.1
holder_registered (OfAll kind) ps n held e = e

open_in : (s : Standing) (n : Nexus) (r : Reservation) → r ≡ s.reservation → IsSound s → conflicts_in (kind_of r) (role_of s n) Writes ≡ false → (is_registered s.pairs n ≡ true) ⊎ (s.reservation ≡ Free)
open_in s n Free is sound e = inr (sym is)
open_in s n (OfOne kind holder) is sound e = inl (open_role kind s n (is_holder s n) (is_registered s.pairs n) (holder_registered s.reservation s.pairs n sound) refl e)
open_in s n (OfAll kind) is sound e = inl (open_role kind s n (is_holder s n) (is_registered s.pairs n) (holder_registered s.reservation s.pairs n sound) refl e)

open_to : (w : World) (n : Nexus) → IsSound w.standing → is_forbidden w.standing n Writes ≡ false → IsOpenTo w n
open_to w n sound e = open_in w.standing n w.standing.reservation refl sound e

-- Fencing

-- a WRITE of the nexus runs, which isn't marked
record WritesOn (w : World) (n : Nexus) : Type 0 where
  task : Task
  runs : w.task n ≡ Some task
  way : task.way ≡ ways.Write
  unmarked : task.aborted ≡ false

write_runs : (w : World) (n : Nexus) (o : Option Task) (sent : List ℕ) (out : Out) → w.task n ≡ o → MayStepIn w.medium o sent out → IsWrite out → WritesOn w n
write_runs w n None sent out is may writes = absurd may
write_runs w n (Some t) sent out is may (inl wrote) =
    let here : MayStep w.medium t sent Wrote = subst (λ (x : Out). MayStep w.medium t sent x) wrote may in
    record { task = t; runs = is; way = here.1; unmarked = here.0.unmarked }
write_runs w n (Some t) sent out is may (inr failed) =
    let here : MayStep w.medium t sent (Fault (medium_error ways.Write)) = subst (λ (x : Out). MayStep w.medium t sent x) failed may in
    record { task = t; runs = is; way = write_error t.way here.1; unmarked = here.0.unmarked }
  where
    write_error : (way : Way) → medium_error ways.Write ≡ medium_error way → way ≡ ways.Write
    write_error ways.Write e = refl
    write_error ways.Read e = absurd (omega (arith, ap (λ (c : Code). c.asc) e))

ended_writes : (o : Out) (status : _) (sense : _) (data_in : List ℕ) → o ≡ Ended status sense data_in → IsWrite o → ⊥
ended_writes o status sense data_in is (inl e) = let clash : Ended status sense data_in ≡ Wrote = sym is ∙ e in absurd cc
ended_writes o status sense data_in is (inr e) = let clash : Ended status sense data_in ≡ Fault (medium_error ways.Write) = sym is ∙ e in absurd cc

started_writes : (way : Way) → IsWrite (Started way) → ⊥
started_writes way (inl e) = absurd cc
started_writes way (inr e) = absurd cc

-- no command's outcome is a write
abbrev NoWrite : Answer → Type 0
NoWrite a = IsWrite a.out → ⊥

begin_writes : (w : World) (n : Nexus) (way : Way) (lba count : ℕ) (none : Bool) → NoWrite (cond none (answer w (good [])) (answer (record w { task = set_at w.task n (Some (new_task way lba count)) }) (Started way)))
begin_writes w n way lba count true = ended_writes _ _ _ _ refl
begin_writes w n way lba count false = started_writes way

hand_out_writes : (w : World) (n : Nexus) (descriptor : Bool) (allocation : ℕ) (cs : List Code) → NoWrite (hand_out w n descriptor allocation cs)
hand_out_writes w n descriptor allocation [] = ended_writes _ _ _ _ refl
hand_out_writes w n descriptor allocation (c ∷ cs) = ended_writes _ _ _ _ refl

sense_writes : (w : World) (n : Nexus) (here : Bool) (descriptor : Bool) (allocation : ℕ) (last : Answer) → NoWrite last → NoWrite (cond here (hand_out w n descriptor allocation (w.attentions n)) last)
sense_writes w n true descriptor allocation last end = hand_out_writes w n descriptor allocation (w.attentions n)
sense_writes w n false descriptor allocation last end = end

verdict_writes : (w next : World) (v : Verdict) → NoWrite (by_verdict w next v)
verdict_writes w next Good = ended_writes _ _ _ _ refl
verdict_writes w next Conflict = ended_writes _ _ _ _ refl
verdict_writes w next (Bad c) = ended_writes _ _ _ _ refl

served_writes : (w : World) (n : Nexus) (lun : ℕ) (command : Command) (sent : List ℕ) → NoWrite (served w n lun command sent)
served_writes w n lun commands.TestUnitReady sent = ended_writes _ _ _ _ refl
served_writes w n lun (commands.RequestSense descriptor allocation) sent = sense_writes w n (lun == 0) descriptor allocation _ (ended_writes _ _ _ _ refl)
served_writes w n lun (commands.ReserveIn action allocation) sent = ended_writes _ _ _ _ refl
served_writes w n lun (commands.ReserveOut action scope kind list) sent = verdict_writes w _ _
served_writes w n lun (commands.Inquiry vital page allocation) sent = ended_writes _ _ _ _ refl
served_writes w n lun commands.ReadCapacity10 sent = ended_writes _ _ _ _ refl
served_writes w n lun (commands.ReadCapacity16 action allocation) sent = ended_writes _ _ _ _ refl
served_writes w n lun (commands.ReportLuns select allocation) sent = ended_writes _ _ _ _ refl
served_writes w n lun (commands.Read wide protect lba count) sent = begin_writes w n ways.Read lba count (count == 0)
served_writes w n lun (commands.Write wide protect lba count) sent = begin_writes w n ways.Write lba count (count == 0)
served_writes w n lun (commands.SynchronizeCache lba count) sent = ended_writes _ _ _ _ refl

answered_writes : (w : World) (n : Nexus) (lun : ℕ) (cdb sent : List ℕ) → NoWrite (answered w n lun cdb sent)
answered_writes w n lun cdb sent =
    answer_fits NoWrite w (λ c. ended_writes _ _ _ _ refl) n lun cdb sent (ended_writes _ _ _ _ refl) (reported w n (operation_code cdb) (w.attentions n) NoWrite (λ c rest. ended_writes _ _ _ _ refl))
    (λ free. served_writes w n lun (command_of (operation_code cdb) cdb) sent)

-- nor is one whose save failed, nor a power-up
failure_writes : (out : Out) → tells_failure out ≡ true → IsWrite out → ⊥
failure_writes out tells (inl wrote) = false≢true (sym (ap tells_failure wrote) ∙ tells)
failure_writes out tells (inr failed) = false≢true (sym (ap tells_failure failed) ∙ tells)

settled_writes : (w : World) (a : Answer) (out : Out) → NoWrite a → MayAnswer w a out → IsWrite out → ⊥
settled_writes w a out none may writes =
    elim (settles w a out may) [
      | inl s ↦ none (subst IsWrite s.0 writes)
      | inr s ↦ failure_writes out s.0 writes
    ]

power_writes : (w : World) (out : Out) → MayRestore w out → IsWrite out → ⊥
power_writes w out may (inl wrote) = subst (MayRestore w) wrote may
power_writes w out may (inr failed) = subst (MayRestore w) failed may

-- what was written, was written by a WRITE that runs
writes_now : (w : World) (f : Entry) (n : Nexus) → MayFollow w f → f.nexus ≡ n → IsWrite f.out → WritesOn w n
writes_now w f n may at writes = subst (WritesOn w) at (by f.who f.nexus f.act f.out may writes)
  where
    no_write : (o : Out) → (o ≡ Wrote → ⊥) → ((c : Code) → o ≡ Fault c → ⊥) → IsWrite o → ⊥
    no_write o a b (inl wrote) = a wrote
    no_write o a b (inr failed) = b (medium_error ways.Write) failed

    by : (who : ℕ) (m : Nexus) (act : Act) (out : Out) → MayEnd w who m act out → IsWrite out → WritesOn w m
    by who m (Login version) out may writes = absurd (no_write (entries.Login_code (login_code w version m)) (λ e. absurd cc) (λ c e. absurd cc) (subst IsWrite may writes))
    by who m (entries.Command lun cdb sent) out may writes = absurd (settled_writes w (answered w m lun cdb sent) out (answered_writes w m lun cdb sent) may.2 writes)
    by who m (Step sent) out may writes = write_runs w m (w.task m) sent out refl may.1 writes
    by who m Logout out may writes = absurd (no_write entries.Left (λ e. absurd cc) (λ c e. absurd cc) (subst IsWrite may.1 writes))
    by who m Power out may writes = absurd (power_writes w out may writes)

-- a WRITE that runs after an entry ran before it, or is begun by it
before_or_here : (w : World) (e : Entry) (n : Nexus) → IsSound w.standing → MayFollow w e → WritesOn (moved w e) n
    → (WritesOn w n × (IsStartOf e n → ⊥)) ⊎ (IsStartOf e n × (e.out ≡ Started ways.Write) × IsOpenTo w n)
before_or_here w e n sound may on = by (came_by w e n on.task may on.runs)
  where
    not_marked : (t : Task) (b : Bool) → t.aborted ≡ b → (t.aborted ≡ true → on.task.aborted ≡ true) → t.aborted ≡ false
    not_marked t true is stays = absurd (true≢false (sym (stays is) ∙ on.unmarked))
    not_marked t false is stays = is

    by : CameBy w e n on.task → (WritesOn w n × (IsStartOf e n → ⊥)) ⊎ (IsStartOf e n × (e.out ≡ Started ways.Write) × IsOpenTo w n)
    by (inl r) = inl (record { task = r.task; runs = r.ran; way = r.way ∙ on.way; unmarked = not_marked r.task r.task.aborted refl r.stays }, r.other)
    by (inr r) = inr ((r.here, subst IsStarted (sym r.started) tt), r.started ∙ ap Started on.way, open_to w n sound (r.allowed on.way))

fence_marks : (w : World) (e : Entry) (n : Nexus) → MayFollow w e → Fences w e n → WritesOn (moved w e) n → ⊥
fence_marks w e n may fences on = by (came_by w e n on.task may on.runs)
  where
    by : CameBy w e n on.task → ⊥
    by (inl r) = true≢false (sym (r.fenced fences) ∙ on.unmarked)
    by (inr r) = let clash : good [] ≡ Started on.task.way = sym fences.good ∙ r.started in absurd cc

-- the WRITE runs from before these entries on
record RanOn (w : World) (ys : History) (n : Nexus) : Type 0 where
  on : WritesOn w n
  last : AllByRecursion (λ (e : Entry). IsStartOf e n → ⊥) ys

walk : (w : World) (ys : History) (f : Entry) (zs : History) (n : Nexus) → IsSound w.standing → IsLegalFrom w (ys ++ f ∷ zs) → f.nexus ≡ n → IsWrite f.out → RanOn w ys n ⊎ BeganOpen w ys n
walk w [] f zs n sound legal at writes = inl (record { on = writes_now w f n legal.0 at writes; last = tt })
walk w (e ∷ ys) f zs n sound legal at writes = by (walk (moved w e) ys f zs n (entry_keeps IsSound (acted_sound LIMIT) well_is_sound w e legal.0 sound) legal.1 at writes)
  where
    by : RanOn (moved w e) ys n ⊎ BeganOpen (moved w e) ys n → RanOn w (e ∷ ys) n ⊎ BeganOpen w (e ∷ ys) n
    by (inr b) =
        inr (record {
          began = record { before = e ∷ b.began.before; start = b.began.start; since = b.began.since; cut = ap (λ (h : History). e ∷ h) b.began.cut; begins = b.began.begins; last = b.began.last };
          writes = b.writes;
          allowed = b.allowed;
        })
    by (inl r) = came (before_or_here w e n sound legal.0 r.on)
      where
        came : (WritesOn w n × (IsStartOf e n → ⊥)) ⊎ (IsStartOf e n × (e.out ≡ Started ways.Write) × IsOpenTo w n) → RanOn w (e ∷ ys) n ⊎ BeganOpen w (e ∷ ys) n
        came (inl before) = inl (record { on = before.0; last = (before.1, r.last) })
        came (inr here) = inr (record { began = record { before = []; start = e; since = ys; cut = refl; begins = here.0; last = r.last }; writes = here.1; allowed = here.2 })

pub legal_is_fenced : LegalIsFenced
legal_is_fenced w h sound legal xs e ys f zs n cut fences at writes =
    by (walk (moved (after w xs) e) ys f zs n (entry_keeps IsSound (acted_sound LIMIT) well_is_sound (after w xs) e behind.0 here) behind.1 at writes)
  where
    behind : IsLegalFrom (after w xs) (e ∷ (ys ++ f ∷ zs))
    behind = legal_behind w xs (e ∷ (ys ++ f ∷ zs)) (subst (λ (g : History). IsLegalFrom w g) cut legal)

    here : IsSound (after w xs).standing
    here = history_keeps IsSound (acted_sound LIMIT) well_is_sound w xs (e ∷ (ys ++ f ∷ zs)) (subst (λ (g : History). IsLegalFrom w g) cut legal) sound

    by : RanOn (moved (after w xs) e) ys n ⊎ BeganOpen (moved (after w xs) e) ys n → BeganOpen (moved (after w xs) e) ys n
    by (inl r) = absurd (fence_marks (after w xs) e n behind.0 fences r.on)
    by (inr b) = b

-- Tasks that are aborted

none_fenced : (w : World) (n : Nexus) → WasFenced w [] n → ⊥
none_fenced w n f = by f.before f.fence f.behind f.cut
  where
    by : (before : History) (e : Entry) (behind : History) → [] ≡ before ++ e ∷ behind → ⊥
    by [] e behind cut = absurd cc
    by (x ∷ xs) e behind cut = absurd cc

fenced_here : (w : World) (e : Entry) (es : History) (n : Nexus) → Fences w e n → WasFenced w (e ∷ es) n
fenced_here w e es n f = record { before = []; fence = e; behind = es; cut = refl; fences = f }

fenced_later : (w : World) (e : Entry) (es : History) (n : Nexus) → WasFenced (moved w e) es n → WasFenced w (e ∷ es) n
fenced_later w e es n f = record { before = e ∷ f.before; fence = f.fence; behind = f.behind; cut = ap (λ (h : History). e ∷ h) f.cut; fences = f.fences }

fenced_when : (w : World) (e : Entry) (es : History) (n : Nexus) → WasFenced w (e ∷ es) n → Fences w e n ⊎ WasFenced (moved w e) es n
fenced_when w e es n f = by f.before f.fence f.behind f.cut f.fences
  where
    by : (before : History) (fence : Entry) (behind : History) → e ∷ es ≡ before ++ fence ∷ behind → Fences (after w before) fence n → Fences w e n ⊎ WasFenced (moved w e) es n
    by [] fence behind cut fences = let same : e ≡ fence = cc in inl (subst (λ (x : Entry). Fences w x n) (sym same) fences)
    by (x ∷ xs) fence behind cut fences =
        let same : e ≡ x = cc in
        let rest : es ≡ xs ++ fence ∷ behind = cc in
        inr (record { before = xs; fence = fence; behind = behind; cut = rest; fences = subst (λ (y : Entry). Fences (after (moved w y) xs) fence n) (sym same) fences })

-- the task runs from before these entries on, and they marked it where they fenced its nexus
record Ran (w : World) (es : History) (n : Nexus) (now : Task) : Type 0 where
  task : Task
  runs : w.task n ≡ Some task
  last : AllByRecursion (λ (e : Entry). IsStartOf e n → ⊥) es
  forth : now.aborted ≡ true → (task.aborted ≡ true) ⊎ WasFenced w es n
  stays : task.aborted ≡ true → now.aborted ≡ true
  back : WasFenced w es n → now.aborted ≡ true

-- it began among these entries, and those since marked it where they fenced its nexus
record Begun (w : World) (es : History) (n : Nexus) (now : Task) : Type 0 where
  began : Began es n
  forth : now.aborted ≡ true → WasFenced (moved (after w began.before) began.start) began.since n
  back : WasFenced (moved (after w began.before) began.start) began.since n → now.aborted ≡ true

trace : (w : World) (es : History) (n : Nexus) (now : Task) → IsWellFormed LIMIT w.standing → IsLegalFrom w es → (after w es).task n ≡ Some now → Ran w es n now ⊎ Begun w es n now
trace w [] n now well legal runs = inl (record { task = now; runs = runs; last = tt; forth = λ e. inl e; stays = λ e. e; back = λ f. absurd (none_fenced w n f) })
trace w (e ∷ es) n now well legal runs = by (trace (moved w e) es n now (entry_keeps (IsWellFormed LIMIT) (well_formed LIMIT) (λ s well. well) w e legal.0 well) legal.1 runs)
  where
    by : Ran (moved w e) es n now ⊎ Begun (moved w e) es n now → Ran w (e ∷ es) n now ⊎ Begun w (e ∷ es) n now
    by (inr b) =
        inr (record {
          began = record { before = e ∷ b.began.before; start = b.began.start; since = b.began.since; cut = ap (λ (h : History). e ∷ h) b.began.cut; begins = b.began.begins; last = b.began.last };
          forth = b.forth;
          back = b.back;
        })
    by (inl r) = came (came_by w e n r.task legal.0 r.runs)
      where
        came : CameBy w e n r.task → Ran w (e ∷ es) n now ⊎ Begun w (e ∷ es) n now
        came (inl t) =
            inl (record {
              task = t.task;
              runs = t.ran;
              last = (t.other, r.last);
              forth = λ x. forth (r.forth x);
              stays = λ x. r.stays (t.stays x);
              back = λ f. back (fenced_when w e es n f);
            })
          where
            first : (t.task.aborted ≡ true) ⊎ (IsAscending w.standing.pairs → Fences w e n) → (t.task.aborted ≡ true) ⊎ WasFenced w (e ∷ es) n
            first (inl x) = inl x
            first (inr f) = inr (fenced_here w e es n (f well.ascending))

            forth : (r.task.aborted ≡ true) ⊎ WasFenced (moved w e) es n → (t.task.aborted ≡ true) ⊎ WasFenced w (e ∷ es) n
            forth (inl x) = first (t.marks x)
            forth (inr f) = inr (fenced_later w e es n f)

            back : Fences w e n ⊎ WasFenced (moved w e) es n → now.aborted ≡ true
            back (inl f) = r.stays (t.fenced f)
            back (inr f) = r.back f
        came (inr s) =
            inr (record {
              began = record { before = []; start = e; since = es; cut = refl; begins = (s.here, subst IsStarted (sym s.started) tt); last = r.last };
              forth = λ x. forth (r.forth x);
              back = r.back;
            })
          where
            forth : (r.task.aborted ≡ true) ⊎ WasFenced (moved w e) es n → WasFenced (moved w e) es n
            forth (inl x) = absurd (true≢false (sym x ∙ s.unmarked))
            forth (inr f) = f

-- a marked task's step ends it, and nothing else
marked_ends : (m : _) (t : Task) (sent : List ℕ) (out : Out) → MayStep m t sent out → t.aborted ≡ true → out ≡ Aborted
marked_ends m t sent Wrote may e = absurd (true≢false (sym e ∙ may.0.unmarked))
marked_ends m t sent (entries.Read bytes) may e = absurd (true≢false (sym e ∙ may.0.unmarked))
marked_ends m t sent (Fault code) may e = absurd (true≢false (sym e ∙ may.0.unmarked))
marked_ends m t sent entries.Done may e = absurd (true≢false (sym e ∙ may.0))
marked_ends m t sent Aborted may e = refl
marked_ends m t sent (entries.Login_code code) may e = absurd may
marked_ends m t sent (Ended status sense data_in) may e = absurd may
marked_ends m t sent (Started way) may e = absurd may
marked_ends m t sent entries.Left may e = absurd may
marked_ends m t sent (entries.Restored value) may e = absurd may

legal_front : (w : World) (xs ys : History) → IsLegalFrom w (xs ++ ys) → IsLegalFrom w xs
legal_front w [] ys legal = tt
legal_front w (x ∷ xs) ys legal = (legal.0, legal_front (moved w x) xs ys legal.1)

pub aborted_is_fenced : AbortedIsFenced
aborted_is_fenced w h who n sent out none well legal = by (after w h) refl ((after w h).task n) refl (legal_behind w h (entry who n (Step sent) out ∷ []) legal).0.1
  where
    ends : (m : _) (t : Task) → MayStep m t sent out → Ran w h n t ⊎ Begun w h n t → (b : Began h n) × ((out ≡ Aborted) ↔ WasFenced (moved (after w b.before) b.start) b.since n)
    ends m t may (inl r) = let clash : None ≡ Some r.task = sym (none n) ∙ r.runs in absurd cc
    ends m t may (inr b) = (b.began, ((λ e. b.forth (subst (λ (o : Out). MayStep m t sent o) e may)), (λ f. marked_ends m t sent out may (b.back f))))

    by : (v : World) → v ≡ after w h → (o : Option Task) → v.task n ≡ o → MayStepIn v.medium o sent out → (b : Began h n) × ((out ≡ Aborted) ↔ WasFenced (moved (after w b.before) b.start) b.since n)
    by v is None task may = absurd may
    by v is (Some t) task may = ends v.medium t may (trace w h n t well (legal_front w h (entry who n (Step sent) out ∷ []) legal) (ap (λ (x : World). x.task n) (sym is) ∙ task))
