-- What others do leaves a login and how far its task has come.
use Rattle.std.proofs.Common.{◌≡◌, ℕ, ◌==◌, ◌&&◌, not, Bool, true, false, cond, List, [], ◌∷◌, Option, Some, None, is_some, option_map, take, refl, sym, ap, ◌∙◌}
use Rattle.std.proofs.lemmas.Bool.{false≢true}
use Rattle.std.specs.Prelude.{nat_lt, length}
use Rattle.pr_words.specs.declared.nexus.Nexus.{Nexus}
use Rattle.pr_words.specs.declared.code.Code.{Code}
use Rattle.pr_words.specs.declared.task.Way.{Way}
use Rattle.pr_words.specs.declared.task.Way.TheVariants as ways
use Rattle.pr_words.specs.Orders.{same_nexus}
use Rattle.pr_words.specs.declared.code.TheConstants.Code.{LOGICAL_UNIT_NOT_SUPPORTED}
use Rattle.pr_words.specs.declared.limits.TheConstants.{KNOWN, LIMIT}
use Rattle.pr_grammar.specs.declared.cdb.Command.{Command}
use Rattle.pr_grammar.specs.declared.cdb.Command.TheVariants as commands
use Rattle.pr_grammar.specs.Standings.{is_registered, is_port}
use Rattle.pr_grammar.specs.Cdbs.{operation_code, command_of}
use Rattle.pr_grammar.specs.OutLists.{list_of}
use Rattle.pr_model.specs.Acts.{Acted, Verdict, Good, Conflict, Bad, acted}
use Rattle.pr_model.specs.Attentions.{told}
use Rattle.pr_model.specs.Worlds.{World, Task, set_at, is_known}
use Rattle.pr_model.specs.Tasks.{new_task, aborted, marked}
use Rattle.pr_model.specs.Entries as entries
use Rattle.pr_model.specs.Entries.{Act, Out, Entry, History, Started}
use Rattle.pr_model.specs.Commands.{Answer, answer, good, sense_data, by_verdict, out_request, hand_out, served, answered}
use Rattle.pr_model.specs.Saving.{is_unsaved, doubted, settled}
use Rattle.pr_model.specs.Steps.{stepped_in}
use Rattle.pr_model.specs.Histories.{MayEnd, moved_by, moved, after, IsLegalFrom, login_code, logged_in}
use Rattle.pr_model.proofs.Orders.{same_is}
use Rattle.pr_model.proofs.Checked.{answer_fits, reported}
use Rattle.pr_core.specs.States.{progress_in}
use Rattle.pr_core.specs.Shared.{IsPowered, ArePowered, AreOthers}

-- the logins are as before, and so are the tasks of all but one nexus, but for their marks
pub record Leaves (w v : World) (m : Nexus) : Type 0 where
  pub owners : (n : Nexus) → v.owner n ≡ w.owner n
  pub tasks : (n : Nexus) → same_nexus n m ≡ false → progress_in (v.task n) ≡ progress_in (w.task n)

-- of the same logins and tasks
as_before : (w v : World) (m : Nexus) → v.owner ≡ w.owner → v.task ≡ w.task → Leaves w v m
as_before w v m owner task = record { owners = λ n. ap (λ f. f n) owner; tasks = λ n apart. ap (λ f. progress_in (f n)) task }

elsewhere : (w : World) (m n : Nexus) (t : Option Task) → same_nexus n m ≡ false → progress_in (set_at w.task m t n) ≡ progress_in (w.task n)
elsewhere w m n t apart = ap (λ (b : Bool). progress_in (cond b t (w.task n))) apart

unmarked : (b : Bool) (t : Option Task) → progress_in (cond b (option_map aborted t) t) ≡ progress_in t
unmarked true None = refl
unmarked true (Some t) = refl
unmarked false t = refl

module _ (w : World) (m : Nexus) where
  abbrev Fits : Answer → Type 0
  Fits a = Leaves w a.world m

  at_rest : Leaves w w m
  at_rest = as_before w w m refl refl

  reserve_fits : (action : ℕ) (a : Acted) (v : Verdict) → Fits (by_verdict w (record w { standing = a.standing; attentions = told m a w.attentions; task = marked action a.removed w.task; doubts = [] }) v)
  reserve_fits action a Good = record { owners = λ n. refl; tasks = λ n apart. unmarked (action == 5 && is_registered a.removed n) (w.task n) }
  reserve_fits action a Conflict = at_rest
  reserve_fits action a (Bad c) = at_rest

  hand_out_fits : (descriptor : Bool) (allocation : ℕ) (cs : List Code) → Fits (hand_out w m descriptor allocation cs)
  hand_out_fits descriptor allocation [] = at_rest
  hand_out_fits descriptor allocation (c ∷ cs) = as_before w _ m refl refl

  sense_fits : (descriptor : Bool) (allocation : ℕ) (here : Bool) → Fits (cond here (hand_out w m descriptor allocation (w.attentions m)) (answer w (good (take allocation (sense_data descriptor LOGICAL_UNIT_NOT_SUPPORTED)))))
  sense_fits descriptor allocation true = hand_out_fits descriptor allocation (w.attentions m)
  sense_fits descriptor allocation false = at_rest

  begin_fits : (way : Way) (lba count : ℕ) (none : Bool) → Fits (cond none (answer w (good [])) (answer (record w { task = set_at w.task m (Some (new_task way lba count)) }) (Started way)))
  begin_fits way lba count true = at_rest
  begin_fits way lba count false = record { owners = λ n. refl; tasks = λ n apart. elsewhere w m n (Some (new_task way lba count)) apart }

  served_fits : (lun : ℕ) (command : Command) (sent : List ℕ) → Fits (served w m lun command sent)
  served_fits lun commands.TestUnitReady sent = at_rest
  served_fits lun (commands.RequestSense descriptor allocation) sent = sense_fits descriptor allocation (lun == 0)
  served_fits lun (commands.ReserveIn action allocation) sent = at_rest
  served_fits lun (commands.ReserveOut action scope kind list) sent = let a : Acted = acted LIMIT w.standing m (out_request action scope kind (list_of sent)) in reserve_fits action a a.verdict
  served_fits lun (commands.Inquiry vital page allocation) sent = at_rest
  served_fits lun commands.ReadCapacity10 sent = at_rest
  served_fits lun (commands.ReadCapacity16 action allocation) sent = at_rest
  served_fits lun (commands.ReportLuns select allocation) sent = at_rest
  served_fits lun (commands.Read wide protect lba count) sent = begin_fits ways.Read lba count (count == 0)
  served_fits lun (commands.Write wide protect lba count) sent = begin_fits ways.Write lba count (count == 0)
  served_fits lun (commands.SynchronizeCache lba count) sent = at_rest

  answered_fits : (lun : ℕ) (cdb sent : List ℕ) → Fits (answered w m lun cdb sent)
  answered_fits lun cdb sent =
      answer_fits Fits w (λ c. at_rest) m lun cdb sent at_rest (reported w m (operation_code cdb) (w.attentions m) Fits (λ c rest. as_before w _ m refl refl)) (λ free. served_fits lun (command_of (operation_code cdb) cdb) sent)

  settled_fits : (a : Answer) (out : Out) → Fits a → Leaves w (settled w a out) m
  settled_fits a out fits = by (is_unsaved w a out)
    where
      by : (b : Bool) → Leaves w (cond b (doubted w a) a.world) m
      by true = as_before w _ m refl refl
      by false = fits

  step_fits : (t : Option Task) (sent : List ℕ) (out : Out) → Leaves w (stepped_in w m t sent out) m
  step_fits None sent out = as_before w _ m refl refl
  step_fits (Some t) sent entries.Wrote = record { owners = λ n. refl; tasks = λ n apart. elsewhere w m n _ apart }
  step_fits (Some t) sent (entries.Read bytes) = record { owners = λ n. refl; tasks = λ n apart. elsewhere w m n _ apart }
  step_fits (Some t) sent (entries.Fault code) = record { owners = λ n. refl; tasks = λ n apart. elsewhere w m n _ apart }
  step_fits (Some t) sent entries.Done = record { owners = λ n. refl; tasks = λ n apart. elsewhere w m n _ apart }
  step_fits (Some t) sent entries.Aborted = record { owners = λ n. refl; tasks = λ n apart. elsewhere w m n _ apart }
  step_fits (Some t) sent (entries.Login_code code) = as_before w _ m refl refl
  step_fits (Some t) sent (entries.Ended status sense data_in) = as_before w _ m refl refl
  step_fits (Some t) sent (entries.Started way) = as_before w _ m refl refl
  step_fits (Some t) sent entries.Left = as_before w _ m refl refl
  step_fits (Some t) sent (entries.Restored value) = as_before w _ m refl refl

-- a number that has a nexus logged in, and how far its task has come
abbrev Stays : World → World → ℕ → Nexus → Type 0
Stays w v who n = (v.owner n ≡ Some who) × (progress_in (v.task n) ≡ progress_in (w.task n))

same_number : (a b : ℕ) → Some a ≡ Some b → a ≡ b
same_number a b e = cc

-- the nexus of another number's act is another
apart : (w : World) (x who : ℕ) (m n : Nexus) → (x ≡ who → ⊥) → w.owner m ≡ Some x → w.owner n ≡ Some who → same_nexus n m ≡ false
apart w x who m n other has owns = by (same_nexus n m) refl
  where
    by : (b : Bool) → same_nexus n m ≡ b → b ≡ false
    by true is = absurd (other (same_number x who (sym has ∙ ap w.owner (sym (same_is n m is)) ∙ owns)))
    by false is = refl

leaves_stays : (w v : World) (who : ℕ) (m n : Nexus) → Leaves w v m → same_nexus n m ≡ false → w.owner n ≡ Some who → Stays w v who n
leaves_stays w v who m n leaves is owns = (leaves.owners n ∙ owns, leaves.tasks n is)

-- a login is accepted only of a nexus that nobody has logged in
free_by : (a b c d : Bool) → (cond (not a) 4 (cond (not b) 2 (cond c 1 (cond d 3 0))) == 0) ≡ true → c ≡ false
free_by true true false d is = refl
free_by true true true d is = absurd (false≢true is)
free_by true false c d is = absurd (false≢true is)
free_by false b c d is = absurd (false≢true is)

login_stays : (w : World) (x who version : ℕ) (m n : Nexus) → w.owner n ≡ Some who → (b : Bool) → (login_code w version m == 0) ≡ b → Stays w (cond b (logged_in w x m) w) who n
login_stays w x who version m n owns false is = (owns, refl)
login_stays w x who version m n owns true is = (by (same_nexus n m) refl, refl)
  where
    free : is_some (w.owner m) ≡ false
    free = free_by (version == 1) (is_port m.port) (is_some (w.owner m)) (not (is_known w.known m) && not (nat_lt (length w.known) KNOWN)) is

    by : (b : Bool) → same_nexus n m ≡ b → cond b (Some x) (w.owner n) ≡ Some who
    by true same = absurd (false≢true (sym free ∙ ap (λ k. is_some (w.owner k)) (sym (same_is n m same)) ∙ ap is_some owns))
    by false same = owns

stays_by : (w : World) (x who : ℕ) (m n : Nexus) (act : Act) (out : Out) → MayEnd w x m act out → IsPowered act → (x ≡ who → ⊥) → w.owner n ≡ Some who → Stays w (moved_by w x m act out) who n
stays_by w x who m n (entries.Login version) out may powered other owns = login_stays w x who version m n owns (login_code w version m == 0) refl
stays_by w x who m n (entries.Command lun cdb sent) out may powered other owns =
    leaves_stays w _ who m n (settled_fits w m (answered w m lun cdb sent) out (answered_fits w m lun cdb sent)) (apart w x who m n other may.0 owns) owns
stays_by w x who m n (entries.Step block) out may powered other owns =
    leaves_stays w _ who m n (step_fits w m (w.task m) block out) (apart w x who m n other may.0 owns) owns
stays_by w x who m n entries.Logout out may powered other owns =
    let is = apart w x who m n other may.0 owns in
    (ap (λ (b : Bool). cond b None (w.owner n)) is ∙ owns, elsewhere w m n None is)
stays_by w x who m n entries.Power out may powered other owns = absurd powered

-- entries of others
pub others_leave : (w : World) (es : History) (who : ℕ) (n : Nexus) → IsLegalFrom w es → ArePowered es → AreOthers who es → w.owner n ≡ Some who → Stays w (after w es) who n
others_leave w [] who n legal powered others owns = (owns, refl)
others_leave w (e ∷ es) who n legal powered others owns =
    let first = stays_by w e.who who e.nexus n e.act e.out legal.0 powered.0 others.0 owns in
    let rest = others_leave (moved w e) es who n legal.1 powered.1 others.1 first.0 in
    (rest.0, rest.1 ∙ first.1)
