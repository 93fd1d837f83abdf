-- Where nothing is in doubt and no save fails, nothing comes to be in doubt.
use Rattle.std.proofs.Common.{◌≡◌, ◌&&◌, inl, inr, ℕ, ◌==◌, Bool, true, false, cond, List, [], ◌∷◌, Option, Some, None, refl, sym, ap, subst, take, arith}
use Rattle.pr_words.specs.declared.nexus.Nexus.{Nexus}
use Rattle.pr_words.specs.declared.code.Code.{Code}
use Rattle.pr_words.specs.declared.task.Way.{Way}
use Rattle.pr_words.specs.declared.task.Way.TheVariants as ways
use Rattle.pr_words.specs.declared.code.TheConstants.Code.{LOGICAL_UNIT_NOT_SUPPORTED}
use Rattle.pr_grammar.specs.declared.cdb.Command.{Command}
use Rattle.pr_grammar.specs.declared.cdb.Command.TheVariants as commands
use Rattle.pr_grammar.specs.Cdbs.{operation_code, command_of}
use Rattle.pr_grammar.specs.Files.{Restoration, Keeps, Bad, file_restores}
use Rattle.pr_model.specs.Keeping.{Kept, kept, IsIn}
use Rattle.pr_model.specs.Acts.{Verdict, Good, Conflict, Bad as Bad_field}
use Rattle.pr_model.specs.Worlds.{World, Task, set_at}
use Rattle.pr_model.specs.Tasks.{new_task}
use Rattle.pr_model.specs.Entries as entries
use Rattle.pr_model.specs.Entries.{Act, Out, Entry, History, Started}
use Rattle.pr_model.specs.Commands.{Answer, answer, good, sense_data, by_verdict, hand_out, served, answered}
use Rattle.pr_model.specs.Saving.{asks_to_save, settled, doubted, tells_failure}
use Rattle.pr_model.specs.Steps.{stepped_in}
use Rattle.pr_model.specs.Histories.{login_code, logged_in, moved_by, moved, after, failures_by, failures_in}
use Rattle.pr_model.specs.Stamps.{Bytes, Restores, RestoresKept, RestoresSome, KeepsSome, AreAcknowledged, AcknowledgedBy, AreStamps, AreStampsOfKept}
use Rattle.pr_model.specs.Laws.{NothingInDoubt}
use Rattle.pr_model.proofs.Checked.{answer_fits, reported}

-- nothing is in doubt in the world
abbrev IsSure : World → Type 0
IsSure w = w.doubts ≡ []

verdict_sure : (w next : World) (v : Verdict) → IsSure w → IsSure next → IsSure (by_verdict w next v).world
verdict_sure w next Good sure then_sure = then_sure
verdict_sure w next Conflict sure then_sure = sure
verdict_sure w next (Bad_field c) sure then_sure = sure

hand_out_sure : (w : World) (n : Nexus) (descriptor : Bool) (allocation : ℕ) (cs : List Code) → IsSure w → IsSure (hand_out w n descriptor allocation cs).world
hand_out_sure w n descriptor allocation [] sure = sure
hand_out_sure w n descriptor allocation (c ∷ cs) sure = sure

sense_sure : (w : World) (n : Nexus) (descriptor : Bool) (allocation : ℕ) (here : Bool) → IsSure w
    → IsSure (cond here (hand_out w n descriptor allocation (w.attentions n)) (answer w (good (take allocation (sense_data descriptor LOGICAL_UNIT_NOT_SUPPORTED))))).world
sense_sure w n descriptor allocation true sure = hand_out_sure w n descriptor allocation (w.attentions n) sure
sense_sure w n descriptor allocation false sure = sure

begin_sure : (w : World) (n : Nexus) (way : Way) (lba count : ℕ) (none : Bool) → IsSure w
    → IsSure (cond none (answer w (good [])) (answer (record w { task = set_at w.task n (Some (new_task way lba count)) }) (Started way))).world
begin_sure w n way lba count true sure = sure
begin_sure w n way lba count false sure = sure

served_sure : (w : World) (n : Nexus) (lun : ℕ) (command : Command) (sent : List ℕ) → IsSure w → IsSure (served w n lun command sent).world
served_sure w n lun commands.TestUnitReady sent sure = sure
served_sure w n lun (commands.RequestSense descriptor allocation) sent sure = sense_sure w n descriptor allocation (lun == 0) sure
served_sure w n lun (commands.ReserveIn action allocation) sent sure = sure
served_sure w n lun (commands.ReserveOut action scope kind list) sent sure = verdict_sure w _ _ sure refl
served_sure w n lun (commands.Inquiry vital page allocation) sent sure = sure
served_sure w n lun commands.ReadCapacity10 sent sure = sure
served_sure w n lun (commands.ReadCapacity16 action allocation) sent sure = sure
served_sure w n lun (commands.ReportLuns select allocation) sent sure = sure
served_sure w n lun (commands.Read wide protect lba count) sent sure = begin_sure w n ways.Read lba count (count == 0) sure
served_sure w n lun (commands.Write wide protect lba count) sent sure = begin_sure w n ways.Write lba count (count == 0) sure
served_sure w n lun (commands.SynchronizeCache lba count) sent sure = sure

answer_sure : (w : World) (n : Nexus) (lun : ℕ) (cdb sent : List ℕ) → IsSure w → IsSure (answered w n lun cdb sent).world
answer_sure w n lun cdb sent sure =
    let Sure : Answer → Type 0 = λ a. IsSure a.world in
    answer_fits Sure w (λ c. sure) n lun cdb sent sure (reported w n (operation_code cdb) (w.attentions n) Sure (λ c rest. sure)) (λ free. served_sure w n lun (command_of (operation_code cdb) cdb) sent sure)

-- a save that didn't fail leaves what the command made
settled_sure : (w : World) (a : Answer) (out : Out) → IsSure a.world → failures_by out ≡ 0 → IsSure (settled w a out)
settled_sure w a out sure none = by (tells_failure out) none
  where
    by : (b : Bool) → (let count : ℕ = cond b 1 0 in count) ≡ 0 → IsSure (cond (b && asks_to_save w a) (doubted w a) a.world)
    by true one = absurd (omega (arith, one))
    by false none = sure

login_sure : (w next : World) (b : Bool) → IsSure w → IsSure next → IsSure (cond b next w)
login_sure w next true sure later = later
login_sure w next false sure later = sure

power_sure : (w : World) (who : ℕ) (n : Nexus) (out : Out) → IsSure w → IsSure (moved_by w who n entries.Power out)
power_sure w who n (entries.Restored value) sure = refl
power_sure w who n (entries.Login_code code) sure = sure
power_sure w who n (entries.Ended status sense data_in) sure = sure
power_sure w who n (entries.Started way) sure = sure
power_sure w who n entries.Wrote sure = sure
power_sure w who n (entries.Read block) sure = sure
power_sure w who n entries.Done sure = sure
power_sure w who n entries.Aborted sure = sure
power_sure w who n (entries.Fault code) sure = sure
power_sure w who n entries.Left sure = sure

step_sure : (w : World) (n : Nexus) (o : Option Task) (sent : List ℕ) (out : Out) → IsSure w → IsSure (stepped_in w n o sent out)
step_sure w n None sent out sure = sure
step_sure w n (Some t) sent entries.Wrote sure = sure
step_sure w n (Some t) sent (entries.Read bytes) sure = sure
step_sure w n (Some t) sent (entries.Fault code) sure = sure
step_sure w n (Some t) sent entries.Done sure = sure
step_sure w n (Some t) sent entries.Aborted sure = sure
step_sure w n (Some t) sent (entries.Login_code code) sure = sure
step_sure w n (Some t) sent (entries.Ended status sense data_in) sure = sure
step_sure w n (Some t) sent (entries.Started way) sure = sure
step_sure w n (Some t) sent entries.Left sure = sure
step_sure w n (Some t) sent (entries.Restored value) sure = sure

act_sure : (w : World) (who : ℕ) (n : Nexus) (act : Act) (out : Out) → IsSure w → failures_by out ≡ 0 → IsSure (moved_by w who n act out)
act_sure w who n (entries.Login version) out sure none = login_sure w (logged_in w who n) (login_code w version n == 0) sure sure
act_sure w who n (entries.Command lun cdb sent) out sure none = settled_sure w (answered w n lun cdb sent) out (answer_sure w n lun cdb sent sure) none
act_sure w who n (entries.Step block) out sure none = step_sure w n (w.task n) block out sure
act_sure w who n entries.Logout out sure none = sure
act_sure w who n entries.Power out sure none = power_sure w who n out sure

moved_sure : (w : World) (e : Entry) → IsSure w → failures_by e.out ≡ 0 → IsSure (moved w e)
moved_sure w e sure none = act_sure w e.who e.nexus e.act e.out sure none

after_sure : (w : World) (h : History) → IsSure w → failures_in h ≡ 0 → IsSure (after w h)
after_sure w [] sure none = sure
after_sure w (e ∷ es) sure none = after_sure (moved w e) es (moved_sure w e sure (omega (arith, none))) (omega (arith, none))

-- where nothing is in doubt, what may be restored is what is kept
kept_alone : (w : World) (bytes : Bytes) → IsSure w → Restores w bytes → RestoresKept w bytes
kept_alone w bytes sure is = by (file_restores bytes) (subst (λ (ks : List Kept). OneOf (kept w.standing ∷ ks) (file_restores bytes)) sure is)
  where
    OneOf : List Kept → Restoration → Type 0
    OneOf ks (Keeps k) = IsIn ks k
    OneOf ks (Bad place) = ⊥

    by : (r : Restoration) → OneOf (kept w.standing ∷ []) r → r ≡ Keeps (kept w.standing)
    by (Keeps k) (inl here) = ap Keeps (sym here)
    by (Keeps k) (inr none) = absurd none
    by (Bad place) is = absurd is

some_kept : (w : World) (h : History) (bytes : Bytes) → IsSure w → failures_in h ≡ 0 → RestoresSome w h bytes → KeepsSome w h bytes
some_kept w [] bytes sure none is = kept_alone w bytes sure is
some_kept w (e ∷ es) bytes sure none (inl here) = inl (kept_alone w bytes sure here)
some_kept w (e ∷ es) bytes sure none (inr later) = inr (some_kept (moved w e) es bytes (moved_sure w e sure (omega (arith, none))) (omega (arith, none)) later)

all_kept : (may : ℕ → Bytes → Type 0) (start end : ℕ) (w : World) (h : History) (ts : List ℕ) → IsSure w → failures_in h ≡ 0 → AreAcknowledged may start end w h ts → AcknowledgedBy RestoresKept may start end w h ts
all_kept may start end w [] [] sure none is = is
all_kept may start end w [] (t ∷ ts) sure none is = absurd is
all_kept may start end w (e ∷ es) [] sure none is = absurd is
all_kept may start end w (e ∷ es) (t ∷ ts) sure none is =
    let later : IsSure (moved w e) = moved_sure w e sure (omega (arith, none)) in
    let rest : failures_in es ≡ 0 = omega (arith, none) in
    (is.0, λ bytes left. some_kept (moved w e) es bytes later rest (is.1 bytes left), all_kept may t end (moved w e) es ts later rest is.2)

pub some_is_kept : NothingInDoubt
some_is_kept w h bytes sure none is = some_kept w h bytes sure none is

pub nothing_in_doubt : (now : Option Bytes) (may : ℕ → Bytes → Type 0) (start end : ℕ) (w : World) (h : History) (stamps : List ℕ) → w.doubts ≡ [] → failures_in h ≡ 0
    → AreStamps now may start end w h stamps → AreStampsOfKept now may start end w h stamps
nothing_in_doubt now may start end w h stamps sure none is = record {
  since_start = λ bytes left. some_kept w h bytes sure none (is.since_start bytes left);
  acknowledged = all_kept may start end w h stamps sure none is.acknowledged;
  at_end = λ bytes left. kept_alone (after w h) bytes (after_sure w h sure none) (is.at_end bytes left);
  read = λ bytes told. kept_alone (after w h) bytes (after_sure w h sure none) (is.read bytes told);
}
