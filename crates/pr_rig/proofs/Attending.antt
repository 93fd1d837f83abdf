-- The unit attentions that wait are those that the target establishes, each at most once, along every legal history (SAM-5).
use Rattle.std.proofs.Common.{◌≡◌, ◌<◌, ◌≤◌, ℕ, ◌==◌, ◌||◌, cond, Bool, true, false, List, [], ◌∷◌, ◌++◌, length, Option, Some, None, refl, ap, ◌∙◌, subst, arith}
use Rattle.std.specs.Prelude.{if◌then◌else◌}
use Rattle.std.specs.List.{AllByRecursion, list_any}
use Rattle.std.proofs.lemmas.Bool.{and_parts, eqb-true}
use Rattle.std.proofs.lemmas.List.Elements.{All-head}
use Rattle.std.proofs.lemmas.Map.Keys.{IsDistinct-head}
use Rattle.pr_words.specs.Orders.{same_nexus}
use Rattle.pr_words.specs.declared.code.Code.{Code}
use Rattle.pr_words.specs.declared.code.TheConstants.{UNIT_ATTENTION}
use Rattle.pr_words.specs.declared.nexus.Nexus.{Nexus}
use Rattle.pr_words.specs.declared.code.TheConstants.Code.{POWER_ON, REGISTRATIONS_PREEMPTED, RESERVATIONS_PREEMPTED, RESERVATIONS_RELEASED}
use Rattle.pr_words.specs.declared.task.Way.{Way}
use Rattle.pr_words.specs.declared.task.Way.TheVariants as ways
use Rattle.pr_words.specs.declared.limits.TheConstants.{LIMIT}
use Rattle.pr_grammar.specs.declared.cdb.Command.{Command}
use Rattle.pr_grammar.specs.declared.cdb.Command.TheVariants as commands
use Rattle.pr_grammar.specs.Cdbs.{command_of, operation_code}
use Rattle.pr_grammar.specs.Operations.{is_unconditional}
use Rattle.pr_grammar.specs.OutLists.{list_of}
use Rattle.pr_model.specs.Acts.{Acted, Bad, Conflict, Good, Verdict, acted}
use Rattle.pr_model.specs.Attentions.{AreAttentions, is_attention, is_other, raised_any, same_code, told, with_code}
use Rattle.pr_model.specs.Commands.{Answer, answer, answered, attention_check, begin, by_verdict, checking, good, hand_out, out_request, served}
use Rattle.pr_model.specs.Entries.{Act, Command as Commands, Entry, History, Login, Logout, Out, Power, Restored, Step}
use Rattle.pr_model.specs.Entries as entries
use Rattle.pr_model.specs.Histories.{after, logged_in, login_code, moved, moved_by}
use Rattle.pr_model.specs.Keeping.{Kept}
use Rattle.pr_model.specs.Tasks.{marked, new_task}
use Rattle.pr_model.specs.Saving.{doubted, is_unsaved, settled}
use Rattle.pr_model.specs.Steps.{stepped_in}
use Rattle.pr_model.specs.Worlds.{Blocks, Task, World, opened, set_at}
use Rattle.pr_model.proofs.Checked.{answer_fits}
use Rattle.pr_model.proofs.Reaching.{Reaches, acted_reaches}
use Rattle.pr_model.proofs.Waiting.{fewer_attentions, fresh_attentions, more_attentions, room_for}

-- of every nexus
abbrev pub AllAttend : World → Type 0
AllAttend w = (n : Nexus) → AreAttentions (w.attentions n)

attends_with : (c : Code) (cs : List Code) → is_attention c ≡ true → AreAttentions cs → AreAttentions (with_code c cs)
attends_with c cs known are = by (list_any (same_code c) cs) refl
  where
    by : (b : Bool) → list_any (same_code c) cs ≡ b → AreAttentions (if b then cs else cs ++ c ∷ [])
    by true is = are
    by false is = more_attentions c cs are known is

attends_raised : (who : Nexus → Bool) (o : Option Code) (lists : Nexus → List Code) → ((c : Code) → o ≡ Some c → is_attention c ≡ true) → ((n : Nexus) → AreAttentions (lists n)) → (n : Nexus) → AreAttentions (raised_any who o lists n)
attends_raised who None lists known all n = all n
attends_raised who (Some c) lists known all n = by (who n)
  where
    by : (b : Bool) → AreAttentions (if b then with_code c (lists n) else lists n)
    by true = attends_with c (lists n) (known c refl) (all n)
    by false = all n

abbrev Attends : Answer → Type 0
Attends a = AllAttend a.world

less_attend : (w : World) (n : Nexus) (c : Code) (cs : List Code) → w.attentions n ≡ c ∷ cs → AllAttend w → AllAttend (record w { attentions = set_at w.attentions n cs })
less_attend w n c cs is all m = by (same_nexus m n)
  where
    by : (b : Bool) → AreAttentions (if b then cs else w.attentions m)
    by true = fewer_attentions (c ∷ cs) (subst AreAttentions is (all n))
    by false = all m

hand_out_attends : (w : World) (n : Nexus) (descriptor : Bool) (allocation : ℕ) (cs : List Code) → w.attentions n ≡ cs → AllAttend w → Attends (hand_out w n descriptor allocation cs)
hand_out_attends w n descriptor allocation [] is all = all
hand_out_attends w n descriptor allocation (c ∷ cs) is all = less_attend w n c cs is all

check_attends : (w : World) (n : Nexus) (op : ℕ) (cs : List Code) → w.attentions n ≡ cs → AllAttend w → (a : Answer) → attention_check w n op cs ≡ Some a → Attends a
check_attends w n op [] is all a at = absurd cc
check_attends w n op (c ∷ cs) is all a at = by (is_unconditional op) at
  where
    by : (b : Bool) → cond b None (Some (answer (record w { attentions = set_at w.attentions n cs }) (checking c))) ≡ Some a → Attends a
    by true found = absurd cc
    by false found = let same : answer (record w { attentions = set_at w.attentions n cs }) (checking c) ≡ a = cc in subst Attends same (less_attend w n c cs is all)

sense_attends : (w : World) (n : Nexus) (here descriptor : Bool) (allocation : ℕ) (last : Answer) → AllAttend w → Attends last → Attends (cond here (hand_out w n descriptor allocation (w.attentions n)) last)
sense_attends w n true descriptor allocation last all end = hand_out_attends w n descriptor allocation (w.attentions n) refl all
sense_attends w n false descriptor allocation last all end = end

verdict_attends : (w next : World) (v : Verdict) → AllAttend w → AllAttend next → Attends (by_verdict w next v)
verdict_attends w next Good all later = later
verdict_attends w next Conflict all later = all
verdict_attends w next (Bad c) all later = all

begin_attends : (w : World) (n : Nexus) (way : Way) (lba count : ℕ) → AllAttend w → Attends (begin w n way lba count)
begin_attends w n way lba count all = by (count == 0)
  where
    by : (b : Bool) → Attends (if b then answer w (good []) else answer (record w { task = set_at w.task n (Some (new_task way lba count)) }) (entries.Started way))
    by true = all
    by false = all

served_attends : (w : World) (n : Nexus) (lun : ℕ) (command : Command) (sent : List ℕ) → AllAttend w → Attends (served w n lun command sent)
served_attends w n lun (commands.ReserveOut action scope kind list) sent all =
    let a : Acted = acted LIMIT w.standing n (out_request action scope kind (list_of sent)) in
    let r : Reaches w.standing n a = acted_reaches LIMIT w.standing n (out_request action scope kind (list_of sent)) in
    verdict_attends w (record w { standing = a.standing; attentions = told n a w.attentions; task = marked action a.removed w.task; doubts = [] }) a.verdict all
    (attends_raised (is_other n a.standing.pairs) a.stay_code (raised_any (is_other n a.removed) a.removed_code w.attentions) r.stay_code (attends_raised (is_other n a.removed) a.removed_code w.attentions r.removed_code all))
served_attends w n lun (commands.RequestSense descriptor allocation) sent all =
    sense_attends w n (lun == 0) descriptor allocation (answer w (good _)) all all
served_attends w n lun (commands.ReserveIn action allocation) sent all = all
served_attends w n lun commands.TestUnitReady sent all = all
served_attends w n lun (commands.Inquiry vital page allocation) sent all = all
served_attends w n lun commands.ReadCapacity10 sent all = all
served_attends w n lun (commands.ReadCapacity16 action allocation) sent all = all
served_attends w n lun (commands.ReportLuns select allocation) sent all = all
served_attends w n lun (commands.Read wide protect lba count) sent all = begin_attends w n ways.Read lba count all
served_attends w n lun (commands.Write wide protect lba count) sent all = begin_attends w n ways.Write lba count all
served_attends w n lun (commands.SynchronizeCache lba count) sent all = all

answer_attends : (w : World) (n : Nexus) (lun : ℕ) (cdb sent : List ℕ) → AllAttend w → Attends (answered w n lun cdb sent)
answer_attends w n lun cdb sent all =
    answer_fits Attends w (λ c. all) n lun cdb sent all (check_attends w n (operation_code cdb) (w.attentions n) refl all) (λ free. served_attends w n lun (command_of (operation_code cdb) cdb) sent all)

settled_attends : (w : World) (a : Answer) (out : Out) → AllAttend w → Attends a → AllAttend (settled w a out)
settled_attends w a out all later = by (is_unsaved w a out)
  where
    by : (b : Bool) → AllAttend (if b then doubted w a else a.world)
    by true = all
    by false = later

step_attends : (w : World) (n : Nexus) (t : Option Task) (sent : List ℕ) (out : Out) → AllAttend w → AllAttend (stepped_in w n t sent out)
step_attends w n None sent out all = all
step_attends w n (Some t) sent entries.Wrote all = all
step_attends w n (Some t) sent (entries.Read bytes) all = all
step_attends w n (Some t) sent (entries.Fault code) all = all
step_attends w n (Some t) sent entries.Done all = all
step_attends w n (Some t) sent entries.Aborted all = all
step_attends w n (Some t) sent (entries.Login_code code) all = all
step_attends w n (Some t) sent (entries.Ended status sense bytes) all = all
step_attends w n (Some t) sent (entries.Started way) all = all
step_attends w n (Some t) sent entries.Left all = all
step_attends w n (Some t) sent (entries.Restored value) all = all

pub attends_opened : (medium : Blocks) (tells : Bool) (kept : Kept) → AllAttend (opened medium tells kept)
attends_opened medium tells kept n = fresh_attentions

power_attends : (w : World) (who : ℕ) (n : Nexus) (out : Out) → AllAttend w → AllAttend (moved_by w who n Power out)
power_attends w who n (entries.Restored value) all = attends_opened w.medium w.file_tells value
power_attends w who n entries.Wrote all = all
power_attends w who n (entries.Read bytes) all = all
power_attends w who n (entries.Fault code) all = all
power_attends w who n entries.Done all = all
power_attends w who n entries.Aborted all = all
power_attends w who n (entries.Login_code code) all = all
power_attends w who n (entries.Ended status sense bytes) all = all
power_attends w who n (entries.Started way) all = all
power_attends w who n entries.Left all = all

login_attends : (w next : World) (b : Bool) → AllAttend w → AllAttend next → AllAttend (cond b next w)
login_attends w next true all later = later
login_attends w next false all later = all

pub attends_on : (w : World) (e : Entry) → AllAttend w → AllAttend (moved w e)
attends_on w e all = by e.who e.nexus e.act e.out
  where
    by : (who : ℕ) (m : Nexus) (act : Act) (out : Out) → AllAttend (moved_by w who m act out)
    by who m (Login version) out = login_attends w (logged_in w who m) (login_code w version m == 0) all all
    by who m (entries.Command lun cdb sent) out = settled_attends w (answered w m lun cdb sent) out all (answer_attends w m lun cdb sent all)
    by who m (Step sent) out = step_attends w m (w.task m) sent out all
    by who m Logout out = all
    by who m Power out = power_attends w who m out all

pub attends_after : (w : World) (h : History) → AllAttend w → AllAttend (after w h)
attends_after w [] all = all
attends_after w (e ∷ h) all = attends_after (moved w e) h (attends_on w e all)

-- What they are

code_key : (c d : Code) → same_code c d ≡ true → c.key ≡ d.key
code_key c d is = eqb-true c.key d.key (and_parts _ _ (and_parts _ _ is).0).0

key_of_attention : (c : Code) → is_attention c ≡ true → c.key ≡ UNIT_ATTENTION
key_of_attention c is = by (same_code c POWER_ON) (same_code c RESERVATIONS_PREEMPTED) (same_code c RESERVATIONS_RELEASED) (same_code c REGISTRATIONS_PREEMPTED) refl refl refl refl is
  where
    by : (p q r s : Bool) → same_code c POWER_ON ≡ p → same_code c RESERVATIONS_PREEMPTED ≡ q → same_code c RESERVATIONS_RELEASED ≡ r → same_code c REGISTRATIONS_PREEMPTED ≡ s → (p || (q || (r || (s || false)))) ≡ true → c.key ≡ UNIT_ATTENTION
    by true q r s a b d e one = code_key c POWER_ON a
    by false true r s a b d e one = code_key c RESERVATIONS_PREEMPTED b
    by false false true s a b d e one = code_key c RESERVATIONS_RELEASED d
    by false false false true a b d e one = code_key c REGISTRATIONS_PREEMPTED e
    by false false false false a b d e one = absurd cc

pub attention_keys : (cs : List Code) → AreAttentions cs → AllByRecursion (λ (c : Code). c.key ≡ UNIT_ATTENTION) cs
attention_keys [] are = tt
attention_keys (c ∷ cs) are = (key_of_attention c (All-head (λ d. is_attention d ≡ true) c cs are.known), attention_keys cs (fewer_attentions (c ∷ cs) are))

apart : (c : Code) (cs : List Code) → AllByRecursion (λ y. same_code c y ≡ false) cs → list_any (same_code c) cs ≡ false
apart c [] all = refl
apart c (d ∷ cs) all = ap (λ (b : Bool). b || list_any (same_code c) cs) all.0 ∙ apart c cs all.1

pub few_attentions : (cs : List Code) → AreAttentions cs → length cs ≤ 4
few_attentions [] are = omega arith
few_attentions (c ∷ cs) are =
    let less : length cs < 4 = room_for c cs (fewer_attentions (c ∷ cs) are) (All-head (λ d. is_attention d ≡ true) c cs are.known) (apart c cs (IsDistinct-head same_code c cs are.distinct)) in
    omega (arith, less)
