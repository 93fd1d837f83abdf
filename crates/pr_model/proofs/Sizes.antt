-- No entry changes how many blocks the medium has, or whether the file tells what it holds; and none but a step changes a block.
use Rattle.std.proofs.Common.{◌≡◌, ℕ, ◌==◌, Bool, true, false, cond, List, [], ◌∷◌, Option, Some, None, refl, ap, take}
use Rattle.pr_words.specs.declared.nexus.Nexus.{Nexus}
use Rattle.pr_words.specs.declared.code.Code.{Code}
use Rattle.pr_words.specs.declared.task.Way.{Way}
use Rattle.pr_words.specs.declared.task.Way.TheVariants as ways
use Rattle.pr_words.specs.declared.code.TheConstants.Code.{LOGICAL_UNIT_NOT_SUPPORTED}
use Rattle.pr_grammar.specs.declared.cdb.Command.{Command}
use Rattle.pr_grammar.specs.declared.cdb.Command.TheVariants as commands
use Rattle.pr_grammar.specs.Cdbs.{operation_code, command_of}
use Rattle.pr_model.specs.Acts.{Verdict, Good, Conflict, Bad}
use Rattle.pr_model.specs.Worlds.{Blocks, World, Task, set_at}
use Rattle.pr_model.specs.Tasks.{new_task, next_block}
use Rattle.pr_model.specs.Entries as entries
use Rattle.pr_model.specs.Entries.{Act, Out, Entry, Started}
use Rattle.pr_model.specs.Commands.{Answer, answer, good, sense_data, by_verdict, hand_out, served, answered}
use Rattle.pr_model.specs.Steps.{failed_block, stepped_in}
use Rattle.pr_model.specs.Histories.{login_code, logged_in, moved_by}
use Rattle.pr_model.specs.Laws.{KeepsSize, KeepsTelling}
use Rattle.pr_model.proofs.Checked.{answer_fits, reported}
use Rattle.pr_model.proofs.Settling.{settled_keeps}

-- a world over the same medium and a file that tells as much
abbrev Stays : World → World → Type 0
Stays w v = (v.medium ≡ w.medium) × (v.file_tells ≡ w.file_tells)

-- the same, but that blocks may have changed
abbrev StaysAsLarge : World → World → Type 0
StaysAsLarge w v = (v.medium.count ≡ w.medium.count) × (v.file_tells ≡ w.file_tells)

verdict_keeps : (w next : World) (v : Verdict) → Stays w next → Stays w (by_verdict w next v).world
verdict_keeps w next Good same = same
verdict_keeps w next Conflict same = (refl, refl)
verdict_keeps w next (Bad c) same = (refl, refl)

hand_out_keeps : (w : World) (n : Nexus) (descriptor : Bool) (allocation : ℕ) (cs : List Code) → Stays w (hand_out w n descriptor allocation cs).world
hand_out_keeps w n descriptor allocation [] = (refl, refl)
hand_out_keeps w n descriptor allocation (c ∷ cs) = (refl, refl)

sense_keeps : (w : World) (n : Nexus) (descriptor : Bool) (allocation : ℕ) (here : Bool) → Stays w (cond here (hand_out w n descriptor allocation (w.attentions n)) (answer w (good (take allocation (sense_data descriptor LOGICAL_UNIT_NOT_SUPPORTED))))).world
sense_keeps w n descriptor allocation true = hand_out_keeps w n descriptor allocation (w.attentions n)
sense_keeps w n descriptor allocation false = (refl, refl)

begin_keeps : (w : World) (n : Nexus) (way : Way) (lba count : ℕ) (none : Bool) → Stays w (cond none (answer w (good [])) (answer (record w { task = set_at w.task n (Some (new_task way lba count)) }) (Started way))).world
begin_keeps w n way lba count true = (refl, refl)
begin_keeps w n way lba count false = (refl, refl)

served_keeps : (w : World) (n : Nexus) (lun : ℕ) (command : Command) (sent : List ℕ) → Stays w (served w n lun command sent).world
served_keeps w n lun commands.TestUnitReady sent = (refl, refl)
served_keeps w n lun (commands.RequestSense descriptor allocation) sent = sense_keeps w n descriptor allocation (lun == 0)
served_keeps w n lun (commands.ReserveIn action allocation) sent = (refl, refl)
served_keeps w n lun (commands.ReserveOut action scope kind list) sent = verdict_keeps w _ _ (refl, refl)
served_keeps w n lun (commands.Inquiry vital page allocation) sent = (refl, refl)
served_keeps w n lun commands.ReadCapacity10 sent = (refl, refl)
served_keeps w n lun (commands.ReadCapacity16 action allocation) sent = (refl, refl)
served_keeps w n lun (commands.ReportLuns select allocation) sent = (refl, refl)
served_keeps w n lun (commands.Read wide protect lba count) sent = begin_keeps w n ways.Read lba count (count == 0)
served_keeps w n lun (commands.Write wide protect lba count) sent = begin_keeps w n ways.Write lba count (count == 0)
served_keeps w n lun (commands.SynchronizeCache lba count) sent = (refl, refl)

answer_keeps : (w : World) (n : Nexus) (lun : ℕ) (cdb sent : List ℕ) → Stays w (answered w n lun cdb sent).world
answer_keeps w n lun cdb sent =
    let Keeps : Answer → Type 0 = λ a. Stays w a.world in
    answer_fits Keeps w (λ c. (refl, refl)) n lun cdb sent (refl, refl) (reported w n (operation_code cdb) (w.attentions n) Keeps (λ c rest. (refl, refl))) (λ free. served_keeps w n lun (command_of (operation_code cdb) cdb) sent)

login_keeps : (w next : World) (b : Bool) → Stays w next → Stays w (cond b next w)
login_keeps w next true same = same
login_keeps w next false same = (refl, refl)

power_keeps : (w : World) (who : ℕ) (n : Nexus) (out : Out) → Stays w (moved_by w who n entries.Power out)
power_keeps w who n (entries.Restored value) = (refl, refl)
power_keeps w who n (entries.Login_code code) = (refl, refl)
power_keeps w who n (entries.Ended status sense data_in) = (refl, refl)
power_keeps w who n (entries.Started way) = (refl, refl)
power_keeps w who n entries.Wrote = (refl, refl)
power_keeps w who n (entries.Read block) = (refl, refl)
power_keeps w who n entries.Done = (refl, refl)
power_keeps w who n entries.Aborted = (refl, refl)
power_keeps w who n (entries.Fault code) = (refl, refl)
power_keeps w who n entries.Left = (refl, refl)

failed_keeps : (way : Way) (m : Blocks) (lba : ℕ) → (failed_block way m lba).count ≡ m.count
failed_keeps ways.Read m lba = refl
failed_keeps ways.Write m lba = refl

step_keeps : (w : World) (n : Nexus) (o : Option Task) (sent : List ℕ) (out : Out) → StaysAsLarge w (stepped_in w n o sent out)
step_keeps w n None sent out = (refl, refl)
step_keeps w n (Some t) sent entries.Wrote = (refl, refl)
step_keeps w n (Some t) sent (entries.Read bytes) = (refl, refl)
step_keeps w n (Some t) sent (entries.Fault code) = (failed_keeps t.way w.medium (next_block t), refl)
step_keeps w n (Some t) sent entries.Done = (refl, refl)
step_keeps w n (Some t) sent entries.Aborted = (refl, refl)
step_keeps w n (Some t) sent (entries.Login_code code) = (refl, refl)
step_keeps w n (Some t) sent (entries.Ended status sense data_in) = (refl, refl)
step_keeps w n (Some t) sent (entries.Started way) = (refl, refl)
step_keeps w n (Some t) sent entries.Left = (refl, refl)
step_keeps w n (Some t) sent (entries.Restored value) = (refl, refl)

as_large : (old new : Blocks) (before now : Bool) → (new ≡ old) × (now ≡ before) → (new.count ≡ old.count) × (now ≡ before)
as_large old new before now stays = (ap (λ (m : Blocks). m.count) stays.0, stays.1)

-- but a step
abbrev pub IsStep : Act → Type 0
IsStep (entries.Login version) = ⊥
IsStep (entries.Command lun cdb sent) = ⊥
IsStep (entries.Step block) = Unit {0}
IsStep entries.Logout = ⊥
IsStep entries.Power = ⊥

pub others_keep : (w : World) (who : ℕ) (n : Nexus) (act : Act) (out : Out) → (IsStep act → ⊥) → Stays w (moved_by w who n act out)
others_keep w who n (entries.Login version) out other = login_keeps w (logged_in w who n) (login_code w version n == 0) (refl, refl)
others_keep w who n (entries.Command lun cdb sent) out other = settled_keeps w (answered w n lun cdb sent) out (answer_keeps w n lun cdb sent)
others_keep w who n (entries.Step block) out other = absurd (other tt)
others_keep w who n entries.Logout out other = (refl, refl)
others_keep w who n entries.Power out other = power_keeps w who n out

moved_keeps : (w : World) (who : ℕ) (n : Nexus) (act : Act) (out : Out) → StaysAsLarge w (moved_by w who n act out)
moved_keeps w who n (entries.Login version) out = as_large _ _ _ _ (others_keep w who n (entries.Login version) out (λ x. x))
moved_keeps w who n (entries.Command lun cdb sent) out = as_large _ _ _ _ (others_keep w who n (entries.Command lun cdb sent) out (λ x. x))
moved_keeps w who n (entries.Step block) out = step_keeps w n (w.task n) block out
moved_keeps w who n entries.Logout out = (refl, refl)
moved_keeps w who n entries.Power out = as_large _ _ _ _ (power_keeps w who n out)

pub keeps_size : KeepsSize
keeps_size w e = (moved_keeps w e.who e.nexus e.act e.out).0

pub keeps_telling : KeepsTelling
keeps_telling w e = (moved_keeps w e.who e.nexus e.act e.out).1
