-- A refused command changes nothing, but that a unit attention which is reported goes.
use Rattle.std.proofs.Common.{◌≡◌, ℕ, ◌==◌, Bool, true, false, cond, List, [], ◌∷◌, Some, ◌⊎◌, inl, inr, refl, take}
use Rattle.pr_words.specs.declared.nexus.Nexus.{Nexus}
use Rattle.pr_words.specs.declared.code.Code.{Code}
use Rattle.pr_words.specs.declared.task.Way.{Way}
use Rattle.pr_words.specs.declared.task.Way.TheVariants as ways
use Rattle.pr_words.specs.declared.code.TheConstants.Code.{LOGICAL_UNIT_NOT_SUPPORTED}
use Rattle.pr_grammar.specs.declared.cdb.Command.{Command}
use Rattle.pr_grammar.specs.declared.cdb.Command.TheVariants as commands
use Rattle.pr_grammar.specs.Cdbs.{operation_code, command_of}
use Rattle.pr_model.specs.Acts.{Verdict, Good, Conflict, Bad}
use Rattle.pr_model.specs.Worlds.{World, set_at}
use Rattle.pr_model.specs.Tasks.{new_task}
use Rattle.pr_model.specs.Entries.{Started}
use Rattle.pr_model.specs.Commands.{Answer, answer, good, sense_data, attention_check, by_verdict, hand_out, served, answered}
use Rattle.pr_model.specs.Laws.{IsRefused, RefusalsChangeLittle, HasOneOutcome}
use Rattle.pr_model.proofs.Checked.{answer_fits}

verdict_leaves : (w next : World) (v : Verdict) → IsRefused (by_verdict w next v).out → (by_verdict w next v).world ≡ w
verdict_leaves w next Good refused = absurd refused
verdict_leaves w next Conflict refused = refl
verdict_leaves w next (Bad c) refused = refl

hand_out_is_good : (w : World) (n : Nexus) (descriptor : Bool) (allocation : ℕ) (cs : List Code) → IsRefused (hand_out w n descriptor allocation cs).out → (hand_out w n descriptor allocation cs).world ≡ w
hand_out_is_good w n descriptor allocation [] refused = absurd refused
hand_out_is_good w n descriptor allocation (c ∷ cs) refused = absurd refused

sense_leaves : (w : World) (n : Nexus) (descriptor : Bool) (allocation : ℕ) (here : Bool) → IsRefused (cond here (hand_out w n descriptor allocation (w.attentions n)) (answer w (good (take allocation (sense_data descriptor LOGICAL_UNIT_NOT_SUPPORTED))))).out
    → (cond here (hand_out w n descriptor allocation (w.attentions n)) (answer w (good (take allocation (sense_data descriptor LOGICAL_UNIT_NOT_SUPPORTED))))).world ≡ w
sense_leaves w n descriptor allocation true refused = hand_out_is_good w n descriptor allocation (w.attentions n) refused
sense_leaves w n descriptor allocation false refused = absurd refused

begin_leaves : (w : World) (n : Nexus) (way : Way) (lba count : ℕ) (none : Bool) → IsRefused (cond none (answer w (good [])) (answer (record w { task = set_at w.task n (Some (new_task way lba count)) }) (Started way))).out
    → (cond none (answer w (good [])) (answer (record w { task = set_at w.task n (Some (new_task way lba count)) }) (Started way))).world ≡ w
begin_leaves w n way lba count true refused = absurd refused
begin_leaves w n way lba count false refused = absurd refused

served_leaves : (w : World) (n : Nexus) (lun : ℕ) (command : Command) (sent : List ℕ) → IsRefused (served w n lun command sent).out → (served w n lun command sent).world ≡ w
served_leaves w n lun commands.TestUnitReady sent refused = absurd refused
served_leaves w n lun (commands.RequestSense descriptor allocation) sent refused = sense_leaves w n descriptor allocation (lun == 0) refused
served_leaves w n lun (commands.ReserveIn action allocation) sent refused = absurd refused
served_leaves w n lun (commands.ReserveOut action scope kind list) sent refused = verdict_leaves w _ _ refused
served_leaves w n lun (commands.Inquiry vital page allocation) sent refused = absurd refused
served_leaves w n lun commands.ReadCapacity10 sent refused = absurd refused
served_leaves w n lun (commands.ReadCapacity16 action allocation) sent refused = absurd refused
served_leaves w n lun (commands.ReportLuns select allocation) sent refused = absurd refused
served_leaves w n lun (commands.Read wide protect lba count) sent refused = begin_leaves w n ways.Read lba count (count == 0) refused
served_leaves w n lun (commands.Write wide protect lba count) sent refused = begin_leaves w n ways.Write lba count (count == 0) refused
served_leaves w n lun (commands.SynchronizeCache lba count) sent refused = absurd refused

pub refusals_change_little : RefusalsChangeLittle
refusals_change_little w n lun cdb sent =
    answer_fits (λ (a : Answer). IsRefused a.out → (a.world ≡ w) ⊎ (attention_check w n (operation_code cdb) (w.attentions n) ≡ Some a)) w (λ c refused. inl refl) n lun cdb sent (λ refused. inl refl)
    (λ a is refused. inr is) (λ free refused. inl (served_leaves w n lun (command_of (operation_code cdb) cdb) sent refused))

pub one_outcome : HasOneOutcome
one_outcome w who n lun cdb sent has idle = ((answered w n lun cdb sent).out, (has, idle, inl refl), λ other may. may.2)
