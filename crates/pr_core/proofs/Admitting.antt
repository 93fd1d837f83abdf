-- A command is admitted or refused by its checks, and makes one entry.
use Rattle.std.proofs.Common.{◌≡◌, ℕ, ◌++◌, ◌==◌, Bool, true, false, cond, List, [], ◌∷◌, Option, Some, None, Result, Ok, Err, refl, sym, ap, ◌∙◌, subst, lit<, take}
use Rattle.std.proofs.lemmas.Bool.{eqb-true}
use Rattle.pr_words.specs.declared.nexus.Nexus.{Nexus}
use Rattle.pr_words.specs.declared.code.Code.{Code}
use Rattle.pr_words.specs.declared.code.Status.TheVariants as status
use Rattle.pr_words.specs.declared.task.Way.{Way}
use Rattle.pr_words.specs.Services.{out_service_code}
use Rattle.pr_words.specs.declared.code.TheConstants.Code.{LOGICAL_UNIT_NOT_SUPPORTED}
use Rattle.pr_words.specs.declared.limits.TheConstants.{LIMIT}
use Rattle.pr_grammar.specs.declared.operation.OperationCode.{OperationCode}
use Rattle.pr_grammar.specs.declared.cdb.Command.{Command}
use Rattle.pr_grammar.specs.declared.cdb.Command.TheVariants as commands
use Rattle.pr_grammar.specs.declared.cdb.Command.TheVariants.{RequestSense, ReserveOut}
use Rattle.pr_grammar.specs.declared.param.OutList.{OutList}
use Rattle.pr_grammar.specs.Operations.{operation_at, class_of}
use Rattle.pr_grammar.specs.Cdbs.{operation_code, command_by, command_in, command_of}
use Rattle.pr_model.specs.Acts.{acted}
use Rattle.pr_model.specs.Conflicts.{is_forbidden}
use Rattle.pr_model.specs.Worlds.{World, Task, set_at}
use Rattle.pr_model.specs.Tasks.{new_task}
use Rattle.pr_model.specs.Entries.{entry, Out, Started, Command as Commands}
use Rattle.pr_model.specs.Commands.{Answer, answer, good, checking, conflict, begin, is_elsewhere, conflict_where, conflict_checks, form_checks, command_checks, checks, first_or, served, sense_data, answered, reserve_out}
use Rattle.pr_model.specs.Histories.{failures_by}
use Rattle.pr_io.specs.declared.outside.Disk as disks
use Rattle.pr_aptpl.specs.declared.keeper.Keeper.{Keeper}
use Rattle.pr_table.specs.Tables.{standing_of}
use Rattle.pr_table.specs.Told.{requested}
use Rattle.pr_core.specs.declared.answers.CommandOut.{CommandOut}
use Rattle.pr_core.specs.declared.answers.CommandOut.TheVariants as outs
use Rattle.pr_core.specs.declared.admitted.Admitted.{Admitted}
use Rattle.pr_core.specs.declared.admitted.Admitted.TheVariants as admitted
use Rattle.pr_core.specs.declared.state.State.{State}
use Rattle.pr_core.specs.States.{Depicts, owner_at, progress_at, progress_in}
use Rattle.pr_core.specs.Outs.{out_of}
use Rattle.pr_core.specs.Passing.{PassesOperation, PassesCdb, Carries, Transfers, cdb_checks}
use Rattle.pr_core.specs.Saves.{Holds, Ends, Counts, EntersSaving}
use Rattle.pr_core.specs.Admits.{PassesAttention, PassesUnit, Serves, ServesStill, Senses, Passed, unit_and_operation}
use Rattle.pr_core.proofs.Checking.{passed, given}
use Rattle.pr_core.proofs.Settled.{ends_still, counts_still}

-- the checks of the unit and of the operation code

pub unit_elsewhere : (s : State) (n : Nexus) (lun op : ℕ) → is_elsewhere lun op ≡ true → PassesUnit s s n lun op (Err LOGICAL_UNIT_NOT_SUPPORTED)
unit_elsewhere s n lun op there = ((lit< tt, lit< tt), λ w depicts. (w, depicts, refl, λ last. rw there refl))

pub unit_attention : (old new : State) (n : Nexus) (lun op : ℕ) (c : Code) → is_elsewhere lun op ≡ false → PassesAttention old new n op (Err c) → PassesUnit old new n lun op (Err c)
unit_attention old new n lun op c here reports = (reports.0, λ w depicts. let r = reports.1 w depicts in (r.0, r.1, r.2, λ last. rw (here, r.3) refl))

pub unit_operation : (old new : State) (n : Nexus) (lun op : ℕ) (r : Result OperationCode Code) → is_elsewhere lun op ≡ false → PassesAttention old new n op (Ok tt) → PassesOperation (operation_at op) r → PassesUnit old new n lun op r
unit_operation old new n lun op (Ok o) here quiet passes =
    (passes.0, λ w depicts. let p = quiet w depicts in (p.0, λ last. rw (here, p.1) (passes.1 op w refl last)))
unit_operation old new n lun op (Err c) here quiet fails =
    let refuses = fails op refl in (refuses.0, λ w depicts. let p = quiet w depicts in (w, p.0, refl, λ last. rw (here, p.1) (refuses.1 w last)))

-- all checks, group by group

behind_unit : World → Nexus → ℕ → List ℕ → Command → List ℕ → List (Option Answer)
behind_unit w n op cdb command sent = conflict_checks w n op ++ form_checks w op cdb ++ command_checks w command sent

grouped : (w : World) (n : Nexus) (lun op : ℕ) (cdb : List ℕ) (command : Command) (sent : List ℕ) → checks w n lun op cdb command sent ≡ unit_and_operation w n lun op ++ behind_unit w n op cdb command sent
unfolding behind_unit
grouped w n lun op cdb command sent = refl

-- a command that the reservation forbids conflicts
conflicting : (w : World) (n : Nexus) (op : ℕ) (cs : List (Option Answer)) (last : Answer) → is_forbidden w.standing n (class_of op) ≡ true → first_or (conflict_checks w n op ++ cs) last ≡ answer w conflict
conflicting w n op cs last is = ap (λ (b : Bool). first_or (conflict_where b w ∷ cs) last) is

allowed : (w : World) (n : Nexus) (op : ℕ) (cs : List (Option Answer)) (last : Answer) → is_forbidden w.standing n (class_of op) ≡ false → first_or (conflict_checks w n op ++ cs) last ≡ first_or cs last
allowed w n op cs last is = ap (λ (b : Bool). first_or (conflict_where b w ∷ cs) last) is

-- the command that was read is that of the CDB
read_command : (cdb : List ℕ) (o : OperationCode) → operation_at (operation_code cdb) ≡ Some o → command_by o cdb ≡ command_of (operation_code cdb) cdb
read_command cdb o at = sym (ap (λ (x : Option OperationCode). command_in x cdb) at)

standing_is : (s : State) (w : World) → Depicts s w → w.standing ≡ standing_of s.table
standing_is s w depicts = ap (λ (x : World). x.standing) depicts.world

count_is : (s : State) (w : World) → Depicts s w → w.medium.count ≡ s.blocks
count_is s w depicts = ap (λ (x : World). x.medium.count) depicts.world ∙ depicts.blocks

-- a command that ended so makes its entry
module _ {D : Type 0} {gd : disks.Ghosts D} where
  enters : (old new : State) (before now : Keeper D gd) (who : ℕ) (n : Nexus) (lun : ℕ) (cdb sent : List ℕ) (out : Out) → owner_at old n ≡ Some who → progress_at old n ≡ None
      → ((w : World) → Depicts old w → Holds before w → Ends before now new w (answered w n lun cdb sent) out) → EntersSaving old new before now (entry who n (Commands lun cdb sent) out)
  enters old new before now who n lun cdb sent out owns idle does w depicts holds =
      let s = does w depicts holds in (
        (ap (λ (x : World). x.owner n) depicts.world ∙ owns, ap (λ (x : World). x.task n) depicts.world ∙ no_task _ idle, s.may),
        s.depicts,
        s.leads,
      )
    where
      no_task : (t : Option Task) → progress_in t ≡ None → t ≡ None
      no_task None e = refl
      no_task (Some t) e = absurd cc

  -- refused by its unit or its operation code
  pub enters_unit : (old new : State) (k : Keeper D gd) (who : ℕ) (n : Nexus) (lun : ℕ) (cdb sent : List ℕ) (c : Code) (out : Out) → owner_at old n ≡ Some who → progress_at old n ≡ None
      → PassesUnit old new n lun (operation_code cdb) (Err c) → out ≡ checking c → EntersSaving old new k k (entry who n (Commands lun cdb sent) out)
  unfolding answered
  enters_unit old new k who n lun cdb sent c out owns idle refused told =
      enters old new k k who n lun cdb sent out owns idle
      (λ w depicts holds.
      let op : ℕ = operation_code cdb in
      let command : Command = command_of op cdb in
      let last : Answer = served w n lun command sent in
      let r = refused.1 w depicts in
      ends_still k new w r.0 (answered w n lun cdb sent) out
      (ap (λ (cs : List (Option Answer)). first_or cs last) (grouped w n lun op cdb command sent)
      ∙ given (unit_and_operation w n lun op) (behind_unit w n op cdb command sent) (answer r.0 (checking c)) last r.3
      ∙ ap (answer r.0) (sym told))
      r.2 r.1 holds)

-- what it is answered, once these pass
past_unit : (old mid : State) (n : Nexus) (lun : ℕ) (cdb sent : List ℕ) (o : OperationCode) (w : World) → PassesUnit old mid n lun (operation_code cdb) (Ok o) → Depicts old w
    → answered w n lun cdb sent ≡ first_or (behind_unit w n (operation_code cdb) cdb (command_of (operation_code cdb) cdb) sent) (served w n lun (command_of (operation_code cdb) cdb) sent)
unfolding answered
past_unit old mid n lun cdb sent o w passes depicts =
    let op : ℕ = operation_code cdb in
    let command : Command = command_of op cdb in
    let last : Answer = served w n lun command sent in
    ap (λ (cs : List (Option Answer)). first_or cs last) (grouped w n lun op cdb command sent)
    ∙ passed (unit_and_operation w n lun op) (behind_unit w n op cdb command sent) last (passes.1 w depicts).1

past_conflict : (old mid : State) (n : Nexus) (lun : ℕ) (cdb sent : List ℕ) (o : OperationCode) (w : World) → PassesUnit old mid n lun (operation_code cdb) (Ok o) → is_forbidden (standing_of mid.table) n (class_of (operation_code cdb)) ≡ false
    → Depicts old w → answered w n lun cdb sent ≡ first_or (cdb_checks o cdb sent w) (served w n lun (command_by o cdb) sent)
unfolding behind_unit
past_conflict old mid n lun cdb sent o w passes free depicts =
    let op : ℕ = operation_code cdb in
    let command : Command = command_of op cdb in
    let p = passes.1 w depicts in
    past_unit old mid n lun cdb sent o w passes depicts
    ∙ allowed w n op (form_checks w op cdb ++ command_checks w command sent) (served w n lun command sent) (ap (λ (s : _). is_forbidden s n (class_of op)) (standing_is mid w p.0) ∙ free)
    ∙ ap (λ (k : Command). first_or (form_checks w op cdb ++ command_checks w k sent) (served w n lun k sent)) (sym (read_command cdb o passes.0))

-- a command that was served without a save
counts_passed : (result : CommandOut) → Passed result → (buf : List ℕ) → failures_by (out_of result buf) ≡ 0
counts_passed (outs.Ended status.Good sense len) passed buf = refl
counts_passed (outs.Ended status.CheckCondition sense len) passed buf = absurd passed
counts_passed (outs.Ended status.ReservationConflict sense len) passed buf = absurd passed
counts_passed (outs.Ended status.TaskAborted sense len) passed buf = absurd passed
counts_passed (outs.Started way count) passed buf = refl

module _ {D : Type 0} {gd : disks.Ghosts D} where
  -- refused by the reservation
  pub enters_conflict : (old mid : State) (k : Keeper D gd) (who : ℕ) (n : Nexus) (lun : ℕ) (cdb sent : List ℕ) (o : OperationCode) (out : Out) → owner_at old n ≡ Some who → progress_at old n ≡ None
      → PassesUnit old mid n lun (operation_code cdb) (Ok o) → is_forbidden (standing_of mid.table) n (class_of (operation_code cdb)) ≡ true → out ≡ conflict → EntersSaving old mid k k (entry who n (Commands lun cdb sent) out)
  unfolding behind_unit
  enters_conflict old mid k who n lun cdb sent o out owns idle passes is told =
      enters old mid k k who n lun cdb sent out owns idle
      (λ w depicts holds.
      let p = passes.1 w depicts in
      let op : ℕ = operation_code cdb in
      let command : Command = command_of op cdb in
      ends_still k mid w w (answered w n lun cdb sent) out
      (past_unit old mid n lun cdb sent o w passes depicts
      ∙ conflicting w n op (form_checks w op cdb ++ command_checks w command sent) (served w n lun command sent) (ap (λ (s : _). is_forbidden s n (class_of op)) (standing_is mid w p.0) ∙ is)
      ∙ ap (answer w) (sym told))
      refl p.0 holds)

  -- refused by its CDB or its data-out
  pub enters_cdb : (old mid : State) (k : Keeper D gd) (who : ℕ) (n : Nexus) (lun : ℕ) (cdb sent : List ℕ) (o : OperationCode) (c : Code) (out : Out) → owner_at old n ≡ Some who → progress_at old n ≡ None
      → PassesUnit old mid n lun (operation_code cdb) (Ok o) → is_forbidden (standing_of mid.table) n (class_of (operation_code cdb)) ≡ false → PassesCdb mid.blocks o cdb sent (Err c) → out ≡ checking c
      → EntersSaving old mid k k (entry who n (Commands lun cdb sent) out)
  enters_cdb old mid k who n lun cdb sent o c out owns idle passes free fails told =
      enters old mid k k who n lun cdb sent out owns idle
      (λ w depicts holds.
      let p = passes.1 w depicts in
      ends_still k mid w w (answered w n lun cdb sent) out
      (past_conflict old mid n lun cdb sent o w passes free depicts ∙ fails.1 w (count_is mid w p.0) (served w n lun (command_by o cdb) sent) ∙ ap (answer w) (sym told))
      refl p.0 holds)

  module _ (old new : State) (before now : Keeper D gd) (n : Nexus) (lun : ℕ) (result : CommandOut) (buf : List ℕ) (w : World) (command : Command) (sent : List ℕ) (depicts : Depicts old w) (holds : Holds before w) where
    ended_still : (a : Admitted) → ServesStill old new n lun a result buf × (now ≡ before) × Passed result → Carries command sent a → Ends before now new w (served w n lun command sent) (out_of result buf)
    ended_still a serves carries =
        let s = serves.0 w command sent depicts carries in
        subst (λ (k : Keeper D gd). Ends before k new w (served w n lun command sent) (out_of result buf)) (sym serves.1)
        (ends_still before new w s.0 (served w n lun command sent) (out_of result buf) s.3 s.2 s.1 holds)

    ended : (a : Admitted) → Serves old new before now n lun a result buf → Carries command sent a → Ends before now new w (served w n lun command sent) (out_of result buf)
    ended admitted.TestUnitReady serves carries = ended_still admitted.TestUnitReady serves carries
    ended (admitted.RequestSense descriptor allocation) serves carries = ended_still (admitted.RequestSense descriptor allocation) serves carries
    ended (admitted.Inquiry vital page allocation) serves carries = ended_still (admitted.Inquiry vital page allocation) serves carries
    ended admitted.ReadCapacity10 serves carries = ended_still admitted.ReadCapacity10 serves carries
    ended (admitted.ReadCapacity16 allocation) serves carries = ended_still (admitted.ReadCapacity16 allocation) serves carries
    ended (admitted.ReportLuns select allocation) serves carries = ended_still (admitted.ReportLuns select allocation) serves carries
    ended (admitted.Transfer t) serves carries = ended_still (admitted.Transfer t) serves carries
    ended admitted.SynchronizeCache serves carries = ended_still admitted.SynchronizeCache serves carries
    ended (admitted.ReserveIn service allocation) serves carries = ended_still (admitted.ReserveIn service allocation) serves carries
    ended (admitted.ReserveOut request list) serves carries =
        let is : served w n lun command sent ≡ reserve_out w n (out_service_code request.service) (acted LIMIT w.standing n (requested request list)) =
        ap (λ (k : Command). served w n lun k sent) carries.1
        ∙ ap (λ (l : OutList). reserve_out w n (out_service_code request.service) (acted LIMIT w.standing n (requested request l))) (sym carries.2) in
        subst (λ (x : Answer). Ends before now new w x (out_of result buf)) (sym is) (serves.0 w depicts holds buf)

  -- served
  pub enters_served : (old mid new : State) (before now : Keeper D gd) (who : ℕ) (n : Nexus) (lun : ℕ) (cdb sent : List ℕ) (o : OperationCode) (a : Admitted) (result : CommandOut) (buf : List ℕ) → owner_at old n ≡ Some who → progress_at old n ≡ None
      → PassesUnit old mid n lun (operation_code cdb) (Ok o) → is_forbidden (standing_of mid.table) n (class_of (operation_code cdb)) ≡ false → PassesCdb mid.blocks o cdb sent (Ok a) → Serves mid new before now n lun a result buf
      → EntersSaving old new before now (entry who n (Commands lun cdb sent) (out_of result buf))
  enters_served old mid new before now who n lun cdb sent o a result buf owns idle passes free fits serves =
      enters old new before now who n lun cdb sent (out_of result buf) owns idle
      (λ w depicts holds.
      let p = passes.1 w depicts in
      subst (λ (x : Answer). Ends before now new w x (out_of result buf))
      (sym (past_conflict old mid n lun cdb sent o w passes free depicts ∙ fits.2 w (count_is mid w p.0) (served w n lun (command_by o cdb) sent)))
      (ended mid new before now n lun result buf w (command_by o cdb) sent p.0 holds a serves fits.0))

  counts_unchanged : (before now : Keeper D gd) (result : CommandOut) → now ≡ before → Passed result → Counts before now result
  counts_unchanged before now result same passed = subst (λ (k : Keeper D gd). Counts before k result) (sym same) (counts_still before result (counts_passed result passed))

  pub counts_served : (old new : State) (before now : Keeper D gd) (n : Nexus) (lun : ℕ) (a : Admitted) (result : CommandOut) (buf : List ℕ) → Serves old new before now n lun a result buf → Counts before now result
  counts_served old new before now n lun admitted.TestUnitReady result buf serves = counts_unchanged before now result serves.1 serves.2
  counts_served old new before now n lun (admitted.RequestSense descriptor allocation) result buf serves = counts_unchanged before now result serves.1 serves.2
  counts_served old new before now n lun (admitted.Inquiry vital page allocation) result buf serves = counts_unchanged before now result serves.1 serves.2
  counts_served old new before now n lun admitted.ReadCapacity10 result buf serves = counts_unchanged before now result serves.1 serves.2
  counts_served old new before now n lun (admitted.ReadCapacity16 allocation) result buf serves = counts_unchanged before now result serves.1 serves.2
  counts_served old new before now n lun (admitted.ReportLuns select allocation) result buf serves = counts_unchanged before now result serves.1 serves.2
  counts_served old new before now n lun (admitted.Transfer t) result buf serves = counts_unchanged before now result serves.1 serves.2
  counts_served old new before now n lun admitted.SynchronizeCache result buf serves = counts_unchanged before now result serves.1 serves.2
  counts_served old new before now n lun (admitted.ReserveIn service allocation) result buf serves = counts_unchanged before now result serves.1 serves.2
  counts_served old new before now n lun (admitted.ReserveOut request list) result buf serves = serves.1

pub serves_sense : (old new : State) (n : Nexus) (lun : ℕ) (descriptor : Bool) (allocation : ℕ) (len : ℕ) (buf : List ℕ) (c : Code) → Senses old new n lun c → take len buf ≡ take allocation (sense_data descriptor c)
    → ServesStill old new n lun (admitted.RequestSense descriptor allocation) (outs.Ended status.Good None len) buf
serves_sense old new n lun descriptor allocation len buf c senses text w command sent depicts carries =
    let s = senses.1 w depicts in (
      s.0,
      s.1,
      s.2,
      ap (λ (k : Command). served w n lun k sent) carries ∙ s.3 descriptor allocation ∙ ap (λ (b : List ℕ). answer s.0 (good b)) (sym text),
    )

-- a READ or WRITE that was admitted begins its task, or is GOOD at once
begins_as : (w : World) (n : Nexus) (lun : ℕ) (command : Command) (sent : List ℕ) (t : Task) → Transfers command t → served w n lun command sent ≡ begin w n t.way t.lba t.count
begins_as w n lun (commands.Read wide protect lba count) sent t is = ap (λ (x : Task). begin w n x.way x.lba x.count) (sym is)
begins_as w n lun (commands.Write wide protect lba count) sent t is = ap (λ (x : Task). begin w n x.way x.lba x.count) (sym is)
begins_as w n lun commands.TestUnitReady sent t is = absurd is
begins_as w n lun (commands.RequestSense descriptor allocation) sent t is = absurd is
begins_as w n lun (commands.Inquiry vital page allocation) sent t is = absurd is
begins_as w n lun commands.ReadCapacity10 sent t is = absurd is
begins_as w n lun (commands.ReadCapacity16 action allocation) sent t is = absurd is
begins_as w n lun (commands.ReportLuns select allocation) sent t is = absurd is
begins_as w n lun (commands.SynchronizeCache lba count) sent t is = absurd is
begins_as w n lun (commands.ReserveIn action allocation) sent t is = absurd is
begins_as w n lun (commands.ReserveOut action scope kind list) sent t is = absurd is

pub serves_none : (s : State) (n : Nexus) (lun : ℕ) (t : Task) (buf : List ℕ) → t.count ≡ 0 → ServesStill s s n lun (admitted.Transfer t) (outs.Ended status.Good None 0) buf
serves_none s n lun t buf none w command sent depicts carries = (w, depicts, refl, begins_as w n lun command sent t carries ∙ (rw none refl))

pub task_begins : (w : World) (n : Nexus) (lun : ℕ) (command : Command) (sent : List ℕ) (t : Task) (way : Way) → (t.count ≡ 0 → ⊥) → t ≡ new_task t.way t.lba t.count → way ≡ t.way → Transfers command t
    → served w n lun command sent ≡ answer (record w { task = set_at w.task n (Some t) }) (Started way)
task_begins w n lun command sent t way some fresh same carries =
    begins_as w n lun command sent t carries
    ∙ ap (λ (b : Bool). cond b (answer w (good [])) (answer (record w { task = set_at w.task n (Some (new_task t.way t.lba t.count)) }) (Started t.way))) (not_none t.count some)
    ∙ ap (λ (x : Task). answer (record w { task = set_at w.task n (Some x) }) (Started t.way)) (sym fresh)
    ∙ ap (λ (k : Way). answer (record w { task = set_at w.task n (Some t) }) (Started k)) (sym same)
  where
    not_none : (k : ℕ) → (k ≡ 0 → ⊥) → (k == 0) ≡ false
    not_none k some = by (k == 0) refl
      where
        by : (b : Bool) → (k == 0) ≡ b → b ≡ false
        by true e = absurd (some (eqb-true k 0 e))
        by false e = refl
