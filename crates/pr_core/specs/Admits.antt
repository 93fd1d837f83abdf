-- What the checks of a command's unit decide, and what an admitted command does, for the worlds of a state.
use Rattle.std.specs.Prelude.{◌≡◌, ℕ, ◌<◌, ◌++◌, Bool, List, take, Option, Some, None, Result, Ok, Err}
use Rattle.pr_words.specs.declared.nexus.Nexus.{Nexus}
use Rattle.pr_words.specs.declared.code.Code.{Code}
use Rattle.pr_words.specs.declared.code.Status.TheVariants as status
use Rattle.pr_words.specs.declared.limits.TheConstants.{LIMIT}
use Rattle.pr_io.specs.declared.outside.Disk as disks
use Rattle.pr_grammar.specs.declared.operation.OperationCode.{OperationCode}
use Rattle.pr_grammar.specs.declared.cdb.Command.{Command}
use Rattle.pr_grammar.specs.Operations.{operation_at}
use Rattle.pr_table.specs.Told.{requested}
use Rattle.pr_aptpl.specs.declared.keeper.Keeper.{Keeper}
use Rattle.pr_model.specs.Acts.{ReserveOut, acted}
use Rattle.pr_model.specs.Worlds.{World}
use Rattle.pr_model.specs.Saving.{restorable}
use Rattle.pr_model.specs.Commands.{Answer, answer, checking, attention_check, unit_checks, operation_checks, served, good, sense_data, request_sense, reserve_out}
use Rattle.pr_core.specs.declared.answers.CommandOut.{CommandOut}
use Rattle.pr_core.specs.declared.answers.CommandOut.TheVariants as outs
use Rattle.pr_core.specs.declared.admitted.Admitted.{Admitted}
use Rattle.pr_core.specs.declared.admitted.Admitted.TheVariants as admitted
use Rattle.pr_core.specs.declared.state.State.{State}
use Rattle.pr_core.specs.States.{Depicts}
use Rattle.pr_core.specs.Passing.{IsRefusal, Pass, Give, Carries}
use Rattle.pr_core.specs.Outs.{out_of}
use Rattle.pr_core.specs.Saves.{Holds, Ends, Counts}

-- the check of the unit attention lets pass, or takes and reports one
abbrev pub PassesAttention : State → State → Nexus → ℕ → Result (Unit {0}) Code → Type 0
PassesAttention old new n op (Ok done) = (w : World) → Depicts old w → Depicts new w × (attention_check w n op (w.attentions n) ≡ None)
PassesAttention old new n op (Err c) =
    IsRefusal c
    × ((w : World) → Depicts old w
    → (v : World) × Depicts new v × (restorable v ≡ restorable w) × (attention_check w n op (w.attentions n) ≡ Some (answer v (checking c))))

-- the checks of the unit and of the operation code let a command pass, or refuse it
abbrev pub unit_and_operation : World → Nexus → ℕ → ℕ → List (Option Answer)
unit_and_operation w n lun op = unit_checks w n lun op ++ operation_checks w op

abbrev pub PassesUnit : State → State → Nexus → ℕ → ℕ → Result OperationCode Code → Type 0
PassesUnit old new n lun op (Ok o) =
    (operation_at op ≡ Some o) × ((w : World) → Depicts old w → Depicts new w × Pass (unit_and_operation w n lun op))
PassesUnit old new n lun op (Err c) =
    IsRefusal c
    × ((w : World) → Depicts old w
    → (v : World) × Depicts new v × (restorable v ≡ restorable w) × Give (unit_and_operation w n lun op) (answer v (checking c)))

-- what REQUEST SENSE hands out, and what is left
abbrev pub Senses : State → State → Nexus → ℕ → Code → Type 0
Senses old new n lun c =
    (c.key < 16)
    × ((w : World) → Depicts old w
    → (v : World) × Depicts new v × (restorable v ≡ restorable w)
    × ((descriptor : Bool) (allocation : ℕ) → request_sense w n lun descriptor allocation ≡ answer v (good (take allocation (sense_data descriptor c)))))

-- the command was GOOD, or its task has begun
abbrev pub Passed : CommandOut → Type 0
Passed (outs.Ended status.Good sense len) = Unit {0}
Passed (outs.Started way count) = Unit {0}
Passed _ = ⊥

-- a command that no check refuses was served, and changed nothing of what may be restored
abbrev pub ServesStill : State → State → Nexus → ℕ → Admitted → CommandOut → List ℕ → Type 0
ServesStill old new n lun a result buf =
    (w : World) (command : Command) (sent : List ℕ) → Depicts old w → Carries command sent a
    → (v : World) × Depicts new v × (restorable v ≡ restorable w) × (served w n lun command sent ≡ answer v (out_of result buf))

module _ {D : Type 0} {gd : disks.Ghosts D} where
  -- a PERSISTENT RESERVE OUT was served, and saved where it asks for that
  abbrev pub Reserves : State → State → Keeper D gd → Keeper D gd → Nexus → ReserveOut → CommandOut → Type 0
  Reserves old new before now n o result =
      ((w : World) → Depicts old w → Holds before w → (buf : List ℕ) → Ends before now new w (reserve_out w n o.action (acted LIMIT w.standing n o)) (out_of result buf))
      × Counts before now result

  -- a command that no check refuses was served; only a PERSISTENT RESERVE OUT calls the disk
  abbrev pub Serves : State → State → Keeper D gd → Keeper D gd → Nexus → ℕ → Admitted → CommandOut → List ℕ → Type 0
  Serves old new before now n lun (admitted.ReserveOut request list) result buf = Reserves old new before now n (requested request list) result
  Serves old new before now n lun a result buf = ServesStill old new n lun a result buf × (now ≡ before) × Passed result
