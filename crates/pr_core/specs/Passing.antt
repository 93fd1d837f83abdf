-- What the checks of a command decide, group by group.
use Rattle.std.specs.Prelude.{◌≡◌, ℕ, ◌<◌, ◌++◌, [], ◌∷◌, List, length, Option, Some, None, Result, Ok, Err}
use Rattle.pr_words.specs.declared.code.Code.{Code}
use Rattle.pr_words.specs.declared.task.Way.{Way}
use Rattle.pr_words.specs.declared.task.Way.TheVariants as ways
use Rattle.pr_words.specs.Services.{in_service_code, out_service_code}
use Rattle.pr_words.specs.declared.code.TheConstants.{HARDWARE_ERROR}
use Rattle.pr_grammar.specs.declared.operation.OperationCode.{OperationCode}
use Rattle.pr_grammar.specs.declared.cdb.Command.{Command}
use Rattle.pr_grammar.specs.declared.cdb.Command.TheVariants.{TestUnitReady, RequestSense, Inquiry, ReadCapacity10, ReadCapacity16, ReportLuns, Read, Write, SynchronizeCache, ReserveIn, ReserveOut}
use Rattle.pr_grammar.specs.Operations.{operation_at}
use Rattle.pr_grammar.specs.Cdbs.{operation_code, command_by}
use Rattle.pr_grammar.specs.OutLists.{list_of}
use Rattle.pr_model.specs.Worlds.{World, Task}
use Rattle.pr_model.specs.Tasks.{new_task}
use Rattle.pr_model.specs.Commands.{Answer, answer, checking, first_or, operation_checks, form_checks, length_check, transfer_checks, command_checks}
use Rattle.pr_core.specs.declared.admitted.Admitted.{Admitted}
use Rattle.pr_core.specs.declared.admitted.Admitted.TheVariants as admitted
use Rattle.pr_core.specs.declared.answers.CommandOut.{CommandOut}
use Rattle.pr_core.specs.declared.answers.CommandOut.TheVariants as outs
use Rattle.pr_core.specs.Fitting.{Fits}
use Rattle.pr_core.specs.Feeding.{announced}

-- none of these checks applies
abbrev pub Pass : List (Option Answer) → Type 0
Pass checks = (last : Answer) → first_or checks last ≡ last

-- the first of these checks that applies gives this answer
abbrev pub Give : List (Option Answer) → Answer → Type 0
Give checks a = (last : Answer) → first_or checks last ≡ a

-- the code of a refusal: its sense key has four bits, and isn't HARDWARE ERROR, which is that of a save that failed (SPC-4, sense keys)
abbrev pub IsRefusal : Code → Type 0
IsRefusal c = (HARDWARE_ERROR < c.key) × (c.key < 16)

-- CHECK CONDITION with the code of a refusal; the world stays
abbrev pub Refuse : (World → List (Option Answer)) → Code → Type 0
Refuse checks c = IsRefusal c × ((w : World) → Give (checks w) (answer w (checking c)))

-- the same over a medium of so many blocks
abbrev pub PassOver : ℕ → (World → List (Option Answer)) → Type 0
PassOver blocks checks = (w : World) → w.medium.count ≡ blocks → Pass (checks w)

abbrev pub RefuseOver : ℕ → (World → List (Option Answer)) → Code → Type 0
RefuseOver blocks checks c = IsRefusal c × ((w : World) → w.medium.count ≡ blocks → Give (checks w) (answer w (checking c)))

abbrev pub PassesOperation : Option OperationCode → Result OperationCode Code → Type 0
PassesOperation operation (Ok o) = (operation ≡ Some o) × ((op : ℕ) (w : World) → operation ≡ operation_at op → Pass (operation_checks w op))
PassesOperation operation (Err c) = (op : ℕ) → operation ≡ operation_at op → Refuse (λ w. operation_checks w op) c

abbrev pub PassesForm : OperationCode → List ℕ → Result Command Code → Type 0
PassesForm o cdb (Ok command) = (command ≡ command_by o cdb) × ((w : World) → Pass (form_checks w (operation_code cdb) cdb))
PassesForm o cdb (Err c) = Refuse (λ w. form_checks w (operation_code cdb) cdb) c

abbrev pub PassesLength : ℕ → List ℕ → Result (Unit {0}) Code → Type 0
PassesLength size sent (Ok done) = (w : World) → length_check w size sent ≡ None
PassesLength size sent (Err c) = IsRefusal c × ((w : World) → length_check w size sent ≡ Some (answer w (checking c)))

-- the check of the length of a command without data-out, which is admitted so
abbrev pub PassesNoData : Admitted → List ℕ → Result Admitted Code → Type 0
PassesNoData a sent (Ok b) = (b ≡ a) × ((w : World) → length_check w 0 sent ≡ None)
PassesNoData a sent (Err c) = IsRefusal c × ((w : World) → length_check w 0 sent ≡ Some (answer w (checking c)))

-- a READ or WRITE begins this task
abbrev pub Transfers : Command → Task → Type 0
Transfers (Read wide protect lba count) t = t ≡ new_task ways.Read lba count
Transfers (Write wide protect lba count) t = t ≡ new_task ways.Write lba count
Transfers _ t = ⊥

-- the admitted command is this one, with its parameter list
abbrev pub Carries : Command → List ℕ → Admitted → Type 0
Carries command sent admitted.TestUnitReady = command ≡ TestUnitReady
Carries command sent (admitted.RequestSense descriptor allocation) = command ≡ RequestSense descriptor allocation
Carries command sent (admitted.Inquiry vital page allocation) = command ≡ Inquiry vital page allocation
Carries command sent admitted.ReadCapacity10 = command ≡ ReadCapacity10
Carries command sent (admitted.ReadCapacity16 allocation) = (action : ℕ) × (command ≡ ReadCapacity16 action allocation)
Carries command sent (admitted.ReportLuns select allocation) = command ≡ ReportLuns select allocation
Carries command sent (admitted.Transfer t) = Transfers command t
Carries command sent admitted.SynchronizeCache = (lba count : ℕ) × (command ≡ SynchronizeCache lba count)
Carries command sent (admitted.ReserveIn service allocation) = command ≡ ReserveIn (in_service_code service) allocation
Carries command sent (admitted.ReserveOut request list) =
    (size : ℕ) × (command ≡ ReserveOut (out_service_code request.service) request.scope request.kind size) × (list ≡ list_of sent)

-- a transfer is a new one, and fits a medium of so many blocks
abbrev pub FitsIn : ℕ → Admitted → Type 0
FitsIn blocks (admitted.Transfer t) = Fits blocks t × (t ≡ new_task t.way t.lba t.count)
FitsIn blocks _ = Unit {0}

-- a transfer comes with the data-out of its blocks
abbrev pub HasData : List ℕ → Admitted → Type 0
HasData sent (admitted.Transfer t) = length sent ≡ announced t.way t.count
HasData sent _ = Unit {0}

-- a task begins with an admitted transfer alone, and is that
abbrev pub IsTransfer : Admitted → Way → ℕ → Type 0
IsTransfer (admitted.Transfer t) way count = (way ≡ t.way) × (count ≡ t.count)
IsTransfer _ way count = ⊥

abbrev pub IsBegun : Admitted → CommandOut → Type 0
IsBegun a (outs.Ended s sense len) = Unit {0}
IsBegun a (outs.Started way count) = IsTransfer a way count

-- a READ or WRITE passes its own checks, or is refused by them
abbrev pub own_checks : ℕ → ℕ → ℕ → ℕ → List ℕ → World → List (Option Answer)
own_checks protect lba count size sent w = transfer_checks w protect lba count ++ length_check w size sent ∷ []

abbrev pub PassesTransfer : ℕ → Way → ℕ → ℕ → ℕ → ℕ → List ℕ → Result Admitted Code → Type 0
PassesTransfer blocks way protect lba count size sent (Ok a) =
    (a ≡ admitted.Transfer (new_task way lba count)) × Fits blocks (new_task way lba count)
    × PassOver blocks (own_checks protect lba count size sent) × (length sent ≡ size)
PassesTransfer blocks way protect lba count size sent (Err c) = RefuseOver blocks (own_checks protect lba count size sent) c

-- a command passes its own checks, or is refused by them
abbrev pub PassesCommand : ℕ → Command → List ℕ → Result Admitted Code → Type 0
PassesCommand blocks command sent (Ok a) = Carries command sent a × FitsIn blocks a × PassOver blocks (λ w. command_checks w command sent) × HasData sent a
PassesCommand blocks command sent (Err c) = RefuseOver blocks (λ w. command_checks w command sent) c

-- a CDB with its data-out passes the checks of its form and of its command, or is refused by them
abbrev pub cdb_checks : OperationCode → List ℕ → List ℕ → World → List (Option Answer)
cdb_checks o cdb sent w = form_checks w (operation_code cdb) cdb ++ command_checks w (command_by o cdb) sent

abbrev pub PassesCdb : ℕ → OperationCode → List ℕ → List ℕ → Result Admitted Code → Type 0
PassesCdb blocks o cdb sent (Ok a) = Carries (command_by o cdb) sent a × FitsIn blocks a × PassOver blocks (cdb_checks o cdb sent) × HasData sent a
PassesCdb blocks o cdb sent (Err c) = RefuseOver blocks (cdb_checks o cdb sent) c
