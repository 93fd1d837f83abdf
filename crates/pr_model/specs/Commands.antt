-- What a command is answered, and the world that it leaves (SPC-4).
use Rattle.std.specs.Prelude.{ℕ, ◌+◌, ◌*◌, ◌-◌, ◌==◌, ◌&&◌, ◌||◌, nat_lt, not, Bool, true, List, [], ◌∷◌, ◌++◌, length, take, Option, Some, None, is_some, if◌then◌else◌}
use Rattle.pr_words.specs.declared.nexus.Nexus.{Nexus}
use Rattle.pr_words.specs.declared.code.Code.{Code}
use Rattle.pr_words.specs.declared.code.Status.TheVariants as status
use Rattle.pr_words.specs.declared.task.Way.{Way}
use Rattle.pr_words.specs.declared.task.Way.TheVariants as ways
use Rattle.pr_words.specs.Kinds.{kind_at}
use Rattle.pr_words.specs.Services.{in_service_at, out_service_at}
use Rattle.pr_words.specs.declared.code.TheConstants.Code.{INVALID_COMMAND_OPERATION_CODE, INVALID_FIELD_IN_CDB, INVALID_FIELD_IN_PARAMETER_LIST, LOGICAL_BLOCK_ADDRESS_OUT_OF_RANGE, LOGICAL_UNIT_NOT_SUPPORTED, NO_SENSE, PARAMETER_LIST_LENGTH_ERROR}
use Rattle.pr_words.specs.declared.limits.TheConstants.{LIMIT, TRANSFER, BLOCK, PARAMETER_LIST}
use Rattle.pr_grammar.specs.Standings.{Standing}
use Rattle.pr_grammar.specs.Senses.{fixed_sense, descriptor_sense}
use Rattle.pr_grammar.specs.declared.cdb.Command.{Command}
use Rattle.pr_grammar.specs.declared.cdb.Command.TheVariants.{TestUnitReady, RequestSense, Inquiry, ReadCapacity10, ReadCapacity16, ReportLuns, Read, Write, SynchronizeCache, ReserveIn, ReserveOut}
use Rattle.pr_grammar.specs.Operations.{operation_at, length_of, class_of, is_unconditional}
use Rattle.pr_grammar.specs.Cdbs.{operation_code, is_naca, command_of}
use Rattle.pr_grammar.specs.declared.param.OutList.{OutList}
use Rattle.pr_grammar.specs.OutLists.{list_of}
use Rattle.pr_grammar.specs.InReplies.{keys_reply, reservation_reply, capabilities_reply, full_reply}
use Rattle.pr_grammar.specs.Pages.{standard_inquiry, vital_page_at, capacity_10, capacity_16, report_luns}
use Rattle.pr_model.specs.Acts as acts
use Rattle.pr_model.specs.Acts.{Acted, Verdict, Good, Conflict, Bad, acted}
use Rattle.pr_model.specs.Conflicts.{is_forbidden}
use Rattle.pr_model.specs.Attentions.{told}
use Rattle.pr_model.specs.Worlds.{World, set_at}
use Rattle.pr_model.specs.Tasks.{new_task, marked}
use Rattle.pr_model.specs.Entries.{Out, Ended, Started}

-- the world after a command, and its outcome
pub record Answer : Type 0 where
  pub world : World
  pub out : Out

abbrev pub answer : World → Out → Answer
answer w out = record { world = w; out = out }

-- CHECK CONDITION
abbrev pub checking : Code → Out
checking c = Ended status.CheckCondition (Some (record { code = c; info = None })) []

abbrev pub good : List ℕ → Out
good data_in = Ended status.Good None data_in

abbrev pub conflict : Out
conflict = Ended status.ReservationConflict None []

-- The checks of a command

-- a check that refuses where a test holds, and changes nothing
abbrev pub refused_where : Bool → World → Code → Option Answer
refused_where fails w c = if fails then Some (answer w (checking c)) else None

-- the target has logical unit 0 alone
abbrev pub is_elsewhere : ℕ → ℕ → Bool
is_elsewhere lun op = not (lun == 0) && not (is_unconditional op)

-- a unit attention that waits is reported first, and goes
abbrev pub attention_check : World → Nexus → ℕ → List Code → Option Answer
attention_check w n op [] = None
attention_check w n op (c ∷ cs) =
    if is_unconditional op then None else Some (answer (record w { attentions = set_at w.attentions n cs }) (checking c))

-- by the logical unit, and by what waits to be reported
abbrev pub unit_checks : World → Nexus → ℕ → ℕ → List (Option Answer)
unit_checks w n lun op = refused_where (is_elsewhere lun op) w LOGICAL_UNIT_NOT_SUPPORTED ∷ attention_check w n op (w.attentions n) ∷ []

-- by the operation code, of which there are thirteen
abbrev pub operation_checks : World → ℕ → List (Option Answer)
operation_checks w op = refused_where (not (is_some (operation_at op))) w INVALID_COMMAND_OPERATION_CODE ∷ []

-- by the reservation, which may forbid what the operation code does (SPC-4 and SBC-3, the tables of commands that conflict)
abbrev pub conflict_where : Bool → World → Option Answer
conflict_where forbidden w = if forbidden then Some (answer w conflict) else None

abbrev pub conflict_checks : World → Nexus → ℕ → List (Option Answer)
conflict_checks w n op = conflict_where (is_forbidden w.standing n (class_of op)) w ∷ []

-- by the CDB's form: its length, and NACA, which isn't supported (SPC-4, control byte)
abbrev pub form_checks : World → ℕ → List ℕ → List (Option Answer)
form_checks w op cdb =
    refused_where (nat_lt (length cdb) (length_of op)) w INVALID_FIELD_IN_CDB
    ∷ refused_where (is_naca (length_of op - 1) cdb) w INVALID_FIELD_IN_CDB
    ∷ []

-- by the length of the data-out, which is the one that the CDB announces
abbrev pub length_check : World → ℕ → List ℕ → Option Answer
length_check w announced sent = refused_where (not (length sent == announced)) w PARAMETER_LIST_LENGTH_ERROR

-- a service action that isn't supported, or a RESERVE whose scope isn't the logical unit's or whose type is none of the six
abbrev pub has_bad_service : ℕ → ℕ → ℕ → Bool
has_bad_service action scope kind =
    not (is_some (out_service_at action)) || (action == 1 && not (scope == 0 && is_some (kind_at kind)))

-- SPEC_I_PT isn't supported, nor is ALL_TG_PT where a nexus registers
abbrev pub has_bad_list : ℕ → OutList → Bool
has_bad_list action l = l.spec_i_pt || (l.all_tg_pt && (action == 0 || action == 6))

-- INQUIRY data: the standard data, whose page code is zero, or a vital product data page that there is; of a logical unit that is there or not
abbrev pub inquiry_data : Bool → ℕ → Bool → Option (List ℕ)
inquiry_data vital page here =
    if vital then vital_page_at page here else
    if page == 0 then Some (standard_inquiry here) else None

-- not all of so many blocks lie within the medium (SBC-3; at no blocks too, which is this project's own)
abbrev pub is_beyond : World → ℕ → ℕ → Bool
is_beyond w lba count = nat_lt w.medium.count (lba + count)

-- of READ and WRITE: protection isn't supported; so many blocks at once aren't, which is this project's own; the blocks are there
abbrev pub transfer_checks : World → ℕ → ℕ → ℕ → List (Option Answer)
transfer_checks w protect lba count =
    refused_where (not (protect == 0)) w INVALID_FIELD_IN_CDB
    ∷ refused_where (nat_lt TRANSFER count) w INVALID_FIELD_IN_CDB
    ∷ refused_where (is_beyond w lba count) w LOGICAL_BLOCK_ADDRESS_OUT_OF_RANGE
    ∷ []

-- by the command's own fields, by its data-out's length, and by its parameter list, which has 24 bytes, since none with SPEC_I_PT is supported
abbrev pub command_checks : World → Command → List ℕ → List (Option Answer)
command_checks w (ReserveOut action scope kind list) sent =
    refused_where (has_bad_service action scope kind) w INVALID_FIELD_IN_CDB
    ∷ length_check w list sent
    ∷ refused_where (not (list == PARAMETER_LIST)) w PARAMETER_LIST_LENGTH_ERROR
    ∷ refused_where (has_bad_list action (list_of sent)) w INVALID_FIELD_IN_PARAMETER_LIST
    ∷ []
command_checks w (ReserveIn action allocation) sent =
    refused_where (not (is_some (in_service_at action))) w INVALID_FIELD_IN_CDB ∷ length_check w 0 sent ∷ []
command_checks w TestUnitReady sent = length_check w 0 sent ∷ []
command_checks w (RequestSense descriptor allocation) sent = length_check w 0 sent ∷ []
command_checks w (Inquiry vital page allocation) sent =
    refused_where (not (is_some (inquiry_data vital page true))) w INVALID_FIELD_IN_CDB ∷ length_check w 0 sent ∷ []
command_checks w ReadCapacity10 sent = length_check w 0 sent ∷ []
command_checks w (ReadCapacity16 action allocation) sent =
    refused_where (not (action == 0x10)) w INVALID_FIELD_IN_CDB ∷ length_check w 0 sent ∷ []
command_checks w (ReportLuns select allocation) sent =
    refused_where (not (is_some (report_luns select))) w INVALID_FIELD_IN_CDB ∷ length_check w 0 sent ∷ []
command_checks w (Read wide protect lba count) sent = transfer_checks w protect lba count ++ length_check w 0 sent ∷ []
command_checks w (Write wide protect lba count) sent =
    transfer_checks w protect lba count ++ length_check w (BLOCK * count) sent ∷ []
command_checks w (SynchronizeCache lba count) sent =
    refused_where (is_beyond w lba count) w LOGICAL_BLOCK_ADDRESS_OUT_OF_RANGE ∷ length_check w 0 sent ∷ []

-- the order of refusals (this project's own): unit, operation code, reservation, form, command
abbrev pub checks : World → Nexus → ℕ → ℕ → List ℕ → Command → List ℕ → List (Option Answer)
checks w n lun op cdb command sent =
    unit_checks w n lun op ++ operation_checks w op ++ conflict_checks w n op ++ form_checks w op cdb ++ command_checks w command sent

-- the first check that applies gives the answer
abbrev pub first_or : List (Option Answer) → Answer → Answer
first_or [] last = last
first_or (None ∷ others) last = first_or others last
first_or (Some a ∷ others) last = a

-- The commands, once no check applies

-- sense data in the asked format
abbrev pub sense_data : Bool → Code → List ℕ
sense_data descriptor c = if descriptor then descriptor_sense c else fixed_sense (record { code = c; info = None })

-- REQUEST SENSE hands out the attention that is reported first, which goes, whatever its allocation length
abbrev pub hand_out : World → Nexus → Bool → ℕ → List Code → Answer
hand_out w n descriptor allocation [] = answer w (good (take allocation (sense_data descriptor NO_SENSE)))
hand_out w n descriptor allocation (c ∷ cs) =
    answer (record w { attentions = set_at w.attentions n cs }) (good (take allocation (sense_data descriptor c)))

abbrev pub request_sense : World → Nexus → ℕ → Bool → ℕ → Answer
request_sense w n lun descriptor allocation =
    if lun == 0 then hand_out w n descriptor allocation (w.attentions n) else
    answer w (good (take allocation (sense_data descriptor LOGICAL_UNIT_NOT_SUPPORTED)))

-- PERSISTENT RESERVE IN: READ KEYS, READ RESERVATION, REPORT CAPABILITIES, READ FULL STATUS
abbrev pub reserve_in_data : ℕ → Standing → List ℕ
reserve_in_data action s =
    if action == 0 then keys_reply s else
    if action == 1 then reservation_reply s else
    if action == 2 then capabilities_reply s else full_reply s

-- PERSISTENT RESERVE OUT: only one that is accepted changes the world: the registrations and the reservation, what others are told, and which tasks are marked; what it keeps is saved, so no doubts are left
abbrev pub by_verdict : World → World → Verdict → Answer
by_verdict w next Good = answer next (good [])
by_verdict w next Conflict = answer w conflict
by_verdict w next (Bad c) = answer w (checking c)

abbrev pub reserve_out : World → Nexus → ℕ → Acted → Answer
reserve_out w n action a =
    by_verdict w (record w { standing = a.standing; attentions = told n a w.attentions; task = marked action a.removed w.task; doubts = [] }) a.verdict

abbrev pub out_request : ℕ → ℕ → ℕ → OutList → acts.ReserveOut
out_request action scope kind l =
    record { action = action; scope = scope; kind = kind; key = l.key; action_key = l.action_key; aptpl = l.aptpl }

-- READ and WRITE: no blocks are moved at once, and others by a task
abbrev pub begin : World → Nexus → Way → ℕ → ℕ → Answer
begin w n way lba count =
    if count == 0 then answer w (good []) else
    answer (record w { task = set_at w.task n (Some (new_task way lba count)) }) (Started way)

-- data that there is
abbrev pub data_of : Option (List ℕ) → List ℕ
data_of None = []
data_of (Some bytes) = bytes

-- what a command does; every block that is written is on the medium, so SYNCHRONIZE CACHE has nothing to do
abbrev pub served : World → Nexus → ℕ → Command → List ℕ → Answer
served w n lun TestUnitReady sent = answer w (good [])
served w n lun (RequestSense descriptor allocation) sent = request_sense w n lun descriptor allocation
served w n lun (ReserveIn action allocation) sent = answer w (good (take allocation (reserve_in_data action w.standing)))
served w n lun (ReserveOut action scope kind list) sent =
    reserve_out w n action (acted LIMIT w.standing n (out_request action scope kind (list_of sent)))
served w n lun (Inquiry vital page allocation) sent = answer w (good (take allocation (data_of (inquiry_data vital page (lun == 0)))))
served w n lun ReadCapacity10 sent = answer w (good (capacity_10 w.medium.count))
served w n lun (ReadCapacity16 action allocation) sent = answer w (good (take allocation (capacity_16 w.medium.count)))
served w n lun (ReportLuns select allocation) sent = answer w (good (take allocation (data_of (report_luns select))))
served w n lun (Read wide protect lba count) sent = begin w n ways.Read lba count
served w n lun (Write wide protect lba count) sent = begin w n ways.Write lba count
served w n lun (SynchronizeCache lba count) sent = answer w (good [])

abbrev pub answered_by : World → Nexus → ℕ → ℕ → List ℕ → Command → List ℕ → Answer
answered_by w n lun op cdb command sent = first_or (checks w n lun op cdb command sent) (served w n lun command sent)

unfoldable pub answered : World → Nexus → ℕ → List ℕ → List ℕ → Answer
answered w n lun cdb sent = answered_by w n lun (operation_code cdb) cdb (command_of (operation_code cdb) cdb) sent
