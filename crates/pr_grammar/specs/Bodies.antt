-- Bodies of the link's frames (this project's own).
use Rattle.std.specs.Prelude.{◌≡◌, ℕ, ◌+◌, ◌≤◌, ◌-◌, ◌==◌, ◌&&◌, nat_lt, nat_le, not, Bool, List, [], ◌∷◌, ◌++◌, length, drop, slice_index, slice_range, replicate, Option, Some, None, if◌then◌else◌}
use Rattle.std.specs.List.{list_all}
use Rattle.std.specs.Int.{w16, w64, to_be_bytes}
use Rattle.pr_words.specs.Fields.{number16_at, number64_at}
use Rattle.pr_words.specs.Codes.{status_code}
use Rattle.pr_words.specs.declared.nexus.Nexus.{Nexus}
use Rattle.pr_words.specs.declared.code.Sense.{Sense}
use Rattle.pr_words.specs.declared.code.Status.{Status}
use Rattle.pr_words.specs.declared.code.Status.TheVariants.{Good, CheckCondition, ReservationConflict, TaskAborted}
use Rattle.pr_words.specs.declared.limits.TheConstants.{DATA, COMMAND_HEAD}
use Rattle.pr_grammar.specs.Senses.{fixed_sense}

abbrev pub is_zero : ℕ → Bool
is_zero n = n == 0

-- Login: version, a zero byte, port in 2 bytes, name in 8

abbrev pub login_body : ℕ → Nexus → List ℕ
login_body version n = (version ∷ 0 ∷ []) ++ to_be_bytes w16 n.port ++ to_be_bytes w64 n.name

abbrev pub is_login_body : List ℕ → Bool
is_login_body body = length body == 12 && slice_index body 1 == 0

abbrev pub login_version : List ℕ → ℕ
login_version body = slice_index body 0

abbrev pub login_nexus : List ℕ → Nexus
login_nexus body = record { name = number64_at body 4; port = number16_at body 2 }

-- Command: the CDB's length, three zero bytes, 16 bytes that hold the CDB and then zeros, data-out

-- what stands before the data-out
abbrev pub command_head : List ℕ → List ℕ
command_head cdb = (length cdb ∷ 0 ∷ 0 ∷ 0 ∷ []) ++ cdb ++ replicate (16 - length cdb) 0

-- how many bytes of CDB a body announces
abbrev pub announced_cdb : List ℕ → ℕ
announced_cdb body = slice_index body 0

abbrev pub is_command_body : List ℕ → Bool
is_command_body body =
    not (nat_lt (length body) COMMAND_HEAD) && nat_lt 0 (announced_cdb body) && nat_lt (announced_cdb body) 17
    && list_all is_zero (slice_range body 1 4) && list_all is_zero (slice_range body (4 + announced_cdb body) COMMAND_HEAD)

abbrev pub command_cdb : List ℕ → List ℕ
command_cdb body = slice_range body 4 (4 + announced_cdb body)

abbrev pub command_data : List ℕ → List ℕ
command_data body = drop COMMAND_HEAD body

-- Login reply: a code, and three zero bytes

abbrev pub login_reply : ℕ → List ℕ
login_reply code = code ∷ 0 ∷ 0 ∷ 0 ∷ []

abbrev pub is_login_reply : List ℕ → Bool
is_login_reply body = length body == 4 && list_all is_zero (slice_range body 1 4)

-- Command reply: status, the length of the sense, two zero bytes, sense, data-in

abbrev pub command_reply : Status → Option Sense → List ℕ → List ℕ
command_reply status None data_in = (status_code status ∷ 0 ∷ 0 ∷ 0 ∷ []) ++ data_in
command_reply status (Some s) data_in = (status_code status ∷ 18 ∷ 0 ∷ 0 ∷ []) ++ fixed_sense s ++ data_in

-- what a reply may carry: sense with CHECK CONDITION alone, and data-in, of at most 524,288 bytes, with GOOD alone
abbrev pub IsProperReply : Status → Option Sense → List ℕ → Type 0
IsProperReply Good None data_in = length data_in ≤ DATA
IsProperReply CheckCondition (Some s) data_in = length data_in ≡ 0
IsProperReply ReservationConflict None data_in = length data_in ≡ 0
IsProperReply TaskAborted None data_in = length data_in ≡ 0
IsProperReply _ _ _ = ⊥

-- 18 bytes of sense exactly at CHECK CONDITION, and data only at GOOD
abbrev pub is_command_reply : List ℕ → Bool
is_command_reply body =
    not (nat_lt (length body) 4) && list_all is_zero (slice_range body 2 4)
    && (if slice_index body 0 == 0x02 then slice_index body 1 == 18 && length body == 22 else
    slice_index body 1 == 0 && (if slice_index body 0 == 0x00 then nat_le 4 (length body) else length body == 4))

-- Reject: a reason, three zero bytes, and the place of the frame in its stream in 8 bytes

abbrev pub reject : ℕ → ℕ → List ℕ
reject reason place = (reason ∷ 0 ∷ 0 ∷ 0 ∷ []) ++ to_be_bytes w64 place

abbrev pub is_reject : List ℕ → Bool
is_reject body = length body == 12 && list_all is_zero (slice_range body 1 4)
