-- What an initiator asks for, as a value and its spelling (this project's own).
use Rattle.std.specs.Prelude.{ℕ, ◌==◌, List, [], ◌++◌, length, if◌then◌else◌}
use Rattle.pr_grammar.specs.Bodies.{login_body, login_version, login_nexus, command_head, command_cdb, command_data}
use Rattle.pr_grammar.specs.Frames.{Frame, frame}
use Rattle.pr_link.specs.declared.request.Request.{Request}
use Rattle.pr_link.specs.declared.request.Request.TheVariants.{Login, Command, Logout}

-- what a frame of a kind that a target receives asks for, by its body
abbrev pub request_of : ℕ → List ℕ → Request
request_of kind body =
    if kind == 0x01 then Login (login_version body) (login_nexus body) else
    if kind == 0x02 then Command (command_cdb body) (length (command_data body)) else
    Logout

abbrev pub request_kind : Request → ℕ
request_kind (Login version n) = 0x01
request_kind (Command cdb count) = 0x02
request_kind Logout = 0x03

-- its body, where the data-out is given apart
abbrev pub request_body : Request → List ℕ → List ℕ
request_body (Login version n) sent = login_body version n
request_body (Command cdb count) sent = command_head cdb ++ sent
request_body Logout sent = []

-- how many bytes of data-out it has
abbrev pub data_out_of : Request → ℕ
data_out_of (Login version n) = 0
data_out_of (Command cdb count) = count
data_out_of Logout = 0

-- its frame, where the data-out is given apart
abbrev pub request_frame : Request → ℕ → ℕ → List ℕ → Frame
request_frame r lun tag sent = frame (request_kind r) lun tag (request_body r sent)
