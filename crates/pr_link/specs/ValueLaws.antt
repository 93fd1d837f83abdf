-- Laws of requests and replies as values (this project's own): what is written for the other side keeps the rules that it
-- checks, and it reads the same value.
use Rattle.std.specs.Prelude.{◌≡◌, ℕ, ◌<◌, ◌≤◌, ◌^◌, false, List, length, Option, Some, None, Ok}
use Rattle.pr_words.specs.declared.limits.TheConstants.{DATA}
use Rattle.pr_words.specs.declared.nexus.Side.TheVariants.{Target, Initiator}
use Rattle.pr_link.specs.declared.request.Request.{Request}
use Rattle.pr_link.specs.declared.request.Request.TheVariants as request
use Rattle.pr_link.specs.declared.reply.Reply.{Reply}
use Rattle.pr_link.specs.declared.reply.Reply.TheVariants as reply
use Rattle.pr_link.specs.Laws.{Keeps}
use Rattle.pr_link.specs.Requests.{request_of, request_kind, request_body, data_out_of}
use Rattle.pr_link.specs.Replies.{reply_of, reply_kind, reply_body, data_in_of, is_spoken_for}

-- the numbers of a request fit their fields
abbrev pub RequestFits : Request → Type 0
RequestFits (request.Login version n) = (n.port < 2 ^ 16) × (n.name < 2 ^ 64)
RequestFits (request.Command cdb count) = (1 ≤ length cdb) × (length cdb ≤ 16) × (count ≤ DATA)
RequestFits request.Logout = Unit {0}

abbrev pub InformationFits : Option ℕ → Type 0
InformationFits None = Unit {0}
InformationFits (Some n) = n < 2 ^ 32

-- the numbers of a reply fit their fields
abbrev pub ReplyFits : Reply → Type 0
ReplyFits (reply.Login code) = Unit {0}
ReplyFits (reply.Good count) = count ≤ DATA
ReplyFits (reply.CheckCondition sense) = (sense.code.key < 16) × InformationFits sense.info
ReplyFits (reply.Other code) = is_spoken_for code ≡ false
ReplyFits reply.Logout = Unit {0}
ReplyFits (reply.Reject reason place) = place < 2 ^ 64

-- a target reads the request that an initiator wrote
abbrev pub RequestsAreReadBack : Type 0
RequestsAreReadBack =
    (r : Request) (sent : List ℕ) → RequestFits r → length sent ≡ data_out_of r
    → Keeps Target (request_kind r) (request_body r sent) × (request_of (request_kind r) (request_body r sent) ≡ r)

-- an initiator reads the reply that a target wrote
abbrev pub RepliesAreReadBack : Type 0
RepliesAreReadBack =
    (r : Reply) (bytes : List ℕ) → ReplyFits r → length bytes ≡ data_in_of r
    → Keeps Initiator (reply_kind r) (reply_body r bytes) × (reply_of (reply_kind r) (reply_body r bytes) ≡ Ok r)
