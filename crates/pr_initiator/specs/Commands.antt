-- The commands that an initiator spells by itself, and what they are answered (SPC-4; LUN 0 and the frames are this
-- project's own).
use Rattle.std.specs.Prelude.{◌≡◌, ◌⊎◌, ℕ, zero, suc, ◌==◌, Bool, false, List, [], length, Option, Some, None, Result, Ok, Err, if◌then◌else◌}
use Rattle.pr_words.specs.Services.{in_service_code, out_service_code}
use Rattle.pr_words.specs.declared.code.Code.{Code}
use Rattle.pr_words.specs.declared.code.Sense.{Sense}
use Rattle.pr_words.specs.declared.service.InService.{InService}
use Rattle.pr_words.specs.declared.service.OutService.{OutService}
use Rattle.pr_words.specs.declared.code.TheConstants.{UNIT_ATTENTION}
use Rattle.pr_words.specs.declared.limits.TheConstants.{PARAMETER_LIST}
use Rattle.pr_grammar.specs.declared.cdb.Cdb.{Cdb}
use Rattle.pr_grammar.specs.declared.cdb.Command.{Command}
use Rattle.pr_grammar.specs.declared.cdb.Command.TheVariants.{TestUnitReady, Inquiry, ReserveIn, ReserveOut}
use Rattle.pr_grammar.specs.declared.param.OutList.{OutList}
use Rattle.pr_grammar.specs.Cdbs.{spelled_cdb}
use Rattle.pr_grammar.specs.Frames.{spelled}
use Rattle.pr_grammar.specs.OutLists.{spelled_list}
use Rattle.pr_link.specs.Requests.{request_frame}
use Rattle.pr_link.specs.declared.request.Request.TheVariants as request
use Rattle.pr_initiator.specs.declared.answer.Answer.{Answer}
use Rattle.pr_initiator.specs.declared.link_fault.LinkFault.{LinkFault}
use Rattle.pr_initiator.specs.declared.link_fault.LinkFault.TheVariants as fault
use Rattle.pr_initiator.specs.Calls.{answer_by}
use Rattle.pr_initiator.specs.Links.{Link, HasCalled}
use Rattle.pr_initiator.specs.declared.commands.TheConstants.{ALLOCATION, INQUIRY_DATA}

-- a command with its data-out
pub record Order : Type 0 where
  pub command : Command
  pub list : List ℕ

abbrev pub without_data : Command → Order
without_data command = record { command = command; list = [] }

abbrev pub test_unit_ready : Order
test_unit_ready = without_data TestUnitReady

-- the standard data, of so many bytes as SPC-4 has
abbrev pub inquiry : Order
inquiry = without_data (Inquiry false 0 INQUIRY_DATA)

-- PERSISTENT RESERVE IN, with the longest allocation length
abbrev pub reserve_in : InService → Order
reserve_in service = without_data (ReserveIn (in_service_code service) ALLOCATION)

-- a parameter list of RESERVATION KEY, SERVICE ACTION RESERVATION KEY and APTPL
abbrev pub out_list : ℕ → ℕ → Bool → OutList
out_list key action_key aptpl = record { key = key; action_key = action_key; spec_i_pt = false; all_tg_pt = false; aptpl = aptpl }

-- PERSISTENT RESERVE OUT, with scope 0 and this type
abbrev pub reserve_out : OutService → ℕ → OutList → Order
reserve_out service kind list = record { command = ReserveOut (out_service_code service) 0 kind PARAMETER_LIST; list = spelled_list list }

abbrev pub plain_cdb : Command → Cdb
plain_cdb command = record { command = command; naca = false }

-- the bytes that are sent
unfoldable pub order_bytes : ℕ → Order → List ℕ
order_bytes tag o = spelled (request_frame (request.Command (spelled_cdb (plain_cdb o.command)) (length o.list)) 0 tag o.list)

-- just the order was sent, and the answer is what the reply says
abbrev pub HasAnswered : Link → Link → Order → Result Answer LinkFault → Type 0
HasAnswered old new o result = HasCalled (answer_by old.place) 0x82 old new (order_bytes old.tag o) result

-- the code of sense data whose sense key is UNIT ATTENTION
abbrev pub attention_in : Option Sense → Option Code
attention_in None = None
attention_in (Some s) = if s.code.key == UNIT_ATTENTION then Some s.code else None

abbrev pub attention_of : Result Answer LinkFault → Option Code
attention_of (Ok a) = attention_in a.sense
attention_of (Err e) = None

-- TEST UNIT READY is asked until the result is no unit attention, at most so many times more; after as many attentions it
-- is the last of them
unfoldable pub IsReady : ℕ → Code → Link → Link → Result Answer LinkFault → Type 0
IsReady zero last old new result = (new ≡ old) × (result ≡ Err (fault.Attention last))
IsReady (suc left) last old new result =
    (HasAnswered old new test_unit_ready result × (attention_of result ≡ None))
    ⊎ ((mid : Link) × (a : Answer) × (code : Code) × HasAnswered old mid test_unit_ready (Ok a) × (attention_in a.sense ≡ Some code) × IsReady left code mid new result)
