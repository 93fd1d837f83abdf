-- Orders, by what their commands and lists are spelled from.
use Rattle.std.proofs.Common.{◌≡◌, ℕ, ◌≤◌, List, length, ap, subst}
use Rattle.std.specs.Prelude.{Result, IfOk, IfErr}
use Rattle.pr_grammar.specs.declared.cdb.Command.TheVariants.{ReserveOut}
use Rattle.pr_grammar.specs.Cdbs.{spelled_cdb}
use Rattle.pr_grammar.specs.Frames.{spelled}
use Rattle.pr_io.specs.Causes.{Rose}
use Rattle.pr_words.specs.declared.limits.TheConstants.{PARAMETER_LIST}
use Rattle.pr_link.specs.Requests.{request_frame}
use Rattle.pr_link.specs.declared.request.Request.TheVariants as request
use Rattle.pr_initiator.specs.declared.answer.Answer.{Answer}
use Rattle.pr_initiator.specs.declared.link_fault.LinkFault.{LinkFault}
use Rattle.pr_initiator.specs.declared.link_fault.LinkFault.TheVariants as fault
use Rattle.pr_initiator.specs.Calls.{Answers, answer_by}
use Rattle.pr_initiator.specs.Links.{Link, Yields, next_tag}
use Rattle.pr_initiator.specs.Commands.{Order, HasAnswered, plain_cdb, order_bytes}

abbrev pub out_order : ℕ → ℕ → List ℕ → Order
out_order code kind list = record { command = ReserveOut code 0 kind PARAMETER_LIST; list = list }

abbrev pub bytes_with : ℕ → List ℕ → List ℕ → List ℕ
bytes_with tag list cdb = spelled (request_frame (request.Command cdb (length list)) 0 tag list)

-- a command was sent that is spelled so
pub answered : (old new : Link) (o : Order) (cdb work : List ℕ) (result : Result Answer LinkFault) → cdb ≡ spelled_cdb (plain_cdb o.command)
    → Answers (answer_by old.place) 0x82 old.tag old.place old.talk new.talk (bytes_with old.tag o.list cdb) result work
    → IfOk result (Yields (answer_by old.place) 0x82 old new (bytes_with old.tag o.list cdb)) → new.tag ≡ next_tag old.tag → new.reference ≡ old.reference → old.faults ≤ new.faults → IfErr result (λ e. e ≡ fault.Down → Rose old.faults new.faults)
    → HasAnswered old new o result
unfolding order_bytes
answered old new o cdb work result is answers yields tag reference later down =
    let same : bytes_with old.tag o.list cdb ≡ bytes_with old.tag o.list (spelled_cdb (plain_cdb o.command)) = ap (bytes_with old.tag o.list) is in
    record {
      answers = (work, subst (λ (bytes : List ℕ). Answers (answer_by old.place) 0x82 old.tag old.place old.talk new.talk bytes result work) same answers);
      yields = subst (λ (bytes : List ℕ). IfOk result (Yields (answer_by old.place) 0x82 old new bytes)) same yields;
      tag = tag;
      reference = reference;
      later = later;
      down = down;
    }
