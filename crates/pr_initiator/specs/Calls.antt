-- What the calls of an initiator answer, by the reply that was heard (this project's own).
use Rattle.std.specs.Prelude.{◌≡◌, ℕ, ◌==◌, List, Option, Some, None, Result, Ok, Err, if◌then◌else◌}
use Rattle.pr_grammar.specs.declared.sense.SenseFault.{SenseFault}
use Rattle.pr_io.specs.Talks.{Talk}
use Rattle.pr_link.specs.declared.reply.Reply.{Reply}
use Rattle.pr_link.specs.declared.reply.Reply.TheVariants as reply
use Rattle.pr_initiator.specs.declared.answer.Answer.{Answer}
use Rattle.pr_initiator.specs.declared.asking.Heard.{Heard}
use Rattle.pr_initiator.specs.declared.link_fault.LinkFault.{LinkFault}
use Rattle.pr_initiator.specs.declared.link_fault.LinkFault.TheVariants.{BadReply, Refused}
use Rattle.pr_initiator.specs.Answering.{Asks}

-- a Login is accepted with code 0, and refused with any other
abbrev pub login_by : ℕ → Result Reply SenseFault → Result Unit LinkFault
login_by place (Ok (reply.Login code)) = if code == 0 then Ok tt else Err (Refused code)
login_by place _ = Err (BadReply place 6)

abbrev pub logout_by : ℕ → Result Reply SenseFault → Result Unit LinkFault
logout_by place (Ok reply.Logout) = Ok tt
logout_by place _ = Err (BadReply place 6)

-- status, sense where it can be read, and how many bytes of data-in came
abbrev pub answer_by : ℕ → Result Reply SenseFault → Result Answer LinkFault
answer_by place (Ok (reply.Good n)) = Ok (record { status = 0x00; sense = None; len = n })
answer_by place (Ok (reply.CheckCondition s)) = Ok (record { status = 0x02; sense = Some s; len = 0 })
answer_by place (Ok (reply.Other n)) = Ok (record { status = n; sense = None; len = 0 })
answer_by place (Err e) = Ok (record { status = 0x02; sense = None; len = 0 })
answer_by place _ = Err (BadReply place 6)

-- how many bytes of data-in a reply brings
abbrev pub count_in : Result Reply SenseFault → ℕ
count_in (Ok (reply.Good n)) = n
count_in _ = 0

abbrev pub by_heard : {T : Type 0} → (Result Reply SenseFault → Result T LinkFault) → Result Heard LinkFault → Result T LinkFault
by_heard says (Ok h) = says h.reply
by_heard says (Err e) = Err e

-- the request was sent, and the call answers what the reply that was heard says
abbrev pub Answers : {T : Type 0} → (Result Reply SenseFault → Result T LinkFault) → ℕ → ℕ → ℕ → Option Talk → Option Talk → List ℕ → Result T LinkFault → List ℕ → Type 0
Answers says asked tag place before now sent result work = (heard : Result Heard LinkFault) × Asks asked tag place before now sent heard work × (result ≡ by_heard says heard)
