-- What a reply says to a request (this project's own).
use Rattle.std.specs.Prelude.{ℕ, ◌==◌, ◌&&◌, Bool, false, Result, Ok, Err, if◌then◌else◌}
use Rattle.pr_grammar.specs.declared.sense.SenseFault.{SenseFault}
use Rattle.pr_grammar.specs.Frames.{Frame}
use Rattle.pr_link.specs.declared.reply.Reply.{Reply}
use Rattle.pr_link.specs.declared.reply.Reply.TheVariants.{Login, Reject}
use Rattle.pr_link.specs.Replies.{reply_of}
use Rattle.pr_initiator.specs.declared.link_fault.LinkFault.{LinkFault}
use Rattle.pr_initiator.specs.declared.link_fault.LinkFault.TheVariants.{BadReply, Rejected}

-- a target that has no memory for a session answers without having read anything, so with tag 0
abbrev pub is_no_memory : ℕ → ℕ → Result Reply SenseFault → Bool
is_no_memory asked tag (Ok (Login code)) = asked == 0x81 && tag == 0 && code == 5
is_no_memory asked tag _ = false

-- a Reject counts whatever was asked; else the kind and the tag are those that were asked
abbrev pub judged_reply : ℕ → ℕ → ℕ → Frame → Result Reply SenseFault → Result (Result Reply SenseFault) LinkFault
judged_reply asked tag place f (Ok (Reject reason at)) = Err (Rejected at reason)
judged_reply asked tag place f reply =
    if f.kind == asked && f.tag == tag then Ok reply else
    if is_no_memory asked f.tag reply then Ok reply else
    Err (BadReply place 6)

abbrev pub judged : ℕ → ℕ → ℕ → Frame → Result (Result Reply SenseFault) LinkFault
judged asked tag place f = judged_reply asked tag place f (reply_of f.kind f.body)
