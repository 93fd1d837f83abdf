-- The faults for which a frame that was heard is the cause.
use Rattle.std.proofs.Common.{◌≡◌, ℕ, Bool, true, false, cond, ◌==◌, ◌&&◌, List, [], Option, sym, subst, inr}
use Rattle.std.proofs.lemmas.List.{append-nil}
use Rattle.std.specs.Prelude.{Result, Ok, Err}
use Rattle.pr_words.specs.declared.nexus.Side.TheVariants.{Initiator}
use Rattle.pr_grammar.specs.declared.sense.SenseFault.{SenseFault}
use Rattle.pr_grammar.specs.Frames.{Frame, front, Whole}
use Rattle.pr_io.specs.Talks.{Talk}
use Rattle.pr_link.specs.declared.reply.Reply.{Reply}
use Rattle.pr_link.specs.declared.reply.Reply.TheVariants as reply
use Rattle.pr_link.specs.Replies.{reply_of}
use Rattle.pr_initiator.specs.declared.link_fault.LinkFault.{LinkFault}
use Rattle.pr_initiator.specs.declared.link_fault.LinkFault.TheVariants as fault
use Rattle.pr_initiator.specs.Goings.{Goes}
use Rattle.pr_initiator.specs.Judging.{judged, judged_reply, is_no_memory}
use Rattle.pr_initiator.specs.Answering.{FailsToAsk}

-- neither a wire that failed nor a connection that ended is found in a frame
abbrev pub IsJudged : LinkFault → Type 0
IsJudged fault.Down = ⊥
IsJudged (fault.Ended at) = ⊥
IsJudged _ = Unit {0}

by_tests : (a b : Bool) (r : Result Reply SenseFault) (place : ℕ) (e : LinkFault) → cond a (Ok r) (cond b (Ok r) (Err (fault.BadReply place 6))) ≡ Err e → IsJudged e
by_tests true b r place e is = absurd cc
by_tests false true r place e is = absurd cc
by_tests false false r place e is =
    let same : fault.BadReply place 6 ≡ e = cc in
    subst IsJudged same tt

judged_by : (asked tag place : ℕ) (f : Frame) (r : Result Reply SenseFault) (e : LinkFault) → judged_reply asked tag place f r ≡ Err e → IsJudged e
judged_by asked tag place f (Ok (reply.Reject reason at)) e is =
    let same : fault.Rejected at reason ≡ e = cc in
    subst IsJudged same tt
judged_by asked tag place f (Ok (reply.Login code)) e is = by_tests (f.kind == asked && f.tag == tag) (is_no_memory asked f.tag (Ok (reply.Login code))) (Ok (reply.Login code)) place e is
judged_by asked tag place f (Ok (reply.Good n)) e is = by_tests (f.kind == asked && f.tag == tag) false (Ok (reply.Good n)) place e is
judged_by asked tag place f (Ok (reply.CheckCondition s)) e is = by_tests (f.kind == asked && f.tag == tag) false (Ok (reply.CheckCondition s)) place e is
judged_by asked tag place f (Ok (reply.Other n)) e is = by_tests (f.kind == asked && f.tag == tag) false (Ok (reply.Other n)) place e is
judged_by asked tag place f (Ok reply.Logout) e is = by_tests (f.kind == asked && f.tag == tag) false (Ok reply.Logout) place e is
judged_by asked tag place f (Err x) e is = by_tests (f.kind == asked && f.tag == tag) false (Err x) place e is

pub is_judged : (asked tag place : ℕ) (f : Frame) (e : LinkFault) → judged asked tag place f ≡ Err e → IsJudged e
is_judged asked tag place f e is = judged_by asked tag place f (reply_of f.kind f.body) e is

pub fails : (asked tag place : ℕ) (before now : Option Talk) (sent heard : List ℕ) (f : Frame) (e : LinkFault) → Goes before now sent heard → front Initiator heard ≡ Whole f [] → judged asked tag place f ≡ Err e
    → FailsToAsk asked tag place before now sent e
fails asked tag place before now sent heard f fault.Down goes whole is = (sent, [], heard, sym (append-nil sent), goes)
fails asked tag place before now sent heard f (fault.Ended at) goes whole is = absurd (is_judged asked tag place f (fault.Ended at) is)
fails asked tag place before now sent heard f (fault.BadReply at reason) goes whole is = (heard, goes, inr (f, whole, is))
fails asked tag place before now sent heard f (fault.Rejected at reason) goes whole is = (heard, goes, f, whole, is)
fails asked tag place before now sent heard f (fault.Refused code) goes whole is = (heard, goes, f, whole, is)
fails asked tag place before now sent heard f (fault.Attention code) goes whole is = (heard, goes, f, whole, is)
