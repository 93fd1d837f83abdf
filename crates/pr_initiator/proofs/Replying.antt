-- A reply that was heard, in the buffer where it stands.
use Rattle.std.proofs.Common.{◌≡◌, ℕ, ◌+◌, ◌-◌, ◌≤◌, Bool, true, false, cond, ◌==◌, ◌&&◌, List, [], length, take, drop, refl, sym, ap, ◌∙◌, arith, subst, slice_index, slice_range, inl, inr}
use Rattle.std.specs.Prelude.{Result, Ok, Err}
use Rattle.std.proofs.lemmas.Bool.{cases_lt}
use Rattle.std.proofs.lemmas.List.{take_all, drop_all, length-take-le, length-drop, drop-drop, drop-take}
use Rattle.pr_words.specs.Fields.{number32_at}
use Rattle.pr_words.specs.declared.code.Sense.{Sense}
use Rattle.pr_words.specs.declared.nexus.Side.TheVariants as side
use Rattle.pr_grammar.specs.declared.sense.SenseFault.{SenseFault}
use Rattle.pr_grammar.specs.Frames.{Frame, front, Whole}
use Rattle.pr_grammar.proofs.Spellings.{Found, found}
use Rattle.pr_link.specs.declared.reply.Reply.{Reply}
use Rattle.pr_link.specs.declared.reply.Reply.TheVariants as reply
use Rattle.pr_link.specs.Replies.{reply_of, checked_by}
use Rattle.pr_initiator.specs.declared.link_fault.LinkFault.TheVariants as fault
use Rattle.pr_initiator.specs.Calls.{count_in}
use Rattle.pr_initiator.specs.Judging.{judged, judged_reply, is_no_memory}
use Rattle.pr_initiator.specs.Links.{data_in_by}

-- a frame with nothing behind it fills the bytes in which it is found
record Fills (f : Frame) (heard : List ℕ) : Type 0 where
  pub size : length heard ≡ 12 + length f.body
  pub body : f.body ≡ drop 12 heard

fills : (f : Frame) (heard : List ℕ) → front side.Initiator heard ≡ Whole f [] → Fills f heard
fills f heard is =
    let here : Found side.Initiator heard f [] = found side.Initiator heard f [] is in
    let len : ℕ = number32_at heard 0 in
    let size : length heard ≡ 4 + len = omega (arith, here.whole, ap length here.left, length-drop (4 + len) heard) in
    let all : take len (drop 4 heard) ≡ drop 4 heard = take_all len (drop 4 heard) (omega (arith, length-drop 4 heard, size)) in
    let body : f.body ≡ drop 12 heard = ap (λ (g : Frame). g.body) here.first ∙ ap (drop 8) all ∙ drop-drop 8 4 heard in
    record { size = omega (arith, ap length body, length-drop 12 heard, size, here.least); body = body }

-- a reply with data-in has all that is behind its status
abbrev Counts : List ℕ → Result Reply SenseFault → Type 0
Counts body (Ok (reply.Good n)) = n ≡ length body - 4
Counts body _ = Unit {0}

either : (body : List ℕ) (b : Bool) (x y : Result Reply SenseFault) → Counts body x → Counts body y → Counts body (cond b x y)
either body true x y p q = p
either body false x y p q = q

checked_counts : (body : List ℕ) (r : Result Sense SenseFault) → Counts body (checked_by r)
checked_counts body (Ok s) = tt
checked_counts body (Err e) = tt

counts : (kind : ℕ) (body : List ℕ) → Counts body (reply_of kind body)
counts kind body =
    either body (kind == 0x81) _ _ tt
    (either body (kind == 0x82) _ _ (either body (slice_index body 0 == 0x00) _ _ refl (either body (slice_index body 0 == 0x02) _ _ (checked_counts body _) tt)) (either body (kind == 0x83) _ _ tt tt))

by_tests : (a b : Bool) (r s : Result Reply SenseFault) (place : ℕ) → cond a (Ok r) (cond b (Ok r) (Err (fault.BadReply place 6))) ≡ Ok s → r ≡ s
by_tests true b r s place is = cc
by_tests false true r s place is = cc
by_tests false false r s place is = absurd cc

judged_same : (asked tag place : ℕ) (f : Frame) (r s : Result Reply SenseFault) → judged_reply asked tag place f r ≡ Ok s → r ≡ s
judged_same asked tag place f (Ok (reply.Reject reason at)) s is = absurd cc
judged_same asked tag place f (Ok (reply.Login code)) s is = by_tests (f.kind == asked && f.tag == tag) (is_no_memory asked f.tag (Ok (reply.Login code))) (Ok (reply.Login code)) s place is
judged_same asked tag place f (Ok (reply.Good n)) s is = by_tests (f.kind == asked && f.tag == tag) false (Ok (reply.Good n)) s place is
judged_same asked tag place f (Ok (reply.CheckCondition sense)) s is = by_tests (f.kind == asked && f.tag == tag) false (Ok (reply.CheckCondition sense)) s place is
judged_same asked tag place f (Ok (reply.Other n)) s is = by_tests (f.kind == asked && f.tag == tag) false (Ok (reply.Other n)) s place is
judged_same asked tag place f (Ok reply.Logout) s is = by_tests (f.kind == asked && f.tag == tag) false (Ok reply.Logout) s place is
judged_same asked tag place f (Err x) s is = by_tests (f.kind == asked && f.tag == tag) false (Err x) s place is

-- so much data-in stands behind the frame's head and its status
pub record Brings (work : List ℕ) (f : Frame) (r : Result Reply SenseFault) : Type 0 where
  pub room : 16 + count_in r ≤ length work
  pub data_in : slice_range work 16 (16 + count_in r) ≡ data_in_by r f.body

-- the bytes behind the first sixteen
behind : (work : List ℕ) (size : ℕ) (body : List ℕ) → size ≡ 12 + length body → body ≡ drop 12 (take size work) → slice_range work 16 (16 + (length body - 4)) ≡ drop 4 body
behind work size body is cut =
    elim (cases_lt (length body) 4) [
      | inl few ↦ (
          let none : 16 + (length body - 4) - 16 ≡ 0 = omega (arith, few) in
          ap (λ (n : ℕ). take n (drop 16 work)) none ∙ sym (drop_all 4 body (omega (arith, few)))
          )
      | inr enough ↦ (
          let n : ℕ = length body - 4 in
          let count : 16 + n - 16 ≡ n = omega arith in
          let long : size ≡ 16 + n = omega (arith, is, enough) in
          ap (λ (k : ℕ). take k (drop 16 work)) count ∙ sym (drop-take 16 n work) ∙ ap (λ (k : ℕ). drop 16 (take k work)) (sym long) ∙ sym (drop-drop 4 12 (take size work)) ∙ ap (drop 4) (sym cut)
          )
    ]

brings_by : (work : List ℕ) (size : ℕ) (f : Frame) (r : Result Reply SenseFault) → 16 ≤ length work → size ≤ length work → size ≡ 12 + length f.body → f.body ≡ drop 12 (take size work) → Counts f.body r → Brings work f r
brings_by work size f (Ok (reply.Good n)) some room is cut count =
    record {
      room = omega (arith, some, room, is, count);
      data_in = ap (λ (k : ℕ). slice_range work 16 (16 + k)) count ∙ behind work size f.body is cut;
    }
brings_by work size f (Ok (reply.Login code)) some room is cut count = record { room = some; data_in = refl }
brings_by work size f (Ok (reply.CheckCondition s)) some room is cut count = record { room = some; data_in = refl }
brings_by work size f (Ok (reply.Other n)) some room is cut count = record { room = some; data_in = refl }
brings_by work size f (Ok reply.Logout) some room is cut count = record { room = some; data_in = refl }
brings_by work size f (Ok (reply.Reject reason at)) some room is cut count = record { room = some; data_in = refl }
brings_by work size f (Err e) some room is cut count = record { room = some; data_in = refl }

pub brings : (work : List ℕ) (size asked tag place : ℕ) (f : Frame) (r : Result Reply SenseFault) → 16 ≤ length work → size ≤ length work → front side.Initiator (take size work) ≡ Whole f [] → judged asked tag place f ≡ Ok r
    → Brings work f r
brings work size asked tag place f r some room whole is =
    let here : Fills f (take size work) = fills f (take size work) whole in
    let long : size ≡ 12 + length f.body = omega (arith, length-take-le size work room, here.size) in
    brings_by work size f r some room long here.body (subst (Counts f.body) (judged_same asked tag place f (reply_of f.kind f.body) r is) (counts f.kind f.body))
