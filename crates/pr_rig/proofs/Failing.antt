-- Calls of an initiator that failed, though no count of the wire rose: no device answers so.
use Rattle.std.proofs.Common.{◌≡◌, lit<, ◌<◌, ◌≤◌, ℕ, inl, inr, Bool, false, List, [], ◌++◌, length, ◌-◌, take, Option, Some, None, refl, sym, ap, ◌∙◌, subst, append-nil, arith}
use Rattle.std.specs.Prelude.{Result, Ok, Err, slice_range, if◌then◌else◌}
use Rattle.std.proofs.lemmas.Bool.{eq-eqb}
use Rattle.pr_words.specs.declared.code.Code.{Code}
use Rattle.pr_words.specs.declared.code.Sense.{Sense}
use Rattle.pr_words.specs.declared.code.Status.{Status}
use Rattle.pr_words.specs.declared.code.Status.TheVariants as status
use Rattle.pr_words.specs.declared.code.TheConstants.{UNIT_ATTENTION}
use Rattle.pr_words.specs.declared.nexus.Nexus.{Nexus}
use Rattle.pr_words.specs.declared.nexus.Side.TheVariants.{Initiator}
use Rattle.pr_grammar.specs.declared.sense.SenseFault.{SenseFault}
use Rattle.pr_grammar.specs.Bodies.{IsProperReply, command_reply}
use Rattle.pr_grammar.specs.Frames.{Frame, Lacking, Broken, Whole, frame, front}
use Rattle.pr_grammar.specs.Senses.{read_sense}
use Rattle.pr_grammar.proofs.Framings.{broken_more}
use Rattle.pr_model.specs.Commands.{checking, good}
use Rattle.pr_model.specs.Entries.{Act, Ended, Entry, Out, entry}
use Rattle.pr_model.specs.Lanes.{Asks, Idle, Lane, Turned, turn}
use Rattle.pr_model.specs.Saving.{tells_failure}
use Rattle.pr_model.specs.Worlds.{World}
use Rattle.pr_io.specs.Causes.{Rose}
use Rattle.pr_link.specs.declared.reply.Reply.{Reply}
use Rattle.pr_link.specs.declared.reply.Reply.TheVariants as reply
use Rattle.pr_link.specs.Replies.{checked_by}
use Rattle.pr_link.proofs.Values.{replies_back}
use Rattle.pr_initiator.specs.declared.answer.Answer.{Answer}
use Rattle.pr_initiator.specs.declared.link_fault.LinkFault.{LinkFault}
use Rattle.pr_initiator.specs.declared.link_fault.LinkFault.TheVariants as fault
use Rattle.pr_initiator.specs.Answering as answering
use Rattle.pr_initiator.specs.Calls.{answer_by, by_heard}
use Rattle.pr_initiator.specs.Commands.{attention_in}
use Rattle.pr_initiator.specs.Goings.{Goes, WasEnded}
use Rattle.pr_initiator.specs.Judging.{judged, judged_reply}
use Rattle.pr_initiator.specs.Links.{HasCalled, Link}
use Rattle.pr_rig.proofs.Hearing.{same_first}
use Rattle.pr_rig.proofs.Passing.{Tells}
use Rattle.pr_rig.proofs.Turning.{Claim, Leads, asks_leads, some_heard}

-- Replies that count

-- a frame of the kind and the tag that were asked, which says a value
pub record IsTold {T : Type 0} (says : Result Reply SenseFault → Result T LinkFault) (asked tag place : ℕ) (f : Frame) : Type 0 where
  pub said : Result Reply SenseFault
  pub judges : judged asked tag place f ≡ Ok said
  pub value : T
  pub is : says said ≡ Ok value

pub command_told : (s : Status) (sense : Option Sense) (bytes : List ℕ) (tag place : ℕ) → IsProperReply s sense bytes → IsTold (answer_by place) 0x82 tag place (frame 0x82 0 tag (command_reply s sense bytes))
command_told status.Good None bytes tag place proper = record { said = Ok (reply.Good (length (command_reply status.Good None bytes) - 4)); judges = rw (eq-eqb tag tag refl) refl; value = record { status = 0x00; sense = None; len = length (command_reply status.Good None bytes) - 4 }; is = refl }
command_told status.CheckCondition (Some s) bytes tag place proper = by (read_sense (slice_range (command_reply status.CheckCondition (Some s) bytes) 4 22)) refl
  where
    counts : (r : Result Sense SenseFault) → Result (Result Reply SenseFault) LinkFault
    counts r = judged_reply 0x82 tag place (frame 0x82 0 tag (command_reply status.CheckCondition (Some s) bytes)) (checked_by r)

    by : (r : Result Sense SenseFault) → read_sense (slice_range (command_reply status.CheckCondition (Some s) bytes) 4 22) ≡ r → IsTold (answer_by place) 0x82 tag place (frame 0x82 0 tag (command_reply status.CheckCondition (Some s) bytes))
    by (Ok t) is =
        let right : counts (Ok t) ≡ Ok (Ok (reply.CheckCondition t)) = rw (eq-eqb tag tag refl) refl in
        record { said = Ok (reply.CheckCondition t); judges = ap (λ (r : Result Sense SenseFault). judged_reply 0x82 tag place (frame 0x82 0 tag (command_reply status.CheckCondition (Some s) bytes)) (checked_by r)) is ∙ right; value = record { status = 0x02; sense = Some t; len = 0 }; is = refl }
    by (Err e) is =
        let right : counts (Err e) ≡ Ok (Err e) = rw (eq-eqb tag tag refl) refl in
        record { said = Err e; judges = ap (λ (r : Result Sense SenseFault). judged_reply 0x82 tag place (frame 0x82 0 tag (command_reply status.CheckCondition (Some s) bytes)) (checked_by r)) is ∙ right; value = record { status = 0x02; sense = None; len = 0 }; is = refl }
command_told status.ReservationConflict None bytes tag place proper = record { said = Ok (reply.Other 0x18); judges = rw (eq-eqb tag tag refl) refl; value = record { status = 0x18; sense = None; len = 0 }; is = refl }
command_told status.TaskAborted None bytes tag place proper = record { said = Ok (reply.Other 0x40); judges = rw (eq-eqb tag tag refl) refl; value = record { status = 0x40; sense = None; len = 0 }; is = refl }
command_told status.Good (Some s) bytes tag place proper = absurd proper
command_told status.CheckCondition None bytes tag place proper = absurd proper
command_told status.ReservationConflict (Some s) bytes tag place proper = absurd proper
command_told status.TaskAborted (Some s) bytes tag place proper = absurd proper

-- Answers by their outcomes

-- the outcome GOOD is told as GOOD
pub good_answered : (old new : Link) (a : Answer) (s : Status) (sense : Option Sense) (bytes d : List ℕ) → Tells old new a s sense bytes → Ended s sense bytes ≡ good d → (a.status ≡ 0x00) × (attention_in a.sense ≡ None)
good_answered old new a status.Good None bytes d t is =
    let counted : Ok (Ok (reply.Good (length (command_reply status.Good None bytes) - 4))) ≡ Ok t.said = rw (eq-eqb old.tag old.tag refl) at t.judges in
    let same : t.said ≡ Ok (reply.Good (length (command_reply status.Good None bytes) - 4)) = cc in
    let answered : Ok (record { status = 0x00; sense = None; len = length (command_reply status.Good None bytes) - 4 }) ≡ Ok a = sym (ap (answer_by old.place) same) ∙ t.says in
    (sym (ap status_of answered), sym (ap (λ (r : Result Answer LinkFault). attention_in (sense_of r)) answered))
  where
    status_of : Result Answer LinkFault → ℕ
    status_of (Ok b) = b.status
    status_of (Err e) = 0

    sense_of : Result Answer LinkFault → Option Sense
    sense_of (Ok b) = b.sense
    sense_of (Err e) = None
good_answered old new a status.Good (Some x) bytes d t is = absurd cc
good_answered old new a status.CheckCondition sense bytes d t is = absurd cc
good_answered old new a status.ReservationConflict sense bytes d t is = absurd cc
good_answered old new a status.TaskAborted sense bytes d t is = absurd cc

-- a unit attention is told as what it is
pub attention_answered : (old new : Link) (a : Answer) (s : Status) (sense : Option Sense) (bytes : List ℕ) (c : Code) → Tells old new a s sense bytes → Ended s sense bytes ≡ checking c → c.key ≡ UNIT_ATTENTION → attention_in a.sense ≡ Some c
attention_answered old new a s sense bytes c t is key =
    let one : s ≡ status.CheckCondition = ap status_of is in
    let two : sense ≡ Some (record { code = c; info = None }) = ap sense_of is in
    let three : bytes ≡ [] = ap bytes_of is in
    let whole : Tells old new a status.CheckCondition (Some (record { code = c; info = None })) [] =
    subst (λ (b : List ℕ). Tells old new a status.CheckCondition (Some (record { code = c; info = None })) b) three
    (subst (λ (x : Option Sense). Tells old new a status.CheckCondition x bytes) two (subst (λ (x : Status). Tells old new a x sense bytes) one t)) in
    told whole
  where
    status_of : Out → Status
    status_of (Ended x y z) = x
    status_of _ = status.Good

    sense_of : Out → Option Sense
    sense_of (Ended x y z) = y
    sense_of _ = None

    bytes_of : Out → List ℕ
    bytes_of (Ended x y z) = z
    bytes_of _ = []

    answer_sense : Result Answer LinkFault → Option Sense
    answer_sense (Ok b) = b.sense
    answer_sense (Err e) = None

    told : Tells old new a status.CheckCondition (Some (record { code = c; info = None })) [] → attention_in a.sense ≡ Some c
    told x =
        let f : Frame = frame 0x82 0 old.tag (command_reply status.CheckCondition (Some (record { code = c; info = None })) []) in
        let read = (replies_back (reply.CheckCondition (record { code = c; info = None })) [] (subst (λ (k : ℕ). k < 16) (sym key) (lit< tt), tt) refl).1 in
        let judges : judged_reply 0x82 old.tag old.place f (Ok (reply.CheckCondition (record { code = c; info = None }))) ≡ Ok x.said = sym (ap (judged_reply 0x82 old.tag old.place f) read) ∙ x.judges in
        let counted : Ok (Ok (reply.CheckCondition (record { code = c; info = None }))) ≡ Ok x.said = rw (eq-eqb old.tag old.tag refl) at judges in
        let same : x.said ≡ Ok (reply.CheckCondition (record { code = c; info = None })) = cc in
        let answered : Ok (record { status = 0x02; sense = Some (record { code = c; info = None }); len = 0 }) ≡ Ok a = sym (ap (answer_by old.place) same) ∙ x.says in
        ap attention_in (sym (ap answer_sense answered)) ∙ ap (λ (b : Bool). if b then Some c else None) (eq-eqb c.key UNIT_ATTENTION key)

-- Calls that failed

-- a run may stop at a state of the initiator only where no count of the wire rose; and a lane that has more to do isn't left where the other side was found to have ended
pub record Course : Type 1 where
  pub claim : Claim
  pub sound : (w : World) (e : Entry) → claim.Follows w e → tells_failure e.out ≡ false
  pub start : ℕ
  pub Stops : Link → Type 0
  pub calm : (b : Link) → Stops b → Rose start b.faults → ⊥
  pub stuck : (b : Link) → Stops b → WasEnded b.talk → (w : World) (l : Lane) → (turn l ≡ Idle → ⊥) → claim.Holds w l

module _ (C : Course) where
  -- what was heard of a call that failed: a device that answers as its outcomes say can't have answered so
  pub record FailsSo {T : Type 0} (says : Result Reply SenseFault → Result T LinkFault) (asked : ℕ) (old new : Link) (sent : List ℕ) : Type 0 where
    pub heard : List ℕ
    pub goes : Goes old.talk new.talk sent heard
    pub leads :
        (w : World) (l : Lane) (n : Nexus) (act : Act) (next : Out → Turned) (lost : List ℕ) → turn l ≡ Asks n act next
        → ((out : Out) → C.claim.Follows w (entry 0 n act out) → (f : Frame) × ((later : List ℕ) → front Initiator ((next out).reply ++ later) ≡ Whole f later) × IsTold says asked old.tag old.place f)
        → (WasEnded new.talk → lost ≡ []) → Leads C.claim w l (heard ++ lost)

  never_idle : (l : Lane) (n : Nexus) (act : Act) (next : Out → Turned) → turn l ≡ Asks n act next → turn l ≡ Idle → ⊥
  never_idle l n act next asks idle = let never : Asks n act next ≡ Idle = sym asks ∙ idle in absurd cc

  -- a frame was heard that isn't the one that was said
  by_frame : {T : Type 0} (says : Result Reply SenseFault → Result T LinkFault) (asked : ℕ) (old new : Link) (sent heard : List ℕ) (f : Frame) → Goes old.talk new.talk sent heard → front Initiator heard ≡ Whole f []
      → (IsTold says asked old.tag old.place f → ⊥) → FailsSo says asked old new sent
  by_frame says asked old new sent heard f goes whole never =
      record {
        heard = heard;
        goes = goes;
        leads = λ w l n act next lost is told quiet.
            asks_leads C.claim w l (heard ++ lost) n act next is (λ none. absurd (some_heard C.claim heard lost f whole none))
            (λ out follows later same.
            let t = told out follows in
            let both = same_first heard lost (next out).reply later f t.0 whole (t.1 later) same in
            absurd (never (subst (IsTold says asked old.tag old.place) (sym both.0) t.2)));
      }

  nothing_broken : (bytes : List ℕ) (k : ℕ) → bytes ≡ [] → front Initiator bytes ≡ Broken k → ⊥
  unfolding front
  nothing_broken bytes k none is = let empty : front Initiator [] ≡ Broken k = sym (ap (front Initiator) none) ∙ is in absurd cc

  -- bytes that break a rule were heard
  by_broken : {T : Type 0} (says : Result Reply SenseFault → Result T LinkFault) (asked : ℕ) (old new : Link) (sent heard : List ℕ) (r : ℕ) → Goes old.talk new.talk sent heard → front Initiator heard ≡ Broken r → FailsSo says asked old new sent
  by_broken says asked old new sent heard r goes broken =
      record {
        heard = heard;
        goes = goes;
        leads = λ w l n act next lost is told quiet.
            asks_leads C.claim w l (heard ++ lost) n act next is (λ none. absurd (nothing_broken (heard ++ lost) r none (broken_more Initiator heard lost r broken)))
            (λ out follows later same.
            let t = told out follows in
            let never : Broken r ≡ Whole t.0 later = sym (broken_more Initiator heard lost r broken) ∙ ap (front Initiator) same ∙ t.1 later in
            absurd cc);
      }

  -- the connection ended before a frame was whole
  by_ended : {T : Type 0} (says : Result Reply SenseFault → Result T LinkFault) (asked : ℕ) (old new : Link) (sent heard : List ℕ) (lacks : ℕ) → C.Stops new → Goes old.talk new.talk sent heard → front Initiator heard ≡ Lacking lacks → WasEnded new.talk
      → FailsSo says asked old new sent
  by_ended says asked old new sent heard lacks stops goes short ended =
      record {
        heard = heard;
        goes = goes;
        leads = λ w l n act next lost is told quiet.
            asks_leads C.claim w l (heard ++ lost) n act next is (λ none. C.stuck new stops ended w l (never_idle l n act next is))
            (λ out follows later same.
            let t = told out follows in
            let all : heard ++ lost ≡ heard = ap (λ (x : List ℕ). heard ++ x) (quiet ended) ∙ append-nil heard in
            let never : Lacking lacks ≡ Whole t.0 later = sym short ∙ ap (front Initiator) (sym all ∙ same) ∙ t.1 later in
            absurd cc);
      }

  -- a reply was judged to be none that counts
  judged_odd : {T : Type 0} (says : Result Reply SenseFault → Result T LinkFault) (asked : ℕ) (old : Link) (f : Frame) (e : LinkFault) → judged asked old.tag old.place f ≡ Err e → IsTold says asked old.tag old.place f → ⊥
  judged_odd says asked old f e odd t = let never : Ok t.said ≡ Err e = sym t.judges ∙ odd in absurd cc

  pub call_fails : {T : Type 0} (says : Result Reply SenseFault → Result T LinkFault) (asked : ℕ) (old new : Link) (sent : List ℕ) (e : LinkFault) → C.start ≤ old.faults → C.Stops new → HasCalled says asked old new sent (Err e) → FailsSo says asked old new sent
  call_fails {T} says asked old new sent e since stops called = by called.answers.1.0 called.answers.1.1 called.answers.1.2
    where
      work : List ℕ
      work = called.answers.0

      rises : Rose old.faults new.faults → ⊥
      rises rose = C.calm new stops (omega (arith, since, rose))

      fails : (f : LinkFault) → answering.FailsToAsk asked old.tag old.place old.talk new.talk sent f → e ≡ f → FailsSo says asked old new sent
      fails fault.Down asks is = absurd (rises (called.down is))
      fails (fault.Ended at) (heard, lacks, goes, short, ended, same) is = by_ended says asked old new sent heard lacks stops goes short ended
      fails (fault.BadReply at reason) (heard, goes, inl broken) is = by_broken says asked old new sent heard reason goes broken.0
      fails (fault.BadReply at reason) (heard, goes, inr (f, whole, odd)) is = by_frame says asked old new sent heard f goes whole (judged_odd says asked old f (fault.BadReply at reason) odd)
      fails (fault.Rejected at reason) (heard, goes, f, whole, odd) is = by_frame says asked old new sent heard f goes whole (judged_odd says asked old f (fault.Rejected at reason) odd)
      fails (fault.Refused code) (heard, goes, f, whole, odd) is = by_frame says asked old new sent heard f goes whole (judged_odd says asked old f (fault.Refused code) odd)
      fails (fault.Attention code) (heard, goes, f, whole, odd) is = by_frame says asked old new sent heard f goes whole (judged_odd says asked old f (fault.Attention code) odd)

      by : (heard : Result _ LinkFault) → answering.Asks asked old.tag old.place old.talk new.talk sent heard work → Err e ≡ by_heard says heard → FailsSo says asked old new sent
      by (Ok h) (goes, f, whole, counts) is =
          by_frame says asked old new sent (take h.size work) f goes whole
          (λ t.
          let same : Ok h.reply ≡ Ok t.said = sym counts ∙ t.judges in
          let reply_same : h.reply ≡ t.said = cc in
          let never : Err e ≡ Ok t.value = is ∙ ap says reply_same ∙ t.is in
          absurd cc)
      by (Err f) asks is = fails f asks (let same : e ≡ f = cc in same)
