-- What a reply that was heard tells of the outcome that it was made of.
use Rattle.std.proofs.Common.{◌≡◌, ℕ, ◌-◌, ◌==◌, ◌≤◌, ⊎_elim, Bool, true, false, List, [], ◌++◌, length, Option, Some, None, refl, sym, ap, ◌∙◌, subst, arith}
use Rattle.std.specs.Prelude.{Result, Ok, Err, slice_range, if◌then◌else◌}
use Rattle.std.proofs.lemmas.Bool.{eq-eqb}
use Rattle.pr_words.specs.declared.limits.TheConstants.{DATA}
use Rattle.pr_words.specs.declared.nexus.Nexus.{Nexus}
use Rattle.pr_words.specs.declared.nexus.Side.TheVariants.{Initiator}
use Rattle.pr_words.specs.declared.code.Code.{Code}
use Rattle.pr_words.specs.declared.code.Sense.{Sense}
use Rattle.pr_words.specs.declared.code.Status.{Status}
use Rattle.pr_words.specs.declared.code.Status.TheVariants as status
use Rattle.pr_grammar.specs.declared.sense.SenseFault.{SenseFault}
use Rattle.pr_grammar.specs.Bodies.{IsProperReply, command_reply, login_reply}
use Rattle.pr_grammar.specs.Cdbs.{operation_code, command_of}
use Rattle.pr_grammar.specs.Frames.{Frame, Whole, frame, front}
use Rattle.pr_grammar.specs.Senses.{read_sense}
use Rattle.pr_grammar.proofs.Framings.{whole_more}
use Rattle.pr_model.specs.Commands.{Answer, answered, checking, conflict, good, served}
use Rattle.pr_model.specs.Entries.{Out, Ended, Command, entry}
use Rattle.pr_model.specs.Histories.{MayFollow}
use Rattle.pr_model.specs.Worlds.{World}
use Rattle.pr_model.proofs.Checked.{answer_fits, reported}
use Rattle.pr_link.specs.declared.reply.Reply.{Reply}
use Rattle.pr_link.specs.declared.reply.Reply.TheVariants as reply
use Rattle.pr_link.specs.Replies.{checked_by}
use Rattle.pr_initiator.specs.declared.answer.Answer as answers
use Rattle.pr_initiator.specs.declared.link_fault.LinkFault.{LinkFault}
use Rattle.pr_initiator.specs.declared.link_fault.LinkFault.TheVariants as fault
use Rattle.pr_initiator.specs.Calls.{answer_by, login_by}
use Rattle.pr_initiator.specs.Judging.{judged, judged_reply}
use Rattle.pr_initiator.specs.Links.{data_in_by}

-- what was heard first is what was said first
pub same_first : (heard others bytes rest : List ℕ) (f g : Frame) → front Initiator heard ≡ Whole f [] → front Initiator (bytes ++ rest) ≡ Whole g rest → heard ++ others ≡ bytes ++ rest → (f ≡ g) × (others ≡ rest)
same_first heard others bytes rest f g whole said same =
    let both : Whole f others ≡ Whole g rest = sym (whole_more Initiator heard others f [] whole) ∙ ap (front Initiator) same ∙ said in
    (cc, cc)

-- a command's outcome that a reply can tell
pub record IsEnded (out : Out) : Type 0 where
  pub status : Status
  pub sense : Option Sense
  pub bytes : List ℕ
  pub is : out ≡ Ended status sense bytes
  pub proper : IsProperReply status sense bytes

pub checking_ends : (c : Code) → IsEnded (checking c)
checking_ends c = record { status = status.CheckCondition; sense = Some (record { code = c; info = None }); bytes = []; is = refl; proper = refl }

pub conflict_ends : IsEnded conflict
conflict_ends = record { status = status.ReservationConflict; sense = None; bytes = []; is = refl; proper = refl }

pub good_ends : (bytes : List ℕ) → length bytes ≤ DATA → IsEnded (good bytes)
good_ends bytes few = record { status = status.Good; sense = None; bytes = bytes; is = refl; proper = few }

-- a command that begins no task, by its bytes
abbrev pub BeginsNothing : List ℕ → Type 0
BeginsNothing cdb = (w : World) (n : Nexus) (lun : ℕ) (sent : List ℕ) → IsEnded (served w n lun (command_of (operation_code cdb) cdb) sent).out

answer_ends : (w : World) (n : Nexus) (lun : ℕ) (cdb sent : List ℕ) → BeginsNothing cdb → IsEnded (answered w n lun cdb sent).out
answer_ends w n lun cdb sent nothing =
    answer_fits (λ (a : Answer). IsEnded a.out) w checking_ends n lun cdb sent conflict_ends (λ a at. reported w n (operation_code cdb) (w.attentions n) (λ (b : Answer). IsEnded b.out) (λ c rest. checking_ends c) a at)
    (λ free. nothing w n lun sent)

pub command_ends : (w : World) (n : Nexus) (lun : ℕ) (cdb sent : List ℕ) (out : Out) → BeginsNothing cdb → MayFollow w (entry 0 n (Command lun cdb sent) out) → IsEnded out
command_ends w n lun cdb sent out nothing may =
    ⊎_elim (λ same. subst IsEnded (sym same) (answer_ends w n lun cdb sent nothing)) (λ unsaved. subst IsEnded (sym unsaved.1) (checking_ends _)) may.2

-- A reply by its frame

abbrev status_in : Result answers.Answer LinkFault → ℕ
status_in (Ok a) = a.status
status_in (Err e) = 0

-- an answer with another status than GOOD
odd : (place n : ℕ) (r said : Result Reply SenseFault) (a : answers.Answer) → status_in (answer_by place r) ≡ n → (n ≡ 0 → ⊥) → said ≡ r → answer_by place said ≡ Ok a → a.status ≡ 0x00 → ⊥
odd place n r said a is other same answered zero =
    other (sym is ∙ sym (ap (λ (x : Result Reply SenseFault). status_in (answer_by place x)) same) ∙ ap status_in answered ∙ zero)

-- an answer that is GOOD comes of the outcome GOOD, and brings just its data
pub record IsGood (s : Status) (sense : Option Sense) (bytes received : List ℕ) : Type 0 where
  pub out : Ended s sense bytes ≡ good bytes
  pub same : received ≡ bytes

pub good_answer : (s : Status) (sense : Option Sense) (bytes : List ℕ) (tag place : ℕ) (said : Result Reply SenseFault) (a : answers.Answer) → IsProperReply s sense bytes
    → judged 0x82 tag place (frame 0x82 0 tag (command_reply s sense bytes)) ≡ Ok said → answer_by place said ≡ Ok a → a.status ≡ 0x00 → IsGood s sense bytes (data_in_by said (command_reply s sense bytes))
good_answer status.Good None bytes tag place said a proper is answered zero =
    let counted : Ok (Ok (reply.Good (length (command_reply status.Good None bytes) - 4))) ≡ Ok said = rw (eq-eqb tag tag refl) at is in
    let same : said ≡ Ok (reply.Good (length (command_reply status.Good None bytes) - 4)) = cc in
    record { out = refl; same = ap (λ (r : Result Reply SenseFault). data_in_by r (command_reply status.Good None bytes)) same }
good_answer status.CheckCondition (Some s) bytes tag place said a proper is answered zero =
    absurd (by (read_sense (slice_range (command_reply status.CheckCondition (Some s) bytes) 4 22)) is)
  where
    by : (r : Result Sense SenseFault) → judged_reply 0x82 tag place (frame 0x82 0 tag (command_reply status.CheckCondition (Some s) bytes)) (checked_by r) ≡ Ok said → ⊥
    by (Ok t) judges =
        let counted : Ok (Ok (reply.CheckCondition t)) ≡ Ok said = rw (eq-eqb tag tag refl) at judges in
        let same : said ≡ Ok (reply.CheckCondition t) = cc in
        odd place 2 (Ok (reply.CheckCondition t)) said a refl (λ e. absurd (omega (arith, e))) same answered zero
    by (Err e) judges =
        let counted : Ok (Err e) ≡ Ok said = rw (eq-eqb tag tag refl) at judges in
        let same : said ≡ Err e = cc in
        odd place 2 (Err e) said a refl (λ e. absurd (omega (arith, e))) same answered zero
good_answer status.ReservationConflict None bytes tag place said a proper is answered zero =
    let counted : Ok (Ok (reply.Other 0x18)) ≡ Ok said = rw (eq-eqb tag tag refl) at is in
    let same : said ≡ Ok (reply.Other 0x18) = cc in
    absurd (odd place 0x18 (Ok (reply.Other 0x18)) said a refl (λ e. absurd (omega (arith, e))) same answered zero)
good_answer status.TaskAborted None bytes tag place said a proper is answered zero =
    let counted : Ok (Ok (reply.Other 0x40)) ≡ Ok said = rw (eq-eqb tag tag refl) at is in
    let same : said ≡ Ok (reply.Other 0x40) = cc in
    absurd (odd place 0x40 (Ok (reply.Other 0x40)) said a refl (λ e. absurd (omega (arith, e))) same answered zero)
good_answer status.Good (Some s) bytes tag place said a proper is answered zero = absurd proper
good_answer status.CheckCondition None bytes tag place said a proper is answered zero = absurd proper
good_answer status.ReservationConflict (Some s) bytes tag place said a proper is answered zero = absurd proper
good_answer status.TaskAborted (Some s) bytes tag place said a proper is answered zero = absurd proper

abbrev done : Result (Unit {0}) LinkFault
done = Ok tt

-- a Login that was accepted was answered with code 0
pub accepted : (c tag place : ℕ) (said : Result Reply SenseFault) → judged 0x81 tag place (frame 0x81 0 tag (login_reply c)) ≡ Ok said → login_by place said ≡ Ok tt → (c == 0) ≡ true
accepted c tag place said is says =
    let counted : Ok (Ok (reply.Login c)) ≡ Ok said = rw (eq-eqb tag tag refl) at is in
    let same : said ≡ Ok (reply.Login c) = cc in
    by (c == 0) (sym (ap (login_by place) same) ∙ says)
  where
    by : (b : Bool) → (if b then done else Err (fault.Refused c)) ≡ done → b ≡ true
    by true e = refl
    by false e = absurd cc
