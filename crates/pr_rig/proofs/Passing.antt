-- Calls of an initiator to the device that answers them: what they show of its world.
use Rattle.std.proofs.Common.{◌≡◌, lit≤, ℕ, zero, suc, ◌==◌, ◌≤◌, ◌<◌, ◌^◌, inl, inr, Bool, true, false, List, [], ◌++◌, length, Option, refl, sym, ap, ◌∙◌, subst, append_assoc, arith}
use Rattle.std.specs.Prelude.{Result, Ok, Err, if◌then◌else◌}
use Rattle.std.proofs.lemmas.Bool.{eqb-true}
use Rattle.pr_words.specs.declared.code.Code.{Code}
use Rattle.pr_words.specs.declared.code.Sense.{Sense}
use Rattle.pr_words.specs.declared.code.Status.{Status}
use Rattle.pr_words.specs.declared.limits.TheConstants.{DATA, LIMIT}
use Rattle.pr_words.specs.declared.nexus.Nexus.{Nexus}
use Rattle.pr_grammar.specs.declared.sense.SenseFault.{SenseFault}
use Rattle.pr_grammar.specs.Bodies.{IsProperReply, command_head, command_reply}
use Rattle.pr_grammar.specs.Cdbs.{spelled_cdb}
use Rattle.pr_grammar.specs.Frames.{Frame, frame, spelled}
use Rattle.pr_model.specs.Commands.{good}
use Rattle.pr_model.specs.Entries.{Command, Ended, Entry, Out, entry}
use Rattle.pr_model.specs.Histories.{MayFollow, moved}
use Rattle.pr_model.specs.Lanes.{In, lane}
use Rattle.pr_model.specs.Registrants.{IsWellFormed}
use Rattle.pr_model.specs.Worlds.{World}
use Rattle.pr_model.proofs.WellFormed.{well_formed}
use Rattle.pr_model.proofs.Walk.{entry_keeps}
use Rattle.pr_link.specs.declared.reply.Reply.{Reply}
use Rattle.pr_initiator.specs.declared.answer.Answer.{Answer}
use Rattle.pr_initiator.specs.declared.link_fault.LinkFault.{LinkFault}
use Rattle.pr_initiator.specs.Calls.{answer_by}
use Rattle.pr_initiator.specs.Commands.{HasAnswered, IsReady, Order, order_bytes, plain_cdb, test_unit_ready}
use Rattle.pr_initiator.specs.Goings.{Goes}
use Rattle.pr_initiator.specs.Judging.{judged}
use Rattle.pr_initiator.specs.Links.{HasReplied, Link, data_in_by, next_tag}
use Rattle.pr_initiator.proofs.Going.{more, stays}
use Rattle.pr_fence.specs.declared.asked.Asked.{Asked}
use Rattle.pr_fence.specs.declared.fence_fault.FenceFault.{FenceFault}
use Rattle.pr_fence.specs.declared.fence_fault.FenceFault.TheVariants as fault
use Rattle.pr_fence.specs.Exits.{checked_by, good_by, judged_by}
use Rattle.pr_fence.specs.Steps.{Orders}
use Rattle.pr_rig.specs.Laws.{answered_good}
use Rattle.pr_rig.proofs.Hearing.{BeginsNothing, IsGood, good_answer}
use Rattle.pr_rig.proofs.Turning.{Claim, Leads, command_leads}

-- registrants are well formed, and stay so
abbrev pub Formed : World → Type 0
Formed w = IsWellFormed LIMIT w.standing

pub formed_on : (w : World) (e : Entry) → MayFollow w e → Formed w → Formed (moved w e)
formed_on w e may formed = entry_keeps (IsWellFormed LIMIT) (well_formed LIMIT) (λ s well. well) w e may formed

-- a command that begins no task, and can be spelled
pub record IsPlain (o : Order) : Type 0 where
  pub nothing : BeginsNothing (spelled_cdb (plain_cdb o.command))
  pub some : 1 ≤ length (spelled_cdb (plain_cdb o.command))
  pub few : length (spelled_cdb (plain_cdb o.command)) ≤ 16
  pub fits : length o.list ≤ DATA

pub order_spelled : (tag : ℕ) (o : Order) → order_bytes tag o ≡ spelled (frame 0x02 0 tag (command_head (spelled_cdb (plain_cdb o.command)) ++ o.list))
unfolding order_bytes
order_spelled tag o = refl

pub small_tag : (tag : ℕ) → next_tag tag < 2 ^ 32
small_tag tag = omega arith

abbrev done : Result (Unit {0}) FenceFault
done = Ok tt

-- an answer whose status is GOOD
pub good_status : (asked : Asked) (a : Answer) → good_by asked a ≡ Ok tt → a.status ≡ 0x00
good_status asked a is = by (a.status == 0x00) (a.status == 0x02) (a.status == 0x18) refl is
  where
    by : (b c d : Bool) → (a.status == 0x00) ≡ b
        → (if b then done else if c then Err (checked_by asked a.sense) else if d then Err (fault.Conflict asked) else Err (fault.OddStatus asked a.status)) ≡ done → a.status ≡ 0x00
    by true c d is_zero same = eqb-true a.status 0x00 is_zero
    by false true d is_zero same = absurd cc
    by false false true is_zero same = absurd cc
    by false false false is_zero same = absurd cc

-- an answer, by the outcome of which it tells
pub record Tells (old new : Link) (a : Answer) (s : Status) (sense : Option Sense) (bytes : List ℕ) : Type 0 where
  pub said : Result Reply SenseFault
  pub proper : IsProperReply s sense bytes
  pub judges : judged 0x82 old.tag old.place (frame 0x82 0 old.tag (command_reply s sense bytes)) ≡ Ok said
  pub says : answer_by old.place said ≡ Ok a
  pub received : new.received ≡ data_in_by said (command_reply s sense bytes)

-- one whose status is GOOD brings the data of the outcome GOOD
pub good_told : (old new : Link) (a : Answer) (s : Status) (sense : Option Sense) (bytes : List ℕ) → Tells old new a s sense bytes → a.status ≡ 0x00 → IsGood s sense bytes new.received
good_told old new a s sense bytes t ok =
    let g : IsGood s sense bytes (data_in_by t.said (command_reply s sense bytes)) = good_answer s sense bytes old.tag old.place t.said a t.proper t.judges t.says ok in
    record { out = g.out; same = t.received ∙ g.same }

module _ (C : Claim) (n : Nexus) where
  -- the initiator's bytes and what it heard lead a device that had it logged in from worlds of one kind to those of another
  pub record Passes (P Q : World → Type 0) (a b : Link) : Type 0 where
    pub sent : List ℕ
    pub heard : List ℕ
    pub goes : Goes a.talk b.talk sent heard
    pub tag : b.tag < 2 ^ 32
    pub later : a.faults ≤ b.faults
    pub leads :
        (w : World) (place : ℕ) (rest others : List ℕ) → P w → ((v : World) (there : ℕ) → Q v → Leads C v (lane rest (In n) there) others)
        → Leads C w (lane (sent ++ rest) (In n) place) (heard ++ others)

  pub joined : (P Q R : World → Type 0) (a b c : Link) → Passes P Q a b → Passes Q R b c → Passes P R a c
  joined P Q R a b c p q =
      record {
        sent = p.sent ++ q.sent;
        heard = p.heard ++ q.heard;
        goes = more a.talk b.talk c.talk p.sent q.sent p.heard q.heard p.goes q.goes;
        tag = q.tag;
        later = omega (arith, p.later, q.later);
        leads = λ w place rest others holds on.
            subst (λ (x : List ℕ). Leads C w (lane x (In n) place) ((p.heard ++ q.heard) ++ others)) (sym (append_assoc p.sent q.sent rest))
            (subst (λ (x : List ℕ). Leads C w (lane (p.sent ++ (q.sent ++ rest)) (In n) place) x) (sym (append_assoc p.heard q.heard others))
            (p.leads w place (q.sent ++ rest) (q.heard ++ others) holds (λ v there between. q.leads v there rest others between on)));
      }

  -- nothing was sent
  pub still : (P Q : World → Type 0) (a b : Link) → b ≡ a → a.tag < 2 ^ 32 → ((w : World) → P w → Q w) → Passes P Q a b
  still P Q a b same small so =
      record {
        sent = [];
        heard = [];
        goes = subst (λ (x : Link). Goes a.talk x.talk [] []) (sym same) (stays a.talk);
        tag = subst (λ (x : Link). x.tag < 2 ^ 32) (sym same) small;
        later = subst (λ (x : Link). a.faults ≤ x.faults) (sym same) (omega arith);
        leads = λ w place rest others holds on. on w place (so w holds);
      }

  -- a command was answered
  pub answered : (P Q : World → Type 0) (o : Order) (old new : Link) (a : Answer) → IsPlain o → old.tag < 2 ^ 32 → HasAnswered old new o (Ok a)
      → ((w : World) (s : Status) (sense : Option Sense) (bytes : List ℕ) → P w → C.Follows w (entry 0 n (Command 0 (spelled_cdb (plain_cdb o.command)) o.list) (Ended s sense bytes)) → Tells old new a s sense bytes
      → Q (moved w (entry 0 n (Command 0 (spelled_cdb (plain_cdb o.command)) o.list) (Ended s sense bytes)))) → Passes P Q old new
  answered P Q o old new a plain small called each =
      record {
        sent = spelled (frame 0x02 0 old.tag (command_head cdb ++ o.list));
        heard = heard.heard;
        goes = subst (λ (x : List ℕ). Goes old.talk new.talk x heard.heard) (order_spelled old.tag o) heard.goes;
        tag = subst (λ (x : ℕ). x < 2 ^ 32) (sym called.tag) (small_tag old.tag);
        later = called.later;
        leads = λ w place rest others holds on.
            command_leads C w n place old.tag cdb o.list rest heard.heard others heard.frame plain.some plain.few plain.fits small plain.nothing heard.whole
            (λ s sense bytes proper is may there. on _ there (each w s sense bytes holds may (told s sense bytes proper is)));
      }
    where
      cdb : List ℕ
      cdb = spelled_cdb (plain_cdb o.command)

      said : Result Reply SenseFault
      said = called.yields.0

      heard : HasReplied 0x82 old new (order_bytes old.tag o) said
      heard = called.yields.1

      told : (s : Status) (sense : Option Sense) (bytes : List ℕ) → IsProperReply s sense bytes → heard.frame ≡ frame 0x82 0 old.tag (command_reply s sense bytes) → Tells old new a s sense bytes
      told s sense bytes proper is =
          record {
            said = said;
            proper = proper;
            judges = subst (λ (f : Frame). judged 0x82 old.tag old.place f ≡ Ok said) is heard.judged;
            says = called.yields.2;
            received = heard.received ∙ ap (λ (f : Frame). data_in_by said f.body) is;
          }

  -- a command was answered GOOD, with these data
  pub ordered : (P Q : World → Type 0) (asked : Asked) (o : Order) (old new : Link) → IsPlain o → old.tag < 2 ^ 32 → Orders asked o old new (Ok tt)
      → ((w : World) → P w → C.Follows w (answered_good 0 n o o.list new.received) → Q (moved w (answered_good 0 n o o.list new.received))) → Passes P Q old new
  ordered P Q asked o old new plain small (Ok a, called, is) each =
      answered P Q o old new a plain small called
      (λ w s sense bytes holds may told.
      let g : IsGood s sense bytes new.received = good_told old new a s sense bytes told (good_status asked a (sym is)) in
      let out : Ended s sense bytes ≡ good new.received = g.out ∙ ap good (sym g.same) in
      subst (λ (x : Out). C.Follows w (entry 0 n (Command 0 (spelled_cdb (plain_cdb o.command)) o.list) x) → Q (moved w (entry 0 n (Command 0 (spelled_cdb (plain_cdb o.command)) o.list) x))) (sym out) (each w holds) may)
  ordered P Q asked o old new plain small (Err e, called, is) each = absurd cc

  pub ready_plain : IsPlain test_unit_ready
  ready_plain = record { nothing = λ w m lun sent. record { status = _; sense = _; bytes = []; is = refl; proper = lit≤ tt }; some = lit≤ tt; few = lit≤ tt; fits = lit≤ tt }

  asks_ready : (old new : Link) (a : Answer) → old.tag < 2 ^ 32 → HasAnswered old new test_unit_ready (Ok a) → Passes Formed Formed old new
  asks_ready old new a small called = answered Formed Formed test_unit_ready old new a ready_plain small called
      (λ w s sense bytes formed may told. formed_on w (entry 0 n (Command 0 (spelled_cdb (plain_cdb test_unit_ready.command)) test_unit_ready.list) (Ended s sense bytes)) (C.may w (entry 0 n (Command 0 (spelled_cdb (plain_cdb test_unit_ready.command)) test_unit_ready.list) (Ended s sense bytes)) may) formed)

  -- a target that is ready in the end
  pub readied : (left : ℕ) (last : Code) (asked : Asked) (old new : Link) (r : Result Answer LinkFault) → old.tag < 2 ^ 32 → IsReady left last old new r → Ok tt ≡ judged_by asked r → Passes Formed Formed old new
  unfolding IsReady
  readied zero last asked old new r small (same, tired) is = absurd (let never : Ok tt ≡ Err _ = is ∙ ap (judged_by asked) tired in cc)
  readied (suc left) last asked old new (Ok a) small (inl (called, none)) is = asks_ready old new a small called
  readied (suc left) last asked old new (Err e) small (inl (called, none)) is = absurd cc
  readied (suc left) last asked old new r small (inr (mid, a, code, called, some, later)) is =
      joined Formed Formed Formed old mid new (asks_ready old mid a small called) (readied left code asked mid new r (asks_ready old mid a small called).tag later is)
