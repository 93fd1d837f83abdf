-- Steps of the agent's work, each of which is answered as a device's world has it: how the world goes on, or that it can't have failed.
use Rattle.std.proofs.Common.{◌≡◌, lit<, ◌^◌, ◌<◌, ◌≤◌, ◌&&◌, ℕ, ⊎_elim, Bool, true, false, List, [], ◌++◌, Option, refl, sym, ap, ◌∙◌, subst, append_assoc, append-nil, arith}
use Rattle.std.specs.Prelude.{Result, Ok, Err, if◌then◌else◌}
use Rattle.std.proofs.lemmas.Bool.{eq-eqb}
use Rattle.pr_words.specs.declared.code.Sense.{Sense}
use Rattle.pr_words.specs.declared.code.Status.{Status}
use Rattle.pr_words.specs.declared.nexus.Nexus.{Nexus}
use Rattle.pr_words.specs.declared.nexus.Side.TheVariants.{Initiator}
use Rattle.pr_grammar.specs.Bodies.{command_head, command_reply}
use Rattle.pr_grammar.specs.Frames.{Frame, Whole, frame, front, spelled}
use Rattle.pr_model.specs.Commands as commands
use Rattle.pr_model.specs.Commands.{answered as answer_to, good}
use Rattle.pr_model.specs.Entries.{Command, Ended, Left, Logout, Out, entry}
use Rattle.pr_model.specs.Histories.{MayFollow, moved}
use Rattle.pr_model.specs.Lanes.{Asks, In, Turned, after_command, after_logout, dead, lane, place_after, turn}
use Rattle.pr_model.specs.Saving.{asks_to_save, doubted, tells_failure}
use Rattle.pr_model.specs.Worlds.{World}
use Rattle.pr_link.specs.declared.reply.Reply.TheVariants as reply
use Rattle.pr_link.proofs.Replies.{replies_kept, reply_kept}
use Rattle.pr_initiator.specs.declared.answer.Answer.{Answer}
use Rattle.pr_initiator.specs.declared.link_fault.LinkFault.{LinkFault}
use Rattle.pr_initiator.specs.Calls.{answer_by, logout_by}
use Rattle.pr_initiator.specs.Commands.{HasAnswered, Order, order_bytes}
use Rattle.pr_initiator.specs.Goings.{Goes, WasEnded}
use Rattle.pr_initiator.specs.Links.{Link}
use Rattle.pr_initiator.specs.Logins.{HasLoggedOut}
use Rattle.pr_initiator.proofs.Going.{more}
use Rattle.pr_fence.specs.declared.asked.Asked.{Asked}
use Rattle.pr_fence.specs.declared.fence_fault.FenceFault.{FenceFault}
use Rattle.pr_fence.specs.Exits.{good_by}
use Rattle.pr_fence.specs.Steps.{Gives, Leaves, Orders, Reads, Then, Unless, Where, Work}
use Rattle.pr_rig.proofs.Answered.{same_told}
use Rattle.pr_rig.proofs.Failing.{Course, FailsSo, IsTold, call_fails, command_told, good_answered}
use Rattle.pr_rig.proofs.Granting.{cdb_of}
use Rattle.pr_rig.proofs.Hearing.{IsEnded, IsGood, command_ends}
use Rattle.pr_rig.proofs.Passing.{IsPlain, Passes, Tells, answered, good_status, good_told, joined, order_spelled, small_tag, still}
use Rattle.pr_rig.proofs.Turning.{Leads, command_turn, logout_leads, logout_turn}

abbrev order_frame : ℕ → Order → Frame
order_frame tag o = frame 0x02 0 tag (command_head (cdb_of o) ++ o.list)

module _ (C : Course) (n : Nexus) where
  -- whatever device answered from such a world on, it can't have answered so
  pub record Fails (P : World → Type 0) (a b : Link) : Type 0 where
    pub sent : List ℕ
    pub heard : List ℕ
    pub goes : Goes a.talk b.talk sent heard
    pub leads : (w : World) (place : ℕ) (lost : List ℕ) → P w → (WasEnded b.talk → lost ≡ []) → Leads C.claim w (lane sent (In n) place) (heard ++ lost)

  pub fails_on : (P Q : World → Type 0) (a b c : Link) → Passes C.claim n P Q a b → Fails Q b c → Fails P a c
  fails_on P Q a b c p f =
      record {
        sent = p.sent ++ f.sent;
        heard = p.heard ++ f.heard;
        goes = more a.talk b.talk c.talk p.sent f.sent p.heard f.heard p.goes f.goes;
        leads = λ w place lost holds quiet.
            subst (λ (x : List ℕ). Leads C.claim w (lane (p.sent ++ f.sent) (In n) place) x) (sym (append_assoc p.heard f.heard lost))
            (p.leads w place f.sent (f.heard ++ lost) holds (λ v there between. f.leads v there lost between quiet));
      }

  pub fails_never : (P : World → Type 0) (a b : Link) → Passes C.claim n P (λ w. ⊥) a b → Fails P a b
  fails_never P a b p =
      record {
        sent = p.sent;
        heard = p.heard;
        goes = p.goes;
        leads = λ w place lost holds quiet.
            subst (λ (x : List ℕ). Leads C.claim w (lane x (In n) place) (p.heard ++ lost)) (append-nil p.sent) (p.leads w place [] lost holds (λ v there never. absurd never));
      }

  -- what comes of a step: worlds of one kind are followed by those of another; or the run can't have stopped here
  abbrev pub Comes : {T : Type 0} → (World → Type 0) → (T → World → Type 0) → Link → Link → Result T FenceFault → Type 0
  Comes P Q a b (Ok v) = Passes C.claim n P (Q v) a b
  Comes P Q a b (Err e) = C.Stops b → Fails P a b

  pub record IsAt (a : Link) : Type 0 where
    pub small : a.tag < 2 ^ 32
    pub since : C.start ≤ a.faults

  pub at_next : (P Q : World → Type 0) (a b : Link) → IsAt a → Passes C.claim n P Q a b → IsAt b
  at_next P Q a b at p = record { small = p.tag; since = omega (arith, at.since, p.later) }

  abbrev pub Steps : {T : Type 0} → (World → Type 0) → (T → World → Type 0) → Work T → Type 0
  Steps {T} P Q work = (a b : Link) (r : Result T FenceFault) → IsAt a → work a b r → Comes P Q a b r

  pub then_steps : {T U : Type 0} (P : World → Type 0) (Q : T → World → Type 0) (R : U → World → Type 0) (first : Work T) (next : T → Work U) → Steps P Q first → ((v : T) → Steps (Q v) R (next v)) → Steps P R (Then first next)
  then_steps {T} {U} P Q R first next f g a b r at (mid, Ok v, one, on) = by r (g v mid b r (at_next P (Q v) a mid at p) on)
    where
      p : Passes C.claim n P (Q v) a mid
      p = f a mid (Ok v) at one

      by : (x : Result U FenceFault) → Comes (Q v) R mid b x → Comes P R a b x
      by (Ok u) q = joined C.claim n P (Q v) (R u) a mid b p q
      by (Err e) q = λ stops. fails_on P (Q v) a mid b p (q stops)
  then_steps {T} {U} P Q R first next f g a b r at (mid, Err e, one, (same, is)) =
      subst (λ (x : Result U FenceFault). Comes P R a b x) (sym is) (λ stops. subst (λ (x : Link). Fails P a x) (sym same) (f a mid (Err e) at one (subst C.Stops same stops)))

  pub gives_steps : {T : Type 0} (P : World → Type 0) (Q : T → World → Type 0) (v : T) → ((w : World) → P w → Q v w) → Steps P Q (Gives (Ok v))
  gives_steps {T} P Q v so a b r at (same, is) = subst (λ (x : Result T FenceFault). Comes P Q a b x) (sym is) (still C.claim n P (Q v) a b same at.small so)

  pub gives_never : {T : Type 0} (P : World → Type 0) (Q : T → World → Type 0) (e : FenceFault) → ((w : World) → P w → ⊥) → Steps P Q (Gives (Err e))
  gives_never {T} P Q e never a b r at (same, is) = subst (λ (x : Result T FenceFault). Comes P Q a b x) (sym is) (λ stops. fails_never P a b (still C.claim n P (λ w. ⊥) a b same at.small never))

  pub unless_steps : (P Q : World → Type 0) (needless : Bool) (step : Work Unit) → (needless ≡ true → (w : World) → P w → Q w) → (needless ≡ false → Steps P (λ u. Q) step) → Steps P (λ u. Q) (Unless needless step)
  unless_steps P Q true step so steps = gives_steps P (λ u. Q) tt (so refl)
  unless_steps P Q false step so steps = steps refl

  pub where_steps : (P Q : World → Type 0) (cause : Bool) (step : Work Unit) → (cause ≡ false → (w : World) → P w → Q w) → (cause ≡ true → Steps P (λ u. Q) step) → Steps P (λ u. Q) (Where cause step)
  where_steps P Q true step so steps = steps refl
  where_steps P Q false step so steps = gives_steps P (λ u. Q) tt (so refl)

  -- Commands

  -- the command was served: its outcome is its answer's
  pub record IsServedSo (w : World) (o : Order) (out : Out) : Type 0 where
    pub ends : out ≡ (answer_to w n 0 (cdb_of o) o.list).out
    pub world : moved w (entry 0 n (Command 0 (cdb_of o) o.list) out) ≡ (answer_to w n 0 (cdb_of o) o.list).world

  pub served_so : (w : World) (o : Order) (out : Out) → C.claim.Follows w (entry 0 n (Command 0 (cdb_of o) o.list) out) → IsServedSo w o out
  served_so w o out follows =
      record {
        ends = ⊎_elim (λ same. same) (λ unsaved. absurd (let never : true ≡ false = sym (ap tells_failure unsaved.1) ∙ sound in cc)) may.2;
        world = ap (λ (b : Bool). if b && asks_to_save w a then doubted w a else a.world) sound;
      }
    where
      a : commands.Answer
      a = answer_to w n 0 (cdb_of o) o.list

      may : MayFollow w (entry 0 n (Command 0 (cdb_of o) o.list) out)
      may = C.claim.may w (entry 0 n (Command 0 (cdb_of o) o.list) out) follows

      sound : tells_failure out ≡ false
      sound = C.sound w (entry 0 n (Command 0 (cdb_of o) o.list) out) follows

  -- a command of which no reply counts
  pub unanswered : (P : World → Type 0) (o : Order) (a b : Link) (e : LinkFault) → IsPlain o → IsAt a → C.Stops b → HasAnswered a b o (Err e) → Fails P a b
  unanswered P o a b e plain at stops called =
      record {
        sent = spelled (order_frame a.tag o);
        heard = fails.heard;
        goes = subst (λ (x : List ℕ). Goes a.talk b.talk x fails.heard) (order_spelled a.tag o) fails.goes;
        leads = λ w place lost holds quiet.
            fails.leads w (lane (spelled (order_frame a.tag o)) (In n) place) n (Command 0 (cdb_of o) o.list) (next place) lost
            (subst (λ (x : List ℕ). turn (lane x (In n) place) ≡ Asks n (Command 0 (cdb_of o) o.list) (next place)) (append-nil (spelled (order_frame a.tag o)))
            (command_turn C.claim n place a.tag (cdb_of o) o.list [] plain.some plain.few plain.fits at.small))
            (told w place) quiet;
      }
    where
      fails : FailsSo C (answer_by a.place) 0x82 a b (order_bytes a.tag o)
      fails = call_fails C (answer_by a.place) 0x82 a b (order_bytes a.tag o) e at.since stops called

      next : ℕ → Out → Turned
      next place = after_command n (order_frame a.tag o) [] (place_after place (order_frame a.tag o))

      told : (w : World) (place : ℕ) (out : Out) → C.claim.Follows w (entry 0 n (Command 0 (cdb_of o) o.list) out)
          → (f : Frame) × ((later : List ℕ) → front Initiator ((next place out).reply ++ later) ≡ Whole f later) × IsTold (answer_by a.place) 0x82 a.tag a.place f
      told w place out follows =
          let e : IsEnded out = command_ends w n 0 (cdb_of o) o.list out plain.nothing (C.claim.may w (entry 0 n (Command 0 (cdb_of o) o.list) out) follows) in
          subst (λ (x : Out). (f : Frame) × ((later : List ℕ) → front Initiator ((next place x).reply ++ later) ≡ Whole f later) × IsTold (answer_by a.place) 0x82 a.tag a.place f) (sym e.is) (
            frame 0x82 0 a.tag (command_reply e.status e.sense e.bytes),
            (λ later. (reply_kept e.status e.sense e.bytes e.proper).1 0 a.tag later (lit< tt) at.small),
            command_told e.status e.sense e.bytes a.tag a.place e.proper,
          )

  pub good_ok : (asked : Asked) (a : Answer) → a.status ≡ 0x00 → good_by asked a ≡ Ok tt
  good_ok asked a ok = rw (eq-eqb a.status 0x00 ok) refl

  -- a command that is answered GOOD, with these data
  pub record IsGranted (P : World → Type 0) (o : Order) : Type 0 where
    pub plain : IsPlain o
    pub told : World → List ℕ
    pub good : (w : World) → P w → (answer_to w n 0 (cdb_of o) o.list).out ≡ good (told w)

  pub orders_steps : (P Q : World → Type 0) (asked : Asked) (o : Order) (g : IsGranted P o) → ((w : World) → P w → Q (answer_to w n 0 (cdb_of o) o.list).world) → Steps P (λ u. Q) (Orders asked o)
  orders_steps P Q asked o g so a b r at (Err e, called, is) = subst (λ (x : Result Unit FenceFault). Comes P (λ u. Q) a b x) (sym is) (λ stops. unanswered P o a b e g.plain at stops called)
  orders_steps P Q asked o g so a b r at (Ok x, called, is) = by r is
    where
      by : (y : Result (Unit {0}) FenceFault) → y ≡ good_by asked x → Comes P (λ (u : Unit {0}). Q) a b y
      by (Ok u) same =
          answered C.claim n P Q o a b x g.plain at.small called
          (λ w s sense bytes holds follows told.
          let served = served_so w o (Ended s sense bytes) follows in
          subst Q (sym served.world) (so w holds))
      by (Err e) same =
          λ stops. fails_never P a b
          (answered C.claim n P (λ w. ⊥) o a b x g.plain at.small called
          (λ w s sense bytes holds follows told.
          let served = served_so w o (Ended s sense bytes) follows in
          let ok = (good_answered a b x s sense bytes (g.told w) told (served.ends ∙ g.good w holds)).0 in
          let never : Err e ≡ Ok tt = same ∙ good_ok asked x ok in
          absurd cc))

  -- and whose data say something
  pub reads_steps : {T : Type 0} (P : World → Type 0) (Q : T → World → Type 0) (asked : Asked) (o : Order) (says : List ℕ → Result T FenceFault) (g : IsGranted P o) (value : World → T) → ((w : World) → P w → says (g.told w) ≡ Ok (value w))
      → ((w : World) → P w → Q (value w) (answer_to w n 0 (cdb_of o) o.list).world) → Steps P Q (Then (Orders asked o) (λ u. Reads says))
  reads_steps {T} P Q asked o says g value tells so a b r at (mid, Err e, one, (same, is)) =
      subst (λ (x : Result T FenceFault). Comes P Q a b x) (sym is)
      (λ stops. subst (λ (x : Link). Fails P a x) (sym same) (orders_steps P (λ w. Unit {0}) asked o g (λ w holds. tt) a mid (Err e) at one (subst C.Stops same stops)))
  reads_steps {T} P Q asked o says g value tells so a b r at (mid, Ok u, (Err e, called, bad), (same, is)) = absurd cc
  reads_steps {T} P Q asked o says g value tells so a b r at (mid, Ok u, (Ok x, called, ok), (same, is)) = by r is
    where
      brought : (w : World) (s : Status) (sense : Option Sense) (bytes : List ℕ) → P w → C.claim.Follows w (entry 0 n (Command 0 (cdb_of o) o.list) (Ended s sense bytes)) → Tells a mid x s sense bytes → says mid.received ≡ Ok (value w)
      brought w s sense bytes holds follows told =
          let served = served_so w o (Ended s sense bytes) follows in
          let d : IsGood s sense bytes mid.received = good_told a mid x s sense bytes told (good_status asked x (sym ok)) in
          ap says (d.same ∙ same_told bytes (g.told w) (sym d.out ∙ served.ends ∙ g.good w holds)) ∙ tells w holds

      by : (y : Result T FenceFault) → y ≡ says mid.received → Comes P Q a b y
      by (Ok v) says_so =
          subst (λ (z : Link). Passes C.claim n P (Q v) a z) (sym same)
          (answered C.claim n P (Q v) o a mid x g.plain at.small called
          (λ w s sense bytes holds follows told.
          let served = served_so w o (Ended s sense bytes) follows in
          let both : Ok v ≡ Ok (value w) = says_so ∙ brought w s sense bytes holds follows told in
          let value_is : v ≡ value w = cc in
          subst (λ (y : T). Q y (moved w (entry 0 n (Command 0 (cdb_of o) o.list) (Ended s sense bytes)))) (sym value_is) (subst (Q (value w)) (sym served.world) (so w holds))))
      by (Err e) says_so =
          λ stops. subst (λ (z : Link). Fails P a z) (sym same)
          (fails_never P a mid
          (answered C.claim n P (λ w. ⊥) o a mid x g.plain at.small called
          (λ w s sense bytes holds follows told.
          let never : Err e ≡ Ok (value w) = says_so ∙ brought w s sense bytes holds follows told in
          absurd cc)))

  -- The end of a conversation

  -- a Logout was answered
  pub record Closed (P : World → Type 0) (a b : Link) : Type 0 where
    pub sent : List ℕ
    pub heard : List ℕ
    pub goes : Goes a.talk b.talk sent heard
    pub tag : b.tag < 2 ^ 32
    pub later : a.faults ≤ b.faults
    pub leads : (w : World) (place : ℕ) (lost : List ℕ) → P w → Leads C.claim w (lane sent (In n) place) (heard ++ lost)

  -- behind a Logout from worlds of a kind the claim holds
  abbrev pub MayRest : (World → Type 0) → Type 0
  MayRest Last = (w : World) → Last w → C.claim.Follows w (entry 0 n Logout Left) → C.claim.Holds (moved w (entry 0 n Logout Left)) dead

  logged_out : (P : World → Type 0) (a b : Link) → IsAt a → HasLoggedOut a b (Ok tt) → MayRest P → Closed P a b
  logged_out P a b at called rests =
      record {
        sent = spelled (frame 0x03 0 a.tag []);
        heard = called.yields.1.heard;
        goes = called.yields.1.goes;
        tag = subst (λ (x : ℕ). x < 2 ^ 32) (sym called.tag) (small_tag a.tag);
        later = called.later;
        leads = λ w place lost holds.
            subst (λ (x : List ℕ). Leads C.claim w (lane x (In n) place) (called.yields.1.heard ++ lost)) (append-nil (spelled (frame 0x03 0 a.tag [])))
            (logout_leads C.claim w n place a.tag [] called.yields.1.heard lost called.yields.1.frame at.small called.yields.1.whole (rests w holds));
      }

  not_logged_out : (P : World → Type 0) (a b : Link) (e : LinkFault) → IsAt a → C.Stops b → HasLoggedOut a b (Err e) → Fails P a b
  not_logged_out P a b e at stops called =
      record {
        sent = spelled (frame 0x03 0 a.tag []);
        heard = fails.heard;
        goes = fails.goes;
        leads = λ w place lost holds quiet.
            fails.leads w (lane (spelled (frame 0x03 0 a.tag [])) (In n) place) n Logout (λ _. after_logout (frame 0x03 0 a.tag [])) lost
            (subst (λ (x : List ℕ). turn (lane x (In n) place) ≡ Asks n Logout (λ _. after_logout (frame 0x03 0 a.tag []))) (append-nil (spelled (frame 0x03 0 a.tag [])))
            (logout_turn C.claim n place a.tag [] at.small))
            (λ out follows. (frame 0x83 0 a.tag [], (λ later. replies_kept.logouts.1 0 a.tag later (lit< tt) at.small), record { said = Ok reply.Logout; judges = rw (eq-eqb a.tag a.tag refl) refl; value = tt; is = refl })) quiet;
      }
    where
      fails : FailsSo C (logout_by a.place) 0x83 a b (spelled (frame 0x03 0 a.tag []))
      fails = call_fails C (logout_by a.place) 0x83 a b (spelled (frame 0x03 0 a.tag [])) e at.since stops called

  closed_on : (P Q : World → Type 0) (a b c : Link) → Passes C.claim n P Q a b → Closed Q b c → Closed P a c
  closed_on P Q a b c p q =
      record {
        sent = p.sent ++ q.sent;
        heard = p.heard ++ q.heard;
        goes = more a.talk b.talk c.talk p.sent q.sent p.heard q.heard p.goes q.goes;
        tag = q.tag;
        later = omega (arith, p.later, q.later);
        leads = λ w place lost holds.
            subst (λ (x : List ℕ). Leads C.claim w (lane (p.sent ++ q.sent) (In n) place) x) (sym (append_assoc p.heard q.heard lost))
            (p.leads w place q.sent (q.heard ++ lost) holds (λ v there between. q.leads v there lost between));
      }

  module _ (Last : World → Type 0) where
    -- what comes of the last steps, whose end is a Logout
    abbrev pub Ends : {T : Type 0} → (World → Type 0) → Link → Link → Result T FenceFault → Type 0
    Ends P a b (Ok v) = MayRest Last → Closed P a b
    Ends P a b (Err e) = C.Stops b → Fails P a b

    abbrev pub LastSteps : {T : Type 0} → (World → Type 0) → Work T → Type 0
    LastSteps {T} P work = (a b : Link) (r : Result T FenceFault) → IsAt a → work a b r → Ends P a b r

    pub then_last : {T U : Type 0} (P : World → Type 0) (Q : T → World → Type 0) (first : Work T) (next : T → Work U) → Steps P Q first → ((v : T) → LastSteps (Q v) (next v)) → LastSteps P (Then first next)
    then_last {T} {U} P Q first next f g a b r at (mid, Ok v, one, on) = by r (g v mid b r (at_next P (Q v) a mid at p) on)
      where
        p : Passes C.claim n P (Q v) a mid
        p = f a mid (Ok v) at one

        by : (x : Result U FenceFault) → Ends (Q v) mid b x → Ends P a b x
        by (Ok u) q = λ rests. closed_on P (Q v) a mid b p (q rests)
        by (Err e) q = λ stops. fails_on P (Q v) a mid b p (q stops)
    then_last {T} {U} P Q first next f g a b r at (mid, Err e, one, (same, is)) =
        subst (λ (x : Result U FenceFault). Ends P a b x) (sym is) (λ stops. subst (λ (x : Link). Fails P a x) (sym same) (f a mid (Err e) at one (subst C.Stops same stops)))

    pub leaves_last : (found : Bool) → LastSteps Last (Leaves found)
    leaves_last found a b r at (mid, Ok u, (Ok v, called, ok), (same, is)) =
        subst (λ (x : Result Bool FenceFault). Ends Last a b x) (sym is) (λ rests. subst (λ (x : Link). Closed Last a x) (sym same) (logged_out Last a mid at called rests))
    leaves_last found a b r at (mid, Ok u, (Err e, called, bad), (same, is)) = absurd cc
    leaves_last found a b r at (mid, Err f, (Err e, called, bad), (same, is)) =
        subst (λ (x : Result Bool FenceFault). Ends Last a b x) (sym is) (λ stops. subst (λ (x : Link). Fails Last a x) (sym same) (not_logged_out Last a mid e at (subst C.Stops same stops) called))
    leaves_last found a b r at (mid, Err f, (Ok v, called, bad), (same, is)) = absurd cc
