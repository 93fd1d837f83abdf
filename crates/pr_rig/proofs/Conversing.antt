-- The whole work of off on one device that the agent has to itself: it is done, or the run can't have stopped there.
use Rattle.std.proofs.Common.{◌≡◌, lit<, ◌⊎◌, inl, inr, ◌^◌, ◌<◌, ◌≤◌, ◌&&◌, ◌||◌, not, nat_lt, ℕ, Bool, true, false, List, [], ◌∷◌, ◌++◌, length, Option, None, is_some, refl, sym, ap, ◌∙◌, subst, append_assoc, append-nil, arith}
use Rattle.std.specs.Prelude.{Result, Ok, Err, if◌then◌else◌}
use Rattle.std.proofs.lemmas.Bool.{and_right, eq-eqb, lt-ltb}
use Rattle.std.proofs.lemmas.List.Folds.{list_any-append}
use Rattle.pr_words.specs.Orders.{same_nexus}
use Rattle.pr_words.specs.declared.code.TheConstants.Code.{NO_SENSE}
use Rattle.pr_words.specs.declared.limits.TheConstants.{KNOWN}
use Rattle.pr_words.specs.declared.nexus.Key.{Key}
use Rattle.pr_words.specs.declared.nexus.Nexus.{Nexus}
use Rattle.pr_words.specs.declared.nexus.Side.TheVariants.{Initiator}
use Rattle.pr_grammar.specs.Bodies.{login_body, login_nexus, login_reply, login_version}
use Rattle.pr_grammar.specs.Frames.{Frame, Whole, frame, front, spelled}
use Rattle.pr_grammar.specs.Standings.{is_port}
use Rattle.pr_model.specs.Entries.{Login, Login_code, Out, entry}
use Rattle.pr_model.specs.Histories.{logged_in, login_code, moved, with_known}
use Rattle.pr_model.specs.Lanes.{Asks, In, Phase, Turned, after_login, lane, phase_after_login, place_after, turn}
use Rattle.pr_model.specs.Sessions.{connection}
use Rattle.pr_model.specs.Worlds.{World, is_known}
use Rattle.pr_io.specs.Causes.{Rose}
use Rattle.pr_io.specs.Talks.{Begins}
use Rattle.pr_link.specs.declared.reply.Reply.TheVariants as reply
use Rattle.pr_link.proofs.Replies.{replies_kept}
use Rattle.pr_link.proofs.Requests.{login_back}
use Rattle.pr_initiator.specs.declared.link_fault.LinkFault.{LinkFault}
use Rattle.pr_initiator.specs.Calls.{login_by}
use Rattle.pr_initiator.specs.Commands.{IsReady}
use Rattle.pr_initiator.specs.Goings.{Goes, WasEnded}
use Rattle.pr_initiator.specs.Links.{HasReplied, Link}
use Rattle.pr_initiator.specs.Logins.{HasDialled, HasLoggedIn}
use Rattle.pr_initiator.proofs.Going.{more}
use Rattle.pr_fence.specs.declared.asked.Asked.TheVariants as ask
use Rattle.pr_fence.specs.declared.fence_fault.FenceFault.{FenceFault}
use Rattle.pr_fence.specs.Devices.{LooksAndOusts, TurnsOff}
use Rattle.pr_fence.specs.Steps.{Enters, Judged, Linked, Then, Work}
use Rattle.pr_rig.proofs.Failing.{Course, FailsSo, IsTold, call_fails}
use Rattle.pr_rig.proofs.Knowing.{same_self}
use Rattle.pr_rig.proofs.Ousting.{linked}
use Rattle.pr_rig.proofs.Owning.{AreKeys, Joined, Knows, Waits, all_last}
use Rattle.pr_rig.proofs.Passing.{small_tag}
use Rattle.pr_rig.proofs.Running.{Closed, Ends, Fails, IsAt, MayRest}
use Rattle.pr_rig.proofs.Turning.{Leads, login_leads, login_turn}

-- steps of steps are steps
then_then : {T U V : Type 0} (first : Work T) (next : T → Work U) (last : U → Work V) (a b : Link) (r : Result V FenceFault) → Then (Then first next) last a b r → Then first (λ t. Then (next t) last) a b r
then_then first next last a b r (mid, Ok u, (m, Ok t, one, on), rest) = (m, Ok t, one, (mid, Ok u, on, rest))
then_then first next last a b r (mid, Ok u, (m, Err e, one, (same, is)), rest) = absurd cc
then_then first next last a b r (mid, Err e, (m, Ok t, one, on), rest) = (m, Ok t, one, (mid, Err e, on, rest))
then_then first next last a b r (mid, Err e, (m, Err f, one, (same, is)), rest) = (m, Err f, one, (rest.0 ∙ same, rest.1 ∙ (let one_fault : e ≡ f = cc in ap (λ (x : FenceFault). Err x) one_fault)))

module _ (own victim : Key) (n : Nexus) (k : AreKeys own victim n) where
  -- nobody has the agent's nexus logged in
  abbrev pub Rests : World → Type 0
  Rests w = Knows victim n w × (w.owner n ≡ None)

  port_is : is_port n.port ≡ true
  port_is = ap is_port k.port

  nexus_is : login_nexus (login_body 1 n) ≡ n
  nexus_is = (login_back 1 n (subst (λ (x : ℕ). x < 2 ^ 16) (sym k.port) (lit< tt)) k.name).2

  full_not : (known : List Nexus) → (is_known known n ≡ true) ⊎ (length known < KNOWN) → (not (is_known known n) && not (nat_lt (length known) KNOWN)) ≡ false
  full_not known (inl is) = rw is refl
  full_not known (inr few) = and_right (not (is_known known n)) (not (nat_lt (length known) KNOWN)) (ap not (lt-ltb (length known) KNOWN few))

  login_ok : (w : World) → Rests w → login_code w 1 n ≡ 0
  login_ok w rests =
      let port : is_port n.port ≡ true = port_is in
      let full : (not (is_known w.known n) && not (nat_lt (length w.known) KNOWN)) ≡ false = full_not w.known rests.0.known in
      ap (λ (b : Bool). if not b then 2 else if is_some (w.owner n) then 1 else if not (is_known w.known n) && not (nat_lt (length w.known) KNOWN) then 3 else 0) port
      ∙ ap (λ (o : Option ℕ). if is_some o then 1 else if not (is_known w.known n) && not (nat_lt (length w.known) KNOWN) then 3 else 0) rests.1 ∙ ap (λ (b : Bool). if b then 3 else 0) full

  known_after : (known : List Nexus) → is_known (with_known known n) n ≡ true
  known_after known = by (is_known known n) refl
    where
      by : (b : Bool) → is_known known n ≡ b → is_known (if b then known else known ++ n ∷ []) n ≡ true
      by true is = is
      by false is = list_any-append (same_nexus n) known (n ∷ []) ∙ ap (λ (b : Bool). b || (same_nexus n n || false)) is ∙ ap (λ (b : Bool). b || false) (same_self n)

  -- the world behind the Login
  entered : (who : ℕ) (w v : World) → Rests w → v ≡ logged_in w who n → Knows victim n v × (length (v.attentions n) < 9)
  entered who w v rests is =
      let now : World = logged_in w who n in
      subst (λ (x : World). Knows victim n x × (length (x.attentions n) < 9)) (sym is) (
        record {
          formed = rests.0.formed;
          fits = rests.0.fits;
          other = rests.0.other;
          room = rests.0.room;
          known = inl (known_after w.known);
          attends = rests.0.attends;
          few = rests.0.few;
        },
        omega (arith, rests.0.few),
      )

  module _ (C : Course) (aptpl : Bool) (address : List ℕ) where
    -- a conversation from the dial on, by what may be lost of its replies
    pub record Talks (Lost : List ℕ → Type 0) (old new : Link) : Type 0 where
      pub dialled : Link
      pub sent : List ℕ
      pub heard : List ℕ
      pub begins : Begins old.talk dialled.talk address
      pub goes : Goes dialled.talk new.talk sent heard
      pub leads : (w : World) (lost : List ℕ) → Rests w → Lost lost → Leads C.claim w (connection sent) (heard ++ lost)

    abbrev pub Any : List ℕ → Type 0
    Any lost = Unit {0}

    abbrev pub IfEnded : Link → List ℕ → Type 0
    IfEnded new lost = WasEnded new.talk → lost ≡ []

    login_bytes : Link → List ℕ
    login_bytes d = spelled (frame 0x01 0 d.tag (login_body 1 n))

    abbrev frame_of : Link → Frame
    frame_of d = frame 0x01 0 d.tag (login_body 1 n)

    -- the Login was accepted, and the rest is answered so
    begun : (Lost : List ℕ → Type 0) (old d l new : Link) (sent heard : List ℕ) → d.tag < 2 ^ 32 → Begins old.talk d.talk address → HasLoggedIn n d l (Ok tt) → Goes l.talk new.talk sent heard
        → ((v : World) (place : ℕ) (lost : List ℕ) → Knows victim n v × (length (v.attentions n) < 9) → Lost lost → Leads C.claim v (lane sent (In n) place) (heard ++ lost)) → Talks Lost old new
    begun Lost old d l new sent heard small begins login goes leads =
        record {
          dialled = d;
          sent = spelled (frame_of d) ++ sent;
          heard = said.heard ++ heard;
          begins = begins;
          goes = more d.talk l.talk new.talk (spelled (frame_of d)) sent said.heard heard said.goes goes;
          leads = λ w lost rests may_lose.
              subst (λ (x : List ℕ). Leads C.claim w (connection (spelled (frame_of d) ++ sent)) x) (sym (append_assoc said.heard heard lost))
              (login_leads C.claim w 0 d.tag 1 n sent said.heard (heard ++ lost) said.frame small said.whole (each w lost rests may_lose));
        }
      where
        said : HasReplied 0x81 d l (spelled (frame_of d)) login.yields.0
        said = login.yields.1

        each : (w : World) (lost : List ℕ) → Rests w → Lost lost → (code : ℕ) → said.frame ≡ frame 0x81 0 d.tag (login_reply code)
            → C.claim.Follows w (entry 0 (login_nexus (login_body 1 n)) (Login (login_version (login_body 1 n))) (Login_code code)) → (there : ℕ)
            → Leads C.claim (moved w (entry 0 (login_nexus (login_body 1 n)) (Login (login_version (login_body 1 n))) (Login_code code))) (lane sent (phase_after_login (login_nexus (login_body 1 n)) code) there) (heard ++ lost)
        each w lost rests may_lose code is follows there =
            let may : Login_code code ≡ Login_code (login_code w 1 (login_nexus (login_body 1 n))) = C.claim.may w (entry 0 (login_nexus (login_body 1 n)) (Login (login_version (login_body 1 n))) (Login_code code)) follows in
            let zero_is : login_code w 1 (login_nexus (login_body 1 n)) ≡ 0 = ap (login_code w 1) nexus_is ∙ login_ok w rests in
            let code_is : code ≡ 0 = (let same : code ≡ login_code w 1 (login_nexus (login_body 1 n)) = cc in same) ∙ zero_is in
            let phase : phase_after_login (login_nexus (login_body 1 n)) code ≡ In n = ap (phase_after_login (login_nexus (login_body 1 n))) code_is ∙ ap In nexus_is in
            let left : moved w (entry 0 (login_nexus (login_body 1 n)) (Login (login_version (login_body 1 n))) (Login_code code)) ≡ logged_in w 0 n =
            ap (λ (b : Bool). if b then logged_in w 0 (login_nexus (login_body 1 n)) else w) (eq-eqb (login_code w 1 (login_nexus (login_body 1 n))) 0 zero_is) ∙ ap (logged_in w 0) nexus_is in
            subst (λ (x : Phase). Leads C.claim (moved w (entry 0 (login_nexus (login_body 1 n)) (Login (login_version (login_body 1 n))) (Login_code code))) (lane sent x there) (heard ++ lost)) (sym phase)
            (leads (moved w (entry 0 (login_nexus (login_body 1 n)) (Login (login_version (login_body 1 n))) (Login_code code))) there lost (entered 0 w (moved w (entry 0 (login_nexus (login_body 1 n)) (Login (login_version (login_body 1 n))) (Login_code code))) rests left) may_lose)

    -- the Login can't have failed
    refused : (old d new : Link) (e : LinkFault) → d.tag < 2 ^ 32 → C.start ≤ d.faults → C.Stops new → Begins old.talk d.talk address → HasLoggedIn n d new (Err e) → Talks (IfEnded new) old new
    refused old d new e small since stops begins login =
        record {
          dialled = d;
          sent = spelled (frame_of d);
          heard = fails.heard;
          begins = begins;
          goes = fails.goes;
          leads = λ w lost rests quiet.
              fails.leads w (connection (spelled (frame_of d))) (login_nexus (login_body 1 n)) (Login (login_version (login_body 1 n))) next lost
              (subst (λ (x : List ℕ). turn (connection x) ≡ Asks (login_nexus (login_body 1 n)) (Login (login_version (login_body 1 n))) next) (append-nil (spelled (frame_of d))) (login_turn C.claim 0 d.tag 1 n [] small))
              (told w rests) quiet;
        }
      where
        next : Out → Turned
        next = after_login (frame_of d) [] (place_after 0 (frame_of d))

        fails : FailsSo C (login_by d.place) 0x81 d new (spelled (frame_of d))
        fails = call_fails C (login_by d.place) 0x81 d new (spelled (frame_of d)) e since stops login

        told : (w : World) → Rests w → (out : Out) → C.claim.Follows w (entry 0 (login_nexus (login_body 1 n)) (Login (login_version (login_body 1 n))) out)
            → (f : Frame) × ((later : List ℕ) → front Initiator ((next out).reply ++ later) ≡ Whole f later) × IsTold (login_by d.place) 0x81 d.tag d.place f
        told w rests out follows =
            let may : out ≡ Login_code (login_code w 1 (login_nexus (login_body 1 n))) = C.claim.may w (entry 0 (login_nexus (login_body 1 n)) (Login (login_version (login_body 1 n))) out) follows in
            let zero_is : out ≡ Login_code 0 = may ∙ ap Login_code (ap (login_code w 1) nexus_is ∙ login_ok w rests) in
            subst (λ (x : Out). (f : Frame) × ((later : List ℕ) → front Initiator ((next x).reply ++ later) ≡ Whole f later) × IsTold (login_by d.place) 0x81 d.tag d.place f) (sym zero_is) (
              frame 0x81 0 d.tag (login_reply 0),
              (λ later. (replies_kept.logins 0).1 0 d.tag later (lit< tt) small),
              record { said = Ok (reply.Login 0); judges = rw (eq-eqb d.tag d.tag refl) refl; value = tt; is = refl },
            )

    -- what comes of the work on a device
    pub record DoneSo (old new : Link) : Type 0 where
      pub talks : Talks Any old new
      pub later : old.faults ≤ new.faults

    abbrev pub Device : {T : Type 0} → Link → Link → Result T FenceFault → Type 0
    Device old new (Ok v) = MayRest C n (Joined own victim n k false) → DoneSo old new
    Device old new (Err e) = C.Stops new → Talks (IfEnded new) old new

    small_one : (d : Link) → d.tag ≡ 1 → d.tag < 2 ^ 32
    small_one d is = subst (λ (x : ℕ). x < 2 ^ 32) (sym is) (lit< tt)

    -- the Login was accepted, and then all other steps are made
    behind_login : (old d l new : Link) (r : Result Bool FenceFault) → C.start ≤ old.faults → HasDialled address old d (Ok tt) → HasLoggedIn n d l (Ok tt)
        → Then (Judged ask.Readiness (IsReady 9 NO_SENSE)) (λ u. LooksAndOusts n own victim aptpl) l new r → Device old new r
    behind_login old d l new r since dial login rest = by r (all_last own victim n k C aptpl l new r at rest)
      where
        at : IsAt C n l
        at = record { small = subst (λ (x : ℕ). x < 2 ^ 32) (sym login.tag) (small_tag d.tag); since = omega (arith, since, dial.later, login.later) }

        by : (x : Result Bool FenceFault) → Ends C n (Joined own victim n k false) (Waits own victim n k C 9) l new x → Device old new x
        by (Ok v) ends =
            λ rests.
            let closed : Closed C n (Waits own victim n k C 9) l new = ends rests in
            record {
              talks = begun Any old d l new closed.sent closed.heard (small_one d dial.tag) dial.begins login closed.goes (λ v place lost waits any. closed.leads v place lost waits);
              later = omega (arith, dial.later, login.later, closed.later);
            }
        by (Err e) ends =
            λ stops.
            let fails : Fails C n (Waits own victim n k C 9) l new = ends stops in
            begun (IfEnded new) old d l new fails.sent fails.heard (small_one d dial.tag) dial.begins login fails.goes (λ v place lost waits quiet. fails.leads v place lost waits quiet)

    behind_dial : (old d new : Link) (r : Result Bool FenceFault) → C.start ≤ old.faults → HasDialled address old d (Ok tt)
        → Then (Linked ask.Login (HasLoggedIn n)) (λ u. Then (Judged ask.Readiness (IsReady 9 NO_SENSE)) (λ v. LooksAndOusts n own victim aptpl)) d new r → Device old new r
    behind_dial old d new r since dial (l, Ok u, login, rest) = behind_login old d l new r since dial (linked ask.Login (HasLoggedIn n) d l u login) rest
    behind_dial old d new r since dial (l, Err f, (Ok v, login, bad), rest) = absurd cc
    behind_dial old d new r since dial (l, Err f, (Err e, login, bad), (same, is)) =
        subst (λ (x : Result Bool FenceFault). Device old new x) (sym is)
        (λ stops.
        subst (λ (x : Link). Talks (IfEnded x) old x) (sym same) (refused old d l e (small_one d dial.tag) (omega (arith, since, dial.later)) (subst C.Stops same stops) dial.begins login))

    pub device_comes : (old new : Link) (r : Result Bool FenceFault) → C.start ≤ old.faults → TurnsOff address n own victim aptpl old new r → Device old new r
    device_comes old new r since work = dialled (then_then (Linked ask.Connection (HasDialled address)) (λ u. Enters n) (λ u. LooksAndOusts n own victim aptpl) old new r work)
      where
        dialled : Then (Linked ask.Connection (HasDialled address)) (λ u. Then (Enters n) (λ v. LooksAndOusts n own victim aptpl)) old new r → Device old new r
        dialled (d, Ok u, dial, on) =
            behind_dial old d new r since (linked ask.Connection (HasDialled address) old d u dial) (then_then (Linked ask.Login (HasLoggedIn n)) (λ v. Judged ask.Readiness (IsReady 9 NO_SENSE)) (λ v. LooksAndOusts n own victim aptpl) d new r on)
        dialled (d, Err f, (Ok v, dial, bad), rest) = absurd cc
        dialled (d, Err f, (Err e, dial, bad), (same, is)) =
            subst (λ (x : Result Bool FenceFault). Device old new x) (sym is) (λ stops. absurd (C.calm new stops (subst (λ (x : Link). Rose C.start x.faults) (sym same) (omega (arith, since, dial.down)))))
