-- The work of off on one device: what a whole conversation shows of the device that answered it.
use Rattle.std.proofs.Common.{◌≡◌, lit<, lit≤, ℕ, ◌==◌, ◌≤◌, ◌<◌, ◌^◌, Bool, true, false, List, [], ◌++◌, length, take, refl, sym, ap, ◌∙◌, subst, append_assoc, arith}
use Rattle.std.specs.Prelude.{Result, Ok, Err, if◌then◌else◌}
use Rattle.std.proofs.lemmas.Nat.{from_be_bytes-to_be_bytes_8}
use Rattle.std.proofs.lemmas.List.{append-nil, length-take}
use Rattle.pr_words.specs.declared.code.TheConstants.Code.{NO_SENSE}
use Rattle.pr_words.specs.declared.limits.TheConstants.{DATA}
use Rattle.pr_words.specs.declared.nexus.Key.{Key}
use Rattle.pr_words.specs.declared.nexus.Nexus.{Nexus}
use Rattle.pr_words.specs.declared.service.InService.TheVariants as ins
use Rattle.pr_words.specs.declared.service.OutService.TheVariants as outs
use Rattle.pr_grammar.specs.Bodies.{login_body, login_nexus, login_reply, login_version}
use Rattle.pr_grammar.specs.declared.param.OutList.{OutList}
use Rattle.pr_grammar.specs.Frames.{Frame, frame, spelled}
use Rattle.pr_grammar.specs.OutLists.{list_of, spelled_list}
use Rattle.pr_model.specs.Acts.{Bad, Conflict, Good, Verdict}
use Rattle.pr_model.specs.Commands.{by_verdict, reserve_in_data}
use Rattle.pr_model.specs.Entries.{Login, Login_code, entry}
use Rattle.pr_model.specs.Histories.{MayFollow, moved}
use Rattle.pr_model.specs.Lanes.{Fresh, In, Phase, lane, phase_after_login}
use Rattle.pr_model.specs.Sessions.{connection}
use Rattle.pr_model.specs.Worlds.{World}
use Rattle.pr_io.specs.Talks.{Begins}
use Rattle.pr_initiator.specs.Commands.{IsReady, Order, out_list, reserve_in, reserve_out}
use Rattle.pr_initiator.specs.Goings.{Goes}
use Rattle.pr_initiator.specs.Judging.{judged}
use Rattle.pr_initiator.specs.Links.{HasReplied, Link, next_tag}
use Rattle.pr_initiator.specs.Logins.{HasDialled, HasLoggedIn, HasLoggedOut}
use Rattle.pr_initiator.specs.declared.link_fault.LinkFault.{LinkFault}
use Rattle.pr_initiator.proofs.Going.{more}
use Rattle.pr_fence.specs.declared.asked.Asked.TheVariants as ask
use Rattle.pr_fence.specs.Ousting.{HasOusted}
use Rattle.pr_fence.specs.Seeing.{held_in, listed_in, seen_in}
use Rattle.pr_fence.specs.Steps.{Asks, Enters, Holds, Judged, Linked, Orders, Reads, Registers, Removes, Reserves, Then, Unless, Where, Work}
use Rattle.pr_rig.specs.Laws.{answered_good}
use Rattle.pr_rig.specs.Rig.{IsOusted, IsReserved}
use Rattle.pr_rig.proofs.Answered.{keys_tell}
use Rattle.pr_rig.proofs.Hearing.{IsEnded, accepted, checking_ends, conflict_ends, good_ends}
use Rattle.pr_rig.proofs.Holding.{preempt_keeps, reservation_tells, reserve_holds}
use Rattle.pr_rig.proofs.Passing.{Formed, IsPlain, Passes, formed_on, joined, ordered, readied, still}
use Rattle.pr_rig.proofs.Turning.{Claim, Leads, login_leads, logout_leads}

-- a reservation stands, too
abbrev Reserved : World → Type 0
Reserved w = Formed w × IsReserved w.standing

-- Orders that begin no task

few_taken : (n : ℕ) (xs : List ℕ) → n ≤ DATA → length (take n xs) ≤ DATA
few_taken n xs few = omega (arith, length-take n xs, few)

pub keys_plain : IsPlain (reserve_in ins.ReadKeys)
keys_plain = record { nothing = λ w m lun sent. good_ends (take 65535 (reserve_in_data 0 w.standing)) (few_taken 65535 (reserve_in_data 0 w.standing) (lit≤ tt)); some = lit≤ tt; few = lit≤ tt; fits = lit≤ tt }

pub reservation_plain : IsPlain (reserve_in ins.ReadReservation)
reservation_plain = record { nothing = λ w m lun sent. good_ends (take 65535 (reserve_in_data 1 w.standing)) (few_taken 65535 (reserve_in_data 1 w.standing) (lit≤ tt)); some = lit≤ tt; few = lit≤ tt; fits = lit≤ tt }

pub status_plain : IsPlain (reserve_in ins.ReadFullStatus)
status_plain = record { nothing = λ w m lun sent. good_ends (take 65535 (reserve_in_data 3 w.standing)) (few_taken 65535 (reserve_in_data 3 w.standing) (lit≤ tt)); some = lit≤ tt; few = lit≤ tt; fits = lit≤ tt }

verdict_ends : (w next : World) (v : Verdict) → IsEnded (by_verdict w next v).out
verdict_ends w next Good = good_ends [] (lit≤ tt)
verdict_ends w next Conflict = conflict_ends
verdict_ends w next (Bad c) = checking_ends c

pub registration_plain : (l : OutList) → IsPlain (reserve_out outs.RegisterAndIgnoreExistingKey 0 l)
registration_plain l = record { nothing = λ w m lun sent. verdict_ends w _ _; some = lit≤ tt; few = lit≤ tt; fits = lit≤ tt }

pub reserve_plain : (l : OutList) → IsPlain (reserve_out outs.Reserve 5 l)
reserve_plain l = record { nothing = λ w m lun sent. verdict_ends w _ _; some = lit≤ tt; few = lit≤ tt; fits = lit≤ tt }

pub preempt_plain : (l : OutList) → IsPlain (reserve_out outs.PreemptAndAbort 5 l)
preempt_plain l = record { nothing = λ w m lun sent. verdict_ends w _ _; some = lit≤ tt; few = lit≤ tt; fits = lit≤ tt }

-- Steps

-- a step that was made, and what followed it
record Followed {T U : Type 0} (first : Work T) (next : T → Work U) (old new : Link) (u : U) : Type 0 where
  mid : Link
  found : T
  one : first old mid (Ok found)
  on : next found mid new (Ok u)

followed : {T U : Type 0} (first : Work T) (next : T → Work U) (old new : Link) (u : U) → Then first next old new (Ok u) → Followed first next old new u
followed first next old new u (mid, Ok t, one, on) = record { mid = mid; found = t; one = one; on = on }
followed first next old new u (mid, Err e, one, on) = absurd (let never : Ok u ≡ Err e = on.1 in cc)

-- the keys that a list carries
keys_in : (own victim : ℕ) → own < 2 ^ 64 → victim < 2 ^ 64 → ((list_of (spelled_list (out_list own victim false))).key ≡ own) × ((list_of (spelled_list (out_list own victim false))).action_key ≡ victim)
keys_in own victim one two =
    let same_own = from_be_bytes-to_be_bytes_8 own one in
    let same_victim = from_be_bytes-to_be_bytes_8 victim two in
    (rw same_own refl, rw same_victim refl)

-- the victim's key is gone
abbrev pub Ousted : Key → World → Type 0
Ousted victim w = IsOusted victim w.standing

abbrev pub Ousts : Key → Claim
Ousts victim = record { Follows = MayFollow; may = λ w e may. may; Holds = λ w l. Ousted victim w }

module _ (own victim : Key) (n : Nexus) where
  abbrev GoesOn : (World → Type 0) → (World → Type 0) → Link → Link → Type 0
  GoesOn P Q a b = Passes (Ousts victim) n P Q a b

  stays_so : (asked : _) (o : Order) (old new : Link) → IsPlain o → old.tag < 2 ^ 32 → Orders asked o old new (Ok tt) → GoesOn Formed Formed old new
  stays_so asked o old new plain small orders = ordered (Ousts victim) n Formed Formed asked o old new plain small orders (λ w formed may. formed_on w (answered_good 0 n o o.list new.received) may formed)

  unless_so : (P : World → Type 0) (needless : Bool) (step : Work Unit) (old new : Link) → old.tag < 2 ^ 32 → Unless needless step old new (Ok tt) → (step old new (Ok tt) → GoesOn P P old new) → GoesOn P P old new
  unless_so P true step old new small made so = still (Ousts victim) n P P old new made.0 small (λ w holds. holds)
  unless_so P false step old new small made so = so made

  where_so : (P : World → Type 0) (cause : Bool) (step : Work Unit) (old new : Link) → old.tag < 2 ^ 32 → Where cause step old new (Ok tt) → (step old new (Ok tt) → GoesOn P P old new) → GoesOn P P old new
  where_so P true step old new small made so = so made
  where_so P false step old new small made so = still (Ousts victim) n P P old new made.0 small (λ w holds. holds)

  -- a reservation is held in the end
  holds_so : (old new : Link) → old.tag < 2 ^ 32 → Holds own old new (Ok tt) → GoesOn Formed Reserved old new
  holds_so old new small holds =
      let asks = followed Asks (λ held. Unless held (Reserves own)) old new tt holds in
      let reads = followed (Orders ask.Reservation (reserve_in ins.ReadReservation)) (λ u. Reads held_in) old asks.mid asks.found asks.one in
      by asks.mid reads.mid asks.found reads.one reads.on asks.on
    where
      there : (mid : Link) → Orders ask.Reservation (reserve_in ins.ReadReservation) old mid (Ok tt) → Ok true ≡ held_in mid.received → GoesOn Formed Reserved old mid
      there mid orders found =
          ordered (Ousts victim) n Formed Reserved ask.Reservation (reserve_in ins.ReadReservation) old mid reservation_plain small orders
          (λ w formed may.
          let tells = reservation_tells w 0 n 0 [] mid.received may found in
          (formed_on w (answered_good 0 n (reserve_in ins.ReadReservation) [] mid.received) may formed, subst (λ (v : World). IsReserved v.standing) (sym tells.0) tells.1))

      reserves : (mid last : Link) → mid.tag < 2 ^ 32 → Reserves own mid last (Ok tt) → GoesOn Formed Reserved mid last
      reserves mid last little orders =
          ordered (Ousts victim) n Formed Reserved ask.Reserve (reserve_out outs.Reserve 5 (out_list own.0 0 false)) mid last (reserve_plain (out_list own.0 0 false)) little orders
          (λ w formed may.
          (formed_on w (answered_good 0 n (reserve_out outs.Reserve 5 (out_list own.0 0 false)) (spelled_list (out_list own.0 0 false)) last.received) may formed, reserve_holds w 0 n 0 (spelled_list (out_list own.0 0 false)) last.received may))

      by : (mid asked : Link) (held : Bool) → Orders ask.Reservation (reserve_in ins.ReadReservation) old asked (Ok tt) → Reads held_in asked mid (Ok held) → Unless held (Reserves own) mid new (Ok tt) → GoesOn Formed Reserved old new
      by mid asked true orders (same, found) made =
          let one = there asked orders found in
          joined (Ousts victim) n Formed Reserved Reserved old asked new one (still (Ousts victim) n Reserved Reserved asked new (made.0 ∙ same) one.tag (λ w holds. holds))
      by mid asked false orders (same, found) made =
          let one = stays_so ask.Reservation (reserve_in ins.ReadReservation) old asked reservation_plain small orders in
          let two = still (Ousts victim) n Formed Formed asked mid same one.tag (λ w holds. holds) in
          joined (Ousts victim) n Formed Formed Reserved old asked new one (joined (Ousts victim) n Formed Formed Reserved asked mid new two (reserves mid new two.tag made))

  -- what the victim's key has registered is removed
  removes_so : (old new : Link) → own.0 < 2 ^ 64 → victim.0 < 2 ^ 64 → (own.0 ≡ victim.0 → ⊥) → old.tag < 2 ^ 32 → Removes own victim old new (Ok tt) → GoesOn Reserved Reserved old new
  removes_so old new own_fits victim_fits differ small orders =
      let keys = keys_in own.0 victim.0 own_fits victim_fits in
      ordered (Ousts victim) n Reserved Reserved ask.Removal (reserve_out outs.PreemptAndAbort 5 (out_list own.0 victim.0 false)) old new (preempt_plain (out_list own.0 victim.0 false)) small orders
      (λ w holds may.
      (formed_on w (answered_good 0 n (reserve_out outs.PreemptAndAbort 5 (out_list own.0 victim.0 false)) (spelled_list (out_list own.0 victim.0 false)) new.received) may holds.0, preempt_keeps w 0 n 0 (spelled_list (out_list own.0 victim.0 false)) new.received (λ same. differ (sym keys.0 ∙ same ∙ keys.1)) holds.1 may))

  -- and isn't there any more
  lists_so : (old new : Link) → victim.0 < 2 ^ 64 → old.tag < 2 ^ 32 → Orders ask.Keys (reserve_in ins.ReadKeys) old new (Ok tt) → Ok false ≡ listed_in victim new.received → GoesOn Reserved (Ousted victim) old new
  lists_so old new victim_fits small orders gone =
      ordered (Ousts victim) n Reserved (Ousted victim) ask.Keys (reserve_in ins.ReadKeys) old new keys_plain small orders
      (λ w holds may.
      let tells = keys_tell w 0 n 0 [] new.received victim holds.0.within victim_fits may gone in
      subst (λ (v : World). Ousted victim v) (sym tells.0) (tells.1, holds.1))

-- A whole conversation

-- from the dial on these bytes were sent and heard, and whatever device answered them is one from which the victim's key is gone
pub record Converses (victim : Key) (address : List ℕ) (old new : Link) : Type 0 where
  pub dialled : Link
  pub sent : List ℕ
  pub heard : List ℕ
  pub begins : Begins old.talk dialled.talk address
  pub goes : Goes dialled.talk new.talk sent heard
  pub leads : (w : World) (lost : List ℕ) → Formed w → Leads (Ousts victim) w (connection sent) (heard ++ lost)

pub linked : (asked : _) (call : Link → Link → Result Unit LinkFault → Type 0) (old new : Link) (u : Unit {0}) → Linked asked call old new (Ok u) → call old new (Ok tt)
linked asked call old new u (Ok v, made, is) = made
linked asked call old new u (Err e, made, is) = absurd cc

module _ (own victim : Key) (own_fits : own.0 < 2 ^ 64) (victim_fits : victim.0 < 2 ^ 64) (differ : own.0 ≡ victim.0 → ⊥) (address : List ℕ) (nexus : Nexus) (aptpl was : Bool) (old new : Link) (h : HasOusted address nexus own victim aptpl old new was) where
  abbrev n : Nexus
  n = login_nexus (login_body 1 nexus)

  abbrev Between : (World → Type 0) → (World → Type 0) → Link → Link → Type 0
  Between P Q a b = Passes (Ousts victim) n P Q a b

  next : (P Q R : World → Type 0) (a b c : Link) → Between P Q a b → Between Q R b c → Between P R a c
  next P Q R a b c p q = joined (Ousts victim) n P Q R a b c p q

  looks_so : h.entered.tag < 2 ^ 32 → Between Formed Formed h.entered h.looked
  looks_so small =
      let looks = followed (Orders ask.FullStatus (reserve_in ins.ReadFullStatus)) (λ u. Reads (seen_in nexus own victim)) h.entered h.looked h.sight h.looks in
      let one = stays_so own victim n ask.FullStatus (reserve_in ins.ReadFullStatus) h.entered looks.mid status_plain small looks.one in
      next Formed Formed Formed h.entered looks.mid h.looked one (still (Ousts victim) n Formed Formed looks.mid h.looked looks.on.0 one.tag (λ w holds. holds))

  joins_so : h.looked.tag < 2 ^ 32 → Between Formed Formed h.looked h.joined
  joins_so small =
      unless_so own victim n Formed h.sight.own (Registers own aptpl) h.looked h.joined small h.joins
      (λ orders. stays_so own victim n ask.Registration (reserve_out outs.RegisterAndIgnoreExistingKey 0 (out_list 0 own.0 aptpl)) h.looked h.joined (registration_plain (out_list 0 own.0 aptpl)) small orders)

  ousts_so : h.joined.tag < 2 ^ 32 → Between Formed (Ousted victim) h.joined h.checked
  ousts_so small =
      let holds = holds_so own victim n h.joined h.held small h.holds in
      let removes = where_so own victim n Reserved h.sight.victim (Removes own victim) h.held h.removed holds.tag h.removes (λ orders. removes_so own victim n h.held h.removed own_fits victim_fits differ holds.tag orders) in
      let lists = lists_so own victim n h.removed h.checked victim_fits removes.tag h.lists h.gone in
      next Formed Reserved (Ousted victim) h.joined h.held h.checked holds (next Reserved Reserved (Ousted victim) h.held h.removed h.checked removes lists)

  -- all that is done between the Login and the Logout
  all_so : (logged : Link) → Between Formed Formed logged h.entered → Between Formed (Ousted victim) logged h.checked
  all_so logged ready =
      let looks = looks_so ready.tag in
      let joins = joins_so looks.tag in
      let ousts = ousts_so joins.tag in
      next Formed Formed (Ousted victim) logged h.entered h.checked ready
      (next Formed Formed (Ousted victim) h.entered h.looked h.checked looks (next Formed Formed (Ousted victim) h.looked h.joined h.checked joins ousts))

  abbrev logged_out : Link → List ℕ
  logged_out checked = spelled (frame 0x03 0 checked.tag [])

  ends_so : (v : World) (there : ℕ) (lost : List ℕ) (out : HasLoggedOut h.checked new (Ok tt)) → h.checked.tag < 2 ^ 32 → Ousted victim v → Leads (Ousts victim) v (lane (logged_out h.checked) (In n) there) (out.yields.1.heard ++ lost)
  ends_so v there lost out small gone =
      let heard = out.yields.1 in
      subst (λ (x : List ℕ). Leads (Ousts victim) v (lane x (In n) there) (heard.heard ++ lost)) (append-nil (logged_out h.checked))
      (logout_leads (Ousts victim) v n there h.checked.tag [] heard.heard lost heard.frame small heard.whole (λ may. gone))

  begun : (dialled logged : Link) → dialled.tag ≡ 1 → Begins old.talk dialled.talk address → HasLoggedIn nexus dialled logged (Ok tt) → Between Formed (Ousted victim) logged h.checked → HasLoggedOut h.checked new (Ok tt) → Converses victim address old new
  begun dialled logged first begins login p out =
      record {
        dialled = dialled;
        sent = login_bytes ++ (p.sent ++ logged_out h.checked);
        heard = said.heard ++ (p.heard ++ bye.heard);
        begins = begins;
        goes =
            more dialled.talk logged.talk new.talk login_bytes (p.sent ++ logged_out h.checked) said.heard (p.heard ++ bye.heard) said.goes
            (more logged.talk h.checked.talk new.talk p.sent (logged_out h.checked) p.heard bye.heard p.goes bye.goes);
        leads = λ w lost formed.
            subst (λ (x : List ℕ). Leads (Ousts victim) w (connection (login_bytes ++ (p.sent ++ logged_out h.checked))) x) (sym (append_assoc said.heard (p.heard ++ bye.heard) lost))
            (login_leads (Ousts victim) w 0 dialled.tag 1 nexus (p.sent ++ logged_out h.checked) said.heard ((p.heard ++ bye.heard) ++ lost) said.frame small said.whole (each w lost formed));
      }
    where
      login_bytes : List ℕ
      login_bytes = spelled (frame 0x01 0 dialled.tag (login_body 1 nexus))

      small : dialled.tag < 2 ^ 32
      small = subst (λ (t : ℕ). t < 2 ^ 32) (sym first) (lit< tt)

      said : HasReplied 0x81 dialled logged login_bytes login.yields.0
      said = login.yields.1

      bye : HasReplied 0x83 h.checked new (logged_out h.checked) out.yields.0
      bye = out.yields.1

      each : (w : World) (lost : List ℕ) → Formed w → (code : ℕ) → said.frame ≡ frame 0x81 0 dialled.tag (login_reply code) → MayFollow w (entry 0 n (Login (login_version (login_body 1 nexus))) (Login_code code)) → (there : ℕ)
          → Leads (Ousts victim) (moved w (entry 0 n (Login (login_version (login_body 1 nexus))) (Login_code code))) (lane (p.sent ++ logged_out h.checked) (phase_after_login n code) there) ((p.heard ++ bye.heard) ++ lost)
      each w lost formed code is may there =
          let v : World = moved w (entry 0 n (Login (login_version (login_body 1 nexus))) (Login_code code)) in
          let judges : judged 0x81 dialled.tag dialled.place (frame 0x81 0 dialled.tag (login_reply code)) ≡ Ok login.yields.0 = subst (λ (f : Frame). judged 0x81 dialled.tag dialled.place f ≡ Ok login.yields.0) is said.judged in
          let zero : (code == 0) ≡ true = accepted code dialled.tag dialled.place login.yields.0 judges login.yields.2 in
          let phase : phase_after_login n code ≡ In n = ap (λ (b : Bool). if b then In n else Fresh) zero in
          subst (λ (x : Phase). Leads (Ousts victim) v (lane (p.sent ++ logged_out h.checked) x there) ((p.heard ++ bye.heard) ++ lost)) (sym phase)
          (subst (λ (x : List ℕ). Leads (Ousts victim) v (lane (p.sent ++ logged_out h.checked) (In n) there) x) (sym (append_assoc p.heard bye.heard lost))
          (p.leads v there (logged_out h.checked) (bye.heard ++ lost) (formed_on w (entry 0 n (Login (login_version (login_body 1 nexus))) (Login_code code)) may formed) (λ u far gone. ends_so u far lost out p.tag gone)))

  -- the work of off on one device
  pub conversed : Converses victim address old new
  conversed =
      let opens = followed (Linked ask.Connection (HasDialled address)) (λ u. Enters nexus) old h.entered tt h.opens in
      let dials = linked ask.Connection (HasDialled address) old opens.mid opens.found opens.one in
      let enters = followed (Linked ask.Login (HasLoggedIn nexus)) (λ u. Judged ask.Readiness (IsReady 9 NO_SENSE)) opens.mid h.entered tt opens.on in
      let login = linked ask.Login (HasLoggedIn nexus) opens.mid enters.mid enters.found enters.one in
      let out = linked ask.Logout HasLoggedOut h.checked new tt h.closes in
      let ready = readied (Ousts victim) n 9 NO_SENSE ask.Readiness enters.mid h.entered enters.on.0 (logged_tag enters.mid opens.mid login.tag) enters.on.1 enters.on.2 in
      begun opens.mid enters.mid dials.tag dials.begins login (all_so enters.mid ready) out
    where
      logged_tag : (a b : Link) → a.tag ≡ next_tag b.tag → a.tag < 2 ^ 32
      logged_tag a b is = subst (λ (t : ℕ). t < 2 ^ 32) (sym is) (omega arith)
