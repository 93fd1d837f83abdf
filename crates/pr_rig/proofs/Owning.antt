-- The steps of off on a device that an agent has to itself: each is answered as the agent needs it (SPC-4).
use Rattle.std.proofs.Common.{◌≡◌, not, lit<, ◌⊎◌, inl, inr, ◌^◌, ◌<◌, ◌≤◌, ℕ, zero, suc, Bool, true, false, List, [], ◌∷◌, length, take, Option, Some, None, refl, sym, ap, ◌∙◌, subst, arith}
use Rattle.std.specs.Prelude.{Result, Ok, Err, if◌then◌else◌}
use Rattle.std.specs.List.{AllByRecursion, list_any}
use Rattle.std.proofs.lemmas.Nat.{from_be_bytes-to_be_bytes_8}
use Rattle.pr_words.specs.declared.code.Code.{Code}
use Rattle.pr_words.specs.declared.code.Sense.{Sense}
use Rattle.pr_words.specs.declared.code.Status.{Status}
use Rattle.pr_words.specs.declared.code.TheConstants.{UNIT_ATTENTION}
use Rattle.pr_words.specs.declared.code.TheConstants.Code.{NO_SENSE}
use Rattle.pr_words.specs.declared.limits.TheConstants.{KNOWN, LIMIT}
use Rattle.pr_words.specs.declared.nexus.Key.{Key}
use Rattle.pr_words.specs.declared.nexus.Nexus.{Nexus}
use Rattle.std.proofs.lemmas.Bool.{eq-eqb}
use Rattle.pr_words.specs.declared.reservation.Kind.TheVariants.{WriteRegistrants}
use Rattle.pr_words.specs.declared.reservation.Reservation.TheVariants.{Free}
use Rattle.pr_words.specs.declared.service.InService.TheVariants as ins
use Rattle.pr_words.specs.declared.service.OutService.TheVariants as outs
use Rattle.pr_grammar.specs.declared.param.OutList.{OutList}
use Rattle.pr_grammar.specs.InReplies.{full_reply, keys_reply, listed_entries, reservation_reply}
use Rattle.pr_grammar.specs.OutLists.{list_of, spelled_list}
use Rattle.pr_grammar.specs.Standings.{Standing, is_registered, key_of}
use Rattle.pr_model.specs.Acts.{Acted, Conflict, acted, is_own, leads, preempt, registered, stays}
use Rattle.pr_model.specs.Commands.{Answer, answered, good, out_request, reserve_out as reserves_out}
use Rattle.pr_model.specs.Entries.{Command, Ended, entry}
use Rattle.pr_model.specs.Histories.{moved}
use Rattle.pr_model.specs.Registrants.{IsWellFormed, has_key, held}
use Rattle.pr_model.specs.Worlds.{World, is_known, set_at}
use Rattle.pr_model.proofs.WellFormed.{well_formed}
use Rattle.pr_param.specs.Fits.{FitFields}
use Rattle.pr_initiator.specs.declared.answer.Answer as answers
use Rattle.pr_initiator.specs.declared.link_fault.LinkFault.{LinkFault}
use Rattle.pr_initiator.specs.Commands.{IsReady, attention_in, Order, out_list, reserve_in, reserve_out, test_unit_ready}
use Rattle.pr_initiator.specs.Links.{Link}
use Rattle.pr_fence.specs.declared.asked.Asked.TheVariants as ask
use Rattle.pr_fence.specs.declared.fence_fault.FenceFault.{FenceFault}
use Rattle.pr_initiator.specs.declared.link_fault.LinkFault.TheVariants as faults
use Rattle.pr_fence.specs.declared.fence_fault.FenceFault.TheVariants as fault
use Rattle.pr_fence.specs.declared.fence_fault.FenceFault.TheVariants.{StillThere}
use Rattle.pr_fence.specs.Devices.{ChecksAndLeaves, HoldsAndOusts, JoinsAndOusts, LooksAndOusts, Ousts}
use Rattle.pr_fence.specs.Exits.{judged_by}
use Rattle.pr_fence.specs.Seeing.{held_in, listed_in, seen_in, sight_of}
use Rattle.pr_fence.specs.Steps.{Asks, Checks, Gives, Finds, Holds, Judged, Leaves, Looks, Registers, Removes, Reserves, Then, Unless, Where, gone_by}
use Rattle.pr_rig.proofs.Failing.{Course, attention_answered, good_answered}
use Rattle.pr_rig.proofs.Granting.{attended, cdb_of, full_granted, keys_granted, preempt_granted, ready_granted, register_granted, reservation_granted, reserve_granted}
use Rattle.pr_rig.proofs.Knowing.{LeavesSo, RemovesAll, accepted_so, fits_put, preempt_leads, register_leads, reserve_leads, same_self}
use Rattle.pr_rig.proofs.Ousting.{keys_plain, preempt_plain, registration_plain, reservation_plain, reserve_plain, status_plain}
use Rattle.pr_rig.proofs.Pairs.{others_in, own_in, own_listed, registered_of}
use Rattle.pr_rig.proofs.Passing.{Formed, Passes, Tells, answered as passes, joined, ready_plain, still}
use Rattle.pr_rig.proofs.Reading.{full_told, held_told, is_free, keys_told, own_seen, stands, victim_seen}
use Rattle.pr_rig.proofs.Running.{Comes, IsAt, LastSteps, Steps, at_next, fails_never, fails_on, gives_never, gives_steps, good_ok, leaves_last, orders_steps, reads_steps, served_so, then_last, then_steps, unanswered, unless_steps, where_steps}

-- what is known of the world of a device that the agent has to itself, whichever session it serves next
pub record Knows (victim : Key) (n : Nexus) (w : World) : Type 0 where
  pub formed : Formed w
  pub fits : FitFields w.standing
  pub other : key_of w.standing.pairs n ≡ Some victim.0 → ⊥
  pub room : (is_registered w.standing.pairs n ≡ true) ⊎ (length w.standing.pairs < LIMIT)
  pub known : (is_known w.known n ≡ true) ⊎ (length w.known < KNOWN)
  pub attends : AllByRecursion (λ (c : Code). c.key ≡ UNIT_ATTENTION) (w.attentions n)
  pub few : length (w.attentions n) ≤ 8

-- the two keys of a node that fences another
pub record AreKeys (own victim : Key) (n : Nexus) : Type 0 where
  pub own_fits : own.0 < 2 ^ 64
  pub victim_fits : victim.0 < 2 ^ 64
  pub differ : own.0 ≡ victim.0 → ⊥
  pub own_some : own.0 ≡ 0 → ⊥
  pub victim_some : victim.0 ≡ 0 → ⊥
  pub name : n.name < 2 ^ 64
  pub port : n.port ≡ 1

module _ (own victim : Key) (n : Nexus) (k : AreKeys own victim n) where
  -- no unit attention waits
  abbrev pub Calm : World → Type 0
  Calm w = Knows victim n w × (w.attentions n ≡ [])

  -- and the agent's key is registered, and the victim's, or not
  abbrev pub Joined : Bool → World → Type 0
  Joined was w = Calm w × (key_of w.standing.pairs n ≡ Some own.0) × (list_any (has_key victim.0) w.standing.pairs ≡ was)

  abbrev pub Seen : Bool → Bool → World → Type 0
  Seen mine was w = Calm w × (mine ≡ true → key_of w.standing.pairs n ≡ Some own.0) × (list_any (has_key victim.0) w.standing.pairs ≡ was)

  port_small : n.port < 2 ^ 16
  port_small = subst (λ (x : ℕ). x < 2 ^ 16) (sym k.port) (lit< tt)

  -- a world that an accepted PERSISTENT RESERVE OUT of the agent has left
  joined_on : (w : World) (s : Standing) (a : Answer) (was : Bool) → Calm w → LeavesSo w n s a → IsWellFormed LIMIT s → FitFields s → key_of s.pairs n ≡ Some own.0 → list_any (has_key victim.0) s.pairs ≡ was → Joined was a.world
  joined_on w s a was calm l formed fits own_is there = (
    (
      record {
        formed = subst (IsWellFormed LIMIT) (sym l.standing) formed;
        fits = subst FitFields (sym l.standing) fits;
        other = λ is. k.differ (let same : Some own.0 ≡ Some victim.0 = sym own_is ∙ sym (ap (λ (x : Standing). key_of x.pairs n) l.standing) ∙ is in cc);
        room = inl (ap (λ (x : Standing). is_registered x.pairs n) l.standing ∙ registered_of s.pairs n own.0 own_is);
        known = subst (λ (x : List Nexus). (is_known x n ≡ true) ⊎ (length x < KNOWN)) (sym l.known) calm.0.known;
        attends = subst (AllByRecursion (λ (c : Code). c.key ≡ UNIT_ATTENTION)) (sym l.attentions) calm.0.attends;
        few = subst (λ (x : List Code). length x ≤ 8) (sym l.attentions) calm.0.few;
      },
      l.attentions ∙ calm.1,
    ),
    ap (λ (x : Standing). key_of x.pairs n) l.standing ∙ own_is,
    ap (λ (x : Standing). list_any (has_key victim.0) x.pairs) l.standing ∙ there,
  )

  key_is : (aptpl : Bool) → (list_of (spelled_list (out_list 0 own.0 aptpl))).action_key ≡ own.0
  key_is aptpl = let same = from_be_bytes-to_be_bytes_8 own.0 k.own_fits in rw same refl

  own_key_is : (action_key : ℕ) → (list_of (spelled_list (out_list own.0 action_key false))).key ≡ own.0
  own_key_is action_key = let same = from_be_bytes-to_be_bytes_8 own.0 k.own_fits in rw same refl

  victim_key_is : (list_of (spelled_list (out_list own.0 victim.0 false))).action_key ≡ victim.0
  victim_key_is = let same = from_be_bytes-to_be_bytes_8 victim.0 k.victim_fits in rw same refl

  -- a command that was answered GOOD, and left such a world
  abbrev pub Granted : (World → Type 0) → World → Order → Type 0
  Granted Q w o = ((answered w n 0 (cdb_of o) o.list).out ≡ good []) × Q (answered w n 0 (cdb_of o) o.list).world

  granted_by : (Q : World → Type 0) (w : World) (o : Order) (a : Answer) → answered w n 0 (cdb_of o) o.list ≡ a → a.out ≡ good [] → Q a.world → Granted Q w o
  granted_by Q w o a is out left = (ap (λ (x : Answer). x.out) is ∙ out, subst Q (sym (ap (λ (x : Answer). x.world) is)) left)

  register_so : (aptpl was : Bool) (w : World) → Calm w → list_any (has_key victim.0) w.standing.pairs ≡ was → Granted (Joined was) w (reserve_out outs.RegisterAndIgnoreExistingKey 0 (out_list 0 own.0 aptpl))
  register_so aptpl was w calm there =
      let l : OutList = list_of (spelled_list (out_list 0 own.0 aptpl)) in
      let a : Acted = acted LIMIT w.standing n (out_request 6 0 0 l) in
      let key : l.action_key ≡ own.0 = key_is aptpl in
      let leads_so : a ≡ leads (registered w.standing n l.action_key l.aptpl) = register_leads w.standing n l.action_key l.aptpl (λ none. k.own_some (sym key ∙ none)) calm.0.room in
      let left : a.standing ≡ registered w.standing n l.action_key l.aptpl = ap (λ (x : Acted). x.standing) leads_so in
      let so : LeavesSo w n a.standing (reserves_out w n 6 a) = accepted_so w n 6 a (ap (λ (x : Acted). x.verdict) leads_so) in
      let fits : FitFields (registered w.standing n l.action_key l.aptpl) = (omega arith, fits_put w.standing.pairs n l.action_key k.name port_small (subst (λ (x : ℕ). x < 2 ^ 64) (sym key) k.own_fits) calm.0.fits.1) in
      granted_by (Joined was) w (reserve_out outs.RegisterAndIgnoreExistingKey 0 (out_list 0 own.0 aptpl)) (reserves_out w n 6 a) (register_granted w n calm.1 own.0 aptpl) so.out
      (joined_on w a.standing (reserves_out w n 6 a) was calm so (well_formed LIMIT w.standing n (out_request 6 0 0 l) calm.0.formed) (subst FitFields (sym left) fits)
      (ap (λ (x : Standing). key_of x.pairs n) left ∙ own_in w.standing.pairs n l.action_key ∙ ap (λ (x : ℕ). Some x) key)
      (ap (λ (x : Standing). list_any (has_key victim.0) x.pairs) left ∙ others_in w.standing.pairs n l.action_key victim.0 calm.0.formed.ascending calm.0.other (λ same. k.differ (sym key ∙ same)) ∙ there))

  reserve_so : (was : Bool) (w : World) → Joined was w → w.standing.reservation ≡ Free → Granted (Joined was) w (reserve_out outs.Reserve 5 (out_list own.0 0 false))
  reserve_so was w holds free =
      let l : OutList = list_of (spelled_list (out_list own.0 0 false)) in
      let a : Acted = acted LIMIT w.standing n (out_request 1 0 5 l) in
      let leads_so : a ≡ leads (record w.standing { reservation = held WriteRegistrants n }) = reserve_leads w.standing n own.0 l.key holds.1 (own_key_is 0) free in
      let left : a.standing ≡ record w.standing { reservation = held WriteRegistrants n } = ap (λ (x : Acted). x.standing) leads_so in
      let so : LeavesSo w n a.standing (reserves_out w n 1 a) = accepted_so w n 1 a (ap (λ (x : Acted). x.verdict) leads_so) in
      granted_by (Joined was) w (reserve_out outs.Reserve 5 (out_list own.0 0 false)) (reserves_out w n 1 a) (reserve_granted w n holds.0.1 own.0) so.out
      (joined_on w a.standing (reserves_out w n 1 a) was holds.0 so (well_formed LIMIT w.standing n (out_request 1 0 5 l) holds.0.0.formed)
      (subst FitFields (sym left) (holds.0.0.fits.0, holds.0.0.fits.1)) (ap (λ (x : Standing). key_of x.pairs n) left ∙ holds.1) (ap (λ (x : Standing). list_any (has_key victim.0) x.pairs) left ∙ holds.2))

  preempt_so : (w : World) → Joined true w → Granted (Joined false) w (reserve_out outs.PreemptAndAbort 5 (out_list own.0 victim.0 false))
  preempt_so w holds =
      let l : OutList = list_of (spelled_list (out_list own.0 victim.0 false)) in
      let a : Acted = acted LIMIT w.standing n (out_request 5 0 5 l) in
      let acts : a ≡ preempt w.standing n 0 5 victim.0 =
      ap (λ (x : Option ℕ). if not (is_own x l.key) then stays w.standing Conflict else preempt w.standing n 0 5 l.action_key) holds.1
      ∙ ap (λ (b : Bool). if not b then stays w.standing Conflict else preempt w.standing n 0 5 l.action_key) (eq-eqb own.0 l.key (sym (own_key_is victim.0)))
      ∙ ap (preempt w.standing n 0 5) victim_key_is in
      let r : RemovesAll w.standing n own.0 victim.0 a = subst (RemovesAll w.standing n own.0 victim.0) (sym acts) (preempt_leads w.standing n own.0 victim.0 holds.0.0.formed.ascending holds.1 k.differ k.victim_some holds.2) in
      let so : LeavesSo w n a.standing (reserves_out w n 5 a) = accepted_so w n 5 a r.good in
      granted_by (Joined false) w (reserve_out outs.PreemptAndAbort 5 (out_list own.0 victim.0 false)) (reserves_out w n 5 a) (preempt_granted w n holds.0.1 own.0 victim.0) so.out
      (joined_on w a.standing (reserves_out w n 5 a) false holds.0 so (well_formed LIMIT w.standing n (out_request 5 0 5 l) holds.0.0.formed) (r.fits holds.0.0.fits) r.own_is r.gone)

  -- The steps

  module _ (C : Course) where
    looks_steps : Steps C n Calm (λ s. Seen s.own s.victim) (Looks n own victim)
    looks_steps =
        reads_steps C n Calm (λ s. Seen s.own s.victim) ask.FullStatus (reserve_in ins.ReadFullStatus) (seen_in n own victim)
        (record { plain = status_plain; told = λ w. take 65535 (full_reply w.standing); good = λ w calm. ap (λ (x : Answer). x.out) (full_granted w n calm.1) }) (λ w. sight_of n own victim (listed_entries w.standing))
        (λ w calm. full_told n own victim w.standing calm.0.formed.within calm.0.fits)
        (λ w calm.
        subst (λ (v : World). Seen (sight_of n own victim (listed_entries w.standing)).own (sight_of n own victim (listed_entries w.standing)).victim v) (sym (ap (λ (x : Answer). x.world) (full_granted w n calm.1)))
        (calm, (λ mine. own_listed w.standing.pairs n own.0 calm.0.formed.ascending (sym (own_seen n own victim w.standing) ∙ mine)), sym (victim_seen n own victim w.standing)))

    joins_steps : (aptpl mine was : Bool) → Steps C n (Seen mine was) (λ u. Joined was) (Unless mine (Registers own aptpl))
    joins_steps aptpl mine was =
        unless_steps C n (Seen mine was) (Joined was) mine (Registers own aptpl) (λ is w seen. (seen.0, seen.1 is, seen.2))
        (λ is.
        orders_steps C n (Seen mine was) (Joined was) ask.Registration (reserve_out outs.RegisterAndIgnoreExistingKey 0 (out_list 0 own.0 aptpl))
        (record { plain = registration_plain (out_list 0 own.0 aptpl); told = λ w. []; good = λ w seen. (register_so aptpl was w seen.0 seen.2).0 }) (λ w seen. (register_so aptpl was w seen.0 seen.2).1))

    abbrev Asked : Bool → Bool → World → Type 0
    Asked was held w = Joined was w × (stands w.standing.reservation ≡ held)

    asks_steps : (was : Bool) → Steps C n (Joined was) (Asked was) Asks
    asks_steps was =
        reads_steps C n (Joined was) (Asked was) ask.Reservation (reserve_in ins.ReadReservation) held_in
        (record { plain = reservation_plain; told = λ w. take 65535 (reservation_reply w.standing); good = λ w holds. ap (λ (x : Answer). x.out) (reservation_granted w n holds.0.1) }) (λ w. stands w.standing.reservation)
        (λ w holds. held_told w.standing) (λ w holds. subst (Asked was (stands w.standing.reservation)) (sym (ap (λ (x : Answer). x.world) (reservation_granted w n holds.0.1))) (holds, refl))

    reserves_steps : (was held : Bool) → Steps C n (Asked was held) (λ u. Joined was) (Unless held (Reserves own))
    reserves_steps was held =
        unless_steps C n (Asked was held) (Joined was) held (Reserves own) (λ is w asked. asked.0)
        (λ is.
        orders_steps C n (Asked was held) (Joined was) ask.Reserve (reserve_out outs.Reserve 5 (out_list own.0 0 false))
        (record { plain = reserve_plain (out_list own.0 0 false); told = λ w. []; good = λ w asked. (reserve_so was w asked.0 (is_free w.standing.reservation (asked.1 ∙ is))).0 })
        (λ w asked. (reserve_so was w asked.0 (is_free w.standing.reservation (asked.1 ∙ is))).1))

    holds_steps : (was : Bool) → Steps C n (Joined was) (λ u. Joined was) (Holds own)
    holds_steps was = then_steps C n (Joined was) (Asked was) (λ u. Joined was) Asks (λ held. Unless held (Reserves own)) (asks_steps was) (reserves_steps was)

    removes_steps : (was : Bool) → Steps C n (Joined was) (λ u. Joined false) (Where was (Removes own victim))
    removes_steps was =
        where_steps C n (Joined was) (Joined false) was (Removes own victim) (λ is w holds. (holds.0, holds.1, holds.2 ∙ is))
        (λ is.
        orders_steps C n (Joined was) (Joined false) ask.Removal (reserve_out outs.PreemptAndAbort 5 (out_list own.0 victim.0 false))
        (record { plain = preempt_plain (out_list own.0 victim.0 false); told = λ w. []; good = λ w holds. (preempt_so w (holds.0, holds.1, holds.2 ∙ is)).0 }) (λ w holds. (preempt_so w (holds.0, holds.1, holds.2 ∙ is)).1))

    abbrev Listed : Bool → World → Type 0
    Listed there w = Joined false w × (there ≡ false)

    finds_steps : Steps C n (Joined false) Listed (Finds victim)
    finds_steps =
        reads_steps C n (Joined false) Listed ask.Keys (reserve_in ins.ReadKeys) (listed_in victim)
        (record { plain = keys_plain; told = λ w. take 65535 (keys_reply w.standing); good = λ w holds. ap (λ (x : Answer). x.out) (keys_granted w n holds.0.1) }) (λ w. list_any (has_key victim.0) w.standing.pairs)
        (λ w holds. keys_told victim w.standing holds.0.0.formed.within holds.0.0.fits) (λ w holds. subst (Listed (list_any (has_key victim.0) w.standing.pairs)) (sym (ap (λ (x : Answer). x.world) (keys_granted w n holds.0.1))) (holds, holds.2))

    gone_steps : (there : Bool) → Steps C n (Listed there) (λ u. Joined false) (Gives (gone_by there))
    gone_steps true = gives_never C n (Listed true) (λ u. Joined false) StillThere (λ w listed. absurd (let never : true ≡ false = listed.1 in cc))
    gone_steps false = gives_steps C n (Listed false) (λ u. Joined false) tt (λ w listed. listed.0)

    checks_steps : Steps C n (Joined false) (λ u. Joined false) (Checks victim)
    checks_steps = then_steps C n (Joined false) Listed (λ u. Joined false) (Finds victim) (λ there. Gives (gone_by there)) finds_steps gone_steps

    -- Readiness: each unit attention is told once, and then none waits

    abbrev pub Waits : ℕ → World → Type 0
    Waits most w = Knows victim n w × (length (w.attentions n) < most)

    told_next : (c : Code) (cs : List Code) (w v : World) (most : ℕ) → w.attentions n ≡ c ∷ cs → v ≡ record w { attentions = set_at w.attentions n cs } → Waits (suc most) w → Waits most v
    told_next c cs w v most waits is holds =
        let next : v.attentions n ≡ cs = ap (λ (x : World). x.attentions n) is ∙ ap (λ (b : Bool). if b then cs else w.attentions n) (same_self n) in
        let stays_so : v.standing ≡ w.standing = ap (λ (x : World). x.standing) is in
        let long : length (w.attentions n) ≡ suc (length cs) = ap length waits in
        let all : AllByRecursion (λ (x : Code). x.key ≡ UNIT_ATTENTION) (c ∷ cs) = subst (AllByRecursion (λ (x : Code). x.key ≡ UNIT_ATTENTION)) waits holds.0.attends in
        let short : length cs ≤ 8 = omega (arith, long, holds.0.few) in (
          record {
            formed = subst (IsWellFormed LIMIT) (sym stays_so) holds.0.formed;
            fits = subst FitFields (sym stays_so) holds.0.fits;
            other = λ key. holds.0.other (sym (ap (λ (x : Standing). key_of x.pairs n) stays_so) ∙ key);
            room = subst (λ (x : Standing). (is_registered x.pairs n ≡ true) ⊎ (length x.pairs < LIMIT)) (sym stays_so) holds.0.room;
            known = subst (λ (x : List Nexus). (is_known x n ≡ true) ⊎ (length x < KNOWN)) (sym (ap (λ (x : World). x.known) is)) holds.0.known;
            attends = subst (AllByRecursion (λ (x : Code). x.key ≡ UNIT_ATTENTION)) (sym next) all.1;
            few = subst (λ (x : List Code). length x ≤ 8) (sym next) short;
          },
          subst (λ (x : List Code). length x < most) (sym next) (omega (arith, long, holds.1)),
        )

    -- an answer to TEST UNIT READY, by what waits
    by_waiting : (Q : World → Type 0) (a b : Link) (x : answers.Answer) (w : World) (s : Status) (sense : Option Sense) (bytes : List ℕ)
        → C.claim.Follows w (entry 0 n (Command 0 (cdb_of test_unit_ready) []) (Ended s sense bytes)) → Tells a b x s sense bytes → (cs : List Code) → w.attentions n ≡ cs
        → AllByRecursion (λ (c : Code). c.key ≡ UNIT_ATTENTION) cs
        → ((w.attentions n ≡ []) → moved w (entry 0 n (Command 0 (cdb_of test_unit_ready) []) (Ended s sense bytes)) ≡ w → x.status ≡ 0x00 → attention_in x.sense ≡ None → Q (moved w (entry 0 n (Command 0 (cdb_of test_unit_ready) []) (Ended s sense bytes))))
        → ((c : Code) (rest : List Code) → w.attentions n ≡ c ∷ rest → moved w (entry 0 n (Command 0 (cdb_of test_unit_ready) []) (Ended s sense bytes)) ≡ record w { attentions = set_at w.attentions n rest } → attention_in x.sense ≡ Some c → Q (moved w (entry 0 n (Command 0 (cdb_of test_unit_ready) []) (Ended s sense bytes))))
        → Q (moved w (entry 0 n (Command 0 (cdb_of test_unit_ready) []) (Ended s sense bytes)))
    by_waiting Q a b x w s sense bytes follows told [] waits all quiet more =
        let served = served_so C n w test_unit_ready (Ended s sense bytes) follows in
        let granted = ready_granted w n waits in
        let both = good_answered a b x s sense bytes [] told (served.ends ∙ ap (λ (y : Answer). y.out) granted) in
        quiet waits (served.world ∙ ap (λ (y : Answer). y.world) granted) both.0 both.1
    by_waiting Q a b x w s sense bytes follows told (c ∷ rest) waits all quiet more =
        let served = served_so C n w test_unit_ready (Ended s sense bytes) follows in
        let refused = attended w n c rest waits in
        more c rest waits (served.world ∙ ap (λ (y : Answer). y.world) refused) (attention_answered a b x s sense bytes c told (served.ends ∙ ap (λ (y : Answer). y.out) refused) all.0)

    readies : (most : ℕ) (last : Code) (a b : Link) (r : Result answers.Answer LinkFault) (y : Result (Unit {0}) FenceFault) → IsAt C n a → IsReady most last a b r → y ≡ judged_by ask.Readiness r → Comes C n (Waits most) (λ (u : Unit {0}). Calm) a b y
    unfolding IsReady
    readies zero last a b r y at (same, tired) is =
        let fails : y ≡ Err (fault.Link ask.Readiness (faults.Attention last)) = is ∙ ap (judged_by ask.Readiness) tired in
        subst (λ (z : Result (Unit {0}) FenceFault). Comes C n (Waits 0) (λ (u : Unit {0}). Calm) a b z) (sym fails)
        (λ stops. fails_never C n (Waits 0) a b (still C.claim n (Waits 0) (λ w. ⊥) a b same at.small (λ w holds. absurd (omega (arith, holds.1)))))
    readies (suc most) last a b (Err f) y at (inl (called, none)) is =
        subst (λ (z : Result (Unit {0}) FenceFault). Comes C n (Waits (suc most)) (λ (u : Unit {0}). Calm) a b z) (sym is) (λ stops. unanswered C n (Waits (suc most)) test_unit_ready a b f (ready_plain C.claim n) at stops called)
    readies (suc most) last a b (Ok x) y at (inl (called, none)) is = by y is
      where
        by : (z : Result (Unit {0}) FenceFault) → z ≡ judged_by ask.Readiness (Ok x) → Comes C n (Waits (suc most)) (λ (u : Unit {0}). Calm) a b z
        by (Ok u) good_is =
            passes C.claim n (Waits (suc most)) Calm test_unit_ready a b x (ready_plain C.claim n) at.small called
            (λ w s sense bytes holds follows told.
            by_waiting Calm a b x w s sense bytes follows told (w.attentions n) refl holds.0.attends
            (λ quiet same ok no_attention. subst Calm (sym same) (holds.0, quiet))
            (λ c rest waits same some. absurd (let never : Some c ≡ None = sym some ∙ none in cc)))
        by (Err e) bad_is =
            λ stops. fails_never C n (Waits (suc most)) a b
            (passes C.claim n (Waits (suc most)) (λ w. ⊥) test_unit_ready a b x (ready_plain C.claim n) at.small called
            (λ w s sense bytes holds follows told.
            by_waiting (λ v. ⊥) a b x w s sense bytes follows told (w.attentions n) refl holds.0.attends
            (λ quiet same ok no_attention. absurd (let never : Err e ≡ Ok tt = bad_is ∙ good_ok C n ask.Readiness x ok in cc))
            (λ c rest waits same some. absurd (let never : Some c ≡ None = sym some ∙ none in cc))))
    readies (suc most) last a b r y at (inr (mid, x, code, called, some_code, later)) is = by y (readies most code mid b r y (at_next C n (Waits (suc most)) (Waits most) a mid at p) later is)
      where
        p : Passes C.claim n (Waits (suc most)) (Waits most) a mid
        p =
            passes C.claim n (Waits (suc most)) (Waits most) test_unit_ready a mid x (ready_plain C.claim n) at.small called
            (λ w s sense bytes holds follows told.
            by_waiting (Waits most) a mid x w s sense bytes follows told (w.attentions n) refl holds.0.attends
            (λ quiet same ok no_attention. absurd (let never : Some code ≡ None = sym some_code ∙ no_attention in cc))
            (λ c rest waits same some. told_next c rest w _ most waits same holds))

        by : (z : Result (Unit {0}) FenceFault) → Comes C n (Waits most) (λ (u : Unit {0}). Calm) mid b z → Comes C n (Waits (suc most)) (λ (u : Unit {0}). Calm) a b z
        by (Ok u) q = joined C.claim n (Waits (suc most)) (Waits most) Calm a mid b p q
        by (Err e) q = λ stops. fails_on C n (Waits (suc most)) (Waits most) a mid b p (q stops)

    ready_steps : Steps C n (Waits 9) (λ u. Calm) (Judged ask.Readiness (IsReady 9 NO_SENSE))
    ready_steps a b r at (rr, ready, is) = readies 9 NO_SENSE a b rr r at ready is

    -- All steps behind the Login

    module _ (aptpl : Bool) where
      leaves_so : (was : Bool) → LastSteps C n (Joined false) (Joined false) (ChecksAndLeaves victim was)
      leaves_so was = then_last C n (Joined false) (Joined false) (λ u. Joined false) (Checks victim) (λ u. Leaves was) checks_steps (λ u. leaves_last C n (Joined false) was)

      ousts_so : (was : Bool) → LastSteps C n (Joined false) (Joined was) (Ousts own victim was)
      ousts_so was = then_last C n (Joined false) (Joined was) (λ u. Joined false) (Where was (Removes own victim)) (λ u. ChecksAndLeaves victim was) (removes_steps was) (λ u. leaves_so was)

      held_so : (was : Bool) → LastSteps C n (Joined false) (Joined was) (HoldsAndOusts own victim was)
      held_so was = then_last C n (Joined false) (Joined was) (λ u. Joined was) (Holds own) (λ u. Ousts own victim was) (holds_steps was) (λ u. ousts_so was)

      looked_so : LastSteps C n (Joined false) Calm (LooksAndOusts n own victim aptpl)
      looked_so =
          then_last C n (Joined false) Calm (λ s. Seen s.own s.victim) (Looks n own victim) (JoinsAndOusts own victim aptpl) looks_steps
          (λ s. then_last C n (Joined false) (Seen s.own s.victim) (λ u. Joined s.victim) (Unless s.own (Registers own aptpl)) (λ u. HoldsAndOusts own victim s.victim) (joins_steps aptpl s.own s.victim) (λ u. held_so s.victim))

      pub all_last : LastSteps C n (Joined false) (Waits 9) (Then (Judged ask.Readiness (IsReady 9 NO_SENSE)) (λ u. LooksAndOusts n own victim aptpl))
      all_last = then_last C n (Joined false) (Waits 9) (λ u. Calm) (Judged ask.Readiness (IsReady 9 NO_SENSE)) (λ u. LooksAndOusts n own victim aptpl) ready_steps (λ u. looked_so)
