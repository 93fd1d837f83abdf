-- Commands behind which a reservation stands.
use Rattle.std.proofs.Common.{◌≡◌, ℕ, ◌==◌, ◌≤◌, Bool, true, false, not, ◌&&◌, List, [], ◌∷◌, ◌++◌, length, take, Option, Some, None, refl, sym, ap, ◌∙◌, subst, arith}
use Rattle.std.specs.Prelude.{Ok, if◌then◌else◌}
use Rattle.std.specs.Int.{w32, to_be_bytes}
use Rattle.std.specs.List.{list_any}
use Rattle.std.proofs.lemmas.Bool.{false≢true, eqb-true}
use Rattle.std.proofs.lemmas.List.{take_all}
use Rattle.pr_words.specs.declared.nexus.Nexus.{Nexus}
use Rattle.pr_words.specs.declared.nexus.Pair.{Pair}
use Rattle.pr_words.specs.declared.reservation.Kind.{Kind}
use Rattle.pr_words.specs.declared.reservation.Kind.TheVariants.{WriteExclusive, ExclusiveAccess, WriteRegistrants, ExclusiveRegistrants, WriteAll, ExclusiveAll}
use Rattle.pr_words.specs.declared.reservation.Reservation.{Reservation}
use Rattle.pr_words.specs.declared.reservation.Reservation.TheVariants.{Free, OfOne, OfAll}
use Rattle.pr_words.specs.Kinds.{kind_code}
use Rattle.pr_grammar.specs.declared.cdb.Command.TheVariants.{ReserveIn, ReserveOut}
use Rattle.pr_grammar.specs.declared.param.OutList.{OutList}
use Rattle.pr_grammar.specs.Cdbs.{spelled_cdb}
use Rattle.pr_grammar.specs.InReplies.{reservation_part, reservation_reply}
use Rattle.pr_grammar.specs.OutLists.{list_of}
use Rattle.pr_grammar.specs.Standings.{Standing, kind_of, holder_of, key_of, is_at, is_holder}
use Rattle.pr_words.specs.declared.code.TheConstants.Code.{INVALID_FIELD_IN_PARAMETER_LIST, REGISTRATIONS_PREEMPTED}
use Rattle.pr_model.specs.Acts.{Acted, Verdict, Good, Conflict, Bad, acted, leads, stays, reserve, reserve_of, is_own, preempt, taking, removing, is_of_all, is_holders_key, while_any}
use Rattle.pr_model.specs.Commands.{good, by_verdict, out_request}
use Rattle.pr_model.specs.Entries.{Command, entry}
use Rattle.pr_model.specs.Histories.{MayFollow, moved}
use Rattle.pr_words.specs.declared.limits.TheConstants.{LIMIT}
use Rattle.pr_model.specs.Registrants.{has_key, but_those, held}
use Rattle.pr_model.specs.Worlds.{World}
use Rattle.pr_initiator.specs.Commands.{plain_cdb}
use Rattle.pr_fence.specs.Seeing.{held_in}
use Rattle.pr_rig.specs.Rig.{IsReserved}
use Rattle.pr_rig.proofs.Answered.{served_by, same_told}

-- READ RESERVATION

abbrev pub reservation_cdb : List ℕ
reservation_cdb = spelled_cdb (plain_cdb (ReserveIn 1 65535))

part_length : (pairs : List Pair) (kind : Option Kind) (holder : Option Nexus) → length (reservation_part pairs kind holder) ≤ 20
part_length pairs None holder = omega arith
part_length pairs (Some kind) None = omega arith
part_length pairs (Some kind) (Some holder) = omega arith

pub reply_length : (s : Standing) → length (reservation_reply s) ≤ 65535
reply_length s = let h = part_length s.pairs (kind_of s.reservation) (holder_of s.reservation) in omega (arith, h)

-- where none is held, none is read, whatever the generation is
none_read : (generation : ℕ) (pairs : List Pair) (holder : Option Nexus) → held_in (to_be_bytes w32 generation ++ reservation_part pairs None holder) ≡ Ok false
none_read generation pairs holder = refl

told_reserved : (s : Standing) (told : List ℕ) → good (take 65535 (reservation_reply s)) ≡ good told → Ok true ≡ held_in told → IsReserved s
told_reserved s told is there free =
    let whole : reservation_reply s ≡ told = sym (take_all 65535 (reservation_reply s) (reply_length s)) ∙ same_told (take 65535 (reservation_reply s)) told is in
    let none : kind_of s.reservation ≡ None = ap kind_of free in
    let part : held_in (reservation_reply s) ≡ held_in (to_be_bytes w32 s.generation ++ reservation_part s.pairs None (holder_of s.reservation)) = ap (λ (k : Option Kind). held_in (to_be_bytes w32 s.generation ++ reservation_part s.pairs k (holder_of s.reservation))) none in
    let never : Ok true ≡ Ok false = there ∙ ap held_in (sym whole) ∙ part ∙ none_read s.generation s.pairs (holder_of s.reservation) in
    absurd cc

-- where READ RESERVATION is answered GOOD, with data that tell of one, it stands, and the world stays
pub reservation_tells : (w : World) (who : ℕ) (n : Nexus) (lun : ℕ) (sent told : List ℕ) → MayFollow w (entry who n (Command lun reservation_cdb sent) (good told)) → Ok true ≡ held_in told
    → (moved w (entry who n (Command lun reservation_cdb sent) (good told)) ≡ w) × IsReserved w.standing
reservation_tells w who n lun sent told may there =
    let served = served_by w who n lun reservation_cdb sent told may in
    (served.world, told_reserved w.standing told served.out there)

-- PERSISTENT RESERVE OUT

-- an accepted one leaves what the act makes
verdict_good : (w next : World) (v : Verdict) (told : List ℕ) → (by_verdict w next v).out ≡ good told → (v ≡ Good) × ((by_verdict w next v).world ≡ next)
verdict_good w next Good told is = (refl, refl)
verdict_good w next Conflict told is = absurd cc
verdict_good w next (Bad c) told is = absurd cc

-- RESERVE

abbrev pub reserve_cdb : List ℕ
reserve_cdb = spelled_cdb (plain_cdb (ReserveOut 1 0 5 24))

held_stands : (k : Kind) (n : Nexus) → held k n ≡ Free → ⊥
held_stands WriteExclusive n is = absurd cc
held_stands ExclusiveAccess n is = absurd cc
held_stands WriteRegistrants n is = absurd cc
held_stands ExclusiveRegistrants n is = absurd cc
held_stands WriteAll n is = absurd cc
held_stands ExclusiveAll n is = absurd cc

kind_stands : (r : Reservation) (k : Kind) → kind_of r ≡ Some k → r ≡ Free → ⊥
kind_stands r k some free = absurd (let never : Some k ≡ None = sym some ∙ ap kind_of free in cc)

-- an act that is GOOD leaves a reservation
abbrev HoldsIfGood : Acted → Type 0
HoldsIfGood a = a.verdict ≡ Good → IsReserved a.standing

reserve_one : (s : Standing) (n : Nexus) (k : Option Kind) → kind_of s.reservation ≡ k → HoldsIfGood (reserve_of k s n 5)
reserve_one s n None is good = held_stands WriteRegistrants n
reserve_one s n (Some k) is good = by (is_holder s n && kind_code k == 5) good
  where
    by : (b : Bool) → HoldsIfGood (if b then leads s else stays s Conflict)
    by true good = kind_stands s.reservation k is
    by false good = absurd cc

reserve_acts : (s : Standing) (n : Nexus) (key action_key : ℕ) (aptpl : Bool) → HoldsIfGood (acted LIMIT s n (record { action = 1; scope = 0; kind = 5; key = key; action_key = action_key; aptpl = aptpl }))
reserve_acts s n key action_key aptpl = by (is_own (key_of s.pairs n) key)
  where
    by : (own : Bool) → HoldsIfGood (if not own then stays s Conflict else reserve s n 5)
    by true good = reserve_one s n (kind_of s.reservation) refl good
    by false good = absurd cc

-- where RESERVE of type 5h is answered GOOD, a reservation stands
pub reserve_holds : (w : World) (who : ℕ) (n : Nexus) (lun : ℕ) (sent told : List ℕ) → MayFollow w (entry who n (Command lun reserve_cdb sent) (good told)) → IsReserved (moved w (entry who n (Command lun reserve_cdb sent) (good told))).standing
reserve_holds w who n lun sent told may =
    let served = served_by w who n lun reserve_cdb sent told may in
    let l : OutList = list_of sent in
    let a : Acted = acted LIMIT w.standing n (out_request 1 0 5 l) in
    let both = verdict_good w _ a.verdict told served.out in
    subst (λ (x : World). IsReserved x.standing) (sym (served.world ∙ both.1)) (reserve_acts w.standing n l.key l.action_key l.aptpl both.0)

-- PREEMPT AND ABORT

abbrev pub preempt_cdb : List ℕ
preempt_cdb = spelled_cdb (plain_cdb (ReserveOut 5 0 5 24))

-- the caller stays where its key is another
caller_left : (key own : ℕ) (n : Nexus) (ps : List Pair) → key_of ps n ≡ Some own → (own ≡ key → ⊥) → length (but_those (has_key key) ps) ≡ 0 → ⊥
caller_left key own n [] is other none = absurd cc
caller_left key own n (p ∷ ps) is other none = by (is_at n p) (has_key key p) refl is none (λ rest few. caller_left key own n ps rest other few)
  where
    by : (at has : Bool) → has_key key p ≡ has → (if at then Some p.key.0 else key_of ps n) ≡ Some own → length (if not has then p ∷ but_those (has_key key) ps else but_those (has_key key) ps) ≡ 0 → (key_of ps n ≡ Some own → length (but_those (has_key key) ps) ≡ 0 → ⊥) → ⊥
    by true true has is none later = other (let same : p.key.0 ≡ own = cc in sym same ∙ eqb-true p.key.0 key has)
    by true false has is none later = absurd (omega (arith, none))
    by false true has is none later = later is none
    by false false has is none later = absurd (omega (arith, none))

taken_holds : (s : Standing) (n : Nexus) (goes : Pair → Bool) → HoldsIfGood (taking s n 0 5 goes)
taken_holds s n goes good = held_stands WriteRegistrants n

preempt_holds : (s : Standing) (n : Nexus) (own key : ℕ) → key_of s.pairs n ≡ Some own → (own ≡ key → ⊥) → IsReserved s → HoldsIfGood (preempt s n 0 5 key)
preempt_holds s n own key is other stands =
    by (key == 0) (is_of_all s.reservation) (is_holders_key s key) (list_any (has_key key) s.pairs)
  where
    left : (r : Reservation) → (r ≡ Free → ⊥) → while_any (but_those (has_key key) s.pairs) r ≡ Free → ⊥
    left Free some is_free = absurd (some refl)
    left (OfOne kind holder) some is_free = absurd cc
    left (OfAll kind) some is_free = anybody (length (but_those (has_key key) s.pairs) == 0) refl is_free
      where
        anybody : (b : Bool) → (length (but_those (has_key key) s.pairs) == 0) ≡ b → (if b then Free else OfAll kind) ≡ Free → ⊥
        anybody true none same = caller_left key own n s.pairs is other (eqb-true (length (but_those (has_key key) s.pairs)) 0 none)
        anybody false none same = absurd cc

    by : (a b c d : Bool)
        → HoldsIfGood (if a then (if b then taking s n 0 5 (λ p. not (is_at n p)) else stays s (Bad INVALID_FIELD_IN_PARAMETER_LIST)) else if c then taking s n 0 5 (λ p. has_key key p && not (is_at n p)) else
        if d then removing s (has_key key) (while_any (but_those (has_key key) s.pairs) s.reservation) REGISTRATIONS_PREEMPTED None else stays s Conflict)
    by true true c d good = taken_holds s n (λ p. not (is_at n p)) good
    by true false c d good = absurd cc
    by false b true d good = taken_holds s n (λ p. has_key key p && not (is_at n p)) good
    by false b false true good = left s.reservation stands
    by false b false false good = absurd cc

own_key : (k : Option ℕ) (key : ℕ) → is_own k key ≡ true → k ≡ Some key
own_key None key is = absurd (false≢true is)
own_key (Some own) key is = ap Some (eqb-true own key is)

preempt_acts : (s : Standing) (n : Nexus) (key action_key : ℕ) (aptpl : Bool) → (key ≡ action_key → ⊥) → IsReserved s → HoldsIfGood (acted LIMIT s n (record { action = 5; scope = 0; kind = 5; key = key; action_key = action_key; aptpl = aptpl }))
preempt_acts s n key action_key aptpl other stands = by (is_own (key_of s.pairs n) key) refl
  where
    by : (own : Bool) → is_own (key_of s.pairs n) key ≡ own → HoldsIfGood (if not own then stays s Conflict else preempt s n 0 5 action_key)
    by true is good = preempt_holds s n key action_key (own_key (key_of s.pairs n) key is) other stands good
    by false is good = absurd cc

-- where PREEMPT AND ABORT of another key is answered GOOD, a reservation that stood is followed by one that stands
pub preempt_keeps : (w : World) (who : ℕ) (n : Nexus) (lun : ℕ) (sent told : List ℕ) → ((list_of sent).key ≡ (list_of sent).action_key → ⊥) → IsReserved w.standing → MayFollow w (entry who n (Command lun preempt_cdb sent) (good told))
    → IsReserved (moved w (entry who n (Command lun preempt_cdb sent) (good told))).standing
preempt_keeps w who n lun sent told other stands may =
    let served = served_by w who n lun preempt_cdb sent told may in
    let l : OutList = list_of sent in
    let a : Acted = acted LIMIT w.standing n (out_request 5 0 5 l) in
    let both = verdict_good w _ a.verdict told served.out in
    subst (λ (x : World). IsReserved x.standing) (sym (served.world ∙ both.1)) (preempt_acts w.standing n l.key l.action_key l.aptpl other stands both.0)
