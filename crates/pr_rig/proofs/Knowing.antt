-- What an agent knows of the world of a device that it has to itself: it stays so, and its commands are answered GOOD (SPC-4).
use Rattle.std.proofs.Common.{◌≡◌, cond, ◌⊎◌, inl, inr, ◌^◌, ◌<◌, ◌&&◌, nat_lt, not, ℕ, Bool, true, false, List, [], ◌∷◌, length, Option, Some, None, refl, sym, ap, ◌∙◌, subst, arith}
use Rattle.std.specs.Prelude.{All, if◌then◌else◌}
use Rattle.std.specs.List.{list_any, filter}
use Rattle.std.proofs.lemmas.Bool.{eq-eqb, ne_eqb, lt-ltb, and_right}
use Rattle.std.proofs.lemmas.List.Elements.{All-append, All-cons, All-head, All-tail}
use Rattle.pr_words.specs.Orders.{same_nexus}
use Rattle.pr_words.specs.declared.code.Code.{Code}
use Rattle.pr_words.specs.declared.limits.TheConstants.{LIMIT}
use Rattle.pr_words.specs.declared.nexus.Nexus.{Nexus}
use Rattle.pr_words.specs.declared.nexus.Pair.{Pair}
use Rattle.pr_words.specs.declared.reservation.Kind.TheVariants.{WriteRegistrants}
use Rattle.pr_words.specs.declared.code.TheConstants.Code.{INVALID_FIELD_IN_PARAMETER_LIST, REGISTRATIONS_PREEMPTED}
use Rattle.pr_words.specs.declared.reservation.Reservation.{Reservation}
use Rattle.pr_words.specs.declared.reservation.Reservation.TheVariants.{Free}
use Rattle.pr_grammar.specs.InReplies.{FitsPair}
use Rattle.pr_grammar.specs.Standings.{Standing, is_at, is_registered, key_of, kind_of}
use Rattle.pr_model.specs.Acts.{Acted, Bad, Conflict, Good, Verdict, is_own, leads, register, registered, removing, preempt, reserve_of, risen, stays, taking, is_holders_key, is_of_all, while_any}
use Rattle.pr_model.specs.Attentions.{is_other, raised_any, told, with_code}
use Rattle.pr_model.specs.Commands.{Answer, by_verdict, good, reserve_out as reserves_out}
use Rattle.pr_model.specs.Registrants.{IsAscending, but_those, held, is_earlier, is_later, has_key, pair, with_pair}
use Rattle.pr_model.specs.Tasks.{marked}
use Rattle.pr_model.specs.Worlds.{World}
use Rattle.pr_param.specs.Fits.{FitFields}
use Rattle.pr_rig.proofs.Pairs.{gone_all, gone_others, own_spared, own_stays}

-- A PERSISTENT RESERVE OUT that is accepted

pub same_self : (n : Nexus) → same_nexus n n ≡ true
same_self n = rw (eq-eqb n.name n.name refl, eq-eqb n.port n.port refl) refl

-- the caller is told nothing of its own command
raised_not : (n : Nexus) (ps : List Pair) (c : Option Code) (lists : Nexus → List Code) → raised_any (is_other n ps) c lists n ≡ lists n
raised_not n ps None lists = refl
raised_not n ps (Some c) lists = ap (λ (b : Bool). if b then with_code c (lists n) else lists n) (and_right (is_registered ps n) (not (same_nexus n n)) (ap not (same_self n)))

told_not : (n : Nexus) (a : Acted) (lists : Nexus → List Code) → told n a lists n ≡ lists n
told_not n a lists = raised_not n a.standing.pairs a.stay_code (raised_any (is_other n a.removed) a.removed_code lists) ∙ raised_not n a.removed a.removed_code lists

-- what it leaves
pub record LeavesSo (w : World) (n : Nexus) (s : Standing) (a : Answer) : Type 0 where
  pub out : a.out ≡ good []
  pub standing : a.world.standing ≡ s
  pub attentions : a.world.attentions n ≡ w.attentions n
  pub known : a.world.known ≡ w.known

pub accepted_so : (w : World) (n : Nexus) (action : ℕ) (a : Acted) → a.verdict ≡ Good → LeavesSo w n a.standing (reserves_out w n action a)
accepted_so w n action a good_is =
    let whole : reserves_out w n action a ≡ reserves_out w n action (record a { verdict = Good }) = ap (λ (v : Verdict). by_verdict w (record w { standing = a.standing; attentions = told n a w.attentions; task = marked action a.removed w.task; doubts = [] }) v) good_is in
    subst (LeavesSo w n a.standing) (sym whole) (record { out = refl; standing = refl; attentions = told_not n a w.attentions; known = refl })

-- Lists of registrations

all_filter : (P : Pair → Type 0) (keeps : Pair → Bool) (ps : List Pair) → All P ps → All P (filter keeps ps)
all_filter P keeps [] all = all
all_filter P keeps (p ∷ ps) all = by (keeps p) (all_filter P keeps ps (All-tail P p ps all))
  where
    by : (b : Bool) → All P (filter keeps ps) → All P (cond b (p ∷ filter keeps ps) (filter keeps ps))
    by true rest = All-cons P p (filter keeps ps) (All-head P p ps all) rest
    by false rest = rest

pub fits_put : (ps : List Pair) (n : Nexus) (k : ℕ) → n.name < 2 ^ 64 → n.port < 2 ^ 16 → k < 2 ^ 64 → All FitsPair ps → All FitsPair (with_pair ps (pair n k))
fits_put ps n k name port key all =
    All-append FitsPair (filter (is_earlier n) ps) (pair n k ∷ filter (is_later n) ps) (all_filter FitsPair (is_earlier n) ps all)
    (All-cons FitsPair (pair n k) (filter (is_later n) ps) (key, name, port) (all_filter FitsPair (is_later n) ps all))

-- What the acts of the agent leave

-- REGISTER AND IGNORE EXISTING KEY, with a key, of a nexus that is registered or has room
pub register_leads : (s : Standing) (n : Nexus) (key : ℕ) (aptpl : Bool) → (key ≡ 0 → ⊥) → (is_registered s.pairs n ≡ true) ⊎ (length s.pairs < LIMIT) → register LIMIT s n key aptpl ≡ leads (registered s n key aptpl)
register_leads s n key aptpl some room = rw (ne_eqb key 0 some, full room) refl
  where
    full : (is_registered s.pairs n ≡ true) ⊎ (length s.pairs < LIMIT) → (not (is_registered s.pairs n) && not (nat_lt (length s.pairs) LIMIT)) ≡ false
    full (inl is) = rw is refl
    full (inr lt) = and_right (not (is_registered s.pairs n)) (not (nat_lt (length s.pairs) LIMIT)) (ap not (lt-ltb (length s.pairs) LIMIT lt))

-- RESERVE of type 5h by a registered nexus, where none is held
pub reserve_leads : (s : Standing) (n : Nexus) (own key : ℕ) → key_of s.pairs n ≡ Some own → key ≡ own → s.reservation ≡ Free
    → (if not (is_own (key_of s.pairs n) key) then stays s Conflict else reserve_of (kind_of s.reservation) s n 5) ≡ leads (record s { reservation = held WriteRegistrants n })
reserve_leads s n own key is same free =
    ap (λ (k : Option ℕ). if not (is_own k key) then stays s Conflict else reserve_of (kind_of s.reservation) s n 5) is
    ∙ ap (λ (b : Bool). if not b then stays s Conflict else reserve_of (kind_of s.reservation) s n 5) (eq-eqb own key (sym same))
    ∙ ap (λ (r : Reservation). reserve_of (kind_of r) s n 5) free

-- PREEMPT AND ABORT of a key that is registered, other than the caller's own
pub record RemovesAll (s : Standing) (n : Nexus) (own victim : ℕ) (a : Acted) : Type 0 where
  pub good : a.verdict ≡ Good
  pub gone : list_any (has_key victim) a.standing.pairs ≡ false
  pub own_is : key_of a.standing.pairs n ≡ Some own
  pub fits : FitFields s → FitFields a.standing

less_fits : (s : Standing) (goes : Pair → Bool) (r : Reservation) → FitFields s → FitFields (record s { pairs = but_those goes s.pairs; reservation = r; generation = risen s.generation })
less_fits s goes r fits = (omega arith, all_filter FitsPair (λ p. not (goes p)) s.pairs fits.1)

pub preempt_leads : (s : Standing) (n : Nexus) (own victim : ℕ) → IsAscending s.pairs → key_of s.pairs n ≡ Some own → (own ≡ victim → ⊥) → (victim ≡ 0 → ⊥) → list_any (has_key victim) s.pairs ≡ true → RemovesAll s n own victim (preempt s n 0 5 victim)
preempt_leads s n own victim up is differ some there =
    subst (λ (b : Bool). RemovesAll s n own victim (if b then at_zero else others)) (sym (ne_eqb victim 0 some)) (by (is_holders_key s victim))
  where
    at_zero : Acted
    at_zero = if is_of_all s.reservation then taking s n 0 5 (λ p. not (is_at n p)) else stays s (Bad INVALID_FIELD_IN_PARAMETER_LIST)

    last : Acted
    last = if list_any (has_key victim) s.pairs then removing s (has_key victim) (while_any (but_those (has_key victim) s.pairs) s.reservation) REGISTRATIONS_PREEMPTED None else stays s Conflict

    others : Acted
    others = if is_holders_key s victim then taking s n 0 5 (λ p. has_key victim p && not (is_at n p)) else last

    removed : RemovesAll s n own victim (removing s (has_key victim) (while_any (but_those (has_key victim) s.pairs) s.reservation) REGISTRATIONS_PREEMPTED None)
    removed = record { good = refl; gone = gone_all victim s.pairs; own_is = own_stays s.pairs n own victim is differ; fits = less_fits s (has_key victim) (while_any (but_those (has_key victim) s.pairs) s.reservation) }

    by : (b : Bool) → RemovesAll s n own victim (if b then taking s n 0 5 (λ p. has_key victim p && not (is_at n p)) else last)
    by true = record { good = refl; gone = gone_others s.pairs n own victim up is differ; own_is = own_spared s.pairs n victim ∙ is; fits = less_fits s (λ p. has_key victim p && not (is_at n p)) (held WriteRegistrants n) }
    by false = subst (λ (b : Bool). RemovesAll s n own victim (if b then removing s (has_key victim) (while_any (but_those (has_key victim) s.pairs) s.reservation) REGISTRATIONS_PREEMPTED None else stays s Conflict)) (sym there) removed
