-- Whom an act reaches, and with which codes.
use Rattle.std.proofs.Common.{◌≡◌, ℕ, Bool, true, false, cond, not, ◌||◌, ◌&&◌, ◌==◌, List, [], ◌∷◌, Option, Some, None, ◌⊎◌, inl, inr, if◌then◌else◌, refl, sym, ◌∙◌, subst}
use Rattle.std.specs.List.{filter}
use Rattle.std.proofs.lemmas.List.Folds.{list_any-append}
use Rattle.pr_words.specs.declared.nexus.Nexus.{Nexus}
use Rattle.pr_words.specs.declared.nexus.Pair.{Pair}
use Rattle.pr_words.specs.declared.code.Code.{Code}
use Rattle.pr_words.specs.declared.reservation.Kind.{Kind}
use Rattle.pr_words.specs.declared.reservation.Reservation.{Reservation}
use Rattle.pr_words.specs.declared.reservation.Reservation.TheVariants.{Free, OfOne, OfAll}
use Rattle.pr_words.specs.Kinds.{kind_at}
use Rattle.pr_words.specs.Orders.{same_nexus}
use Rattle.pr_words.specs.declared.code.TheConstants.Code.{INSUFFICIENT_REGISTRATION_RESOURCES, INVALID_FIELD_IN_CDB, INVALID_FIELD_IN_PARAMETER_LIST, INVALID_RELEASE_OF_PERSISTENT_RESERVATION, REGISTRATIONS_PREEMPTED, RESERVATIONS_PREEMPTED, RESERVATIONS_RELEASED}
use Rattle.pr_words.specs.declared.code.TheConstants.{ILLEGAL_REQUEST}
use Rattle.pr_grammar.specs.Standings.{Standing, is_at, is_registered}
use Rattle.pr_model.specs.Registrants.{pair, has_key, with_pair, is_earlier, is_later}
use Rattle.pr_model.specs.Acts.{Acted, Good, Conflict, Bad, ReserveOut, is_single, missed, holder_left, held_code, taken, acted}
use Rattle.pr_model.specs.Attentions.{is_attention}
use Rattle.pr_model.specs.Cases.{Case, Unnamed, AllTaken, HolderTaken, KeyRemoved, NobodysKey, effect}
use Rattle.pr_model.specs.Effects.{Rule, Misnamed, Idle, Leaves, Overflows, Registers, Stranger, Reserves, NoSuchKind, HoldsAlready, HeldOtherwise, HoldsNothing, Releases, OtherKind, Clears, Preempts_by, effect_of}
use Rattle.pr_model.proofs.Orders.{same_is}
use Rattle.pr_model.proofs.Outcomes.{acted_pairs}
use Rattle.pr_model.proofs.Rules.{rule_of, rule_effect}

pub filter_registered : (keeps : Pair → Bool) (ps : List Pair) (m : Nexus) → is_registered (filter keeps ps) m ≡ true → is_registered ps m ≡ true
filter_registered keeps [] m e = e
filter_registered keeps (p ∷ ps) m e = by (keeps p) (is_at m p) refl e (filter_registered keeps ps m)
  where
    by : (k a : Bool) → is_at m p ≡ a → is_registered (cond k (p ∷ filter keeps ps) (filter keeps ps)) m ≡ true → (is_registered (filter keeps ps) m ≡ true → is_registered ps m ≡ true) → (a || is_registered ps m) ≡ true
    by k true f e ih = refl
    by true false f e ih = ih (rw f at e)
    by false false f e ih = ih e

-- it was registered before, or is the caller
abbrev Knows : Standing → Nexus → Nexus → Type 0
Knows s n m = (is_registered s.pairs m ≡ true) ⊎ (m ≡ n)

put_knows : (s : Standing) (n : Nexus) (key : ℕ) (m : Nexus) → is_registered (with_pair s.pairs (pair n key)) m ≡ true → Knows s n m
put_knows s n key m e =
    by (is_registered (filter (is_earlier n) s.pairs) m) (same_nexus n m) (is_registered (filter (is_later n) s.pairs) m) refl refl refl
    (sym (list_any-append (is_at m) (filter (is_earlier n) s.pairs) (pair n key ∷ filter (is_later n) s.pairs)) ∙ e)
  where
    by : (a b c : Bool) → is_registered (filter (is_earlier n) s.pairs) m ≡ a → same_nexus n m ≡ b → is_registered (filter (is_later n) s.pairs) m ≡ c → (a || (b || c)) ≡ true → Knows s n m
    by true b c f g h e = inl (filter_registered (is_earlier n) s.pairs m f)
    by false true c f g h e = inr (sym (same_is n m g))
    by false false true f g h e = inl (filter_registered (is_later n) s.pairs m h)
    by false false false f g h e = absurd cc

-- of an act of a nexus
pub record Reaches (s : Standing) (n : Nexus) (a : Acted) : Type 0 where
  pub removed : (m : Nexus) → is_registered a.removed m ≡ true → is_registered s.pairs m ≡ true
  pub removed_code : (c : Code) → a.removed_code ≡ Some c → is_attention c ≡ true
  pub stay_code : (c : Code) → a.stay_code ≡ Some c → is_attention c ≡ true
  pub refusal : (c : Code) → a.verdict ≡ Bad c → c.key ≡ ILLEGAL_REQUEST

nobody : (s : Standing) (m : Nexus) → is_registered [] m ≡ true → is_registered s.pairs m ≡ true
nobody s m e = absurd cc

no_code : (c : Code) → None ≡ Some c → is_attention c ≡ true
no_code c e = absurd cc

this_code : (d : Code) → is_attention d ≡ true → (c : Code) → Some d ≡ Some c → is_attention c ≡ true
this_code d is c e = let same : d ≡ c = cc in subst (λ (x : Code). is_attention x ≡ true) same is

good : (c : Code) → Good ≡ Bad c → c.key ≡ ILLEGAL_REQUEST
good c e = absurd cc

conflict : (c : Code) → Conflict ≡ Bad c → c.key ≡ ILLEGAL_REQUEST
conflict c e = absurd cc

illegal : (d : Code) → d.key ≡ ILLEGAL_REQUEST → (c : Code) → Bad d ≡ Bad c → c.key ≡ ILLEGAL_REQUEST
illegal d is c e = let same : d ≡ c = cc in subst (λ (x : Code). x.key ≡ ILLEGAL_REQUEST) same is

missed_code : (kind : Kind) (c : Code) → missed kind ≡ Some c → is_attention c ≡ true
missed_code kind c e = by (is_single kind) e
  where
    by : (b : Bool) → (if b then None else Some RESERVATIONS_RELEASED) ≡ Some c → is_attention c ≡ true
    by true e = no_code c e
    by false e = this_code RESERVATIONS_RELEASED refl c e

left_code : (n : Nexus) (r : Reservation) (c : Code) → holder_left n r ≡ Some c → is_attention c ≡ true
left_code n Free c e = no_code c e
left_code n (OfAll kind) c e = no_code c e
left_code n (OfOne kind holder) c e = by (same_nexus holder n) e
  where
    by : (b : Bool) → (if b then missed kind else None) ≡ Some c → is_attention c ≡ true
    by true e = missed_code kind c e
    by false e = no_code c e

other_code : (b : Bool) (c : Code) → (if b then None else Some RESERVATIONS_RELEASED) ≡ Some c → is_attention c ≡ true
other_code true c e = no_code c e
other_code false c e = this_code RESERVATIONS_RELEASED refl c e

taken_reaches : (s : Standing) (n : Nexus) (kind : ℕ) (goes : Pair → Bool) (k : Option Kind) → Reaches s n (taken s n kind goes k)
taken_reaches s n kind goes None = record { removed = nobody s; removed_code = no_code; stay_code = no_code; refusal = illegal INVALID_FIELD_IN_CDB refl }
taken_reaches s n kind goes (Some k) =
    record { removed = λ m. filter_registered goes s.pairs m; removed_code = this_code REGISTRATIONS_PREEMPTED refl; stay_code = other_code (kind == held_code s.reservation); refusal = good }

case_reaches : (s : Standing) (n : Nexus) (scope kind key : ℕ) (how : Case) → Reaches s n (effect s n scope kind key how)
case_reaches s n scope kind key Unnamed = record { removed = nobody s; removed_code = no_code; stay_code = no_code; refusal = illegal INVALID_FIELD_IN_PARAMETER_LIST refl }
case_reaches s n scope kind key AllTaken = taken_reaches s n kind (λ p. not (is_at n p)) (if scope == 0 then kind_at kind else None)
case_reaches s n scope kind key HolderTaken = taken_reaches s n kind (λ p. has_key key p && not (is_at n p)) (if scope == 0 then kind_at kind else None)
case_reaches s n scope kind key KeyRemoved = record { removed = λ m. filter_registered (has_key key) s.pairs m; removed_code = this_code REGISTRATIONS_PREEMPTED refl; stay_code = no_code; refusal = good }
case_reaches s n scope kind key NobodysKey = record { removed = nobody s; removed_code = no_code; stay_code = no_code; refusal = conflict }

rule_reaches : (s : Standing) (n : Nexus) (o : ReserveOut) (r : Rule) → Reaches s n (effect_of s n o r)
rule_reaches s n o Misnamed = record { removed = nobody s; removed_code = no_code; stay_code = no_code; refusal = conflict }
rule_reaches s n o Idle = record { removed = nobody s; removed_code = no_code; stay_code = no_code; refusal = good }
rule_reaches s n o Leaves = record { removed = nobody s; removed_code = no_code; stay_code = left_code n s.reservation; refusal = good }
rule_reaches s n o Overflows = record { removed = nobody s; removed_code = no_code; stay_code = no_code; refusal = illegal INSUFFICIENT_REGISTRATION_RESOURCES refl }
rule_reaches s n o Registers = record { removed = nobody s; removed_code = no_code; stay_code = no_code; refusal = good }
rule_reaches s n o Stranger = record { removed = nobody s; removed_code = no_code; stay_code = no_code; refusal = conflict }
rule_reaches s n o (Reserves kind) = record { removed = nobody s; removed_code = no_code; stay_code = no_code; refusal = good }
rule_reaches s n o NoSuchKind = record { removed = nobody s; removed_code = no_code; stay_code = no_code; refusal = illegal INVALID_FIELD_IN_CDB refl }
rule_reaches s n o HoldsAlready = record { removed = nobody s; removed_code = no_code; stay_code = no_code; refusal = good }
rule_reaches s n o HeldOtherwise = record { removed = nobody s; removed_code = no_code; stay_code = no_code; refusal = conflict }
rule_reaches s n o HoldsNothing = record { removed = nobody s; removed_code = no_code; stay_code = no_code; refusal = good }
rule_reaches s n o (Releases kind) = record { removed = nobody s; removed_code = no_code; stay_code = missed_code kind; refusal = good }
rule_reaches s n o OtherKind = record { removed = nobody s; removed_code = no_code; stay_code = no_code; refusal = illegal INVALID_RELEASE_OF_PERSISTENT_RESERVATION refl }
rule_reaches s n o Clears = record { removed = λ m. filter_registered (λ _. true) s.pairs m; removed_code = this_code RESERVATIONS_PREEMPTED refl; stay_code = no_code; refusal = good }
rule_reaches s n o (Preempts_by how) = case_reaches s n o.scope o.kind o.action_key how

pub acted_reaches : (limit : ℕ) (s : Standing) (n : Nexus) (o : ReserveOut) → Reaches s n (acted limit s n o)
acted_reaches limit s n o = subst (λ (a : Acted). Reaches s n a) (rule_effect limit s n o) (rule_reaches s n o (rule_of limit s n o))

-- nobody comes to be registered but the caller
pub acted_knows : (limit : ℕ) (s : Standing) (n : Nexus) (o : ReserveOut) (m : Nexus) → is_registered (acted limit s n o).standing.pairs m ≡ true → (is_registered s.pairs m ≡ true) ⊎ (m ≡ n)
acted_knows limit s n o =
    acted_pairs (λ (ps : List Pair). (m : Nexus) → is_registered ps m ≡ true → Knows s n m) limit s n (λ m e. inl e) (λ goes m e. inl (filter_registered (λ p. not (goes p)) s.pairs m e)) o (λ may m e. put_knows s n o.action_key m e)
