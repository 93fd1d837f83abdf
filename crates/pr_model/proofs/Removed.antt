-- Whom a PREEMPT removes: just those who were registered and aren't any more.
use Rattle.std.proofs.Common.{◌≡◌, ℕ, Bool, true, false, cond, not, ◌||◌, ◌&&◌, ◌==◌, List, [], ◌∷◌, Option, Some, None, if◌then◌else◌, refl, sym, ◌∙◌, subst, get_or}
use Rattle.std.specs.List.{list_any, filter}
use Rattle.std.proofs.lemmas.Bool.{false≢true, true≢false, or_left, or_right}
use Rattle.std.proofs.lemmas.List.Folds.{list_any_none}
use Rattle.pr_words.specs.declared.nexus.Nexus.{Nexus}
use Rattle.pr_words.specs.declared.nexus.Pair.{Pair}
use Rattle.pr_words.specs.declared.reservation.Kind.{Kind}
use Rattle.pr_words.specs.Kinds.{kind_at}
use Rattle.pr_words.specs.Orders.{comes_before}
use Rattle.pr_words.specs.declared.code.TheConstants.Code.{INVALID_FIELD_IN_PARAMETER_LIST, REGISTRATIONS_PREEMPTED}
use Rattle.pr_grammar.specs.Standings.{Standing, IsAscending, is_at, is_registered, key_of}
use Rattle.pr_model.specs.Registrants.{has_key, but_those, just_those}
use Rattle.pr_model.specs.Acts.{Acted, ReserveOut, Conflict, stays, removing, taken, taking, while_any, is_own, is_of_all, holds_with, preempt, acted, Bad}
use Rattle.pr_model.proofs.Orders.{same_is, after_not_same}
use Rattle.pr_model.proofs.Ascending.{head_up, tail_up}
use Rattle.pr_model.proofs.Reaching.{filter_registered}

-- who was there and didn't stay went
went : (goes : Pair → Bool) (ps : List Pair) (n : Nexus) → is_registered ps n ≡ true → is_registered (but_those goes ps) n ≡ false → is_registered (just_those goes ps) n ≡ true
went goes [] n e f = absurd (false≢true e)
went goes (p ∷ ps) n e f = by (is_at n p) (goes p) refl e f (went goes ps n)
  where
    by : (a g : Bool) → is_at n p ≡ a → (a || is_registered ps n) ≡ true → is_registered (cond (not g) (p ∷ but_those goes ps) (but_those goes ps)) n ≡ false
        → (is_registered ps n ≡ true → is_registered (but_those goes ps) n ≡ false → is_registered (just_those goes ps) n ≡ true)
        → is_registered (cond g (p ∷ just_those goes ps) (just_those goes ps)) n ≡ true
    by true true a e f ih = or_left (is_at n p) (is_registered (just_those goes ps) n) a
    by true false a e f ih = absurd (true≢false (sym (or_left (is_at n p) (is_registered (but_those goes ps) n) a) ∙ f))
    by false true a e f ih = or_right (is_at n p) (is_registered (just_those goes ps) n) (ih e f)
    by false false a e f ih = ih e (rw a at f)

-- nobody behind a pair in order has its nexus
none_behind : (p : Pair) (ps : List Pair) (n : Nexus) → IsAscending (p ∷ ps) → is_at n p ≡ true → is_registered ps n ≡ false
none_behind p ps n up at =
    list_any_none (is_at n) ps
    (λ k d lt. after_not_same n (get_or ps k d).nexus (subst (λ (m : Nexus). comes_before m (get_or ps k d).nexus ≡ true) (same_is p.nexus n at) (head_up p ps up k d lt)))

not_registered : (goes : Pair → Bool) (ps : List Pair) (n : Nexus) → is_registered ps n ≡ false → is_registered (filter goes ps) n ≡ false
not_registered goes ps n none = by (is_registered (filter goes ps) n) refl
  where
    by : (b : Bool) → is_registered (filter goes ps) n ≡ b → b ≡ false
    by true e = absurd (true≢false (sym (filter_registered goes ps n e) ∙ none))
    by false e = refl

-- who went isn't left
left_none : (goes : Pair → Bool) (ps : List Pair) (n : Nexus) → IsAscending ps → is_registered (just_those goes ps) n ≡ true → is_registered (but_those goes ps) n ≡ false
left_none goes [] n up e = refl
left_none goes (p ∷ ps) n up e = by (is_at n p) (goes p) refl e (left_none goes ps n (tail_up p ps up))
  where
    by : (a g : Bool) → is_at n p ≡ a → is_registered (cond g (p ∷ just_those goes ps) (just_those goes ps)) n ≡ true
        → (is_registered (just_those goes ps) n ≡ true → is_registered (but_those goes ps) n ≡ false)
        → is_registered (cond (not g) (p ∷ but_those goes ps) (but_those goes ps)) n ≡ false
    by true true a e ih = not_registered (λ q. not (goes q)) ps n (none_behind p ps n up a)
    by true false a e ih = absurd (true≢false (sym (filter_registered goes ps n e) ∙ none_behind p ps n up a))
    by false true a e ih = ih (rw a at e)
    by false false a e ih = rw a (ih e)

-- of an act: who was registered and isn't any more was removed, and who was removed isn't registered any more
pub record Parts (s : Standing) (n : Nexus) (a : Acted) : Type 0 where
  pub removed : is_registered s.pairs n ≡ true → is_registered a.standing.pairs n ≡ false → is_registered a.removed n ≡ true
  pub gone : IsAscending s.pairs → is_registered a.removed n ≡ true → is_registered a.standing.pairs n ≡ false

module _ (s : Standing) (n : Nexus) where
  nobody : (a : Acted) → a.standing ≡ s → a.removed ≡ [] → Parts s n a
  nobody a same none =
      record {
        removed = λ was gone. absurd (true≢false (sym was ∙ subst (λ (t : Standing). is_registered t.pairs n ≡ false) same gone));
        gone = λ up e. absurd (false≢true (subst (λ (ps : List Pair). is_registered ps n ≡ true) none e));
      }

  those : (goes : Pair → Bool) (a : Acted) → a.standing.pairs ≡ but_those goes s.pairs → a.removed ≡ just_those goes s.pairs → Parts s n a
  those goes a left removed =
      record {
        removed = λ was gone. rw removed (went goes s.pairs n was (rw left at gone));
        gone = λ up e. rw left (left_none goes s.pairs n up (rw removed at e));
      }

  taken_parts : (m : Nexus) (kind : ℕ) (goes : Pair → Bool) (k : Option Kind) → Parts s n (taken s m kind goes k)
  taken_parts m kind goes None = nobody (taken s m kind goes None) refl refl
  taken_parts m kind goes (Some k) = those goes (taken s m kind goes (Some k)) refl refl

  preempt_parts : (m : Nexus) (scope kind key : ℕ) → Parts s n (preempt s m scope kind key)
  preempt_parts m scope kind key = by (key == 0) (is_of_all s.reservation) (holds_with s.reservation s.pairs key) (list_any (has_key key) s.pairs)
    where
      by : (a b c d : Bool) → Parts s n (cond a (cond b (taking s m scope kind (λ p. not (is_at m p))) (stays s (Bad INVALID_FIELD_IN_PARAMETER_LIST)))
          (cond c (taking s m scope kind (λ p. has_key key p && not (is_at m p)))
          (cond d (removing s (has_key key) (while_any (but_those (has_key key) s.pairs) s.reservation) REGISTRATIONS_PREEMPTED None) (stays s Conflict))))
      by true true c d = taken_parts m kind (λ p. not (is_at m p)) (if scope == 0 then kind_at kind else None)
      by true false c d = nobody (stays s (Bad INVALID_FIELD_IN_PARAMETER_LIST)) refl refl
      by false b true d = taken_parts m kind (λ p. has_key key p && not (is_at m p)) (if scope == 0 then kind_at kind else None)
      by false b false true = those (has_key key) (removing s (has_key key) (while_any (but_those (has_key key) s.pairs) s.reservation) REGISTRATIONS_PREEMPTED None) refl refl
      by false b false false = nobody (stays s Conflict) refl refl

  -- of a PREEMPT AND ABORT
  pub abort_parts : (limit : ℕ) (m : Nexus) (o : ReserveOut) → o.action ≡ 5 → Parts s n (acted limit s m o)
  abort_parts limit m o five = rw five (by (is_own (key_of s.pairs m) o.key))
    where
      by : (own : Bool) → Parts s n (cond (not own) (stays s Conflict) (preempt s m o.scope o.kind o.action_key))
      by true = preempt_parts m o.scope o.kind o.action_key
      by false = nobody (stays s Conflict) refl refl
