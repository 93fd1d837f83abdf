-- Exactly one case of PREEMPT applies, and the function takes it.
use Rattle.std.proofs.Common.{◌≡◌, ℕ, Bool, true, false, List, Option, Some, None, ◌==◌, refl, sym, ap, ◌∙◌}
use Rattle.std.specs.List.{Any, list_any}
use Rattle.std.proofs.lemmas.Bool.{eqb-true, eqb-false, true≢false, false≢true, eq-eqb}
use Rattle.std.proofs.lemmas.List.Folds.{Any-from_list_any, list_any-from_Any}
use Rattle.pr_words.specs.declared.nexus.Nexus.{Nexus}
use Rattle.pr_words.specs.declared.nexus.Pair.{Pair}
use Rattle.pr_words.specs.declared.reservation.Reservation.{Reservation}
use Rattle.pr_words.specs.declared.reservation.Reservation.TheVariants.{Free, OfOne, OfAll}
use Rattle.pr_grammar.specs.Standings.{Standing, key_of}
use Rattle.pr_model.specs.Registrants.{has_key}
use Rattle.pr_model.specs.Acts.{Acted, is_of_all, is_own, holds_with, is_holders_key, preempt}
use Rattle.pr_model.specs.Cases.{Case, Unnamed, AllTaken, HolderTaken, KeyRemoved, NobodysKey, IsOfAll, HoldsWith, Applies, effect, Preempts}

of_all : (r : Reservation) → is_of_all r ≡ true → IsOfAll r
of_all Free e = absurd (false≢true e)
of_all (OfOne kind holder) e = absurd (false≢true e)
of_all (OfAll kind) e = tt

not_of_all : (r : Reservation) → is_of_all r ≡ false → IsOfAll r → ⊥
not_of_all Free e h = h
not_of_all (OfOne kind holder) e h = h
not_of_all (OfAll kind) e h = true≢false e

pub own_key : (o : Option ℕ) (k : ℕ) → is_own o k ≡ true → o ≡ Some k
own_key None k e = absurd (false≢true e)
own_key (Some x) k e = ap Some (eqb-true x k e)

pub not_own_key : (o : Option ℕ) (k : ℕ) → is_own o k ≡ false → o ≡ Some k → ⊥
not_own_key o k e h = false≢true (sym e ∙ ap (λ q. is_own q k) h ∙ eq-eqb k k refl)

holders : (r : Reservation) (ps : List Pair) (k : ℕ) → holds_with r ps k ≡ true → HoldsWith r ps k
holders Free ps k e = absurd (false≢true e)
holders (OfOne kind holder) ps k e = own_key (key_of ps holder) k e
holders (OfAll kind) ps k e = absurd (false≢true e)

not_holders : (r : Reservation) (ps : List Pair) (k : ℕ) → holds_with r ps k ≡ false → HoldsWith r ps k → ⊥
not_holders Free ps k e h = h
not_holders (OfOne kind holder) ps k e h = not_own_key (key_of ps holder) k e h
not_holders (OfAll kind) ps k e h = h

someones : (ps : List Pair) (k : ℕ) → list_any (has_key k) ps ≡ true → Any (λ (p : Pair). p.key.0 ≡ k) ps
someones ps k e = let a = Any-from_list_any (has_key k) ps e in (a.0, a.1, a.2, a.3, eqb-true a.1.key.0 k a.4)

not_someones : (ps : List Pair) (k : ℕ) → list_any (has_key k) ps ≡ false → Any (λ (p : Pair). p.key.0 ≡ k) ps → ⊥
not_someones ps k e a = false≢true (sym e ∙ list_any-from_Any (has_key k) ps (a.0, a.1, a.2, a.3, eq-eqb a.1.key.0 k a.4))

-- the function by its four tests
by_tests : (s : Standing) (n : Nexus) (scope kind k : ℕ) (zero_key all own some : Bool) → (k == 0) ≡ zero_key → is_of_all s.reservation ≡ all → is_holders_key s k ≡ own → list_any (has_key k) s.pairs ≡ some
    → Preempts s n scope kind k (preempt s n scope kind k)
by_tests s n scope kind k true true own some a b c d = record { how = AllTaken; applies = (eqb-true k 0 a, of_all s.reservation b); is = rw (a, b) refl }
by_tests s n scope kind k true false own some a b c d = record { how = Unnamed; applies = (eqb-true k 0 a, not_of_all s.reservation b); is = rw (a, b) refl }
by_tests s n scope kind k false all true some a b c d = record { how = HolderTaken; applies = (eqb-false k 0 a, holders s.reservation s.pairs k c); is = rw (a, c) refl }
by_tests s n scope kind k false all false true a b c d =
    record { how = KeyRemoved; applies = (eqb-false k 0 a, not_holders s.reservation s.pairs k c, someones s.pairs k d); is = rw (a, c, d) refl }
by_tests s n scope kind k false all false false a b c d =
    record { how = NobodysKey; applies = (eqb-false k 0 a, not_holders s.reservation s.pairs k c, not_someones s.pairs k d); is = rw (a, c, d) refl }

pub preempts : (s : Standing) (n : Nexus) (scope kind k : ℕ) → Preempts s n scope kind k (preempt s n scope kind k)
preempts s n scope kind k = by_tests s n scope kind k _ _ _ _ refl refl refl refl

-- no two cases apply
pub alone : (s : Standing) (k : ℕ) (c d : Case) → Applies s k c → Applies s k d → c ≡ d
alone s k Unnamed Unnamed a b = refl
alone s k Unnamed AllTaken a b = absurd (a.1 b.1)
alone s k Unnamed HolderTaken a b = absurd (b.0 a.0)
alone s k Unnamed KeyRemoved a b = absurd (b.0 a.0)
alone s k Unnamed NobodysKey a b = absurd (b.0 a.0)
alone s k AllTaken Unnamed a b = absurd (b.1 a.1)
alone s k AllTaken AllTaken a b = refl
alone s k AllTaken HolderTaken a b = absurd (b.0 a.0)
alone s k AllTaken KeyRemoved a b = absurd (b.0 a.0)
alone s k AllTaken NobodysKey a b = absurd (b.0 a.0)
alone s k HolderTaken Unnamed a b = absurd (a.0 b.0)
alone s k HolderTaken AllTaken a b = absurd (a.0 b.0)
alone s k HolderTaken HolderTaken a b = refl
alone s k HolderTaken KeyRemoved a b = absurd (b.1 a.1)
alone s k HolderTaken NobodysKey a b = absurd (b.1 a.1)
alone s k KeyRemoved Unnamed a b = absurd (a.0 b.0)
alone s k KeyRemoved AllTaken a b = absurd (a.0 b.0)
alone s k KeyRemoved HolderTaken a b = absurd (a.1 b.1)
alone s k KeyRemoved KeyRemoved a b = refl
alone s k KeyRemoved NobodysKey a b = absurd (b.2 a.2)
alone s k NobodysKey Unnamed a b = absurd (a.0 b.0)
alone s k NobodysKey AllTaken a b = absurd (a.0 b.0)
alone s k NobodysKey HolderTaken a b = absurd (a.1 b.1)
alone s k NobodysKey KeyRemoved a b = absurd (a.2 b.2)
alone s k NobodysKey NobodysKey a b = refl

-- so the relation has one answer
pub one_answer : (s : Standing) (n : Nexus) (scope kind k : ℕ) (a : Acted) → Preempts s n scope kind k a → a ≡ preempt s n scope kind k
one_answer s n scope kind k a p =
    let q = preempts s n scope kind k in
    p.is ∙ ap (λ c. effect s n scope kind k c) (alone s k p.how q.how p.applies q.applies) ∙ sym q.is
