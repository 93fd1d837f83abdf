-- What is kept is the same just where the test says so.
use Rattle.std.proofs.Common.{◌≡◌, true, ◌==◌, Some, refl, sym, ap, ◌∙◌}
use Rattle.std.specs.Prelude.{unwrap_or}
use Rattle.std.proofs.lemmas.Bool.{false≢true, and_parts, eqb-true}
use Rattle.pr_words.specs.declared.reservation.Kind.{Kind}
use Rattle.pr_words.specs.declared.reservation.Kind.TheVariants.{WriteExclusive, ExclusiveAccess, WriteRegistrants, ExclusiveRegistrants, WriteAll, ExclusiveAll}
use Rattle.pr_words.specs.declared.reservation.Reservation.{Reservation}
use Rattle.pr_words.specs.declared.reservation.Reservation.TheVariants.{Free, OfOne, OfAll}
use Rattle.pr_words.specs.Kinds.{kind_at, kind_code}
use Rattle.pr_words.specs.Orders.{same_nexus}
use Rattle.pr_model.specs.Keeping.{Kept, Nothing, Some_kept, same_kept, same_pairs, same_reservation}
use Rattle.pr_model.proofs.Orders.{same_is}
use Rattle.pr_model.proofs.Changes.{same_pairs-is, same_pairs-refl, same_reservation-refl}

kind_again : (k : Kind) → kind_at (kind_code k) ≡ Some k
kind_again WriteExclusive = refl
kind_again ExclusiveAccess = refl
kind_again WriteRegistrants = refl
kind_again ExclusiveRegistrants = refl
kind_again WriteAll = refl
kind_again ExclusiveAll = refl

kind_by_code : (a b : Kind) → kind_code a ≡ kind_code b → a ≡ b
kind_by_code a b e = ap (λ o. unwrap_or o a) (sym (kind_again a) ∙ ap kind_at e ∙ kind_again b)

same_reservation-is : (r t : Reservation) → same_reservation r t ≡ true → r ≡ t
same_reservation-is Free Free e = refl
same_reservation-is Free (OfOne b n) e = absurd (false≢true e)
same_reservation-is Free (OfAll b) e = absurd (false≢true e)
same_reservation-is (OfOne a m) Free e = absurd (false≢true e)
same_reservation-is (OfOne a m) (OfOne b n) e =
    let parts = and_parts (kind_code a == kind_code b) (same_nexus m n) e in
    let k : a ≡ b = kind_by_code a b (eqb-true (kind_code a) (kind_code b) parts.0) in
    let x : m ≡ n = same_is m n parts.1 in
    λ i. OfOne (k i) (x i)
same_reservation-is (OfOne a m) (OfAll b) e = absurd (false≢true e)
same_reservation-is (OfAll a) Free e = absurd (false≢true e)
same_reservation-is (OfAll a) (OfOne b n) e = absurd (false≢true e)
same_reservation-is (OfAll a) (OfAll b) e = ap (λ k. OfAll k) (kind_by_code a b (eqb-true (kind_code a) (kind_code b) e))

pub same_kept_is : (a b : Kept) → same_kept a b ≡ true → a ≡ b
same_kept_is Nothing Nothing e = refl
same_kept_is Nothing (Some_kept qs t) e = absurd (false≢true e)
same_kept_is (Some_kept ps r) Nothing e = absurd (false≢true e)
same_kept_is (Some_kept ps r) (Some_kept qs t) e =
    let parts = and_parts (same_pairs ps qs) (same_reservation r t) e in
    let x : ps ≡ qs = same_pairs-is ps qs parts.0 in
    let y : r ≡ t = same_reservation-is r t parts.1 in
    λ i. Some_kept (x i) (y i)

pub same_kept_itself : (a : Kept) → same_kept a a ≡ true
same_kept_itself Nothing = refl
same_kept_itself (Some_kept ps r) = rw (same_pairs-refl ps) (same_reservation-refl r)
