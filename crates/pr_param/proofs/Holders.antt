-- The key of a nexus, sought from the front.
use Rattle.std.proofs.Common.{◌≡◌, ℕ, ◌+◌, List, ◌∷◌, drop, get_or, refl, ap, sym, ◌∙◌, true, false, if◌then◌else◌}
use Rattle.std.specs.Prelude.{slice_get, Option, Some}
use Rattle.std.proofs.lemmas.Bool.{eq-eqb}
use Rattle.std.proofs.lemmas.List.{drop_more}
use Rattle.std.proofs.lemmas.List.Folds.{list_any_at}
use Rattle.std.proofs.lemmas.Option.{get_or_from_slice_get, slice_get_within}
use Rattle.pr_words.specs.Orders.{same_nexus}
use Rattle.pr_words.specs.declared.nexus.Nexus.{Nexus}
use Rattle.pr_words.specs.declared.nexus.Pair.{Pair}
use Rattle.pr_words.specs.declared.reservation.Reservation.{Reservation}
use Rattle.pr_words.specs.declared.reservation.Reservation.TheVariants.{Free, OfOne, OfAll}
use Rattle.pr_grammar.specs.Standings.{Standing, kind_of, holder_of, is_at, is_holder, is_holder_in}
use Rattle.pr_grammar.specs.InReplies.{holds, key_at, held_bytes, reservation_part}
use Rattle.pr_words.specs.declared.reservation.Kind.{Kind}

pub drop_front : {X : Type 0} (xs : List X) (i : ℕ) (x : X) → slice_get xs i ≡ Some x → drop i xs ≡ x ∷ drop (i + 1) xs
drop_front xs i x e = drop_more xs i x (slice_get_within xs i x e) ∙ ap (λ y. y ∷ drop (i + 1) xs) (get_or_from_slice_get xs i x x e)

pub key_here : (pairs : List Pair) (n : Nexus) (i : ℕ) (p : Pair) → slice_get pairs i ≡ Some p → same_nexus p.nexus n ≡ true → key_at (drop i pairs) n ≡ p.key.0
key_here pairs n i p e same = ap (λ ps. key_at ps n) (drop_front pairs i p e) ∙ ap (λ b. if b then p.key.0 else key_at (drop (i + 1) pairs) n) same

pub key_past : (pairs : List Pair) (n : Nexus) (i : ℕ) (p : Pair) → slice_get pairs i ≡ Some p → same_nexus p.nexus n ≡ false → key_at (drop i pairs) n ≡ key_at (drop (i + 1) pairs) n
key_past pairs n i p e other = ap (λ ps. key_at ps n) (drop_front pairs i p e) ∙ ap (λ b. if b then p.key.0 else key_at (drop (i + 1) pairs) n) other

pub part_of_one : (pairs : List Pair) (held : Option Kind) (one : Option Nexus) (kind : Kind) (n : Nexus) (key : ℕ) → held ≡ Some kind → one ≡ Some n → key ≡ key_at pairs n → held_bytes key kind ≡ reservation_part pairs held one
part_of_one pairs held one kind n key he oe ke =
    ap (λ k. held_bytes k kind) ke ∙ ap (λ o. reservation_part pairs o (Some n)) (sym he) ∙ ap (λ o. reservation_part pairs held o) (sym oe)

-- the holder of a reply's descriptor is the reservation holder
pub holder_is : (s : Standing) (i : ℕ) (p : Pair) → slice_get s.pairs i ≡ Some p → holds (kind_of s.reservation) (holder_of s.reservation) p.nexus ≡ is_holder s p.nexus
holder_is s i p e = by s.reservation
  where
    here : is_at p.nexus (get_or s.pairs i p) ≡ true
    here = ap (is_at p.nexus) (get_or_from_slice_get s.pairs i p p e) ∙ rw (eq-eqb p.nexus.name p.nexus.name refl, eq-eqb p.nexus.port p.nexus.port refl) refl

    by : (r : Reservation) → holds (kind_of r) (holder_of r) p.nexus ≡ is_holder_in r s.pairs p.nexus
    by Free = refl
    by (OfOne kind holder) = refl
    by (OfAll kind) = sym (list_any_at (is_at p.nexus) s.pairs i p (slice_get_within s.pairs i p e) here)
