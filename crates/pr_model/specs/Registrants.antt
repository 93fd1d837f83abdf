-- Registrations and who holds the reservation (SPC-4, persistent reservations).
use Rattle.std.specs.Prelude.{◌≡◌, ℕ, ◌==◌, ◌<◌, ◌≤◌, not, Bool, true, false, List, ◌∷◌, ◌++◌, length, if◌then◌else◌, IsTrue, All, filter}
use Rattle.pr_words.specs.declared.nexus.Nexus.{Nexus}
use Rattle.pr_words.specs.declared.nexus.Pair.{Pair}
use Rattle.pr_words.specs.declared.reservation.Kind.{Kind}
use Rattle.pr_words.specs.declared.reservation.Reservation.{Reservation}
use Rattle.pr_words.specs.declared.reservation.Reservation.TheVariants.{Free, OfOne, OfAll}
use Rattle.pr_words.specs.Orders.{comes_before}
pub use Rattle.pr_grammar.specs.Standings.{IsAscending, is_all}
use Rattle.pr_grammar.specs.Standings.{Standing, is_registered}

abbrev pub pair : Nexus → ℕ → Pair
pair n k = record { nexus = n; key = record { 0 = k } }

abbrev pub has_key : ℕ → Pair → Bool
has_key k p = p.key.0 == k

abbrev pub is_earlier : Nexus → Pair → Bool
is_earlier n p = comes_before p.nexus n

abbrev pub is_later : Nexus → Pair → Bool
is_later n p = comes_before n p.nexus

-- the pairs with this one put in at its place, instead of its nexus's own
abbrev pub with_pair : List Pair → Pair → List Pair
with_pair ps q = filter (is_earlier q.nexus) ps ++ q ∷ filter (is_later q.nexus) ps

-- the pairs for which a test fails, and those for which it holds
abbrev pub but_those : (Pair → Bool) → List Pair → List Pair
but_those goes ps = filter (λ p. not (goes p)) ps

abbrev pub just_those : (Pair → Bool) → List Pair → List Pair
just_those goes ps = filter goes ps

-- a reservation of a type that a nexus takes
abbrev pub held : Kind → Nexus → Reservation
held kind n = if is_all kind then OfAll kind else OfOne kind n

-- every holder is registered, and a reservation of all registrants has at least one
abbrev pub IsHeldIn : Reservation → List Pair → Type 0
IsHeldIn Free ps = Unit {0}
IsHeldIn (OfOne kind holder) ps = (is_all kind ≡ false) × (is_registered ps holder ≡ true)
IsHeldIn (OfAll kind) ps = (is_all kind ≡ true) × (0 < length ps)

abbrev pub IsSound : Standing → Type 0
IsSound s = IsHeldIn s.reservation s.pairs

-- at most so many registrations, in order, with keys other than zero, and a sound reservation
pub record IsWellFormed (limit : ℕ) (s : Standing) : Type 0 where
  pub within : length s.pairs ≤ limit
  pub ascending : IsAscending s.pairs
  pub keys : All (λ p. IsTrue (not (p.key.0 == 0))) s.pairs
  pub sound : IsSound s
