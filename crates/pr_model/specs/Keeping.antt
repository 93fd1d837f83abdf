-- What APTPL preserves over a power loss, and whether two such values are one (SPC-4, preserving persistent reservations).
use Rattle.std.specs.Prelude.{◌≡◌, ◌⊎◌, ℕ, ◌==◌, ◌&&◌, not, Bool, true, false, List, [], ◌∷◌, length, Option, Some, None, if◌then◌else◌}
use Rattle.pr_words.specs.declared.nexus.Nexus.{Nexus}
use Rattle.pr_words.specs.declared.nexus.Pair.{Pair}
use Rattle.pr_words.specs.declared.reservation.Reservation.{Reservation}
use Rattle.pr_words.specs.declared.reservation.Reservation.TheVariants.{Free, OfOne, OfAll}
use Rattle.pr_words.specs.Kinds.{kind_code}
use Rattle.pr_words.specs.Orders.{same_nexus}
pub use Rattle.pr_grammar.specs.Standings.{Kept, Nothing, Some_kept}
use Rattle.pr_grammar.specs.Standings.{Standing, key_of}

-- registrations and reservation where the APTPL bit accepted last was one
abbrev pub kept : Standing → Kept
kept s = if s.preserve then Some_kept s.pairs s.reservation else Nothing

abbrev pub same_pair : Pair → Pair → Bool
same_pair p q = same_nexus p.nexus q.nexus && p.key.0 == q.key.0

abbrev pub same_pairs : List Pair → List Pair → Bool
same_pairs [] [] = true
same_pairs (p ∷ ps) (q ∷ qs) = same_pair p q && same_pairs ps qs
same_pairs _ _ = false

abbrev pub same_reservation : Reservation → Reservation → Bool
same_reservation Free Free = true
same_reservation (OfOne a m) (OfOne b n) = kind_code a == kind_code b && same_nexus m n
same_reservation (OfAll a) (OfAll b) = kind_code a == kind_code b
same_reservation _ _ = false

abbrev pub same_kept : Kept → Kept → Bool
same_kept Nothing Nothing = true
same_kept (Some_kept ps r) (Some_kept qs t) = same_pairs ps qs && same_reservation r t
same_kept _ _ = false

abbrev pub same_key : Option ℕ → Option ℕ → Bool
same_key None None = true
same_key (Some a) (Some b) = a == b
same_key _ _ = false

-- the same number of registrations, and the same key of one nexus
abbrev pub looks_same : List Pair → List Pair → Nexus → Bool
looks_same ps qs n = length ps == length qs && same_key (key_of ps n) (key_of qs n)

-- whether what is kept changed, by the flags before and after, and by whether registrations and reservation are the same
abbrev pub keeps_by : Bool → Bool → Bool → Bool → Bool
keeps_by true true pairs reservation = not (pairs && reservation)
keeps_by false false pairs reservation = false
keeps_by _ _ pairs reservation = true

-- a value is one of these
abbrev pub IsIn : List Kept → Kept → Type 0
IsIn [] k = ⊥
IsIn (x ∷ xs) k = (x ≡ k) ⊎ IsIn xs k

-- the same values in the same order
abbrev pub same_kepts : List Kept → List Kept → Bool
same_kepts [] [] = true
same_kepts (k ∷ ks) (l ∷ ls) = same_kept k l && same_kepts ks ls
same_kepts _ _ = false

abbrev pub is_empty : List Kept → Bool
is_empty [] = true
is_empty (k ∷ ks) = false
