-- PREEMPT by its cases, each with its condition and its effect (SPC-4, preempting).
use Rattle.std.specs.Prelude.{◌≡◌, ℕ, ◌&&◌, not, List, Some, None}
use Rattle.std.specs.List.{Any}
use Rattle.pr_words.specs.declared.nexus.Nexus.{Nexus}
use Rattle.pr_words.specs.declared.nexus.Pair.{Pair}
use Rattle.pr_words.specs.declared.reservation.Reservation.{Reservation}
use Rattle.pr_words.specs.declared.reservation.Reservation.TheVariants.{Free, OfOne, OfAll}
use Rattle.pr_words.specs.declared.code.TheConstants.Code.{INVALID_FIELD_IN_PARAMETER_LIST, REGISTRATIONS_PREEMPTED}
use Rattle.pr_grammar.specs.Standings.{Standing, is_at, key_of}
use Rattle.pr_model.specs.Registrants.{has_key, but_those}
use Rattle.pr_model.specs.Acts.{Acted, stays, removing, taking, while_any, Conflict, Bad}

-- no key is named and no reservation of all registrants is held; so, and one is; the holder's key; a key of others; a key that nobody has
pub data Case : Type 0 where
  Unnamed : Case
  AllTaken : Case
  HolderTaken : Case
  KeyRemoved : Case
  NobodysKey : Case

-- a reservation of an all registrants type
abbrev pub IsOfAll : Reservation → Type 0
IsOfAll Free = ⊥
IsOfAll (OfOne kind holder) = ⊥
IsOfAll (OfAll kind) = Unit {0}

-- one nexus holds the reservation, and this is its key
abbrev pub HoldsWith : Reservation → List Pair → ℕ → Type 0
HoldsWith Free ps k = ⊥
HoldsWith (OfOne kind holder) ps k = key_of ps holder ≡ Some k
HoldsWith (OfAll kind) ps k = ⊥

-- the key is that of the one nexus which holds the reservation
abbrev pub IsHoldersKey : Standing → ℕ → Type 0
IsHoldersKey s k = HoldsWith s.reservation s.pairs k

-- some registration has the key
abbrev pub IsSomeones : Standing → ℕ → Type 0
IsSomeones s k = Any (λ (p : Pair). p.key.0 ≡ k) s.pairs

-- when a case applies to a key of a PREEMPT
abbrev pub Applies : Standing → ℕ → Case → Type 0
Applies s k Unnamed = (k ≡ 0) × (IsOfAll s.reservation → ⊥)
Applies s k AllTaken = (k ≡ 0) × IsOfAll s.reservation
Applies s k HolderTaken = (k ≡ 0 → ⊥) × IsHoldersKey s k
Applies s k KeyRemoved = (k ≡ 0 → ⊥) × (IsHoldersKey s k → ⊥) × IsSomeones s k
Applies s k NobodysKey = (k ≡ 0 → ⊥) × (IsHoldersKey s k → ⊥) × (IsSomeones s k → ⊥)

-- what a nexus's PREEMPT does in a case, by the scope and the type of the CDB and by the key
abbrev pub effect : Standing → Nexus → ℕ → ℕ → ℕ → Case → Acted
effect s n scope kind k Unnamed = stays s (Bad INVALID_FIELD_IN_PARAMETER_LIST)
effect s n scope kind k AllTaken = taking s n scope kind (λ p. not (is_at n p))
effect s n scope kind k HolderTaken = taking s n scope kind (λ p. has_key k p && not (is_at n p))
effect s n scope kind k KeyRemoved = removing s (has_key k) (while_any (but_those (has_key k) s.pairs) s.reservation) REGISTRATIONS_PREEMPTED None
effect s n scope kind k NobodysKey = stays s Conflict

-- what a PREEMPT does: the effect of a case that applies
pub record Preempts (s : Standing) (n : Nexus) (scope kind k : ℕ) (a : Acted) : Type 0 where
  pub how : Case
  pub applies : Applies s k how
  pub is : a ≡ effect s n scope kind k how
