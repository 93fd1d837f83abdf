-- PERSISTENT RESERVE OUT by its rules, each with its condition and its effect (SPC-4, PERSISTENT RESERVE OUT).
use Rattle.std.specs.Prelude.{◌≡◌, ℕ, ◌<◌, ◌≤◌, ◌⊎◌, true, false, length, Some, None}
use Rattle.pr_words.specs.declared.nexus.Nexus.{Nexus}
use Rattle.pr_words.specs.declared.reservation.Kind.{Kind}
use Rattle.pr_words.specs.declared.reservation.Reservation.TheVariants.{Free}
use Rattle.pr_words.specs.Kinds.{kind_at}
use Rattle.pr_words.specs.declared.code.TheConstants.Code.{INSUFFICIENT_REGISTRATION_RESOURCES, INVALID_FIELD_IN_CDB, INVALID_RELEASE_OF_PERSISTENT_RESERVATION}
use Rattle.pr_grammar.specs.Standings.{Standing, is_registered, key_of, kind_of, is_holder}
use Rattle.pr_model.specs.Registrants.{held}
use Rattle.pr_model.specs.Acts.{Acted, ReserveOut, Conflict, stays, leads, key_or_zero, registered, unregistered, holder_left, held_code, missed, clear, Bad}
use Rattle.pr_model.specs.Cases.{Case, Applies, effect}

-- REGISTER names another key, does nothing, unregisters, finds no room, registers; a caller of another action doesn't name its own key; RESERVE reserves, has no such type, holds already, finds another reservation; RELEASE holds nothing, releases, names another scope or type; CLEAR; PREEMPT by a case
pub data Rule : Type 0 where
  Misnamed : Rule
  Idle : Rule
  Leaves : Rule
  Overflows : Rule
  Registers : Rule
  Stranger : Rule
  Reserves : (kind : Kind) → Rule
  NoSuchKind : Rule
  HoldsAlready : Rule
  HeldOtherwise : Rule
  HoldsNothing : Rule
  Releases : (kind : Kind) → Rule
  OtherKind : Rule
  Clears : Rule
  Preempts_by : (how : Case) → Rule

-- the key that the list names is the caller's own
abbrev pub NamesItself : Standing → Nexus → ReserveOut → Type 0
NamesItself s n o = key_of s.pairs n ≡ Some o.key

-- a REGISTER with the right key, which is zero of an unregistered nexus, or one that ignores the key
abbrev pub MayRegister : Standing → Nexus → ReserveOut → Type 0
MayRegister s n o = (o.action ≡ 6) ⊎ ((o.action ≡ 0) × (key_or_zero (key_of s.pairs n) ≡ o.key))

-- the caller holds the reservation, and asks for its type
abbrev pub HoldsAsked : Standing → Nexus → ReserveOut → Type 0
HoldsAsked s n o = (is_holder s n ≡ true) × (held_code s.reservation ≡ o.kind)

-- when a rule applies
abbrev pub IsRule : ℕ → Standing → Nexus → ReserveOut → Rule → Type 0
IsRule limit s n o Misnamed = (o.action ≡ 0) × (key_or_zero (key_of s.pairs n) ≡ o.key → ⊥)
IsRule limit s n o Idle = MayRegister s n o × (o.action_key ≡ 0) × (is_registered s.pairs n ≡ false)
IsRule limit s n o Leaves = MayRegister s n o × (o.action_key ≡ 0) × (is_registered s.pairs n ≡ true)
IsRule limit s n o Overflows = MayRegister s n o × (o.action_key ≡ 0 → ⊥) × (is_registered s.pairs n ≡ false) × (limit ≤ length s.pairs)
IsRule limit s n o Registers = MayRegister s n o × (o.action_key ≡ 0 → ⊥) × ((is_registered s.pairs n ≡ true) ⊎ (length s.pairs < limit))
IsRule limit s n o Stranger = (0 < o.action) × (o.action < 6) × (NamesItself s n o → ⊥)
IsRule limit s n o (Reserves kind) = NamesItself s n o × (o.action ≡ 1) × (s.reservation ≡ Free) × (kind_at o.kind ≡ Some kind)
IsRule limit s n o NoSuchKind = NamesItself s n o × (o.action ≡ 1) × (s.reservation ≡ Free) × (kind_at o.kind ≡ None)
IsRule limit s n o HoldsAlready = NamesItself s n o × (o.action ≡ 1) × HoldsAsked s n o
IsRule limit s n o HeldOtherwise = NamesItself s n o × (o.action ≡ 1) × (s.reservation ≡ Free → ⊥) × (HoldsAsked s n o → ⊥)
IsRule limit s n o HoldsNothing = NamesItself s n o × (o.action ≡ 2) × (is_holder s n ≡ false)
IsRule limit s n o (Releases kind) = NamesItself s n o × (o.action ≡ 2) × (o.scope ≡ 0) × HoldsAsked s n o × (kind_of s.reservation ≡ Some kind)
IsRule limit s n o OtherKind = NamesItself s n o × (o.action ≡ 2) × (is_holder s n ≡ true) × ((o.scope ≡ 0) × (held_code s.reservation ≡ o.kind) → ⊥)
IsRule limit s n o Clears = NamesItself s n o × (o.action ≡ 3)
IsRule limit s n o (Preempts_by how) = NamesItself s n o × ((o.action ≡ 4) ⊎ (o.action ≡ 5)) × Applies s o.action_key how

-- what is done by a rule
abbrev pub effect_of : Standing → Nexus → ReserveOut → Rule → Acted
effect_of s n o Misnamed = stays s Conflict
effect_of s n o Idle = leads s
effect_of s n o Leaves = record (leads (unregistered s n o.aptpl)) { stay_code = holder_left n s.reservation }
effect_of s n o Overflows = stays s (Bad INSUFFICIENT_REGISTRATION_RESOURCES)
effect_of s n o Registers = leads (registered s n o.action_key o.aptpl)
effect_of s n o Stranger = stays s Conflict
effect_of s n o (Reserves kind) = leads (record s { reservation = held kind n })
effect_of s n o NoSuchKind = stays s (Bad INVALID_FIELD_IN_CDB)
effect_of s n o HoldsAlready = leads s
effect_of s n o HeldOtherwise = stays s Conflict
effect_of s n o HoldsNothing = leads s
effect_of s n o (Releases kind) = record (leads (record s { reservation = Free })) { stay_code = missed kind }
effect_of s n o OtherKind = stays s (Bad INVALID_RELEASE_OF_PERSISTENT_RESERVATION)
effect_of s n o Clears = clear s
effect_of s n o (Preempts_by how) = effect s n o.scope o.kind o.action_key how

-- what a PERSISTENT RESERVE OUT does: the effect of a rule that applies
pub record Acts (limit : ℕ) (s : Standing) (n : Nexus) (o : ReserveOut) (a : Acted) : Type 0 where
  pub rule : Rule
  pub applies : IsRule limit s n o rule
  pub is : a ≡ effect_of s n o rule
