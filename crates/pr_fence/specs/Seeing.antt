-- What is seen in the data of a PERSISTENT RESERVE IN (this project's own; the data are SPC-4's).
use Rattle.std.specs.Prelude.{ℕ, ◌==◌, ◌&&◌, Bool, true, false, List, Option, Some, None, Result, Ok, Err}
use Rattle.std.specs.List.{list_any}
use Rattle.pr_words.specs.Orders.{same_nexus}
use Rattle.pr_words.specs.declared.nexus.Key.{Key}
use Rattle.pr_words.specs.declared.nexus.Nexus.{Nexus}
use Rattle.pr_grammar.specs.declared.param.FullEntry.{FullEntry}
use Rattle.pr_grammar.specs.declared.param.ReplyFault.{ReplyFault}
use Rattle.pr_grammar.specs.declared.param.ReplyFault.TheVariants.{BadLength, Cut}
use Rattle.pr_grammar.specs.InReplies.{FullList, read_keys, read_reservation, read_full}
use Rattle.pr_fence.specs.declared.asked.Asked.{Asked}
use Rattle.pr_fence.specs.declared.asked.Asked.TheVariants as ask
use Rattle.pr_fence.specs.declared.fence_fault.FenceFault.{FenceFault}
use Rattle.pr_fence.specs.declared.fence_fault.FenceFault.TheVariants.{BadData}
use Rattle.pr_fence.specs.declared.seeing.Sight.{Sight}

abbrev pub place_of : ReplyFault → ℕ
place_of (BadLength place value) = place
place_of (Cut place) = place

-- what data say, or the place at which they break their grammar
abbrev pub told_by : {T U : Type 0} → Asked → (T → U) → Result T ReplyFault → Result U FenceFault
told_by asked says (Ok told) = Ok (says told)
told_by asked says (Err fault) = Err (BadData asked (place_of fault))

abbrev pub is_key : Key → Key → Bool
is_key key other = other.0 == key.0

-- a registration with this key, on whichever nexus
abbrev pub has_key : Key → FullEntry → Bool
has_key key e = is_key key e.key

-- the nexus's own registration with this key
abbrev pub is_own : Nexus → Key → FullEntry → Bool
is_own nexus key e = same_nexus nexus e.nexus && is_key key e.key

abbrev pub listed_in : Key → List ℕ → Result Bool FenceFault
listed_in key bytes = told_by ask.Keys (λ l. list_any (is_key key) l.keys) (read_keys bytes)

abbrev pub sight_of : Nexus → Key → Key → FullList → Sight
sight_of nexus own victim l = record { own = list_any (is_own nexus own) l.entries; victim = list_any (has_key victim) l.entries }

abbrev pub seen_in : Nexus → Key → Key → List ℕ → Result Sight FenceFault
seen_in nexus own victim bytes = told_by ask.FullStatus (sight_of nexus own victim) (read_full bytes)

abbrev pub is_some : {T : Type 0} → Option T → Bool
is_some (Some t) = true
is_some None = false

abbrev pub held_in : List ℕ → Result Bool FenceFault
held_in bytes = told_by ask.Reservation (λ h. is_some h.held) (read_reservation bytes)
