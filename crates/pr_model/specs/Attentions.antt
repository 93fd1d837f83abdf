-- Unit attention conditions (SAM-5): a list for each nexus, the one that is reported first in front.
use Rattle.std.specs.Prelude.{◌≡◌, true, ◌==◌, ◌&&◌, ◌++◌, ◌∷◌, [], not, Bool, List, Option, Some, None, if◌then◌else◌}
use Rattle.std.specs.List.{list_any, All, IsDistinct}
use Rattle.pr_words.specs.declared.nexus.Nexus.{Nexus}
use Rattle.pr_words.specs.declared.nexus.Pair.{Pair}
use Rattle.pr_words.specs.declared.code.Code.{Code}
use Rattle.pr_words.specs.Orders.{same_nexus}
use Rattle.pr_words.specs.declared.code.TheConstants.Code.{POWER_ON, REGISTRATIONS_PREEMPTED, RESERVATIONS_PREEMPTED, RESERVATIONS_RELEASED}
use Rattle.pr_grammar.specs.Standings.{is_registered}
use Rattle.pr_model.specs.Acts.{Acted}

abbrev pub same_code : Code → Code → Bool
same_code a b = a.key == b.key && a.asc == b.asc && a.ascq == b.ascq

-- the code is put last, where it doesn't wait already
abbrev pub with_code : Code → List Code → List Code
with_code c cs = if list_any (same_code c) cs then cs else cs ++ c ∷ []

-- the lists after a code is raised for some nexuses
abbrev pub raised : (Nexus → Bool) → Code → (Nexus → List Code) → Nexus → List Code
raised who c lists = λ n. if who n then with_code c (lists n) else lists n

abbrev pub raised_any : (Nexus → Bool) → Option Code → (Nexus → List Code) → Nexus → List Code
raised_any who None lists = lists
raised_any who (Some c) lists = raised who c lists

-- a nexus of these registrations other than the caller
abbrev pub is_other : Nexus → List Pair → Nexus → Bool
is_other caller ps n = is_registered ps n && not (same_nexus n caller)

-- the lists after a PERSISTENT RESERVE OUT of a caller
abbrev pub told : Nexus → Acted → (Nexus → List Code) → Nexus → List Code
told caller a lists =
    raised_any (is_other caller a.standing.pairs) a.stay_code (raised_any (is_other caller a.removed) a.removed_code lists)

-- the unit attention conditions that this target establishes
abbrev pub attention_codes : List Code
attention_codes = POWER_ON ∷ RESERVATIONS_PREEMPTED ∷ RESERVATIONS_RELEASED ∷ REGISTRATIONS_PREEMPTED ∷ []

abbrev pub is_attention : Code → Bool
is_attention c = list_any (same_code c) attention_codes

-- a list of them, each at most once
pub record AreAttentions (cs : List Code) : Type 0 where
  pub distinct : IsDistinct same_code cs
  pub known : All (λ c. is_attention c ≡ true) cs
