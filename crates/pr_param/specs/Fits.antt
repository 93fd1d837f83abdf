-- That a standing's numbers fit the fields of a reply (SPC-4, PERSISTENT RESERVE IN parameter data).
use Rattle.std.specs.Prelude.{◌≡◌, ◌<◌, ◌^◌, All, Some}
use Rattle.pr_words.specs.declared.nexus.Nexus.{Nexus}
use Rattle.pr_words.specs.declared.nexus.Pair.{Pair}
use Rattle.pr_words.specs.declared.reservation.Kind.{Kind}
use Rattle.pr_grammar.specs.Standings.{Standing, kind_of, holder_of}
use Rattle.pr_grammar.specs.InReplies.{FitsPair, key_at}

abbrev pub FitsKey : Pair → Type 0
FitsKey p = p.key.0 < 2 ^ 64

-- those of READ KEYS
abbrev pub FitKeys : Standing → Type 0
FitKeys s = (s.generation < 2 ^ 32) × All FitsKey s.pairs

-- those of READ FULL STATUS
abbrev pub FitFields : Standing → Type 0
FitFields s = (s.generation < 2 ^ 32) × All FitsPair s.pairs

-- those of READ RESERVATION
abbrev pub FitsHeld : Standing → Type 0
FitsHeld s = (s.generation < 2 ^ 32) × ((kind : Kind) (n : Nexus) → kind_of s.reservation ≡ Some kind → holder_of s.reservation ≡ Some n → key_at s.pairs n < 2 ^ 64)
