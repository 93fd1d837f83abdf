-- What outlives a power loss, by its fields (this project's own).
use Rattle.std.specs.Prelude.{Bool, List, Option, Some, None, if◌then◌else◌}
use Rattle.pr_words.specs.declared.nexus.Nexus.{Nexus}
use Rattle.pr_words.specs.declared.nexus.Pair.{Pair}
use Rattle.pr_words.specs.declared.reservation.Kind.{Kind}
use Rattle.pr_words.specs.declared.reservation.Reservation.{Reservation}
use Rattle.pr_words.specs.declared.reservation.Reservation.TheVariants.{Free, OfOne, OfAll}
use Rattle.pr_model.specs.Keeping.{Kept, Nothing, Some_kept}

-- by its type and its one holder
abbrev pub reservation_of : Option Kind → Option Nexus → Reservation
reservation_of None holder = Free
reservation_of (Some kind) None = OfAll kind
reservation_of (Some kind) (Some holder) = OfOne kind holder

abbrev pub kept_of : Bool → Option Kind → Option Nexus → List Pair → Kept
kept_of on kind holder pairs = if on then Some_kept pairs (reservation_of kind holder) else Nothing
