-- What is read of a slot, as the grammar has it (this project's own).
use Rattle.pr_grammar.specs.Files.{Listed, Good, Wrong, Slot, Closed, Open, Broken}
use Rattle.pr_aptpl.specs.Doubts.{IsKeepable}
use Rattle.pr_aptpl.specs.declared.reading.Listing.{Listing}
use Rattle.pr_aptpl.specs.declared.reading.Listing.TheVariants.{Pairs, Bad as BadPlace}
use Rattle.pr_aptpl.specs.declared.reading.Slot.{Slot as Read}
use Rattle.pr_aptpl.specs.declared.reading.Slot.TheVariants.{Closed as ReadClosed, Open as ReadOpen, Broken as ReadBroken}

abbrev pub listing_of : Listing → Listed
listing_of (Pairs ps) = Good ps.items
listing_of (BadPlace place) = Wrong place

abbrev pub slot_of : Read → Slot
slot_of ReadClosed = Closed
slot_of (ReadOpen turn kept) = Open turn kept
slot_of (ReadBroken place) = Broken place

-- what an open slot holds may be kept
abbrev pub IsSound : Slot → Type 0
IsSound (Open turn kept) = IsKeepable kept
IsSound s = Unit {0}
