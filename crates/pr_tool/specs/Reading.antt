-- What the reading of one record of a schedule takes and gives (this project's own).
use Rattle.std.specs.Prelude.{◌≡◌, ℕ, ◌<◌, ◌≤◌, ◌⊎◌, List, [], ◌++◌, length, take, Option, Some, None, Result, Ok, Err, Bool, true, false, if◌then◌else◌}
use Rattle.pr_io.specs.Streams.{Took}
use Rattle.pr_words.specs.declared.limits.TheConstants.{PIECE}
use Rattle.pr_grammar.specs.Schedules.{Record, Arrival, Step_of, Close_of, Power_loss, IsRecord, spelled_record, Partial, Faulty, record_front, IsUnfinished}
use Rattle.pr_tool.specs.declared.schedule.LaneRecord.{LaneRecord}
use Rattle.pr_tool.specs.declared.schedule.LaneRecord.TheVariants.{Arrival as Arrived, Step as Stepped, Close as Closed}
use Rattle.pr_tool.specs.declared.schedule.Record.{Record as Found}
use Rattle.pr_tool.specs.declared.schedule.Record.TheVariants.{OfLane, Power}
use Rattle.pr_tool.specs.declared.schedule.End.{End}
use Rattle.pr_tool.specs.declared.schedule.End.TheVariants.{Done, ReadFault, Broken, TooLong}

-- the record that was read, with its bytes in the front of the buffer (this project's own)
abbrev pub lane_record_of : LaneRecord → List ℕ → Record
lane_record_of (Arrived lane len) body = Arrival lane (take len body)
lane_record_of (Stepped lane) body = Step_of lane
lane_record_of (Closed lane) body = Close_of lane

abbrev pub record_of : Found → List ℕ → Record
record_of (OfLane found) body = lane_record_of found body
record_of Power body = Power_loss

-- its bytes are within the buffer's front that a record may fill (this project's own)
abbrev pub IsHeldOf : LaneRecord → Type 0
IsHeldOf (Arrived lane len) = len ≤ PIECE
IsHeldOf (Stepped lane) = Unit {0}
IsHeldOf (Closed lane) = Unit {0}

abbrev pub IsHeld : Found → Type 0
IsHeld (OfLane found) = IsHeldOf found
IsHeld Power = Unit {0}

-- where it is told, nothing is left (this project's own)
abbrev pub IsAtEnd : Option (List ℕ) → Type 0
IsAtEnd None = Unit {0}
IsAtEnd (Some rest) = rest ≡ []

-- why no record was read, of so many bytes that may still be looked at, and what was taken (this project's own)
abbrev pub Stops : ℕ → ℕ → End → Option (List ℕ) → Option (List ℕ) → Type 0
Stops lanes left Done before now = Took before now [] × IsAtEnd now
Stops lanes left ReadFault before now = (tail : List ℕ) × Took before now tail × IsUnfinished (record_front lanes tail) × (length tail ≤ left)
Stops lanes left Broken before now =
    (tail : List ℕ) × Took before now tail × IsUnfinished (record_front lanes tail) × (length tail ≤ left)
    × ((record_front lanes tail ≡ Faulty) ⊎ ((0 < length tail) × IsAtEnd now))
Stops lanes left TooLong before now =
    (tail : List ℕ) × (more : List ℕ) × Took before now (tail ++ more) × (record_front lanes tail ≡ Partial) × (length tail ≡ left) × (length more ≡ 1)

-- a record was read, or why none was (this project's own)
abbrev pub Reads : ℕ → ℕ → Result Found End → Option (List ℕ) → Option (List ℕ) → List ℕ → Type 0
Reads lanes left (Ok found) before now body =
    Took before now (spelled_record (record_of found body)) × IsRecord lanes (record_of found body)
    × (length (spelled_record (record_of found body)) ≤ left) × IsHeld found
Reads lanes left (Err end) before now body = Stops lanes left end before now

-- why the bytes of a record weren't all read, of so many, and what of them was taken (this project's own)
abbrev pub Cuts : ℕ → ℕ → End → Option (List ℕ) → Option (List ℕ) → Type 0
Cuts size left Done before now = ⊥
Cuts size left ReadFault before now = (piece : List ℕ) × Took before now piece × (length piece < size) × (length piece ≤ left)
Cuts size left Broken before now = (piece : List ℕ) × Took before now piece × (length piece < size) × (length piece ≤ left) × IsAtEnd now
Cuts size left TooLong before now =
    (piece : List ℕ) × (more : List ℕ) × Took before now (piece ++ more) × (length piece < size) × (length piece ≡ left) × (length more ≡ 1)

-- whether a source has more where no more is looked at, and what was taken to see it (this project's own)
abbrev pub Ends : Bool → End → Option (List ℕ) → Option (List ℕ) → Type 0
Ends begun Done before now = (begun ≡ false) × Took before now [] × IsAtEnd now
Ends begun ReadFault before now = Took before now []
Ends begun Broken before now = (begun ≡ true) × Took before now [] × IsAtEnd now
Ends begun TooLong before now = (more : List ℕ) × Took before now more × (length more ≡ 1)

-- how a schedule has ended, by whether a record had begun (this project's own)
abbrev pub end_at : Bool → End
end_at begun = if begun then Broken else Done
