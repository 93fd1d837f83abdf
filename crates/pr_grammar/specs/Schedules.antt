-- Schedules (this project's own): records of a lane, a kind, a length in 2 bytes, and so many bytes.
use Rattle.std.specs.Prelude.{◌≡◌, ℕ, ◌+◌, ◌<◌, ◌≤◌, ◌^◌, ◌==◌, ◌&&◌, ◌||◌, ◌⊎◌, nat_lt, not, Bool, List, [], ◌∷◌, ◌++◌, length, take, drop, slice_index, slice_range, All, if◌then◌else◌}
use Rattle.std.specs.List.{flat_map}
use Rattle.std.specs.Int.{w16, to_be_bytes}
use Rattle.pr_words.specs.Fields.{number16_at}

-- bytes arrive on a lane, a lane takes a step, a lane's connection is closed, or power is lost and comes back
pub data Record : Type 0 where
  Arrival : (lane : ℕ) → (bytes : List ℕ) → Record
  Step_of : (lane : ℕ) → Record
  Close_of : (lane : ℕ) → Record
  Power_loss : Record

abbrev pub lane_of : Record → ℕ
lane_of (Arrival lane bytes) = lane
lane_of (Step_of lane) = lane
lane_of (Close_of lane) = lane
lane_of Power_loss = 0

-- a record of a schedule of so many lanes
abbrev pub IsRecord : ℕ → Record → Type 0
IsRecord lanes (Arrival lane bytes) = (lane < lanes) × (length bytes < 2 ^ 16)
IsRecord lanes (Step_of lane) = lane < lanes
IsRecord lanes (Close_of lane) = lane < lanes
IsRecord lanes Power_loss = 0 < lanes

abbrev pub spelled_record : Record → List ℕ
spelled_record (Arrival lane bytes) = (lane ∷ 0 ∷ []) ++ to_be_bytes w16 (length bytes) ++ bytes
spelled_record (Step_of lane) = lane ∷ 1 ∷ 0 ∷ 0 ∷ []
spelled_record (Close_of lane) = lane ∷ 2 ∷ 0 ∷ 0 ∷ []
spelled_record Power_loss = 0 ∷ 3 ∷ 0 ∷ 0 ∷ []

-- what stands at the front of a schedule: what can become a record, what can't, or a record and what is behind it
pub data RecordFront : Type 0 where
  Partial : RecordFront
  Faulty : RecordFront
  Entire : (first : Record) → (rest : List ℕ) → RecordFront

-- whether these can be the first bytes of a record; a byte that hasn't come yet is read as zero, which each field may be
abbrev pub can_begin : ℕ → List ℕ → Bool
can_begin lanes bytes =
    nat_lt (slice_index bytes 0) lanes && nat_lt (slice_index bytes 1) 4
    && (slice_index bytes 1 == 0 || (slice_index bytes 2 == 0 && slice_index bytes 3 == 0))
    && (nat_lt (slice_index bytes 1) 3 || slice_index bytes 0 == 0)

abbrev pub record_at : List ℕ → Record
record_at bytes =
    if slice_index bytes 1 == 0 then Arrival (slice_index bytes 0) (slice_range bytes 4 (4 + number16_at bytes 2)) else
    if slice_index bytes 1 == 1 then Step_of (slice_index bytes 0) else
    if slice_index bytes 1 == 2 then Close_of (slice_index bytes 0) else Power_loss

unfoldable pub record_front : ℕ → List ℕ → RecordFront
record_front lanes bytes =
    if not (can_begin lanes bytes) then Faulty else
    if nat_lt (length bytes) 4 || nat_lt (length bytes) (4 + number16_at bytes 2) then Partial else
    Entire (record_at bytes) (drop (4 + number16_at bytes 2) bytes)

abbrev pub IsUnfinished : RecordFront → Type 0
IsUnfinished (Entire first rest) = ⊥
IsUnfinished _ = Unit {0}

-- bytes are whole records, and then a tail at whose front no whole record stands
pub record AreRecords (lanes : ℕ) (bytes : List ℕ) (records : List Record) (tail : List ℕ) : Type 0 where
  pub spelling : bytes ≡ flat_map spelled_record records ++ tail
  pub valid : All (IsRecord lanes) records
  pub unfinished : IsUnfinished (record_front lanes tail)

-- no more of a schedule than so many bytes is looked at

-- it is whole records to its end
abbrev pub IsWhole : ℕ → ℕ → List ℕ → Type 0
IsWhole lanes budget all = (length all ≤ budget) × ((records : List Record) × AreRecords lanes all records [])

-- behind its whole records, which end at this place, what is looked at breaks the grammar, or is all there is and ends inside a record
abbrev pub IsBrokenAt : ℕ → ℕ → List ℕ → ℕ → Type 0
IsBrokenAt lanes budget all place =
    (records : List Record) × (tail : List ℕ) × AreRecords lanes (take budget all) records tail
    × (place ≡ length (flat_map spelled_record records))
    × ((record_front lanes tail ≡ Faulty) ⊎ ((length all ≤ budget) × (0 < length tail)))

-- there is more than is looked at, and what is looked at can be continued
abbrev pub IsLong : ℕ → ℕ → List ℕ → Type 0
IsLong lanes budget all =
    (budget < length all) × ((records : List Record) × (tail : List ℕ) × AreRecords lanes (take budget all) records tail × (record_front lanes tail ≡ Partial))
