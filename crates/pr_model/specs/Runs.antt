-- Whole runs: the records of a schedule act one after another, and lanes take turns (this project's own).
use Rattle.std.specs.Prelude.{◌≡◌, ◌⊎◌, ℕ, zero, suc, ◌<◌, ◌≤◌, List, [], ◌∷◌, ◌++◌, length, slice_get, slice_set, replicate, Some}
use Rattle.pr_words.specs.declared.limits.TheConstants.{HELD}
use Rattle.pr_grammar.specs.Schedules.{Record, Arrival, Step_of, Close_of, Power_loss, lane_of}
use Rattle.pr_grammar.specs.Outputs.{output_of}
use Rattle.pr_model.specs.Keeping.{Kept}
use Rattle.pr_model.specs.Entries.{Logout, Out, Left, History, entry, power_up}
use Rattle.pr_model.specs.Lanes.{Phase, In, Busy, Lane, fresh, Turn, Idle, Silent, Asks, turn, arrived}

-- what was done: the entries made, and the bytes written
pub record Deed : Type 0 where
  pub entries : History
  pub output : List ℕ

abbrev pub deed : History → List ℕ → Deed
deed entries output = record { entries = entries; output = output }

abbrev pub nothing : Deed
nothing = deed [] []

abbrev pub joined : Deed → Deed → Deed
joined a b = deed (a.entries ++ b.entries) (a.output ++ b.output)

-- what a turn of a lane makes: entries, bytes to reply, and the lane after it
abbrev pub Makes : ℕ → Lane → Turn → History → List ℕ → Lane → Type 0
Makes who l Idle entries reply m = (entries ≡ []) × (reply ≡ []) × (m ≡ l)
Makes who l (Silent next) entries reply m = (entries ≡ []) × (reply ≡ next.reply) × (m ≡ next.lane)
Makes who l (Asks n act next) entries reply m =
    (out : Out) × (entries ≡ entry who n act out ∷ []) × (reply ≡ (next out).reply) × (m ≡ (next out).lane)

-- one turn of a lane, whose reply is written
abbrev pub TakesTurn : ℕ → Lane → Deed → Lane → Type 0
TakesTurn who l d m =
    (entries : History) × (reply : List ℕ) × Makes who l (turn l) entries reply m × (d ≡ deed entries (output_of who reply))

-- so many turns, each while more bytes wait than are held
abbrev pub TakesTurns : ℕ → ℕ → Lane → Deed → Lane → Type 0
TakesTurns zero who l d m = (d ≡ nothing) × (m ≡ l)
TakesTurns (suc turns) who l d m =
    (HELD < length l.bytes)
    × ((first : Deed) × (mid : Lane) × (rest : Deed) × TakesTurn who l first mid × TakesTurns turns who mid rest m × (d ≡ joined first rest))

-- where a connection is closed, a nexus that is logged in is logged out without a reply
abbrev pub closing : ℕ → Phase → History
closing who (In n) = entry who n Logout Left ∷ []
closing who (Busy n j) = entry who n Logout Left ∷ []
closing who _ = []

-- the lane of a closed connection is fresh
abbrev pub Closes : ℕ → Lane → Deed → Lane → Type 0
Closes who l d m = (d ≡ deed (closing who l.phase) []) × (m ≡ fresh)

-- all that a record does on its lane: bytes that arrive are held at its end
abbrev pub RunsRecord : Record → Lane → Deed → Lane → Type 0
RunsRecord (Arrival who bytes) l d m = ((turns : ℕ) × TakesTurns turns who (arrived l bytes) d m) × (length m.bytes ≤ HELD)
RunsRecord (Step_of who) l d m = TakesTurn who l d m
RunsRecord (Close_of who) l d m = Closes who l d m
RunsRecord Power_loss l d m = ⊥

-- one turn of a lane, of whose output just a front was written: something was lost
abbrev pub CutsTurn : ℕ → Lane → Deed → Lane → Type 0
CutsTurn who l d m = (lost : List ℕ) × TakesTurn who l (deed d.entries (d.output ++ lost)) m × (0 < length lost)

-- so many whole turns, and then one more that is cut
abbrev pub CutsTurns : ℕ → ℕ → Lane → Deed → Lane → Type 0
CutsTurns turns who l d m =
    (first : Deed) × (mid : Lane) × (rest : Deed) × TakesTurns turns who l first mid × (HELD < length mid.bytes)
    × CutsTurn who mid rest m × (d ≡ joined first rest)

-- what a record has done up to and with a turn that is cut: nothing behind it. A connection that is closed writes nothing
abbrev pub CutsRecord : Record → Lane → Deed → Lane → Type 0
CutsRecord (Arrival who bytes) l d m = (turns : ℕ) × CutsTurns turns who (arrived l bytes) d m
CutsRecord (Step_of who) l d m = CutsTurn who l d m
CutsRecord (Close_of who) l d m = ⊥
CutsRecord Power_loss l d m = ⊥

-- the record acts on the lane of its number, whose place among the lanes that is
abbrev pub ActsOn : (Record → Lane → Deed → Lane → Type 0) → Record → List Lane → Deed → List Lane → Type 0
ActsOn Acts r lanes d next =
    (l : Lane) × (m : Lane) × (slice_get lanes (lane_of r) ≡ Some l) × Acts r l d m × (next ≡ slice_set lanes (lane_of r) m)

-- power is lost and comes back, which nobody is told: all connections are new
abbrev pub PowersUp : List Lane → Deed → List Lane → Type 0
PowersUp lanes d next =
    (value : Kept) × (d ≡ deed (power_up value ∷ []) []) × (next ≡ replicate (length lanes) fresh)

-- what a record does: on the lane of its number, or where power is lost, on all of them
abbrev pub RunsOn : Record → List Lane → Deed → List Lane → Type 0
RunsOn r lanes d next = ActsOn RunsRecord r lanes d next ⊎ ((r ≡ Power_loss) × PowersUp lanes d next)

-- a schedule's records, from these lanes on, make these entries, write these bytes and leave those lanes
abbrev pub IsRun : List Lane → List Record → Deed → List Lane → Type 0
IsRun lanes [] d last = (d ≡ nothing) × (last ≡ lanes)
IsRun lanes (r ∷ rs) d last =
    (first : Deed) × (mid : List Lane) × (rest : Deed) × RunsOn r lanes first mid × IsRun mid rs rest last × (d ≡ joined first rest)

-- the same, but the last record is cut
abbrev pub IsCutRun : List Lane → List Record → Deed → List Lane → Type 0
IsCutRun lanes records d last =
    (whole : List Record) × (r : Record) × (first : Deed) × (mid : List Lane) × (rest : Deed) × (records ≡ whole ++ r ∷ [])
    × IsRun lanes whole first mid × ActsOn CutsRecord r mid rest last × (d ≡ joined first rest)
