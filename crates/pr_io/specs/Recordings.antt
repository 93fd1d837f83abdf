-- The connections that a wire in memory has recorded (this project's own).
use Rattle.std.specs.Prelude.{◌≡◌, ℕ, ◌==◌, List, [], ◌∷◌, Option, Some, None, map, slice_get, if◌then◌else◌}
use Rattle.std.specs.List.{filter}
use Rattle.std.specs.String.{string_bytes}
use Rattle.std.specs.declared.string.String.{String}
use Rattle.pr_io.specs.declared.recorded.Recorded.{Recorded}
use Rattle.pr_io.specs.Talks.{Connection, Talk}
use Rattle.pr_io.specs.Lines.{Exchange, Line, nothing_said}

abbrev pub told_of : Recorded → Connection
told_of r = record { address = string_bytes r.address; sent = r.sent.items; received = r.received.items; ended = r.ended }

abbrev pub told_current : Option Recorded → Option Connection
told_current None = None
told_current (Some r) = Some (told_of r)

-- the connections that were given up, and the one that stands (this project's own)
abbrev pub talk_of : List Recorded → Option Recorded → Talk
talk_of earlier current = record { earlier = map told_of earlier; current = told_current current }

-- what the device heard, what it said, and whether it had nothing more to say (this project's own)
abbrev pub exchange_of : Recorded → Exchange
exchange_of r = record { heard = (told_of r).sent; said = (told_of r).received; quiet = (told_of r).ended }

abbrev pub last_of : ℕ → Option Recorded → Exchange
last_of i None = nothing_said
last_of i (Some r) = if r.device == i then exchange_of r else nothing_said

-- the same connection later (this project's own)
abbrev pub IsLater : (Connection → Connection) → Recorded → Recorded → Type 0
IsLater change old new = (new.device ≡ old.device) × (told_of new ≡ change (told_of old))

-- what the device of a place heard and said; where it isn't connected, a connection of which there is nothing yet follows
-- (this project's own)
abbrev pub line_of : List Recorded → Option Recorded → ℕ → Line
line_of earlier current i = record { past = map exchange_of (filter (λ r. r.device == i) earlier); last = last_of i current }

-- the addresses of devices, by their places (this project's own)
abbrev pub addresses_of : {Z P : Type 0} → List (String Z × P) → List (List ℕ)
addresses_of ds = map (λ d. string_bytes d.0) ds

abbrev pub address_at : List (List ℕ) → Recorded → Option (List ℕ)
address_at addresses r = slice_get addresses r.device

abbrev pub own_address : Recorded → Option (List ℕ)
own_address r = Some (string_bytes r.address)

-- each of these connections is one to the device of its address (this project's own)
abbrev pub AreNamed : List (List ℕ) → List Recorded → Type 0
AreNamed addresses rs = map (address_at addresses) rs ≡ map own_address rs

-- the connection that stands, if any (this project's own)
abbrev pub standing : Option Recorded → List Recorded
standing None = []
standing (Some r) = r ∷ []
