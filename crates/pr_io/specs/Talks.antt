-- What a client's wire tells of its connections (this project's own).
use Rattle.std.specs.Prelude.{◌≡◌, ℕ, ◌==◌, ◌&&◌, not, Bool, false, List, [], ◌∷◌, ◌++◌, length, take, Option, Some, None, Result, Ok, Err}
use Rattle.pr_io.specs.declared.outside.Failed.{Failed}

-- with whom, what was sent and received so far, and whether the other side was found to have ended it: asked last, it gave nothing,
-- and nothing was sent since (this project's own)
pub record Connection : Type 0 where
  pub address : List ℕ
  pub sent : List ℕ
  pub received : List ℕ
  pub ended : Bool

-- the connections that were given up, oldest first, and the one that stands (this project's own)
pub record Talk : Type 0 where
  pub earlier : List Connection
  pub current : Option Connection

abbrev pub connection : List ℕ → Connection
connection address = record { address = address; sent = []; received = []; ended = false }

-- all connections, oldest first (this project's own)
abbrev pub one_more : List Connection → Option Connection → List Connection
one_more earlier None = earlier
one_more earlier (Some c) = earlier ++ c ∷ []

abbrev pub connections : Talk → List Connection
connections t = one_more t.earlier t.current

-- a new connection, for which the one before is given up (this project's own)
abbrev pub dialled : Talk → List ℕ → Talk
dialled t address = record { earlier = connections t; current = Some (connection address) }

-- whoever is sent bytes may answer (this project's own)
abbrev pub sent_on : Connection → List ℕ → Connection
sent_on c bytes = record c { sent = c.sent ++ bytes; ended = false }

-- so many bytes came into a buffer with this room: none, where there is any, tell that the other side has ended the
-- connection, and bytes that it hasn't (this project's own)
abbrev pub received_on : Connection → ℕ → ℕ → List ℕ → Connection
received_on c n room buf = record c { received = c.received ++ take n buf; ended = n == 0 && not (room == 0) }

-- the connection that stands becomes another one (this project's own)
abbrev pub Continues : Talk → Talk → (Connection → Connection) → Type 0
Continues old new change = (c : Connection) × (old.current ≡ Some c) × (new ≡ record { earlier = old.earlier; current = Some (change c) })

-- where it is told, the connection that stands goes on (this project's own)
abbrev pub GoesOn : Option Talk → Option Talk → (Connection → Connection) → Type 0
GoesOn None now change = now ≡ None
GoesOn (Some before) None change = ⊥
GoesOn (Some before) (Some now) change = Continues before now change

-- where it is told, a connection begins (this project's own)
abbrev pub Begins : Option Talk → Option Talk → List ℕ → Type 0
Begins None now address = now ≡ None
Begins (Some before) None address = ⊥
Begins (Some before) (Some now) address = now ≡ dialled before address

-- a dial begins a connection; where it fails, nothing is added (this project's own)
abbrev pub Dials : Option Talk → Option Talk → Result Unit Failed → List ℕ → Type 0
Dials before now (Ok u) address = Begins before now address
Dials before now (Err e) address = now ≡ before

-- all bytes were sent, or, where it fails, none (this project's own)
abbrev pub Sends : Option Talk → Option Talk → Result Unit Failed → List ℕ → Type 0
Sends before now (Ok u) bytes = GoesOn before now (λ c. sent_on c bytes)
Sends before now (Err e) bytes = now ≡ before

-- so many bytes came into the front of the buffer, or, where it fails, none (this project's own)
abbrev pub Receives : Option Talk → Option Talk → Result ℕ Failed → List ℕ → Type 0
Receives before now (Ok n) buf = GoesOn before now (λ c. received_on c n (length buf) buf)
Receives before now (Err e) buf = now ≡ before

-- what was sent on the connection that stands, if any (this project's own)
abbrev pub sent_of : Option Connection → List ℕ
sent_of None = []
sent_of (Some c) = c.sent
