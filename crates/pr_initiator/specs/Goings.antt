-- How a connection goes on, where it is told (this project's own).
use Rattle.std.specs.Prelude.{◌≡◌, ℕ, true, List, [], ◌++◌, Option, Some, None}
use Rattle.pr_io.specs.Talks.{Connection, Talk}

-- the connection that stands has sent and received these bytes more
abbrev pub CurrentGoes : Option Connection → Option Connection → List ℕ → List ℕ → Type 0
CurrentGoes None None sent heard = (sent ≡ []) × (heard ≡ [])
CurrentGoes (Some c) (Some d) sent heard = (d.address ≡ c.address) × (d.sent ≡ c.sent ++ sent) × (d.received ≡ c.received ++ heard)
CurrentGoes _ _ sent heard = ⊥

-- and no other connection has
abbrev pub Goes : Option Talk → Option Talk → List ℕ → List ℕ → Type 0
Goes None now sent heard = now ≡ None
Goes (Some before) None sent heard = ⊥
Goes (Some before) (Some now) sent heard = (now.earlier ≡ before.earlier) × CurrentGoes before.current now.current sent heard

abbrev pub EndedAt : Option Connection → Type 0
EndedAt None = ⊥
EndedAt (Some c) = c.ended ≡ true

-- the other side was found to have ended the connection that stands
abbrev pub WasEnded : Option Talk → Type 0
WasEnded None = Unit {0}
WasEnded (Some t) = EndedAt t.current
