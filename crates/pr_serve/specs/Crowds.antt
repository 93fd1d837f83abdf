-- The sessions of a target, and the connections with which they stand (this project's own).
use Rattle.std.specs.Prelude.{◌≡◌, ℕ, ◌+◌, List, [], ◌∷◌, ◌++◌, Option, Some, IsSome, vec_len, vec_capacity}
use Rattle.pr_io.specs.Told.{ToldStreams, told_streams}
use Rattle.pr_io.specs.declared.outside.Source as sources
use Rattle.pr_io.specs.declared.outside.Sink as sinks
use Rattle.pr_model.specs.Entries.{Entry}
use Rattle.pr_gate.specs.declared.pass.Pass.{Pass}
use Rattle.pr_gate.specs.declared.pass.Retired.{Retired}
use Rattle.pr_gate.specs.Passes.{number_of, own_of, retired_number, retired_own}
use Rattle.pr_core.specs.declared.ground.Ground.{Ground}
use Rattle.pr_session.specs.declared.session_end.SessionEnd.{SessionEnd}
use Rattle.pr_session.specs.declared.session_end.SessionEnd.TheVariants.{SpentTicket}
use Rattle.pr_serve.specs.declared.connection.Begun.{Begun}
use Rattle.pr_serve.specs.declared.sessions.Running.{Running}
use Rattle.pr_serve.specs.declared.sessions.Sessions.{Sessions}
use Rattle.pr_serve.specs.Connections.{Goes}
use Rattle.pr_serve.specs.Standing.{Stand, IsPast}

-- the ticket that the gate didn't give, as it was known before, after a session that ended so
abbrev pub spent_after : SessionEnd → Option ℕ → Option ℕ
spent_after (SpentTicket ticket) spent = Some ticket
spent_after _ spent = spent

module _ {X P T E G : Type 0} {g : _} where
  -- how many sessions there were so far, and how many there may be
  abbrev pub used_of : Sessions X P T E G g → ℕ
  used_of s = vec_len s.running + vec_len s.retired

  abbrev pub most_of : Sessions X P T E G g → ℕ
  most_of s = vec_capacity s.retired

  -- the same sessions, with maybe more room for threads
  abbrev pub IsAsBefore : Sessions X P T E G g → Sessions X P T E G g → Type 0
  IsAsBefore s t = (t.running.items ≡ s.running.items) × (t.retired ≡ s.retired) × (t.spent ≡ s.spent)

module _ {X P T : Type 0} {g : _} where
  -- of sessions with these threads and retired passes one pass more is retired, q, and the pass p has seen what it had
  pub record Retires (p q : Pass T Entry Ground g) (running : List (Running X P)) (retired : List (Retired T Entry Ground g)) (used most : ℕ) (t : Sessions X P T Entry Ground g) : Type 0 where
    pub last : Retired T Entry Ground g
    pub retired_now : t.retired.items ≡ retired ++ last ∷ []
    pub running_now : t.running.items ≡ running
    pub used_now : used_of t ≡ used + 1
    pub most_now : most_of t ≡ most
    pub past : IsPast p last
    pub number : retired_number last ≡ Some (number_of q)
    pub own : retired_own last ≡ own_of q

module _ {S K T : Type 0} {g : _} (gs : sources.Ghosts S) (gk : sinks.Ghosts K) where
  -- with which pass a thread began, and what was told of its connection
  abbrev pub pass_in : {X : Type 0} → Running X (Begun S K T Entry Ground g) → Pass T Entry Ground g
  pass_in h = h.thread.promise.pass.value

  abbrev pub told_in : {X : Type 0} → Running X (Begun S K T Entry Ground g) → ToldStreams
  told_in h = told_streams gs gk h.thread.promise.source.value h.thread.promise.sink.value

  -- a thread more serves a connection of which this was told, from this pass on
  pub record Starts {X : Type 0} (c : ToldStreams) (p : Pass T Entry Ground g) (s t : Sessions X (Begun S K T Entry Ground g) T Entry Ground g) : Type 0 where
    pub last : Running X (Begun S K T Entry Ground g)
    pub running : t.running.items ≡ s.running.items ++ last ∷ []
    pub retired : t.retired ≡ s.retired
    pub spent : t.spent ≡ s.spent
    pub pass : pass_in last ≡ p
    pub told : told_in last ≡ c

  -- so the sessions stand with these connections, the first under this number, and with the pass that has seen all that they had
  abbrev pub Stands : {X : Type 0} → ℕ → List ToldStreams → Pass T Entry Ground g → Sessions X (Begun S K T Entry Ground g) T Entry Ground g → Type 0
  Stands first cs main s = Stand pass_in told_in first cs main s.running.items s.retired.items s.spent

  -- some sessions may have been taken in, and each connection is served or was as before: p and q are the pass that has seen all that they had
  pub record TakesIn {X : Type 0} (p q : Pass T Entry Ground g) (s t : Sessions X (Begun S K T Entry Ground g) T Entry Ground g) : Type 0 where
    pub goes : Goes 0 p q
    pub used : used_of t ≡ used_of s
    pub most : most_of t ≡ most_of s
    pub spent : IsSome s.spent → IsSome t.spent
    pub stands : (first : ℕ) (cs : List ToldStreams) → Stands first cs p s → Stands first cs q t
