-- Which connections were taken, and what became of them (this project's own).
use Rattle.std.specs.Prelude.{◌≡◌, ℕ, ◌+◌, ◌≤◌, ◌^◌, List, ◌++◌, Option, Some, None, length}
use Rattle.std.specs.List.{Contains}
use Rattle.pr_io.specs.Causes.{Rose}
use Rattle.pr_io.specs.Streams.{Put, PutSome}
use Rattle.pr_io.specs.Told.{ToldStreams, ToldSink}
use Rattle.pr_io.specs.declared.outside.Source as sources
use Rattle.pr_io.specs.declared.outside.Sink as sinks
use Rattle.pr_model.specs.Entries.{Entry}
use Rattle.pr_gate.specs.declared.pass.Pass.{Pass}
use Rattle.pr_gate.specs.declared.stands.Stands as gates
use Rattle.pr_gate.specs.Passes.{seen_of, spare_of}
use Rattle.pr_core.specs.declared.ground.Ground.{Ground}
use Rattle.pr_session.specs.declared.session_end.SessionEnd.{SessionEnd}
use Rattle.pr_session.specs.declared.session_end.SessionEnd.TheVariants.{SpentTicket}
use Rattle.pr_serve.specs.declared.connection.Begun.{Begun}
use Rattle.pr_serve.specs.declared.sessions.Sessions.{Sessions}
use Rattle.pr_serve.specs.declared.exit.ServeExit.{ServeExit}
use Rattle.pr_serve.specs.declared.exit.ServeExit.TheVariants.{Done, WriteFault, DoorFault, NoMemory, OpenFault}
use Rattle.pr_serve.specs.declared.exit.ServeExit.TheVariants as exits
use Rattle.pr_serve.specs.declared.stop.Stop.{Stop}
use Rattle.pr_serve.specs.declared.stop.Stop.TheVariants.{Door, Spent}
use Rattle.pr_serve.specs.Turns.{turns_line}
use Rattle.pr_serve.specs.Connections.{Goes, AreServed}
use Rattle.pr_serve.specs.Crowds.{Stands, used_of, most_of}

-- what a door tells: which connections wait, where it tells that, and how many it has given
pub record ToldDoor : Type 0 where
  pub waiting : Option (List ToldStreams)
  pub taken : ℕ

abbrev pub told_door : Option (List ToldStreams) → ℕ → ToldDoor
told_door waiting taken = record { waiting = waiting; taken = taken }

-- where it is told which connections wait, the first of them are these
abbrev pub AreFirst : Option (List ToldStreams) → Option (List ToldStreams) → List ToldStreams → Type 0
AreFirst None now cs = now ≡ None
AreFirst (Some before) None cs = ⊥
AreFirst (Some before) (Some now) cs = before ≡ cs ++ now

-- just these connections were taken at a door
pub record Took (before after : ToldDoor) (cs : List ToldStreams) : Type 0 where
  pub first : AreFirst before.waiting after.waiting cs
  pub taken : after.taken ≡ before.taken + length cs

-- why no more are taken, by what is so of a ticket that the gate didn't give, and by the counts of the door's faults before and afterwards
abbrev pub IsCause : Stop → (ℕ → Type 0) → ℕ → ℕ → Type 0
IsCause Door IsFound faults faults_now = Rose faults faults_now
IsCause (Spent ticket) IsFound faults faults_now = (2 ^ 62 ≤ ticket) × IsFound ticket

-- one of the sessions that ended so found that the gate doesn't give this ticket
abbrev pub Found : List SessionEnd → ℕ → Type 0
Found ends ticket = Contains ends (SpentTicket ticket)

module _ {S K T X : Type 0} {g : gates.Ghosts T Entry Ground} (gs : sources.Ghosts S) (gk : sinks.Ghosts K) where
  -- these connections were taken, and each is served or was, under the number of a pass that p made, which became q
  pub record Accepts (before after : ToldDoor) (more : List ToldStreams) (p q : Pass T Entry Ground g) (s t : Sessions X (Begun S K T Entry Ground g) T Entry Ground g) : Type 0 where
    pub took : Took before after more
    pub goes : Goes (length more) p q
    pub used : used_of t ≡ used_of s + length more
    pub most : most_of t ≡ most_of s
    pub stands : (first : ℕ) (cs : List ToldStreams) → first + length cs + spare_of p ≡ 2 ^ 62 + 1 → Stands gs gk first cs p s → Stands gs gk first (cs ++ more) q t

module _ {T : Type 0} {g : gates.Ghosts T Entry Ground} where
  -- these connections were taken, each was served under the number of a pass that p made, which became q, and ended so, and nobody is served any more
  pub record Serves (before after : ToldDoor) (p q : Pass T Entry Ground g) (cs : List ToldStreams) (ends : List SessionEnd) : Type 0 where
    pub took : Took before after cs
    pub goes : Goes (length cs) p q
    pub served : (first : ℕ) → first + spare_of p ≡ 2 ^ 62 + 1 → AreServed first cs ends (seen_of q)

-- how many connections are asked for, 2^62 where no number is
abbrev pub asked : Option ℕ → ℕ
asked None = 2 ^ 62
asked (Some n) = n

-- a run over a gate ended so, where so many connections were asked for and so many taken, their sessions ended so, and the history has so many entries: by the counts of the door's faults, and by what the sink tells, before and afterwards
abbrev pub EndsSo : ServeExit → ℕ → ℕ → List SessionEnd → ℕ → ℕ → ToldSink → ToldSink → ℕ → Type 0
EndsSo Done many taken ends faults faults_now sink sink_now turns = (taken ≡ many) × Put sink.written sink_now.written (turns_line turns)
EndsSo WriteFault many taken ends faults faults_now sink sink_now turns = (taken ≡ many) × PutSome sink.written sink_now.written (turns_line turns) × Rose sink.faults sink_now.faults
EndsSo DoorFault many taken ends faults faults_now sink sink_now turns = Rose faults faults_now × (sink_now ≡ sink)
EndsSo (exits.Spent ticket) many taken ends faults faults_now sink sink_now turns = (2 ^ 62 ≤ ticket) × Found ends ticket × (sink_now ≡ sink)
EndsSo NoMemory many taken ends faults faults_now sink sink_now turns = (taken ≡ 0) × (sink_now ≡ sink)
EndsSo (OpenFault fault) many taken ends faults faults_now sink sink_now turns = ⊥
