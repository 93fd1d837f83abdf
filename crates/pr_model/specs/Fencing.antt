-- What a PREEMPT AND ABORT keeps off the medium (this project's own; SPC-4, PREEMPT AND ABORT, with SAM-5, aborting commands).
use Rattle.std.specs.Prelude.{◌≡◌, ◌⊎◌, true, false, [], ◌∷◌, ◌++◌}
use Rattle.std.specs.List.{AllByRecursion}
use Rattle.pr_words.specs.declared.nexus.Nexus.{Nexus}
use Rattle.pr_words.specs.declared.task.Way.TheVariants as ways
use Rattle.pr_words.specs.declared.reservation.Reservation.TheVariants.{Free}
use Rattle.pr_grammar.specs.Standings.{is_registered}
use Rattle.pr_grammar.specs.Cdbs.{operation_code, service_action}
use Rattle.pr_model.specs.Worlds.{World}
use Rattle.pr_model.specs.Tasks.{medium_error}
use Rattle.pr_model.specs.Entries.{Act, Login, Command, Step, Logout, Power, Out, Login_code, Ended, Started, Wrote, Read, Done, Aborted, Fault, Left, Restored, Entry, History}
use Rattle.pr_model.specs.Commands.{good}
use Rattle.pr_model.specs.Histories.{moved, after}

-- a PERSISTENT RESERVE OUT, 5Fh, with the service action PREEMPT AND ABORT, 05h
abbrev pub IsPreemptAndAbort : Act → Type 0
IsPreemptAndAbort (Command lun cdb data_out) = (operation_code cdb ≡ 0x5F) × (service_action cdb ≡ 0x05)
IsPreemptAndAbort (Login version) = ⊥
IsPreemptAndAbort (Step block) = ⊥
IsPreemptAndAbort Logout = ⊥
IsPreemptAndAbort Power = ⊥

-- one that was GOOD and removed a nexus, which was registered before and isn't afterwards
pub record Fences (w : World) (e : Entry) (n : Nexus) : Type 0 where
  pub asks : IsPreemptAndAbort e.act
  pub good : e.out ≡ good []
  pub was : is_registered w.standing.pairs n ≡ true
  pub gone : is_registered (moved w e).standing.pairs n ≡ false

-- a command began a task
abbrev pub IsStarted : Out → Type 0
IsStarted (Started way) = Unit {0}
IsStarted (Login_code code) = ⊥
IsStarted (Ended status sense data_in) = ⊥
IsStarted Wrote = ⊥
IsStarted (Read block) = ⊥
IsStarted Done = ⊥
IsStarted Aborted = ⊥
IsStarted (Fault code) = ⊥
IsStarted Left = ⊥
IsStarted (Restored value) = ⊥

-- a command of a nexus began a task
abbrev pub IsStartOf : Entry → Nexus → Type 0
IsStartOf e n = (e.nexus ≡ n) × IsStarted e.out

-- the command, among these entries, that began the task of a nexus which runs after them: the last that began one
pub record Began (es : History) (n : Nexus) : Type 0 where
  pub before : History
  pub start : Entry
  pub since : History
  pub cut : es ≡ before ++ start ∷ since
  pub begins : IsStartOf start n
  pub last : AllByRecursion (λ (e : Entry). IsStartOf e n → ⊥) since

-- a nexus that is registered, or that meets no reservation
abbrev pub IsOpenTo : World → Nexus → Type 0
IsOpenTo w n = (is_registered w.standing.pairs n ≡ true) ⊎ (w.standing.reservation ≡ Free)

-- the task was begun among these entries, which follow a world, where the nexus was registered or no reservation stood
pub record BeganOpen (w : World) (es : History) (n : Nexus) : Type 0 where
  pub began : Began es n
  pub writes : began.start.out ≡ Started ways.Write
  pub allowed : IsOpenTo (after w began.before) n

-- a block was written, or it isn't known what a write left there
abbrev pub IsWrite : Out → Type 0
IsWrite out = (out ≡ Wrote) ⊎ (out ≡ Fault (medium_error ways.Write))

-- a nexus that a PREEMPT AND ABORT removed changes a block later only by a task that a command began since, while it was registered or no reservation stood
abbrev pub IsFenced : World → History → Type 0
IsFenced w h =
    (before : History) (e : Entry) (between : History) (f : Entry) (behind : History) (n : Nexus)
    → h ≡ before ++ e ∷ (between ++ f ∷ behind) → Fences (after w before) e n → f.nexus ≡ n → IsWrite f.out
    → BeganOpen (moved (after w before) e) between n

-- a PREEMPT AND ABORT among these entries, which follow a world, was GOOD and removed the nexus
pub record WasFenced (w : World) (es : History) (n : Nexus) : Type 0 where
  pub before : History
  pub fence : Entry
  pub behind : History
  pub cut : es ≡ before ++ fence ∷ behind
  pub fences : Fences (after w before) fence n
