-- Laws of the definitions.
use Rattle.std.specs.Prelude.{◌≡◌, ◌↔◌, ℕ, ◌≤◌, ◌⊎◌, ◌&&◌, not, true, false, List, [], ◌∷◌, ◌++◌, length, Some, None}
use Rattle.pr_words.specs.declared.nexus.Nexus.{Nexus}
use Rattle.pr_words.specs.declared.code.Status.TheVariants as status
use Rattle.pr_words.specs.declared.reservation.Kind.{Kind}
use Rattle.pr_words.specs.declared.reservation.Reservation.TheVariants.{OfAll}
use Rattle.pr_words.specs.declared.code.TheConstants.Code.{INTERNAL_TARGET_FAILURE}
use Rattle.pr_words.specs.declared.limits.TheConstants.{HELD, LIMIT}
use Rattle.pr_grammar.specs.declared.cdb.Class.{Class}
use Rattle.pr_grammar.specs.declared.cdb.Class.TheVariants.{Free}
use Rattle.pr_grammar.specs.Cdbs.{operation_code}
use Rattle.pr_grammar.specs.Standings.{Standing, is_holder, is_registered}
use Rattle.pr_model.specs.Conflicts.{is_forbidden}
use Rattle.pr_model.specs.Registrants.{IsSound, IsWellFormed}
use Rattle.pr_model.specs.Keeping.{Kept, kept, same_kept, is_empty}
use Rattle.pr_model.specs.Acts.{Acted, Good}
use Rattle.pr_model.specs.Worlds.{World, restored}
use Rattle.pr_model.specs.Entries.{Act, Command, Step, History, Out, Login_code, Ended, Started, Wrote, Read, Done, Aborted, Fault, Left, Restored, Entry, entry}
use Rattle.pr_model.specs.Commands.{attention_check, answered, checking, reserve_out}
use Rattle.pr_model.specs.Saving.{asks_to_save, settled}
use Rattle.pr_model.specs.Histories.{Has, MayFollow, moved, after, failures_in, IsLegalFrom}
use Rattle.pr_model.specs.Stamps.{Bytes, RestoresSome, KeepsSome}
use Rattle.pr_model.specs.Fencing.{Began, WasFenced, IsFenced}
use Rattle.pr_model.specs.Lanes.{Lane, arrived}
use Rattle.pr_model.specs.Runs.{Deed, TakesTurn}

-- a turn of a full lane is the same whatever waits behind it, which goes on waiting
abbrev pub BytesWait : Type 0
BytesWait = (who : ℕ) (l m : Lane) (d : Deed) (more : List ℕ) → HELD ≤ length l.bytes → TakesTurn who l d m → TakesTurn who (arrived l more) d (arrived m more)

-- which outcomes of a command are refusals: RESERVATION CONFLICT and CHECK CONDITION (SAM-5, status codes)
abbrev pub IsRefused : Out → Type 0
IsRefused (Ended status.Good sense data_in) = ⊥
IsRefused (Ended status.CheckCondition sense data_in) = Unit {0}
IsRefused (Ended status.ReservationConflict sense data_in) = Unit {0}
IsRefused (Ended status.TaskAborted sense data_in) = ⊥
IsRefused (Login_code code) = ⊥
IsRefused (Started way) = ⊥
IsRefused Wrote = ⊥
IsRefused (Read block) = ⊥
IsRefused Done = ⊥
IsRefused Aborted = ⊥
IsRefused (Fault code) = ⊥
IsRefused Left = ⊥
IsRefused (Restored value) = ⊥

-- a refused command leaves the world as it is, but that a unit attention which is reported goes: then the answer is that of the check of the attention
abbrev pub RefusalsChangeLittle : Type 0
RefusalsChangeLittle =
    (w : World) (n : Nexus) (lun : ℕ) (cdb sent : List ℕ) → IsRefused (answered w n lun cdb sent).out
    → ((answered w n lun cdb sent).world ≡ w)
    ⊎ (attention_check w n (operation_code cdb) (w.attentions n) ≡ Some (answered w n lun cdb sent))

-- of a command of a nexus that is logged in and has no task there is exactly one outcome, but that where it asks for a save this may fail
abbrev pub HasOneOutcome : Type 0
HasOneOutcome =
    (w : World) (who : ℕ) (n : Nexus) (lun : ℕ) (cdb sent : List ℕ) → Has w who n → w.task n ≡ None
    → (out : Out) × MayFollow w (entry who n (Command lun cdb sent) out)
    × ((other : Out) → MayFollow w (entry who n (Command lun cdb sent) other)
    → (other ≡ out) ⊎ ((asks_to_save w (answered w n lun cdb sent) ≡ true) × (other ≡ checking INTERNAL_TARGET_FAILURE)))

-- no entry changes how many blocks the medium has
abbrev pub KeepsSize : Type 0
KeepsSize = (w : World) (e : Entry) → (moved w e).medium.count ≡ w.medium.count

-- nor whether the registrations' file is known to tell what it holds
abbrev pub KeepsTelling : Type 0
KeepsTelling = (w : World) (e : Entry) → (moved w e).file_tells ≡ w.file_tells

-- where nothing is in doubt and no save fails, nothing will be: what restores a value that may be restored at some time restores what is kept then, and no other
abbrev pub NothingInDoubt : Type 0
NothingInDoubt = (w : World) (h : History) (bytes : Bytes) → w.doubts ≡ [] → failures_in h ≡ 0 → RestoresSome w h bytes → KeepsSome w h bytes

-- no command of a reservation holder conflicts
abbrev pub HoldersPass : Type 0
HoldersPass = (s : Standing) (n : Nexus) (c : Class) → is_holder s n ≡ true → is_forbidden s n c ≡ false

-- nor one of a registered nexus, where all registrants hold the reservation
abbrev pub RegistrantsPass : Type 0
RegistrantsPass =
    (s : Standing) (kind : Kind) (n : Nexus) (c : Class) → s.reservation ≡ OfAll kind → is_registered s.pairs n ≡ true
    → is_forbidden s n c ≡ false

-- nor one that neither reads nor writes
abbrev pub FreePass : Type 0
FreePass = (s : Standing) (n : Nexus) → is_forbidden s n Free ≡ false

-- a legal history is fenced, from any world whose reservation's holder is registered on
abbrev pub LegalIsFenced : Type 0
LegalIsFenced = (w : World) (h : History) → IsSound w.standing → IsLegalFrom w h → IsFenced w h

-- a step ends its task with TASK ABORTED just where, since the command that began the task, a PREEMPT AND ABORT that was GOOD removed its nexus; from any world on in which no task runs and registrants are well formed
abbrev pub AbortedIsFenced : Type 0
AbortedIsFenced =
    (w : World) (h : History) (who : ℕ) (n : Nexus) (sent : List ℕ) (out : Out)
    → ((m : Nexus) → w.task m ≡ None) → IsWellFormed LIMIT w.standing → IsLegalFrom w (h ++ entry who n (Step sent) out ∷ [])
    → (b : Began h n) × ((out ≡ Aborted) ↔ WasFenced (moved (after w b.before) b.start) b.since n)

-- nothing but a step changes a block
abbrev pub OnlyStepsMove : Type 0
OnlyStepsMove =
    (w : World) (who : ℕ) (n : Nexus) (act : Act) (out : Out) → (((sent : List ℕ) → act ≡ Step sent → ⊥))
    → (moved w (entry who n act out)).medium ≡ w.medium

-- a command that ends as it is answered leaves that world
abbrev pub AnswersSettle : Type 0
AnswersSettle =
    (w : World) (n : Nexus) (lun : ℕ) (cdb sent : List ℕ) → settled w (answered w n lun cdb sent) (answered w n lun cdb sent).out ≡ (answered w n lun cdb sent).world

-- a PERSISTENT RESERVE OUT that is accepted asks for a save just where it changes what is kept, or there are doubts
abbrev pub AcceptedAreSaved : Type 0
AcceptedAreSaved =
    (w : World) (n : Nexus) (action : ℕ) (a : Acted) → a.verdict ≡ Good
    → asks_to_save w (reserve_out w n action a) ≡ not (same_kept (kept w.standing) (kept a.standing) && is_empty w.doubts)

-- what a power-up restored is what is kept
abbrev pub RestoredIsKept : Type 0
RestoredIsKept = (k : Kept) → kept (restored k) ≡ k
