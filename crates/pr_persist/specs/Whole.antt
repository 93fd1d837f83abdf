-- A whole run (this project's own; the commands are SPC-4's).
use Rattle.std.specs.Prelude.{◌≡◌, ◌⊎◌, ℕ, Bool, true, false, List, Option, Some, None, Result, Ok, Err}
use Rattle.pr_io.specs.Talks.{Talk}
use Rattle.pr_io.specs.Told.{ToldSink}
use Rattle.pr_io.specs.declared.wire.Wire as wires
use Rattle.pr_initiator.specs.Links.{Link}
use Rattle.pr_persist.specs.declared.asked.Asked.{Asked}
use Rattle.pr_persist.specs.declared.asked.Asked.TheVariants as ask
use Rattle.pr_persist.specs.declared.exit.PersistExit.{PersistExit}
use Rattle.pr_persist.specs.declared.exit.PersistExit.TheVariants.{Done, BadWords, NoMemory}
use Rattle.pr_persist.specs.declared.plan.Action.{Action}
use Rattle.pr_persist.specs.declared.plan.Action.TheVariants.{In, Out}
use Rattle.pr_persist.specs.Asking.{Wanted}
use Rattle.pr_persist.specs.Runs.{Step, Then, Opens, Inquires, Acts, Closes}
use Rattle.pr_persist.specs.Shows.{looking, HasShown, inquiry_text, reply_text}

-- the initiator and the sink
pub record At : Type 0 where
  pub link : Link
  pub sink : ToldSink

abbrev pub at : Link → ToldSink → At
at link sink = record { link = link; sink = sink }

-- a step that prints nothing
abbrev pub Quiet : {T : Type 0} → Step Link T → Step At T
Quiet step old new result = step old.link new.link result × (new.sink ≡ old.sink)

-- a step that prints what the data-in of the last answer say, and sends nothing
abbrev pub Showing : Asked → (List ℕ → Result (List ℕ) ℕ) → Step At Unit
Showing asked text old new result = (new.link ≡ old.link) × HasShown asked (text old.link.received) old.sink new.sink result

abbrev pub Skips : Step At Unit
Skips old new result = (new ≡ old) × (result ≡ Ok tt)

-- INQUIRY and its line, unless they are left out
abbrev pub Looks : Bool → Step At Unit
Looks true = Then (Quiet Inquires) (λ a. Showing ask.Inquiry inquiry_text)
Looks false = Skips

-- an action that looks has a text, and one that changes something has none
abbrev pub Tells : Action → Step At Unit
Tells (In service) = Showing (looking service) (reply_text service)
Tells (Out service) = Skips

abbrev pub ActsAndTells : Wanted → Step At Unit
ActsAndTells w = Then (Quiet (Acts w)) (λ a. Tells w.action)

abbrev pub Finishes : Wanted → Step At Unit
Finishes w = Then (ActsAndTells w) (λ u. Quiet Closes)

abbrev pub Continues : Wanted → Step At Unit
Continues w = Then (Looks w.inquires) (λ u. Finishes w)

-- it dials, logs in, asks until the target is ready; looks at it; does what is asked for and tells of it; and logs out. The
-- first step that fails ends it
abbrev pub Runs : Wanted → Step At Unit
Runs w = Then (Quiet (Opens w)) (λ a. Continues w)

abbrev pub exit_of : Result Unit PersistExit → PersistExit
exit_of (Ok u) = Done
exit_of (Err e) = e

-- what a wire tells of itself
pub record ToldWire : Type 0 where
  pub talk : Option Talk
  pub faults : ℕ

abbrev pub told_wire : {W : Type 0} → wires.Ghosts W → W → ToldWire
told_wire of w = record { talk = of.talk w; faults = of.faults w }

abbrev pub wire_of : Link → ToldWire
wire_of link = record { talk = link.talk; faults = link.faults }

-- nothing was dialled, sent or printed
abbrev pub IsUntouched : ToldWire → ToldWire → ToldSink → ToldSink → Type 0
IsUntouched old new sink printed = (new ≡ old) × (printed ≡ sink)

-- the run was made, by an initiator on this wire
pub record HasRun (w : Wanted) (old new : ToldWire) (sink printed : ToldSink) (exit : PersistExit) : Type 0 where
  pub first : Link
  pub last : Link
  pub result : Result Unit PersistExit
  pub runs : Runs w (at first sink) (at last printed) result
  pub ends : exit ≡ exit_of result
  pub before : wire_of first ≡ old
  pub after : wire_of last ≡ new

-- words that ask for nothing end it, want of memory does, or else the run
abbrev pub Ends : Option Wanted → ToldWire → ToldWire → ToldSink → ToldSink → PersistExit → Type 0
Ends None old new sink printed exit = ((exit ≡ BadWords) ⊎ (exit ≡ NoMemory)) × IsUntouched old new sink printed
Ends (Some w) old new sink printed exit = ((exit ≡ NoMemory) × IsUntouched old new sink printed) ⊎ HasRun w old new sink printed exit
