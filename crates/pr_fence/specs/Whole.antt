-- A whole run (this project's own; the commands are SPC-4's).
use Rattle.std.specs.Prelude.{◌≡◌, ◌⊎◌, ℕ, ◌+◌, ◌||◌, Bool, false, List, [], ◌∷◌, Option, Result, Ok, Err}
use Rattle.pr_io.specs.declared.outside.Failed.{Failed}
use Rattle.pr_io.specs.Talks.{Talk}
use Rattle.pr_io.specs.Told.{ToldSink}
use Rattle.pr_io.specs.declared.wire.Wire as wires
use Rattle.pr_initiator.specs.Links.{Link}
use Rattle.pr_fence.specs.declared.exit.FenceExit.{FenceExit}
use Rattle.pr_fence.specs.declared.exit.FenceExit.TheVariants as exit
use Rattle.pr_fence.specs.declared.fence_fault.FenceFault.{FenceFault}
use Rattle.pr_fence.specs.declared.plan.Errand.{Errand}
use Rattle.pr_fence.specs.declared.plan.Errand.TheVariants.{On, Off, Status}
use Rattle.pr_fence.specs.declared.words.Refusal.{Refusal}
use Rattle.pr_fence.specs.declared.words.Refusal.TheVariants.{BadWords, SelfFence}
use Rattle.pr_fence.specs.Devices.{TurnsOn, TurnsOff, TellsStatus}
use Rattle.pr_fence.specs.Exits.{exit_at, ended}
use Rattle.pr_fence.specs.Steps.{Step, Work, Then, Gives}
use Rattle.pr_fence.specs.Texts.{HasPrinted, line_of}
use Rattle.pr_fence.specs.Words.{Wanted}

-- the initiator and the sink
pub record At : Type 0 where
  pub link : Link
  pub sink : ToldSink

abbrev pub at : Link → ToldSink → At
at link sink = record { link = link; sink = sink }

abbrev pub Run : Type 0 → Type 1
Run T = Step At FenceExit T

-- the work on a device, by what is done; on finds nothing
abbrev pub Works : Wanted → Errand → List ℕ → Work Bool
Works w On address = Then (TurnsOn address w.nexus w.own w.aptpl) (λ u. Gives (Ok false))
Works w (Off victim) address = TurnsOff address w.nexus w.own victim w.aptpl
Works w (Status key) address = TellsStatus address w.nexus key

abbrev pub result_at : {T : Type 0} → ℕ → Result T FenceFault → Result T FenceExit
result_at device (Ok v) = Ok v
result_at device (Err fault) = Err (exit_at device fault)

-- the work on the device of this number prints nothing, and its fault ends the run
abbrev pub Serves : Wanted → ℕ → List ℕ → Run Bool
Serves w device address old new result = (r : Result Bool FenceFault) × Works w w.errand address old.link new.link r × (new.sink ≡ old.sink) × (result ≡ result_at device r)

abbrev pub written_by : Bool → Result Unit Failed → Result Bool FenceExit
written_by found (Ok u) = Ok found
written_by found (Err e) = Err exit.WriteFault

-- the device's line is printed, and nothing is sent
abbrev pub Tells : Errand → List ℕ → Bool → Run Bool
Tells errand address found old new result =
    (new.link ≡ old.link) × (p : Result Unit Failed) × HasPrinted old.sink new.sink (line_of errand address found) p × (result ≡ written_by found p)

-- one device: the work, and then its line
abbrev pub Visits : Wanted → ℕ → List ℕ → Run Bool
Visits w device address = Then (Serves w device address) (Tells w.errand address)

-- the devices from one on, one after another; the first fault ends the run. The result is whether the key was found on one,
-- or had been before
abbrev pub VisitsAll : Wanted → ℕ → Bool → List (List ℕ) → Run Bool
VisitsAll w device found [] = Gives (Ok found)
VisitsAll w device found (address ∷ rest) = Then (Visits w device address) (λ here. VisitsAll w (device + 1) (found || here) rest)

-- all devices in the order of the words
abbrev pub Runs : Wanted → Run Bool
Runs w = VisitsAll w 0 false w.addresses

abbrev pub exit_of : Errand → Result Bool FenceExit → FenceExit
exit_of errand (Ok found) = ended errand found
exit_of errand (Err e) = e

-- what a wire tells of itself
pub record ToldWire : Type 0 where
  pub talk : Option Talk
  pub faults : ℕ

abbrev pub told_wire : {W : Type 0} → wires.Ghosts W → W → ToldWire
told_wire of w = record { talk = of.talk w; faults = of.faults w }

abbrev pub wire_of : Link → ToldWire
wire_of link = record { talk = link.talk; faults = link.faults }

-- nothing was dialled, sent or printed
abbrev pub IsUntouched : ToldWire → ToldWire → ToldSink → ToldSink → Type 0
IsUntouched old new sink printed = (new ≡ old) × (printed ≡ sink)

-- the run was made, by an initiator on this wire
pub record HasRun (w : Wanted) (old new : ToldWire) (sink printed : ToldSink) (outcome : FenceExit) : Type 0 where
  pub first : Link
  pub last : Link
  pub result : Result Bool FenceExit
  pub runs : Runs w (at first sink) (at last printed) result
  pub ends : outcome ≡ exit_of w.errand result
  pub before : wire_of first ≡ old
  pub after : wire_of last ≡ new

abbrev pub refused_by : Refusal → FenceExit
refused_by BadWords = exit.BadWords
refused_by SelfFence = exit.SelfFence

-- words that ask for nothing end it, want of memory does, or else the run
abbrev pub Ends : Result Wanted Refusal → ToldWire → ToldWire → ToldSink → ToldSink → FenceExit → Type 0
Ends (Err refusal) old new sink printed outcome = (outcome ≡ refused_by refusal) × IsUntouched old new sink printed
Ends (Ok w) old new sink printed outcome = ((outcome ≡ exit.NoMemory) × IsUntouched old new sink printed) ⊎ HasRun w old new sink printed outcome
