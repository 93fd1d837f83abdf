-- What a run's exit is for its process and its user (this project's own).
use Rattle.std.specs.Prelude.{ℕ, Option, Some, None}
use Rattle.pr_aptpl.specs.declared.fault.OpenFault.TheVariants.{BadFile, DiskFault, OutOfMemory}
use Rattle.pr_serve.specs.declared.exit.ServeExit.{ServeExit}
use Rattle.pr_serve.specs.declared.exit.ServeExit.TheVariants.{Done, DoorFault, OpenFault, WriteFault, NoMemory, Spent}
use Rattle.pr_serve.specs.declared.exit.ServeFault.{ServeFault}
use Rattle.pr_serve.specs.declared.exit.ServeFault.TheVariants.{Door, File, Disk, Write, Memory, Turns}

-- the exit status of the process (this project's own)
abbrev pub status_of : ServeExit → ℕ
status_of Done = 0
status_of DoorFault = 3
status_of WriteFault = 4
status_of (OpenFault (BadFile place)) = 6
status_of (OpenFault OutOfMemory) = 7
status_of NoMemory = 7
status_of (OpenFault DiskFault) = 8
status_of (Spent ticket) = 9

-- what the user is told: nothing only where all was done (this project's own)
abbrev pub fault_of : ServeExit → Option ServeFault
fault_of Done = None
fault_of DoorFault = Some Door
fault_of WriteFault = Some Write
fault_of (OpenFault (BadFile place)) = Some (File place)
fault_of (OpenFault OutOfMemory) = Some Memory
fault_of NoMemory = Some Memory
fault_of (OpenFault DiskFault) = Some Disk
fault_of (Spent ticket) = Some Turns
