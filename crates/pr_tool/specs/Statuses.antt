-- What a run's exit is for its process and its user (this project's own).
use Rattle.std.specs.Prelude.{ℕ, Option, Some, None}
use Rattle.pr_tool.specs.declared.exit.Exit.{Exit}
use Rattle.pr_tool.specs.declared.exit.Exit.TheVariants.{Done, BadWords, ReadFault, WriteFault, BadSchedule, BadFile, NoMemory, DiskFault, TooLong}
use Rattle.pr_tool.specs.declared.exit.Fault.{Fault}
use Rattle.pr_tool.specs.declared.exit.Fault.TheVariants.{Words, Read, Write, Schedule, File, Memory, Disk, Length}

-- the exit status of the process: one for each exit (this project's own)
abbrev pub status_of : Exit → ℕ
status_of Done = 0
status_of BadWords = 2
status_of ReadFault = 3
status_of WriteFault = 4
status_of (BadSchedule place) = 5
status_of (BadFile place) = 6
status_of NoMemory = 7
status_of DiskFault = 8
status_of TooLong = 9

-- what the user is told: nothing only where all was done (this project's own)
abbrev pub fault_of : Exit → Option Fault
fault_of Done = None
fault_of BadWords = Some Words
fault_of ReadFault = Some Read
fault_of WriteFault = Some Write
fault_of (BadSchedule place) = Some (Schedule place)
fault_of (BadFile place) = Some (File place)
fault_of NoMemory = Some Memory
fault_of DiskFault = Some Disk
fault_of TooLong = Some Length
