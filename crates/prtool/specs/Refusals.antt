-- Why no target is served, and what that is for the process.
use Rattle.std.specs.Prelude.{ℕ}
use Rattle.pr_io.specs.declared.file_medium.MediumFault.{MediumFault}
use Rattle.pr_io.specs.declared.file_medium.MediumFault.TheVariants as fault
use Rattle.prtool.specs.declared.serve.Refusal.{Refusal}
use Rattle.prtool.specs.declared.serve.Refusal.TheVariants.{Words, Memory, Registrations, Length, Blocks, Count, Address}

-- the exit status of the process (this project's own)
abbrev pub status_of : Refusal → ℕ
status_of Words = 2
status_of (Memory e) = 7
status_of (Registrations e) = 23
status_of Length = 23
status_of (Blocks e) = 23
status_of (Count n) = 24
status_of (Address e) = 25

-- the file of blocks isn't opened (this project's own)
abbrev pub of_medium : MediumFault → Refusal
of_medium (fault.File e) = Blocks e
of_medium (fault.Blocks n) = Count n
