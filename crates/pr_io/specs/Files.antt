-- Files that can't be opened as a medium.
use Rattle.std.specs.Prelude.{◌≡◌, ◌⊎◌, ◌<◌, ◌^◌, Result, Err}
use Rattle.pr_io.specs.declared.file_medium.MediumFault.{MediumFault}
use Rattle.pr_io.specs.declared.file_medium.MediumFault.TheVariants.{Blocks}

-- a number of blocks that no medium has: none, or more than 2^40 (this project's own)
abbrev pub IsNoCount : {T : Type 0} → Result T MediumFault → Type 0
IsNoCount (Err (Blocks n)) = (n ≡ 0) ⊎ (2 ^ 40 < n)
IsNoCount _ = Unit {0}
