-- How often a device has failed.
use Rattle.std.specs.Prelude.{ℕ, zero, suc}
use Rattle.pr_io.specs.Causes.{next_fault}

-- a count of faults after so many more
abbrev pub faults_after : ℕ → ℕ → ℕ
faults_after zero count = count
faults_after (suc k) count = faults_after k (next_fault count)
