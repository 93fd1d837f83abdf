-- How often a stream has failed once a run goes on or has ended: once more where it failed, else as often as before (this project's own).
use Rattle.std.specs.Prelude.{◌≡◌, ℕ, ◌⊎◌, Option, Some, None, Result, Ok, Err}
use Rattle.pr_io.specs.Causes.{next_fault}
use Rattle.pr_tool.specs.declared.exit.Exit.{Exit}
use Rattle.pr_tool.specs.declared.exit.Exit.TheVariants as exits
use Rattle.pr_tool.specs.declared.schedule.End.{End}
use Rattle.pr_tool.specs.declared.schedule.End.TheVariants.{Done, ReadFault, Broken, TooLong}

-- the source, where the reading of a record has ended so, and where something was read or it has ended (this project's own)
abbrev pub faults_at : End → ℕ → ℕ
faults_at ReadFault before = next_fault before
faults_at Done before = before
faults_at Broken before = before
faults_at TooLong before = before

abbrev pub faults_read : {T : Type 0} → Result T End → ℕ → ℕ
faults_read (Ok found) before = before
faults_read (Err end) before = faults_at end before

-- the sink of `show`, at an exit, and where it goes on or has ended (this project's own)
abbrev pub sink_faults : Exit → ℕ → ℕ
sink_faults exits.WriteFault before = next_fault before
sink_faults _ before = before

abbrev pub sink_faults_by : Option Exit → ℕ → ℕ
sink_faults_by None before = before
sink_faults_by (Some exit) before = sink_faults exit before

-- the source of `show`, whose sink may fail after it, so at an exit, and where it goes on or has ended (this project's own)
abbrev pub CountsSource : Exit → ℕ → ℕ → Type 0
CountsSource exits.ReadFault before now = now ≡ next_fault before
CountsSource exits.WriteFault before now = (now ≡ before) ⊎ (now ≡ next_fault before)
CountsSource _ before now = now ≡ before

abbrev pub CountsSourceBy : Option Exit → ℕ → ℕ → Type 0
CountsSourceBy None before now = now ≡ before
CountsSourceBy (Some exit) before now = CountsSource exit before now
