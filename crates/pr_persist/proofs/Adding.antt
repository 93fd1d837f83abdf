-- A command with one argument more.
use Rattle.std.proofs.Common.{◌≡◌, false, ap₂, ◌∙◌}
use Rattle.clap.specs.Words.{App, Rule, AddsArg, app_of, rule_of, with_rule}
use Rattle.clap.specs.declared.builder.arg.Arg.{Arg}
use Rattle.clap.specs.declared.builder.command.Command.{Command}

pub added : (old new : Command) (a : Arg) (before : App) (r : Rule) → AddsArg old a new → a.global ≡ false → app_of old ≡ before → rule_of a ≡ r → app_of new ≡ with_rule before r
added old new a before r adds local is rule = adds.shape local ∙ ap₂ with_rule is rule
