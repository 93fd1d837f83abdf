-- A value by the rows of the matches.
use Rattle.std.proofs.Common.{◌≡◌, ◌∙◌}
use Rattle.std.specs.Prelude.{Option}
use Rattle.clap.specs.Words.{Text, first_of, first_value, rows_of}
use Rattle.clap.specs.declared.parser.matches.Found.{Found}
use Rattle.clap.proofs.WalkLemmas.{first_value-rows}

pub value_is : (o : Option Text) (f : Found) (id : Text) → o ≡ first_value f id → o ≡ first_of id (rows_of f)
value_is o f id is = is ∙ first_value-rows f id
