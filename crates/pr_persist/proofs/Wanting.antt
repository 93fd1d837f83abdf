-- What the words ask for, by what was found.
use Rattle.std.proofs.Common.{◌≡◌, ◌∙◌, ap, sym, List, [], ◌∷◌, refl}
use Rattle.std.specs.Prelude.{Option, None}
use Rattle.clap.specs.Words.{Row, Text, Kinds}
use Rattle.pr_persist.specs.Arguments.{faults_in, rows_in}
use Rattle.pr_persist.specs.Asking.{Wanted, wanted_in, wanted_by, wanted_unless}

-- words that are taken
pub asked : (words : List Text) (rows : List Row) (o : Option Wanted) → faults_in words ≡ [] → rows ≡ rows_in words → o ≡ wanted_in rows → wanted_by words ≡ o
unfolding wanted_by
asked words rows o none same is = ap (λ (ks : Kinds). wanted_unless ks (rows_in words)) none ∙ ap wanted_in (sym same) ∙ sym is

none_by : (ks : Kinds) (rows : List Row) → (ks ≡ [] → ⊥) → wanted_unless ks rows ≡ None
none_by [] rows some = absurd (some refl)
none_by (k ∷ ks) rows some = refl

-- and words that aren't
pub refused : (words : List Text) → (faults_in words ≡ [] → ⊥) → wanted_by words ≡ None
unfolding wanted_by
refused words some = none_by (faults_in words) (rows_in words) some
