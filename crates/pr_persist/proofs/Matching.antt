-- What the simple command makes of the words.
use Rattle.std.proofs.Common.{◌≡◌, ◌∙◌, true, List, [], ap, sym, subst, inl, inr, refl}
use Rattle.std.specs.Prelude.{Result, Ok, Err, IfOk, IfErr, ◌⊎◌}
use Rattle.clap.specs.Words.{App, Text, Kinds, FailsBy, HasMatchesOf, IsAmong, fault_of, found_of, is_simple, is_simple_and_free, kind_of, matches_of, rows_of}
use Rattle.clap.specs.declared.error.Error.{Error}
use Rattle.clap.specs.declared.error.kind.ErrorKind.TheVariants as kind
use Rattle.clap.specs.declared.parser.matches.ArgMatches.{ArgMatches}
use Rattle.clap.proofs.OnLiterals.{clap_on_literals}
use Rattle.pr_persist.specs.Arguments.{persist_app, faults_in, rows_in}

pub free : is_simple_and_free persist_app ≡ true
unfolding persist_app clap_on_literals
free = refl

pub simple : is_simple persist_app ≡ true
unfolding persist_app clap_on_literals
simple = refl

pub taken : (r : Result ArgMatches Error) (app : App) (words : List Text) → app ≡ persist_app → (is_simple_and_free app ≡ true → FailsBy (fault_of app words) r) → IfOk r (λ m. faults_in words ≡ [])
unfolding faults_in
taken (Ok m) app words is fails = ap (λ (a : App). fault_of a words) (sym is) ∙ fails (ap is_simple_and_free is ∙ free)
taken (Err e) app words is fails = tt

pub found : (r : Result ArgMatches Error) (app : App) (words : List Text) → app ≡ persist_app → IfOk r (HasMatchesOf app words) → IfOk r (λ m. rows_of (found_of m) ≡ rows_in words)
unfolding rows_in
found (Ok m) app words is has = (has (ap is_simple is ∙ simple)).0 ∙ ap (λ (a : App). matches_of a words) is
found (Err e) app words is has = tt

-- an error that isn't memory's
abbrev Refused : List Text → Error → Type 0
Refused words e = (kind_of e ≡ kind.OutOfMemory) ⊎ (faults_in words ≡ [] → ⊥)

refused_for : (words : List Text) (e : Error) (kinds : Kinds) → kinds ≡ faults_in words → (kind_of e ≡ kind.OutOfMemory) ⊎ IsAmong (kind_of e) kinds → Refused words e
refused_for words e kinds is (inl memory) = inl memory
refused_for words e kinds is (inr among) = inr (λ none. subst (IsAmong (kind_of e)) (is ∙ none) among)

pub refused : (r : Result ArgMatches Error) (app : App) (words : List Text) → app ≡ persist_app → (is_simple_and_free app ≡ true → FailsBy (fault_of app words) r) → IfErr r (Refused words)
unfolding faults_in
refused (Ok m) app words is fails = tt
refused (Err e) app words is fails = refused_for words e (fault_of app words) (ap (λ (a : App). fault_of a words) is) (fails (ap is_simple_and_free is ∙ free))
