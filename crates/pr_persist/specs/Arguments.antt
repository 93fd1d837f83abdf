-- The arguments of `persist` (after sg_persist), as a simple command.
use Rattle.std.specs.Prelude.{ℕ, true, List, [], ◌∷◌, Some, codes}
use Rattle.clap.specs.Words.{App, Rule, Row, Text, Kinds, new_app, new_rule, with_rule, fault_of, matches_of}
use Rattle.clap.specs.Simple.{on_top}
use Rattle.clap.specs.declared.builder.action.ArgAction.TheVariants.{Set, SetTrue}

abbrev pub flag_rule : Text → ℕ → Rule
flag_rule name letter = record (new_rule name) { short = Some letter; long = Some name; action = Some SetTrue }

abbrev pub option_rule : Text → ℕ → Rule
option_rule name letter = record (new_rule name) { short = Some letter; long = Some name; action = Some Set }

abbrev pub value_rule : Text → Rule
value_rule name = record (new_rule name) { long = Some name; action = Some Set }

abbrev pub bare_rule : Text → Rule
bare_rule name = record (new_rule name) { action = Some Set }

abbrev pub needed : Rule → Rule
needed r = record r { required = true }

-- by the codes of their letters
abbrev pub in_rules : List Rule
in_rules =
    flag_rule (codes "in") 105 ∷ flag_rule (codes "out") 111 ∷ flag_rule (codes "read-keys") 107 ∷ flag_rule (codes "read-reservation") 114
    ∷ flag_rule (codes "report-capabilities") 99 ∷ flag_rule (codes "read-full-status") 115 ∷ []

abbrev pub out_rules : List Rule
out_rules =
    flag_rule (codes "register") 71 ∷ flag_rule (codes "register-ignore") 73 ∷ flag_rule (codes "reserve") 82 ∷ flag_rule (codes "release") 76
    ∷ flag_rule (codes "clear") 67 ∷ flag_rule (codes "preempt") 80 ∷ flag_rule (codes "preempt-abort") 65 ∷ []

abbrev pub other_rules : List Rule
other_rules =
    option_rule (codes "param-rk") 75 ∷ option_rule (codes "param-sark") 83 ∷ option_rule (codes "prout-type") 84 ∷ flag_rule (codes "param-aptpl") 90
    ∷ flag_rule (codes "no-inquiry") 110 ∷ option_rule (codes "device") 100 ∷ bare_rule (codes "address") ∷ needed (value_rule (codes "name"))
    ∷ value_rule (codes "port") ∷ []

abbrev pub with_rules : App → List Rule → App
with_rules app [] = app
with_rules app (r ∷ rest) = with_rules (with_rule app r) rest

abbrev pub without_help : App → App
without_help app = on_top (λ s. record s { disable_help_flag = true }) app

unfoldable pub persist_app : App
persist_app = with_rules (with_rules (with_rules (without_help (new_app (codes "persist"))) in_rules) out_rules) other_rules

-- the kinds of fault for which these words are refused, none where they are taken; the first of them is the command's name
unfoldable pub faults_in : List Text → Kinds
faults_in words = fault_of persist_app words

-- what was found for each argument
unfoldable pub rows_in : List Text → List Row
rows_in words = matches_of persist_app words
