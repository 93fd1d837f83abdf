-- What the words of `persist` ask for (after sg_persist; the added rules are this project's own).
use Rattle.std.specs.Prelude.{ℕ, nat_lt, not, Bool, false, List, [], ◌∷◌, Option, Some, None, codes, if◌then◌else◌}
use Rattle.std.specs.Str.{bytes_eq}
use Rattle.clap.specs.Words.{Row, Text, Kinds, first_of}
use Rattle.pr_words.specs.declared.nexus.Nexus.{Nexus}
use Rattle.pr_words.specs.declared.service.InService.TheVariants as ins
use Rattle.pr_words.specs.declared.service.OutService.TheVariants as outs
use Rattle.pr_persist.specs.declared.plan.Action.{Action}
use Rattle.pr_persist.specs.declared.plan.Action.TheVariants.{In, Out}
use Rattle.pr_persist.specs.declared.plan.Plan.{Plan}
use Rattle.pr_persist.specs.declared.words.Chosen.{Chosen}
use Rattle.pr_persist.specs.declared.plan.Fields.{Fields}
use Rattle.pr_persist.specs.declared.words.Chosen.TheVariants.{Nothing, One, Many}
use Rattle.pr_persist.specs.Arguments.{faults_in, rows_in}
use Rattle.pr_numbers.specs.Numbers.{hex_in, decimal_in}

abbrev pub is_true : Option Text → Bool
is_true None = false
is_true (Some text) = bytes_eq text (codes "true")

unfoldable pub is_set_in : Text → List Row → Bool
is_set_in id rows = is_true (first_of id rows)

-- the actions that were given

abbrev pub one_more : Chosen → Action → Chosen
one_more Nothing action = One action
one_more _ action = Many

unfoldable pub with_action : List Row → Text → Action → Chosen → Chosen
with_action rows id action chosen = if is_set_in id rows then one_more chosen action else chosen

unfoldable pub looks_in : List Row → Chosen
looks_in rows =
    with_action rows (codes "read-full-status") (In ins.ReadFullStatus) (with_action rows (codes "report-capabilities") (In ins.ReportCapabilities)
    (with_action rows (codes "read-reservation") (In ins.ReadReservation) (with_action rows (codes "read-keys") (In ins.ReadKeys) Nothing)))

unfoldable pub chosen_in : List Row → Chosen
chosen_in rows =
    with_action rows (codes "preempt-abort") (Out outs.PreemptAndAbort) (with_action rows (codes "preempt") (Out outs.Preempt)
    (with_action rows (codes "clear") (Out outs.Clear) (with_action rows (codes "release") (Out outs.Release)
    (with_action rows (codes "reserve") (Out outs.Reserve) (with_action rows (codes "register-ignore") (Out outs.RegisterAndIgnoreExistingKey)
    (with_action rows (codes "register") (Out outs.Register) (looks_in rows)))))))

-- at most one, READ KEYS where there is none; a direction that is given is the action's
abbrev pub directed : Bool → Bool → Chosen → Option Action
directed is_in is_out Nothing = if is_out then None else Some (In ins.ReadKeys)
directed is_in is_out (One (In service)) = if is_out then None else Some (In service)
directed is_in is_out (One (Out service)) = if is_in then None else Some (Out service)
directed is_in is_out Many = None

unfoldable pub action_in : List Row → Option Action
action_in rows = directed (is_set_in (codes "in") rows) (is_set_in (codes "out") rows) (chosen_in rows)

-- exactly one of the two forms of the address
abbrev pub only_one : Option Text → Option Text → Option Text
only_one (Some a) None = Some a
only_one None (Some b) = Some b
only_one _ _ = None

unfoldable pub address_in : List Row → Option Text
address_in rows = only_one (first_of (codes "device") rows) (first_of (codes "address") rows)

abbrev pub hex_or_zero : ℕ → Option Text → Option ℕ
hex_or_zero most None = Some 0
hex_or_zero most (Some text) = hex_in most text

-- a number of so many hexadecimal digits at most, zero where it isn't given
unfoldable pub hex_at : ℕ → Text → List Row → Option ℕ
hex_at most id rows = hex_or_zero most (first_of id rows)

abbrev pub name_by : Option Text → Option ℕ
name_by None = None
name_by (Some text) = hex_in 16 text

abbrev pub port_by : Option Text → Option ℕ
port_by None = Some 1
port_by (Some text) = decimal_in text

abbrev pub nexus_by : Option ℕ → Option ℕ → Option Nexus
nexus_by (Some name) (Some port) = Some (record { name = name; port = port })
nexus_by _ _ = None

unfoldable pub nexus_in : List Row → Option Nexus
nexus_in rows = nexus_by (name_by (first_of (codes "name") rows)) (port_by (first_of (codes "port") rows))

abbrev pub kind_by : Option ℕ → Option ℕ
kind_by None = None
kind_by (Some n) = if nat_lt n 16 then Some n else None

-- the type of a reservation, of one digit
unfoldable pub kind_in : List Row → Option ℕ
kind_in rows = kind_by (hex_at 1 (codes "prout-type") rows)

abbrev pub fields_by : Option ℕ → Option ℕ → Option ℕ → Bool → Option Fields
fields_by (Some key) (Some action_key) (Some kind) aptpl = Some (record { key = record { 0 = key }; action_key = record { 0 = action_key }; kind = kind; aptpl = aptpl })
fields_by _ _ _ _ = None

-- RESERVATION KEY, SERVICE ACTION RESERVATION KEY, the type, and APTPL
unfoldable pub fields_in : List Row → Option Fields
fields_in rows = fields_by (hex_at 16 (codes "param-rk") rows) (hex_at 16 (codes "param-sark") rows) (kind_in rows) (is_set_in (codes "param-aptpl") rows)

-- what is asked for
pub record Wanted : Type 0 where
  pub address : List ℕ
  pub nexus : Nexus
  pub inquires : Bool
  pub action : Action
  pub fields : Fields

abbrev pub wanted_of : Plan → Wanted
wanted_of p = record {
  address = p.address.now;
  nexus = p.nexus;
  inquires = p.inquires;
  action = p.action;
  fields = p.fields;
}

abbrev pub wanted_with : Bool → Option Action → Option Text → Option Nexus → Option Fields → Option Wanted
wanted_with inquires (Some action) (Some address) (Some nexus) (Some fields) =
    Some (record { address = address; nexus = nexus; inquires = inquires; action = action; fields = fields })
wanted_with inquires _ _ _ _ = None

-- by what was found for each argument
unfoldable pub wanted_in : List Row → Option Wanted
wanted_in rows = wanted_with (not (is_set_in (codes "no-inquiry") rows)) (action_in rows) (address_in rows) (nexus_in rows) (fields_in rows)

abbrev pub wanted_unless : Kinds → List Row → Option Wanted
wanted_unless [] rows = wanted_in rows
wanted_unless (k ∷ ks) rows = None

-- what words ask for, of which the first is the command's name; none where the simple command refuses them, or an added rule
unfoldable pub wanted_by : List Text → Option Wanted
wanted_by words = wanted_unless (faults_in words) (rows_in words)
