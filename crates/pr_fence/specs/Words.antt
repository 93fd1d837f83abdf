-- Which words ask for what: `fence on|off|status --cluster TEXT --node N --name HEX`, then `--plug N` for off and status, then
-- maybe `--aptpl`, then 1 to 64 addresses (this project's own).
use Rattle.std.specs.Prelude.{◌≡◌, ℕ, ◌==◌, ◌≤◌, ◌&&◌, nat_le, Bool, true, false, List, [], ◌∷◌, length, Option, Some, None, Result, Ok, Err, codes, if◌then◌else◌}
use Rattle.std.specs.Str.{bytes_eq}
use Rattle.pr_words.specs.declared.nexus.Key.{Key}
use Rattle.pr_words.specs.declared.nexus.Nexus.{Nexus}
use Rattle.pr_numbers.specs.Numbers.{hex_in, decimal_in}
use Rattle.pr_fence.specs.declared.plan.Errand.{Errand}
use Rattle.pr_fence.specs.declared.plan.Errand.TheVariants as errand
use Rattle.pr_fence.specs.declared.words.Refusal.{Refusal}
use Rattle.pr_fence.specs.declared.words.Refusal.TheVariants.{BadWords, SelfFence}
use Rattle.pr_fence.specs.declared.words.TheConstants.{ADDRESSES}
use Rattle.pr_fence.specs.declared.words.Task.{Task}
use Rattle.pr_fence.specs.declared.words.Task.TheVariants as task
use Rattle.pr_fence.specs.declared.words.Verb.{Verb}
use Rattle.pr_fence.specs.declared.words.Verb.TheVariants as verb
use Rattle.pr_fence.specs.Keys.{key_of}

abbrev pub Text : Type 0
Text = List ℕ

-- what is asked for
pub record Wanted : Type 0 where
  pub errand : Errand
  pub nexus : Nexus
  pub own : Key
  pub aptpl : Bool
  pub addresses : List Text

-- the value of an option that comes first, and what stands behind it
abbrev pub value_in : Text → List Text → Option (Text × List Text)
value_in name [] = None
value_in name (w ∷ []) = None
value_in name (w ∷ value ∷ rest) = if bytes_eq w name then Some (value, rest) else None

abbrev pub verb_in : Text → Option Verb
verb_in text =
    if bytes_eq text (codes "on") then Some verb.On else
    if bytes_eq text (codes "off") then Some verb.Off else
    if bytes_eq text (codes "status") then Some verb.Status else
    None

abbrev pub within_nodes : Option ℕ → Option ℕ
within_nodes None = None
within_nodes (Some n) = if nat_le 1 n && nat_le n 9999 then Some n else None

-- the number of a node, 1 to 9999
abbrev pub node_in : Text → Option ℕ
node_in text = within_nodes (decimal_in text)

-- what every command begins with
pub record Start : Type 0 where
  pub verb : Verb
  pub cluster : Text
  pub node : ℕ
  pub name : ℕ
  pub rest : List Text

abbrev pub start_by : Option Verb → Text → Option ℕ → Option ℕ → List Text → Option Start
start_by (Some verb) cluster (Some node) (Some name) rest =
    if length cluster == 0 then None else Some (record { verb = verb; cluster = cluster; node = node; name = name; rest = rest })
start_by _ _ _ _ _ = None

abbrev pub start_with : Text → Text → Text → Text → List Text → Option Start
start_with verb cluster node name rest = start_by (verb_in verb) cluster (node_in node) (hex_in 16 name) rest

-- a value that is there, and what is made of it and of the words behind it
abbrev pub taken : {T : Type 0} → Option (Text × List Text) → (Text → List Text → Option T) → Option T
taken None next = None
taken (Some (value, rest)) next = next value rest

-- `fence`, the verb, and the three options
unfoldable pub start_in : List Text → Option Start
start_in words =
    taken (value_in (codes "fence") words) (λ verb after_verb.
    taken (value_in (codes "--cluster") after_verb) (λ cluster after_cluster.
    taken (value_in (codes "--node") after_cluster) (λ node after_node.
    taken (value_in (codes "--name") after_node) (λ name rest. start_with verb cluster node name rest))))

abbrev pub task_by : (ℕ → Task) → Option ℕ → List Text → Option (Task × List Text)
task_by task None rest = None
task_by task (Some plug) rest = Some (task plug, rest)

-- the node that is looked for, for off and status
abbrev pub task_in : Verb → List Text → Option (Task × List Text)
task_in verb.On words = Some (task.On, words)
task_in verb.Off words = taken (value_in (codes "--plug") words) (λ plug rest. task_by task.Off (node_in plug) rest)
task_in verb.Status words = taken (value_in (codes "--plug") words) (λ plug rest. task_by task.Status (node_in plug) rest)

abbrev pub few : Bool → List Text → Option (Bool × List Text)
few aptpl addresses = if nat_le 1 (length addresses) && nat_le (length addresses) ADDRESSES then Some (aptpl, addresses) else None

-- `--aptpl` or not, and the addresses
abbrev pub end_in : List Text → Option (Bool × List Text)
end_in [] = None
end_in (w ∷ rest) = if bytes_eq w (codes "--aptpl") then few true rest else few false (w ∷ rest)

abbrev pub errand_of : Text → Task → Errand
errand_of cluster task.On = errand.On
errand_of cluster (task.Off plug) = errand.Off (key_of cluster plug)
errand_of cluster (task.Status plug) = errand.Status (key_of cluster plug)

-- a node that is named has a number from 1 to 9999
abbrev pub IsKnown : Task → Type 0
IsKnown task.On = Unit {0}
IsKnown (task.Off plug) = (1 ≤ plug) × (plug ≤ 9999)
IsKnown (task.Status plug) = (1 ≤ plug) × (plug ≤ 9999)

-- off of the node itself
abbrev pub is_itself : ℕ → Task → Bool
is_itself node task.On = false
is_itself node (task.Off plug) = plug == node
is_itself node (task.Status plug) = false

abbrev pub wanted_with : Start → Task → Bool → List Text → Wanted
wanted_with s task aptpl addresses = record {
  errand = errand_of s.cluster task;
  nexus = record { name = s.name; port = 1 };
  own = key_of s.cluster s.node;
  aptpl = aptpl;
  addresses = addresses;
}

abbrev pub wanted_ending : Start → Task → Option (Bool × List Text) → Result Wanted Refusal
wanted_ending s task None = Err BadWords
wanted_ending s task (Some (aptpl, addresses)) = if is_itself s.node task then Err SelfFence else Ok (wanted_with s task aptpl addresses)

abbrev pub wanted_doing : Start → Option (Task × List Text) → Result Wanted Refusal
wanted_doing s None = Err BadWords
wanted_doing s (Some (task, rest)) = wanted_ending s task (end_in rest)

abbrev pub wanted_from : Option Start → Result Wanted Refusal
wanted_from None = Err BadWords
wanted_from (Some s) = wanted_doing s (task_in s.verb s.rest)

-- what words ask for; where they are none of the above nothing, and nothing where a node would fence itself off
unfoldable pub wanted_by : List Text → Result Wanted Refusal
wanted_by words = wanted_from (start_in words)

-- the words make no command
abbrev pub MakeNoCommand : List Text → Type 0
MakeNoCommand words = wanted_by words ≡ Err BadWords

-- a node would fence itself off
abbrev pub FenceItself : List Text → Type 0
FenceItself words = wanted_by words ≡ Err SelfFence

-- a victim's key is to be fenced off
abbrev pub FenceOff : List Text → Wanted → Key → Type 0
FenceOff words w victim = (wanted_by words ≡ Ok w) × (w.errand ≡ errand.Off victim)
