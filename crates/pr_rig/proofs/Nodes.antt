-- What words of `fence off` make of nodes and keys.
use Rattle.std.proofs.Common.{◌≡◌, ℕ, ◌+◌, ◌*◌, ◌/◌, ◌%◌, ◌^◌, ◌==◌, ◌<◌, ◌≤◌, ◌⊎◌, inl, inr, Bool, true, false, ◌&&◌, List, length, take, Option, Some, None, refl, sym, ap, ◌∙◌, subst, arith, rules, eq-eqb, leb-true}
use Rattle.std.proofs.lemmas.Bool.{false≢true}
use Rattle.std.specs.Prelude.{Result, Ok, codes, nat_le, if◌then◌else◌}
use Rattle.std.specs.Int.{w16, from_be_bytes}
use Rattle.std.specs.Str.{bytes_eq}
use Rattle.md5.specs.Md5.{md5, digest_bytes}
use Rattle.pr_words.specs.declared.nexus.Key.{Key}
use Rattle.pr_fence.specs.declared.plan.Errand.TheVariants as errand
use Rattle.pr_fence.specs.Keys.{read_as_hexadecimal, key_of}
use Rattle.pr_numbers.specs.Numbers.{hex_in}
use Rattle.pr_rig.proofs.Names.{hex_small}
use Rattle.pr_fence.specs.Words.{Text, Wanted, Start, FenceOff, value_in, verb_in, within_nodes, node_in, start_by, taken, start_in, task_in, end_in, wanted_doing, wanted_from, wanted_by}

-- Keys

-- a node's four digits, as they are read as hexadecimal ones
abbrev digits : ℕ → ℕ → ℕ → ℕ → ℕ
digits a b c d = a * 0x1000 + b * 0x100 + c * 0x10 + d

by_digits : (n : ℕ) → n ≡ n / 1000 * 1000 + n / 100 % 10 * 100 + n / 10 % 10 * 10 + n % 10
by_digits n = omega arith

same_digits : (a b c d e f g h : ℕ) → b < 10 → c < 10 → d < 10 → f < 10 → g < 10 → h < 10 → digits a b c d ≡ digits e f g h → (a ≡ e) × (b ≡ f) × (c ≡ g) × (d ≡ h)
same_digits a b c d e f g h bs cs ds fs gs hs is =
    let last : d ≡ h = omega (arith, bs, cs, ds, fs, gs, hs, is) in
    let third : c ≡ g = omega (arith, bs, cs, fs, gs, is, last) in
    let second : b ≡ f = omega (arith, bs, fs, is, last, third) in
    (omega (arith, is, last, third, second), second, third, last)

-- no two nodes are read as one number
same_node : (m n : ℕ) → read_as_hexadecimal m ≡ read_as_hexadecimal n → m ≡ n
same_node m n is =
    let all = same_digits (m / 1000) (m / 100 % 10) (m / 10 % 10) (m % 10) (n / 1000) (n / 100 % 10) (n / 10 % 10) (n % 10)
    (omega arith) (omega arith) (omega arith) (omega arith) (omega arith) (omega arith) is in
    omega (arith, by_digits m, by_digits n, all.0, all.1, all.2, all.3)

read_small : (n : ℕ) → n ≤ 9999 → read_as_hexadecimal n < 2 ^ 16
read_small n few = omega (arith, few)

-- the first two bytes of a digest are bytes
md5_small : (text : List ℕ) → from_be_bytes w16 (take 2 (md5 text)) < 2 ^ 16
unfolding md5 digest_bytes
md5_small text = omega arith

key_fits : (cluster : List ℕ) (node : ℕ) → node ≤ 9999 → (key_of cluster node).0 < 2 ^ 64
key_fits cluster node few = omega (arith, md5_small cluster, read_small node few)

same_key : (cluster : List ℕ) (m n : ℕ) → (key_of cluster m).0 ≡ (key_of cluster n).0 → m ≡ n
same_key cluster m n is = same_node m n (omega (arith, is))

-- Words

node_small : (o : Option ℕ) (n : ℕ) → within_nodes o ≡ Some n → n ≤ 9999
node_small None n is = absurd cc
node_small (Some m) n is = by (nat_le 1 m) (nat_le m 9999) refl is
  where
    by : (some few : Bool) → nat_le m 9999 ≡ few → (if some && few then Some m else None) ≡ Some n → n ≤ 9999
    by true true few same = let is_m : m ≡ n = cc in subst (λ (k : ℕ). k ≤ 9999) is_m (leb-true m 9999 few)
    by true false few same = absurd cc
    by false few is_few same = absurd cc

node_least : (o : Option ℕ) (n : ℕ) → within_nodes o ≡ Some n → 1 ≤ n
node_least None n is = absurd cc
node_least (Some m) n is = by (nat_le 1 m) (nat_le m 9999) refl is
  where
    by : (some few : Bool) → nat_le 1 m ≡ some → (if some && few then Some m else None) ≡ Some n → 1 ≤ n
    by true true least same = let is_m : m ≡ n = cc in subst (λ (k : ℕ). 1 ≤ k) is_m (leb-true 1 m least)
    by true false least same = absurd cc
    by false few least same = absurd cc

node_some : (text : Text) (n : ℕ) → node_in text ≡ Some n → 1 ≤ n
node_some text n is = search (rules, node_least, is)

node_few : (text : Text) (n : ℕ) → node_in text ≡ Some n → n ≤ 9999
node_few text n is = search (rules, node_small, is)

some_same : {T : Type 0} (t u : T) → Some t ≡ Some u → t ≡ u
some_same t u is = cc

ok_same : {T E : Type 0} (r : Result T E) (t u : T) → r ≡ Ok u → r ≡ Ok t → t ≡ u
ok_same r t u is was = cc

if_some : {T : Type 0} (b : Bool) (t u : T) → (if b then None else Some t) ≡ Some u → t ≡ u
if_some true t u is = absurd cc
if_some false t u is = some_same t u is

-- a verb that was read, and a node within bounds
record Begun (s : Start) : Type 0 where
  pub word : Text
  pub verb : verb_in word ≡ Some s.verb
  pub some : 1 ≤ s.node
  pub few : s.node ≤ 9999
  pub name : Text
  pub named : hex_in 16 name ≡ Some s.name

begun_with : (word cluster node name : Text) (rest : List Text) (s : Start) → start_by (verb_in word) cluster (node_in node) (hex_in 16 name) rest ≡ Some s → Begun s
begun_with word cluster node name rest s = by (verb_in word) refl (node_in node) refl (hex_in 16 name) refl
  where
    by : (v : _) → verb_in word ≡ v → (n : Option ℕ) → node_in node ≡ n → (m : Option ℕ) → hex_in 16 name ≡ m → start_by v cluster n m rest ≡ Some s → Begun s
    by None read n at m named is = absurd cc
    by (Some v) read None at m named is = absurd cc
    by (Some v) read (Some n) at None named is = absurd cc
    by (Some v) read (Some n) at (Some m) named is =
        let same = if_some (length cluster == 0) _ s is in
        record {
          word = word;
          verb = read ∙ ap (λ (x : Start). Some x.verb) same;
          some = subst (λ (k : ℕ). 1 ≤ k) (ap (λ (x : Start). x.node) same) (node_some node n at);
          few = subst (λ (k : ℕ). k ≤ 9999) (ap (λ (x : Start). x.node) same) (node_few node n at);
          name = name;
          named = named ∙ ap (λ (x : Start). Some x.name) same;
        }

-- what holds of what is made of a value that is there
there : {T : Type 0} (P : T → Type 0) (o : Option (Text × List Text)) (next : Text → List Text → Option T) (t : T) → ((value : Text) (rest : List Text) → next value rest ≡ Some t → P t) → taken o next ≡ Some t → P t
there P None next t holds is = absurd cc
there P (Some (value, rest)) next t holds is = holds value rest is

begun : (words : List Text) (s : Start) → start_in words ≡ Some s → Begun s
unfolding start_in
begun words s =
    there Begun (value_in (codes "fence") words) _ s (λ verb after_verb.
    there Begun (value_in (codes "--cluster") after_verb) _ s (λ cluster after_cluster.
    there Begun (value_in (codes "--node") after_cluster) _ s (λ node after_node.
    there Begun (value_in (codes "--name") after_node) _ s (λ name rest. begun_with verb cluster node name rest s))))

-- it is one of three
abbrev IsSpelled : Start → Text → Type 0
IsSpelled s word = verb_in word ≡ Some s.verb

one_of_three : (word : Text) (s : Start) → IsSpelled s word → IsSpelled s (codes "on") ⊎ (IsSpelled s (codes "off") ⊎ IsSpelled s (codes "status"))
one_of_three word s = by (bytes_eq word (codes "on")) (bytes_eq word (codes "off")) (bytes_eq word (codes "status"))
  where
    by : (a b c : Bool) → (if a then verb_in (codes "on") else if b then verb_in (codes "off") else if c then verb_in (codes "status") else None) ≡ Some s.verb → IsSpelled s (codes "on") ⊎ (IsSpelled s (codes "off") ⊎ IsSpelled s (codes "status"))
    by true b c is = inl is
    by false true c is = inr (inl is)
    by false false true is = inr (inr is)
    by false false false is = absurd cc

-- the nodes of a command that fences a victim's key off
record OffNodes (w : Wanted) (victim : Key) : Type 0 where
  pub cluster : Text
  pub node : ℕ
  pub plug : ℕ
  pub own : w.own ≡ key_of cluster node
  pub theirs : victim ≡ key_of cluster plug
  pub some : 1 ≤ node
  pub few : node ≤ 9999
  pub plug_some : 1 ≤ plug
  pub plugs : plug ≤ 9999
  pub name : Text
  pub named : hex_in 16 name ≡ Some w.nexus.name
  pub port : w.nexus.port ≡ 1
  pub other : plug ≡ node → ⊥

-- a command that does what a start says
abbrev Does : Start → Wanted → Type 0
Does s w = wanted_doing s (task_in s.verb s.rest) ≡ Ok w

on_other : (s : Start) (w : Wanted) (victim : Key) → IsSpelled s (codes "on") → Does s w → w.errand ≡ errand.Off victim → ⊥
on_other s w victim read is off = by (end_in s.rest) refl
  where
    by : (o : Option (Bool × List Text)) → end_in s.rest ≡ o → ⊥
    by None ends = absurd (let never = rw (← some_same _ s.verb read, ends) at is in cc)
    by (Some (aptpl, addresses)) ends =
        let same = ok_same _ _ w (rw (← some_same _ s.verb read, ends) at is) refl in
        let never : errand.On ≡ errand.Off victim = ap (λ (x : Wanted). x.errand) same ∙ off in
        absurd cc

status_other : (s : Start) (w : Wanted) (victim : Key) → IsSpelled s (codes "status") → Does s w → w.errand ≡ errand.Off victim → ⊥
status_other s w victim read is off = plugged (value_in (codes "--plug") s.rest) refl
  where
    ended : (plug : Text) (rest : List Text) → value_in (codes "--plug") s.rest ≡ Some (plug, rest) → (n : ℕ) → node_in plug ≡ Some n → (o : Option (Bool × List Text)) → end_in rest ≡ o → ⊥
    ended plug rest at n number None ends = absurd (let never = rw (← some_same _ s.verb read, at, number, ends) at is in cc)
    ended plug rest at n number (Some (aptpl, addresses)) ends =
        let same = ok_same _ _ w (rw (← some_same _ s.verb read, at, number, ends) at is) refl in
        let never : errand.Status (key_of s.cluster n) ≡ errand.Off victim = ap (λ (x : Wanted). x.errand) same ∙ off in
        absurd cc

    noded : (plug : Text) (rest : List Text) → value_in (codes "--plug") s.rest ≡ Some (plug, rest) → (o : Option ℕ) → node_in plug ≡ o → ⊥
    noded plug rest at None number = absurd (let never = rw (← some_same _ s.verb read, at, number) at is in cc)
    noded plug rest at (Some n) number = ended plug rest at n number (end_in rest) refl

    plugged : (o : Option (Text × List Text)) → value_in (codes "--plug") s.rest ≡ o → ⊥
    plugged None at = absurd (let never = rw (← some_same _ s.verb read, at) at is in cc)
    plugged (Some (plug, rest)) at = noded plug rest at (node_in plug) refl

off_nodes : (s : Start) (w : Wanted) (victim : Key) → Begun s → IsSpelled s (codes "off") → Does s w → w.errand ≡ errand.Off victim → OffNodes w victim
off_nodes s w victim b read is off = plugged (value_in (codes "--plug") s.rest) refl
  where
    other : (plug : Text) (rest : List Text) → value_in (codes "--plug") s.rest ≡ Some (plug, rest) → (n : ℕ) → node_in plug ≡ Some n → (aptpl : Bool) (addresses : List Text) → end_in rest ≡ Some (aptpl, addresses)
        → (itself : Bool) → (n == s.node) ≡ itself → OffNodes w victim
    other plug rest at n number aptpl addresses ends true itself = absurd (let never = rw (← some_same _ s.verb read, at, number, ends, itself) at is in cc)
    other plug rest at n number aptpl addresses ends false itself =
        let same = ok_same _ _ w (rw (← some_same _ s.verb read, at, number, ends, itself) at is) refl in
        let errands : errand.Off (key_of s.cluster n) ≡ errand.Off victim = ap (λ (x : Wanted). x.errand) same ∙ off in
        let theirs : key_of s.cluster n ≡ victim = cc in
        record {
          cluster = s.cluster;
          node = s.node;
          plug = n;
          own = sym (ap (λ (x : Wanted). x.own) same);
          theirs = sym theirs;
          some = b.some;
          few = b.few;
          plug_some = node_some plug n number;
          plugs = node_few plug n number;
          name = b.name;
          named = b.named ∙ ap (λ (x : Wanted). Some x.nexus.name) same;
          port = sym (ap (λ (x : Wanted). x.nexus.port) same);
          other = λ one. false≢true (sym itself ∙ eq-eqb n s.node one);
        }

    ended : (plug : Text) (rest : List Text) → value_in (codes "--plug") s.rest ≡ Some (plug, rest) → (n : ℕ) → node_in plug ≡ Some n → (o : Option (Bool × List Text)) → end_in rest ≡ o → OffNodes w victim
    ended plug rest at n number None ends = absurd (let never = rw (← some_same _ s.verb read, at, number, ends) at is in cc)
    ended plug rest at n number (Some (aptpl, addresses)) ends = other plug rest at n number aptpl addresses ends (n == s.node) refl

    noded : (plug : Text) (rest : List Text) → value_in (codes "--plug") s.rest ≡ Some (plug, rest) → (o : Option ℕ) → node_in plug ≡ o → OffNodes w victim
    noded plug rest at None number = absurd (let never = rw (← some_same _ s.verb read, at, number) at is in cc)
    noded plug rest at (Some n) number = ended plug rest at n number (end_in rest) refl

    plugged : (o : Option (Text × List Text)) → value_in (codes "--plug") s.rest ≡ o → OffNodes w victim
    plugged None at = absurd (let never = rw (← some_same _ s.verb read, at) at is in cc)
    plugged (Some (plug, rest)) at = noded plug rest at (node_in plug) refl

-- what FenceOff says of the nodes
nodes : (words : List Text) (w : Wanted) (victim : Key) → FenceOff words w victim → OffNodes w victim
unfolding wanted_by
nodes words w victim off = by (start_in words) refl off.0
  where
    by : (o : Option Start) → start_in words ≡ o → wanted_from o ≡ Ok w → OffNodes w victim
    by None at is = absurd cc
    by (Some s) at is =
        let b = begun words s at in
        elim (one_of_three b.word s b.verb) [
          | inl on ↦ absurd (on_other s w victim on is off.1)
          | inr more ↦ elim more [
            | inl here ↦ off_nodes s w victim b here is off.1
            | inr status ↦ absurd (status_other s w victim status is off.1)
          ]
        ]

-- the victim's key and the node's own fit their fields, and they differ
pub victim_fits : (words : List Text) (w : Wanted) (victim : Key) → FenceOff words w victim → victim.0 < 2 ^ 64
victim_fits words w victim off =
    let n = nodes words w victim off in
    subst (λ (k : Key). k.0 < 2 ^ 64) (sym n.theirs) (key_fits n.cluster n.plug n.plugs)

pub own_fits : (words : List Text) (w : Wanted) (victim : Key) → FenceOff words w victim → w.own.0 < 2 ^ 64
own_fits words w victim off =
    let n = nodes words w victim off in
    subst (λ (k : Key). k.0 < 2 ^ 64) (sym n.own) (key_fits n.cluster n.node n.few)

pub own_differs : (words : List Text) (w : Wanted) (victim : Key) → FenceOff words w victim → w.own.0 ≡ victim.0 → ⊥
own_differs words w victim off is =
    let n = nodes words w victim off in
    n.other (sym (same_key n.cluster n.node n.plug (ap (λ (k : Key). k.0) (sym n.own) ∙ is ∙ ap (λ (k : Key). k.0) n.theirs)))

-- neither key is zero
read_some : (n : ℕ) → 1 ≤ n → read_as_hexadecimal n ≡ 0 → ⊥
read_some n some none = absurd (omega (arith, by_digits n, some, none))

key_some : (cluster : List ℕ) (node : ℕ) → 1 ≤ node → (key_of cluster node).0 ≡ 0 → ⊥
key_some cluster node some none = read_some node some (omega (arith, none))

pub own_some : (words : List Text) (w : Wanted) (victim : Key) → FenceOff words w victim → w.own.0 ≡ 0 → ⊥
own_some words w victim off none =
    let n = nodes words w victim off in
    key_some n.cluster n.node n.some (ap (λ (k : Key). k.0) (sym n.own) ∙ none)

pub victim_some : (words : List Text) (w : Wanted) (victim : Key) → FenceOff words w victim → victim.0 ≡ 0 → ⊥
victim_some words w victim off none =
    let n = nodes words w victim off in
    key_some n.cluster n.plug n.plug_some (ap (λ (k : Key). k.0) (sym n.theirs) ∙ none)

pub port_is_one : (words : List Text) (w : Wanted) (victim : Key) → FenceOff words w victim → w.nexus.port ≡ 1
port_is_one words w victim off = (nodes words w victim off).port

pub name_fits : (words : List Text) (w : Wanted) (victim : Key) → FenceOff words w victim → w.nexus.name < 2 ^ 64
name_fits words w victim off =
    let n = nodes words w victim off in
    hex_small n.name w.nexus.name n.named
