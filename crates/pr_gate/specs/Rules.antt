-- The rule of a gate's table, and what each step tells its seat. All of this is this project's own.
-- Word 0 is the next ticket, and word 1 is `serving`, the length of the history. The one slot has the value, unless a seat is inside.
use Rattle.std.specs.Prelude.{◌≡◌, ℕ, ◌+◌, ◌<◌, ◌≤◌, ◌-◌, ◌==◌, Bool, true, false, List, [], ◌∷◌, ◌++◌, length, if◌then◌else◌, nat_lt, Option, Some, None, IfSome, MatchBool}
use mathlib.Core.Option as maybe
use mathlib.Core.List.{IsPrefix}
use lib.ListN.{get_elem?}
use Rattle.atomic_table.specs.Table.{State, Me, Step}
use Rattle.pr_gate.specs.declared.view.Held.{Held}
use Rattle.pr_gate.specs.declared.view.View.{View}
use Rattle.pr_gate.specs.declared.view.Stage.{Stage}
use Rattle.pr_gate.specs.declared.view.Stage.TheVariants.{Idle, Permitted, Waiting, Inside}
use Rattle.pr_gate.specs.Entries.{ticket_limit, own, NamesBelow, longer, shorter}

-- the ticket that a stage has (this project's own)
abbrev pub ticket_of : Stage → Option ℕ
ticket_of (Waiting t) = Some t
ticket_of (Inside t) = Some t
ticket_of _ = None

-- whether it has the turn (this project's own)
abbrev pub is_inside : Stage → Bool
is_inside (Inside t) = true
is_inside _ = false

-- how many permissions a stage has, one at most (this project's own)
abbrev pub permit : Stage → ℕ
permit Permitted = 1
permit _ = 0

-- 1 where there is a number (this project's own)
abbrev pub one_if : Option ℕ → ℕ
one_if None = 0
one_if (Some n) = 1

module _ {E G : Type 0} where
  -- what the first pass knows (this project's own)
  abbrev pub first_view : G → View E G
  first_view g = record { ground = Some g; number = Some 0; spare = ticket_limit; seen = []; mine = []; also = []; stage = Idle }

  -- how many permissions there are (this project's own)
  abbrev pub permits : List (View E G) → ℕ
  permits [] = 0
  permits (v ∷ vs) = permit v.stage + permits vs

  -- how many passes were ever made (this project's own)
  abbrev pub passes : List (View E G) → ℕ
  passes [] = 0
  passes (v ∷ vs) = one_if v.number + passes vs

  -- what a pass knows after it made another (this project's own)
  abbrev pub elder : View E G → View E G
  elder v = record v { spare = v.spare - 1 }

  -- what the pass that it made knows (this project's own)
  abbrev pub newer : View E G → View E G
  newer v = record { ground = v.ground; number = Some (ticket_limit + 1 - v.spare); spare = 0; seen = v.seen; mine = []; also = []; stage = Idle }

  -- what a pass knows after it made a note (this project's own)
  abbrev pub same_view : View E G → View E G
  same_view v = v

  -- what the note knows (this project's own)
  abbrev pub noted : View E G → View E G
  noted v = record { ground = v.ground; number = None; spare = 0; seen = v.seen; mine = []; also = []; stage = Idle }

  -- what a pass knows after it met a note: it has seen the longer list, and keeps the shorter (this project's own)
  abbrev pub joined_view : View E G → View E G → View E G
  joined_view v w = record v { seen = longer v.seen w.seen; also = shorter v.seen w.seen }

  -- what is left of a note that was met (this project's own)
  abbrev pub spent_view : View E G
  spent_view = record { ground = None; number = None; spare = 0; seen = []; mine = []; also = []; stage = Idle }

module _ {E G : Type 0} (number : E → ℕ) where
  -- how a view stands to the ground, the history, the next ticket and the number of passes made (this project's own)
  pub record Fits (ground : G) (history : List E) (ticket made : ℕ) (v : View E G) : Type 0 where
    pub same_ground : IfSome v.ground (λ g. g ≡ ground)
    pub seen : IsPrefix v.seen history
    pub also : IsPrefix v.also history
    pub own_seen : IfSome v.number (λ n. (n < made) × (own number n history ≡ v.mine) × (own number n v.seen ≡ v.mine))
    pub numbered : permit v.stage + one_if (ticket_of v.stage) ≤ one_if v.number
    pub in_turn : IfSome (ticket_of v.stage) (λ t. (length history ≤ t) × (t < ticket))
    pub inside : is_inside v.stage ≡ true → (ticket_of v.stage ≡ Some (length history)) × (v.seen ≡ history)
    pub makes : 0 < v.spare → (v.number ≡ Some 0) × (v.spare + made ≡ ticket_limit + 1)

module _ {T E G : Type 0} (number : E → ℕ) (ground_of : T → G) (stands : T → List E → Type 0) where
  -- the slot is at home, and its value stands for the history over the ground (this project's own)
  abbrev pub IsHome : G → List E → List (maybe.Option (Option (Held T E))) → Type 0
  IsHome ground history homes = (x : Held T E) × (homes ≡ maybe.some (Some x) ∷ []) × stands x.value.value history × (ground_of x.value.value ≡ ground)

  -- the rule: one history as long as `serving`, of which each view is a beginning, one ticket a view and one view a ticket, and the value that stands for the history where nobody is inside (this project's own)
  pub record Kept (ground : G) (s : State (Option (Held T E)) (View E G)) : Type 0 where
    pub history : List E
    pub ticket : ℕ
    pub words : s.words ≡ ticket ∷ length history ∷ []
    pub limit : ticket + permits s.views ≤ ticket_limit + passes s.views
    pub behind : length history ≤ ticket
    pub made : passes s.views ≤ ticket_limit + 1
    pub fits : (j : ℕ) (v : View E G) → get_elem? s.views j ≡ maybe.some v → Fits number ground history ticket (passes s.views) v
    pub alone : (i j : ℕ) (v w : View E G) → get_elem? s.views i ≡ maybe.some v → get_elem? s.views j ≡ maybe.some w → (t : ℕ) → ticket_of v.stage ≡ Some t → ticket_of w.stage ≡ Some t → i ≡ j
    pub apart : (i j : ℕ) (v w : View E G) → get_elem? s.views i ≡ maybe.some v → get_elem? s.views j ≡ maybe.some w → (n : ℕ) → v.number ≡ Some n → w.number ≡ Some n → i ≡ j
    pub names : NamesBelow number (passes s.views) history
    pub home : ((j : ℕ) (v : View E G) → get_elem? s.views j ≡ maybe.some v → is_inside v.stage ≡ false) → IsHome ground history s.homes

-- an entry, if there is one, as a list (this project's own)
abbrev pub option_list : {E : Type 0} → Option E → List E
option_list None = []
option_list (Some e) = e ∷ []

-- the entry that lies beside the value in the slot that a seat has taken (this project's own)
abbrev pub made_in : {T E : Type 0} → List (ℕ × Option (Held T E)) → List E
made_in ((k, Some h) ∷ xs) = option_list h.made
made_in _ = []

module _ {E G : Type 0} (number : E → ℕ) where
  -- what a step on the table tells a seat of the lists in its view (this project's own)
  pub record Told (v : View E G) : Type 0 where
    pub names : NamesBelow number (ticket_limit + 1 - v.spare) v.seen
    pub shorter : length v.also ≤ length v.seen → IsPrefix v.also v.seen
    pub own_seen : IfSome v.number (λ n. own number n v.seen ≡ v.mine)
    pub whole : (t : ℕ) → v.stage ≡ Inside t → length v.seen ≡ t

-- a seat's view and the slots that it has taken (this project's own)
abbrev Sat : Type 0 → Type 0 → Type 0 → Type 0
Sat T E G = Me (Option (Held T E)) (View E G)

module _ {T E G : Type 0} where
  -- a load of the ticket word: a value below the limit gives a permission (this project's own)
  abbrev pub permitted : Step (Option (Held T E)) → Sat T E G → ℕ → Sat T E G → Type 0
  permitted st m r m' = m' ≡ (if nat_lt r ticket_limit then (record m.0 { stage = Permitted }, m.1) else m)

  -- a fetch-add of the ticket word: the old value is the ticket (this project's own)
  abbrev pub drawn : Step (Option (Held T E)) → Sat T E G → ℕ → Sat T E G → Type 0
  drawn st m r m' = m' ≡ (record m.0 { stage = Waiting r }, m.1)

  -- a fetch-add of `serving`: the turn is given up, and the entry beside the value is put behind what was seen (this project's own)
  abbrev pub published : Step (Option (Held T E)) → Sat T E G → ℕ → Sat T E G → Type 0
  published st m r m' = (m' ≡ (record m.0 { seen = m.0.seen ++ made_in m.1; mine = m.0.mine ++ made_in m.1; stage = Idle }, [])) × (r ≡ length m.0.seen) × (r + 1 < 18446744073709551616)

  module _ (number : E → ℕ) where
    -- a load of `serving` after a join: the view stays (this project's own)
    abbrev pub met : Step (Option (Held T E)) → Sat T E G → ℕ → Sat T E G → Type 0
    met st m r m' = (m' ≡ m) × Told number m.0

    module _ (ground_of : T → G) (stands : T → List E → Type 0) where
      -- the seat has come in: the slot is its own, and it has seen the list that the value stands for (this project's own)
      pub record IsIn (m : Sat T E G) (r : ℕ) (m' : Sat T E G) : Type 0 where
        pub held : Held T E
        pub now : m' ≡ (record m.0 { seen = m'.0.seen; also = []; stage = Inside r }, (0, Some held) ∷ m.1)
        pub stood : stands held.value.value m'.0.seen
        pub ground : m.0.ground ≡ Some (ground_of held.value.value)
        pub long : length m'.0.seen ≡ r
        pub begins : IsPrefix m.0.seen m'.0.seen
        pub told : Told number m'.0

      -- a load of `serving` by a seat with a ticket: it comes in where the word is its ticket (this project's own)
      abbrev pub looked : Step (Option (Held T E)) → Sat T E G → ℕ → Sat T E G → Type 0
      looked st m r m' = (t : ℕ) → m.0.stage ≡ Waiting t → MatchBool (r == t) (IsIn m r m') (m' ≡ m)
