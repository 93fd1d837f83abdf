-- Each step of a gate keeps its rule.
use Rattle.std.proofs.Common.{Box, Global, ◌≡◌, ◌≢◌, ◌⊎◌, ℕ, zero, suc, ◌+◌, ◌-◌, ◌%◌, ◌^◌, ◌<◌, ◌≤◌, Bool, true, false, eqb, ltb, cond, List, [], ◌∷◌, ◌++◌, length, get_or, set, sym, refl, ap, ◌∙◌, subst, arith, Option, Some, None, IfSome, IsSome, is_some, unwrap_or, MatchBool, ⊎_elim, inl, inr, le_refl, le-ltb, ltb-true, lt-ltb}
use mathlib.Core.Logic.{dite}
use mathlib.Core.Option as maybe
use mathlib.Core.Option.{some, none, some-injective, some-ne-none}
use mathlib.Core.List.{IsPrefix}
use native.Mathlib.Decide.{ℕ_discrete}
use lib.ListN.{get_elem?}
use lib.Seq.{set-get_or}
use Rattle.std.proofs.lemmas.List.{length-append}
use Rattle.std.proofs.lemmas.List.Elements.{All-nil}
use Rattle.std.proofs.lemmas.Bool.{false_from_ne_true, eqb-true}
use Rattle.atomic_table.specs.Table.{State, Me, Act, Valid, carried_after, step, keeps, takes, gives, put_back, rest, homes_after, stepped, Allows, Splits, Joins, Final, Seen}
use Rattle.atomic_table.proofs.Lists.{at_set, set_again, set_else, set_here, at_longer}
use Rattle.pr_gate.specs.declared.view.Held.{Held}
use Rattle.pr_gate.specs.declared.view.View.{View}
use Rattle.pr_gate.specs.declared.view.Stage.{Stage}
use Rattle.pr_gate.specs.declared.view.Stage.TheVariants.{Idle, Permitted, Waiting, Inside}
use Rattle.pr_gate.specs.Entries.{ticket_limit, own, NamesBelow}
use Rattle.pr_gate.specs.Rules.{ticket_of, is_inside, permit, one_if, permits, passes, Fits, IsHome, Kept, permitted, drawn, IsIn, looked, first_view, made_in, published, Told, met, elder, newer, noted, joined_view, spent_view}
use Rattle.pr_gate.specs.Passes.{Ends}
use Rattle.pr_gate.proofs.Lists.{permits-set, passes-set, permits-snoc, passes-snoc, prefix-refl, prefix-longer, prefix_length, prefix_both, own-other, own-mine, own-between, at_snoc_place, below-more, below-prefix, below-snoc, own-none}

false≢true' : false ≡ true → ⊥
false≢true' e = subst (λ (b : Bool). cond b ⊥ (Unit {0})) e tt

none_some : (n : ℕ) → None ≡ Some n → ⊥
none_some n e = subst (λ (o : Option ℕ). cond (is_some o) ⊥ (Unit {0})) e tt

if_some : {P Q : ℕ → Type 0} → ((n : ℕ) → P n → Q n) → (o : Option ℕ) → IfSome o P → IfSome o Q
if_some f None p = tt
if_some f (Some n) p = f n p

of_some : (P : ℕ → Type 0) (o : Option ℕ) (n : ℕ) → o ≡ Some n → IfSome o P → P n
of_some P o n e p = subst (λ (z : Option ℕ). IfSome z P) e p

one_of : (o : Option ℕ) → IsSome o → one_if o ≡ 1
one_of None e = absurd (false≢true' e)
one_of (Some n) e = refl

some_inj : (a b : ℕ) → Some a ≡ Some b → a ≡ b
some_inj a b e = ap (λ (o : Option ℕ). unwrap_or o a) e

abbrev wait_of : Stage → ℕ
wait_of (Waiting t) = suc t
wait_of _ = 0

waits_inj : (t u : ℕ) → Waiting t ≡ Waiting u → t ≡ u
waits_inj t u e = let k = ap wait_of e in omega arith

abbrev turn_of : Stage → ℕ
turn_of (Inside t) = t
turn_of _ = 0

inside_inj : (t u : ℕ) → Inside t ≡ Inside u → t ≡ u
inside_inj t u e = ap turn_of e

not_zero : (u : ℕ) → 0 ≡ suc u → ⊥
not_zero u e = omega arith

-- the room that is left for new passes
room : (spare made : ℕ) → made ≤ ticket_limit + 1 → (0 < spare → spare + made ≡ ticket_limit + 1) → made ≤ ticket_limit + 1 - spare
room zero made le f = omega arith
room (suc n) made le f = let e = f (omega arith) in omega arith

pub limit_is : ticket_limit ≡ 4611686018427387904
unfolding ticket_limit
limit_is = refl

module _ {A : Type 0} where
  pub permit_high : (r : ℕ) (a m m' : A) → m' ≡ cond (ltb r ticket_limit) a m → ticket_limit ≤ r → m' ≡ m
  permit_high r a m m' e le = e ∙ ap (λ b. cond b a m) (le-ltb r ticket_limit le)

  pub permit_low : (r : ℕ) (a m m' : A) → m' ≡ cond (ltb r ticket_limit) a m → r < ticket_limit → m' ≡ a
  permit_low r a m m' e lt = e ∙ ap (λ b. cond b a m) (lt-ltb r ticket_limit lt)

module _ {T E G : Type 0} (number : E → ℕ) (ground_of : T → G) (stands : T → List E → Type 0) (ground : G) where
  abbrev V : Type 0
  V = View E G

  abbrev St : Type 0
  St = State (Option (Held T E)) V

  abbrev M : Type 0
  M = Me (Option (Held T E)) V

  abbrev Rule : St → Type 0
  Rule = Kept number ground_of stands ground

  abbrev F : List E → ℕ → ℕ → V → Type 0
  F = Fits number ground

  each : (K : ℕ → V → Type 0) (vs : List V) (me : ℕ) (w : V) → K me w → ((j : ℕ) (d : V) → j ≢ me → get_elem? vs j ≡ some d → K j d)
      → (j : ℕ) (d : V) → get_elem? (set vs me w) j ≡ some d → K j d
  each K vs me w mine others j d e = ⊎_elim (λ (t : (j ≡ me) × (w ≡ d)). subst (λ (x : ℕ × V). K x.0 x.1) (λ i. (sym t.0 i, t.1 i)) mine)
      (λ (t : (j ≢ me) × (get_elem? vs j ≡ some d)). others j d t.0 t.1) (at_set vs me j w d e)

  -- a step that changes the view of one seat, in place
  moved : (s : St) (r : Rule s) (id : ℕ) (v w : V) → get_elem? s.views id ≡ some v → (words : List ℕ) (homes : List (maybe.Option (Option (Held T E)))) (history : List E) (ticket : ℕ)
      → words ≡ ticket ∷ length history ∷ []
      → w.number ≡ v.number
      → ticket + permits (set s.views id w) ≤ ticket_limit + passes s.views
      → length history ≤ ticket
      → F history ticket (passes s.views) w
      → ((j : ℕ) (d : V) → j ≢ id → get_elem? s.views j ≡ some d → F r.history r.ticket (passes s.views) d → F history ticket (passes s.views) d)
      → ((t : ℕ) → ticket_of w.stage ≡ Some t → (j : ℕ) (d : V) → j ≢ id → get_elem? s.views j ≡ some d → ticket_of d.stage ≡ Some t → ⊥)
      → NamesBelow number (passes s.views) history
      → (((j : ℕ) (d : V) → get_elem? (set s.views id w) j ≡ some d → is_inside d.stage ≡ false) → IsHome number ground_of stands ground history homes)
      → Rule (record { words = words; homes = homes; views = set s.views id w })
  moved s r id v w at words homes history ticket is same limit behind mine others free names home =
      let count : passes (set s.views id w) ≡ passes s.views = (let p = passes-set s.views id v w at in let q : one_if w.number ≡ one_if v.number = ap one_if same in omega arith) in
      record {
        history = history;
        ticket = ticket;
        words = is;
        limit = rw count limit;
        behind = behind;
        made = rw count r.made;
        fits = rw count (each (λ _ d. F history ticket (passes s.views) d) s.views id w mine (λ j d ne e. others j d ne e (r.fits j d e)));
        alone = λ i j a b p q t x y. ⊎_elim
            (λ (m : (i ≡ id) × (w ≡ a)). ⊎_elim (λ (n : (j ≡ id) × (w ≡ b)). m.0 ∙ sym n.0)
            (λ (n : (j ≢ id) × (get_elem? s.views j ≡ some b)). absurd (free t (ap (λ (z : V). ticket_of z.stage) m.1 ∙ x) j b n.0 n.1 y)) (at_set s.views id j w b q))
            (λ (m : (i ≢ id) × (get_elem? s.views i ≡ some a)). ⊎_elim (λ (n : (j ≡ id) × (w ≡ b)). absurd (free t (ap (λ (z : V). ticket_of z.stage) n.1 ∙ y) i a m.0 m.1 x))
            (λ (n : (j ≢ id) × (get_elem? s.views j ≡ some b)). r.alone i j a b m.1 n.1 t x y) (at_set s.views id j w b q))
            (at_set s.views id i w a p);
        apart = λ i j a b p q t x y. ⊎_elim
            (λ (m : (i ≡ id) × (w ≡ a)). ⊎_elim (λ (n : (j ≡ id) × (w ≡ b)). m.0 ∙ sym n.0)
            (λ (n : (j ≢ id) × (get_elem? s.views j ≡ some b)). m.0 ∙ r.apart id j v b at n.1 t (sym same ∙ (ap (λ (z : V). z.number) m.1 ∙ x)) y) (at_set s.views id j w b q))
            (λ (m : (i ≢ id) × (get_elem? s.views i ≡ some a)). ⊎_elim (λ (n : (j ≡ id) × (w ≡ b)). r.apart i id a v m.1 at t x (sym same ∙ (ap (λ (z : V). z.number) n.1 ∙ y)) ∙ sym n.0)
            (λ (n : (j ≢ id) × (get_elem? s.views j ≡ some b)). r.apart i j a b m.1 n.1 t x y) (at_set s.views id j w b q))
            (at_set s.views id i w a p);
        names = rw count names;
        home = home;
      }

  quiet : (vs : List V) (id : ℕ) (v w : V) → get_elem? vs id ≡ some v → is_inside v.stage ≡ false
      → ((j : ℕ) (d : V) → get_elem? (set vs id w) j ≡ some d → is_inside d.stage ≡ false) → (j : ℕ) (d : V) → get_elem? vs j ≡ some d → is_inside d.stage ≡ false
  quiet vs id v w at out all j d e = dite (ℕ_discrete j id)
      (λ is. ap (λ (z : V). is_inside z.stage) (some-injective d v (sym e ∙ (ap (get_elem? vs) is ∙ at))) ∙ out)
      (λ ne. all j d (set_else vs id j w ne ∙ e))

  -- a view that does not change
  same_state : (s : St) (r : Rule s) (i id : ℕ) (me : M) → get_elem? s.views id ≡ some me.0 → Rule (stepped s i (get_or s.words i 0) id me.1 me.0 keeps)
  same_state s r i id me at = subst Rule (λ k. record { words = sym (set-get_or s.words i 0) k; homes = s.homes; views = sym (set_again s.views id me.0 at) k }) r

  permits-le : (l : List V) → ((j : ℕ) (d : V) → get_elem? l j ≡ some d → permit d.stage ≤ one_if d.number) → permits l ≤ passes l
  permits-le [] h = le_refl 0
  permits-le (x ∷ xs) h = let a = h 0 x refl in let b = permits-le xs (λ j d e. h (suc j) d e) in omega arith

  permit-le : (st : Stage) (n : ℕ) → permit st + one_if (ticket_of st) ≤ n → permit st ≤ n
  permit-le st n le = omega arith

  permit_at : (slots id : ℕ) (me : M) → me.0.stage ≡ Idle → IsSome me.0.number → (s : St) (r : Rule s) → get_elem? s.views id ≡ some me.0 → (b : Bool) → ltb (get_or s.words 0 0) ticket_limit ≡ b
      → (w : V) × (a : Act (Option (Held T E))) × Valid s.homes me.1 a × Rule (stepped s 0 (get_or s.words 0 0) id me.1 w a) × ((w, carried_after me.1 a) ≡ cond b (record me.0 { stage = Permitted }, me.1) me)
  permit_at slots id me idle has s r at false is = (me.0, keeps, tt, same_state s r 0 id me at, refl)
  permit_at slots id me idle has s r at true is =
      let v : V = me.0 in let w : V = record me.0 { stage = Permitted } in let f = r.fits id v at in
      let x : get_or s.words 0 0 ≡ r.ticket = ap (λ l. get_or l 0 0) r.words in
      let below : get_or s.words 0 0 < ticket_limit = ltb-true _ _ is in
      let one = one_of v.number has in
      let count : passes (set s.views id w) ≡ passes s.views = (let p = passes-set s.views id v w at in omega arith) in
      let few : permits (set s.views id w) ≤ passes (set s.views id w) = permits-le (set s.views id w) (λ j d e. ⊎_elim
      (λ (t : (j ≡ id) × (w ≡ d)). subst (λ (z : V). permit z.stage ≤ one_if z.number) t.1 (omega arith))
      (λ (t : (j ≢ id) × (get_elem? s.views j ≡ some d)). permit-le d.stage (one_if d.number) ((r.fits j d t.1).numbered)) (at_set s.views id j w d e)) in (
        w,
        keeps,
        tt,
        moved s r id v w at (set s.words 0 (get_or s.words 0 0)) s.homes r.history r.ticket (set-get_or s.words 0 0 ∙ r.words) refl (omega arith) r.behind
            (record { same_ground = f.same_ground; seen = f.seen; also = f.also; own_seen = f.own_seen; numbered = omega arith; in_turn = tt; inside = λ e. absurd (false≢true' e); makes = f.makes })
            (λ j d _ _ g. g) (λ t e. absurd (none_some t e)) r.names
            (λ all. r.home (quiet s.views id v w at (ap is_inside idle) all)),
        refl,
      )

  pub permits_step : (slots id : ℕ) (me : M) → me.0.stage ≡ Idle → IsSome me.0.number → Allows Rule slots id me 0 (λ x. x) (permitted (step slots 0 0 0 none) me)
  permits_step slots id me idle has s r _ at _ = permit_at slots id me idle has s r at (ltb (get_or s.words 0 0) ticket_limit) refl

  in_turn_more : (a b c : ℕ) (o : Option ℕ) → b ≤ c → IfSome o (λ t. (a ≤ t) × (t < b)) → IfSome o (λ t. (a ≤ t) × (t < c))
  in_turn_more a b c None le p = tt
  in_turn_more a b c (Some t) le p = let q = p.1 in (p.0, omega arith)

  -- another's turn is not the one that ends
  in_turn_next : (a b : ℕ) (o : Option ℕ) → ((t : ℕ) → o ≡ Some t → t ≢ a) → IfSome o (λ t. (a ≤ t) × (t < b)) → IfSome o (λ t. (a + 1 ≤ t) × (t < b))
  in_turn_next a b None ne p = tt
  in_turn_next a b (Some t) ne p = let q = p.0 in let n = ne t refl in (omega arith, p.1)

  pub draws_step : (slots id : ℕ) (me : M) → me.0.stage ≡ Permitted → IsSome me.0.number → Allows Rule slots id me 0 (λ x. (x + 1) % 2 ^ 64) (drawn (step slots 0 1 0 none) me)
  draws_step slots id me may has s r _ at small =
      let v : V = me.0 in let x : ℕ = get_or s.words 0 0 in let w : V = record me.0 { stage = Waiting x } in let f = r.fits id v at in
      let is : x ≡ r.ticket = ap (λ l. get_or l 0 0) r.words in
      let one = one_of v.number has in
      let had : permit v.stage ≡ 1 = ap permit may in
      let sum = permits-set s.views id v w at in
      let limit = r.limit in let made = r.made in let behind = r.behind in
      let next : (x + 1) % 2 ^ 64 ≡ r.ticket + 1 = omega (arith, limit_is) in
      let few : r.ticket + 1 + permits (set s.views id w) ≤ ticket_limit + passes s.views = omega arith in (
        w,
        keeps,
        tt,
        moved s r id v w at (set s.words 0 ((x + 1) % 2 ^ 64)) s.homes r.history (r.ticket + 1)
            (ap (λ l. set l 0 ((x + 1) % 2 ^ 64)) r.words ∙ ap (λ n. n ∷ length r.history ∷ []) next) refl few (omega arith)
            (record {
              same_ground = f.same_ground;
              seen = f.seen;
              also = f.also;
              own_seen = f.own_seen;
              numbered = omega arith;
              in_turn = (omega arith, omega arith);
              inside = λ e. absurd (false≢true' e);
              makes = f.makes;
            })
            (λ j d _ _ g. record { same_ground = g.same_ground; seen = g.seen; also = g.also; own_seen = g.own_seen; numbered = g.numbered; in_turn = in_turn_more (length r.history) r.ticket (r.ticket + 1) (ticket_of d.stage) (omega arith) g.in_turn; inside = g.inside; makes = g.makes })
            (λ t e j d ne there et. let lt = of_some (λ t. (length r.history ≤ t) × (t < r.ticket)) (ticket_of d.stage) t et ((r.fits j d there).in_turn) in
            let same : x ≡ t = some_inj x t e in let below = lt.1 in absurd (omega arith))
            r.names
            (λ all. r.home (quiet s.views id v w at (ap is_inside may) all)),
        refl,
      )

  known : (o : Option G) → IsSome o → IfSome o (λ k. k ≡ ground) → o ≡ Some ground
  known None e p = absurd (false≢true' e)
  known (Some k) e p = ap Some p

  here_at : (l : List V) (i : ℕ) (v : V) → get_elem? l i ≡ some v → i < length l
  here_at [] i v e = absurd (some-ne-none v (sym e))
  here_at (x ∷ xs) zero v e = omega arith
  here_at (x ∷ xs) (suc i) v e = let r = here_at xs i v e in omega arith

  waiting_inside : (st : Stage) (t : ℕ) → st ≡ Waiting t → is_inside st ≡ false
  waiting_inside st t e = ap is_inside e

  look_at : (slots id : ℕ) (me : M) (t : ℕ) → me.0.stage ≡ Waiting t → IsSome me.0.ground → (s : St) (r : Rule s) → get_elem? s.views id ≡ some me.0 → (b : Bool) → eqb (get_or s.words 1 0) t ≡ b
      → (w : V) × (a : Act (Option (Held T E))) × Valid s.homes me.1 a × Rule (stepped s 1 (get_or s.words 1 0) id me.1 w a)
      × MatchBool b (IsIn number ground_of stands me (get_or s.words 1 0) (w, carried_after me.1 a)) ((w, carried_after me.1 a) ≡ me)
  look_at slots id me t waits g s r at false differs = (me.0, keeps, tt, same_state s r 1 id me at, refl)
  look_at slots id me t waits g s r at true found =
      let v : V = me.0 in let x : ℕ = get_or s.words 1 0 in let f = r.fits id v at in
      let is : x ≡ length r.history = ap (λ l. get_or l 1 0) r.words in
      let here : x ≡ t = eqb-true x t found in
      let w : V = record me.0 { seen = r.history; also = []; stage = Inside x } in
      let mine : ticket_of v.stage ≡ Some t = ap ticket_of waits in
      let free : (j : ℕ) (d : V) → get_elem? s.views j ≡ some d → is_inside d.stage ≡ false =
      λ j d e. false_from_ne_true (is_inside d.stage) (λ in_it. let k = (r.fits j d e).inside in_it in
      let same : j ≡ id = r.alone j id d v e at t (k.0 ∙ ap Some (sym is ∙ here)) mine in
      let same_view : d ≡ v = some-injective d v (sym e ∙ (ap (get_elem? s.views) same ∙ at)) in
      false≢true' (sym (ap (λ (z : V). is_inside z.stage) same_view ∙ ap is_inside waits) ∙ in_it)) in
      let home = r.home free in
      let turn : IfSome (ticket_of v.stage) (λ k. (length r.history ≤ k) × (k < r.ticket)) = f.in_turn in
      let lt = of_some (λ k. (length r.history ≤ k) × (k < r.ticket)) (ticket_of v.stage) t mine turn in
      let after = lt.1 in
      let sum = permits-set s.views id v w at in
      let none_had : permit v.stage ≡ 0 = ap permit waits in
      let one_had : one_if (ticket_of v.stage) ≡ 1 = ap one_if mine in
      let numbered = f.numbered in
      let limit = r.limit in (
        w,
        takes 0 (Some home.0),
        ap (λ l. get_elem? l 0) home.1,
        moved s r id v w at (set s.words 1 (get_or s.words 1 0)) (set s.homes 0 none) r.history r.ticket (set-get_or s.words 1 0 ∙ r.words) refl (omega arith) r.behind
            (record {
              same_ground = f.same_ground;
              seen = prefix-refl r.history;
              also = (r.history, refl);
              own_seen = if_some (λ n p. (p.0, p.1, p.1)) v.number f.own_seen;
              numbered = omega arith;
              in_turn = (omega arith, omega arith);
              inside = λ _. (ap Some is, refl);
              makes = f.makes;
            })
            (λ j d _ _ k. k)
            (λ u e j d ne there et. let same : x ≡ u = some_inj x u e in ne (r.alone j id d v there at t (et ∙ ap Some (sym same ∙ here)) mine))
            r.names
            (λ all. absurd (false≢true' (sym (all id w (set_here s.views id w (here_at s.views id v at)))))),
        record {
          held = home.0;
          now = refl;
          stood = home.2;
          ground = known v.ground g f.same_ground ∙ ap Some (sym home.3);
          long = sym is;
          begins = f.seen;
          told = record {
            names = below-more number (passes s.views) (ticket_limit + 1 - v.spare) r.history (room v.spare (passes s.views) r.made (λ l. (f.makes l).1)) r.names;
            shorter = λ _. (r.history, refl);
            own_seen = if_some (λ n p. p.1) v.number f.own_seen;
            whole = λ u e. sym is ∙ inside_inj x u e;
          };
        },
      )

  look_any : (slots id : ℕ) (me : M) (st : Stage) → me.0.stage ≡ st → IsSome me.0.ground → (s : St) (r : Rule s) → get_elem? s.views id ≡ some me.0
      → (w : V) × (a : Act (Option (Held T E))) × Valid s.homes me.1 a × Rule (stepped s 1 (get_or s.words 1 0) id me.1 w a)
      × ((t : ℕ) → me.0.stage ≡ Waiting t → MatchBool (eqb (get_or s.words 1 0) t) (IsIn number ground_of stands me (get_or s.words 1 0) (w, carried_after me.1 a)) ((w, carried_after me.1 a) ≡ me))
  look_any slots id me (Waiting t) is g s r at = let l = look_at slots id me t is g s r at (eqb (get_or s.words 1 0) t) refl in
      (l.0, l.1, l.2, l.3, λ u e. subst (λ k. MatchBool (eqb (get_or s.words 1 0) k) (IsIn number ground_of stands me (get_or s.words 1 0) (l.0, carried_after me.1 l.1)) ((l.0, carried_after me.1 l.1) ≡ me)) (waits_inj t u (sym is ∙ e)) l.4)
  look_any slots id me Idle is g s r at = (me.0, keeps, tt, same_state s r 1 id me at, λ u e. absurd (not_zero u (ap wait_of (sym is ∙ e))))
  look_any slots id me Permitted is g s r at = (me.0, keeps, tt, same_state s r 1 id me at, λ u e. absurd (not_zero u (ap wait_of (sym is ∙ e))))
  look_any slots id me (Inside t) is g s r at = (me.0, keeps, tt, same_state s r 1 id me at, λ u e. absurd (not_zero u (ap wait_of (sym is ∙ e))))

  pub looks_step : (slots id : ℕ) (me : M) → IsSome me.0.ground → Allows Rule slots id me 1 (λ x. x) (looked number ground_of stands (step slots 1 0 0 none) me)
  looks_step slots id me g s r _ at _ = look_any slots id me me.0.stage refl g s r at

  -- another's entries are as many as before
  others_own : (history seen mine : List E) (made n : ℕ) (e : E) → number e ≡ n → (o : Option ℕ) → (o ≡ Some n → ⊥)
      → IfSome o (λ u. (u < made) × (own number u history ≡ mine) × (own number u seen ≡ mine)) → IfSome o (λ u. (u < made) × (own number u (history ++ e ∷ []) ≡ mine) × (own number u seen ≡ mine))
  others_own history seen mine made n e by None ne p = tt
  others_own history seen mine made n e by (Some u) ne p = (p.0, own-other number u history e (λ z. ne (ap Some (sym z ∙ by))) ∙ p.1, p.2)

  of_some_any : (o : Option G) (k : G) → o ≡ Some k → IfSome o (λ z. z ≡ ground) → k ≡ ground
  of_some_any o k e p = subst (λ (z : Option G). IfSome z (λ z. z ≡ ground)) e p

  -- the slot comes home
  put_home : (homes : List (maybe.Option (Option (Held T E)))) (y : Option (Held T E)) → length homes ≡ 1 → set homes 0 (some y) ≡ some y ∷ []
  put_home [] y e = absurd (omega arith)
  put_home (h ∷ []) y e = refl
  put_home (h ∷ k ∷ hs) y e = absurd (omega arith)

  pub publishes_step : (slots id : ℕ) (me : M) (t n : ℕ) (x : Box T Global) (e : E) → slots ≡ 1 → me.0.stage ≡ Inside t → me.0.number ≡ Some n → me.0.ground ≡ Some (ground_of x.value)
      → number e ≡ n → stands x.value (me.0.seen ++ e ∷ []) → me.1 ≡ (0, Some (record { value = x; made = Some e })) ∷ []
      → Allows Rule slots id me 1 (λ k. (k + 1) % 2 ^ 64) (published (step slots 1 1 0 none) me)
  publishes_step slots id me t n x e one in_it named g by stood has s r deep at small =
      let v : V = me.0 in let y : Held T E = record { value = x; made = Some e } in let w : V = record me.0 { seen = me.0.seen ++ e ∷ []; mine = me.0.mine ++ e ∷ []; stage = Idle } in
      let f = r.fits id v at in
      let k : ℕ = get_or s.words 1 0 in
      let is : k ≡ length r.history = ap (λ l. get_or l 1 0) r.words in
      let now = f.inside (ap is_inside in_it) in
      let whole : v.seen ≡ r.history = now.1 in
      let mine : ticket_of v.stage ≡ Some t = ap ticket_of in_it in
      let here : t ≡ length r.history = some_inj t (length r.history) (sym mine ∙ now.0) in
      let turn = of_some (λ u. (length r.history ≤ u) × (u < r.ticket)) (ticket_of v.stage) t mine f.in_turn in
      let lt = turn.1 in
      let limit = r.limit in let made = r.made in let behind = r.behind in
      let next : (k + 1) % 2 ^ 64 ≡ length r.history + 1 = omega (arith, limit_is) in
      let grown : length (r.history ++ e ∷ []) ≡ length r.history + 1 = length-append r.history (e ∷ []) in
      let sum = permits-set s.views id v w at in
      let none_had : permit v.stage ≡ 0 = ap permit in_it in
      let few : r.ticket + permits (set s.views id w) ≤ ticket_limit + passes s.views = omega arith in
      let named_here = of_some (λ u. (u < passes s.views) × (own number u r.history ≡ v.mine) × (own number u v.seen ≡ v.mine)) v.number n named f.own_seen in
      let given : number e < passes s.views = subst (λ u. u < passes s.views) (sym by) named_here.0 in
      let seen_now : me.0.seen ++ e ∷ [] ≡ r.history ++ e ∷ [] = ap (λ z. z ++ e ∷ []) whole in
      let hs : List (maybe.Option (Option (Held T E))) = homes_after s.homes me.1 gives in
      let made_is : made_in me.1 ≡ e ∷ [] = ap made_in has in
      let homed : hs ≡ some (Some y) ∷ [] = ap (put_back s.homes) has ∙ put_home s.homes (Some y) (deep ∙ one) in
      let mine_now : own number n (r.history ++ e ∷ []) ≡ v.mine ++ e ∷ [] = own-mine number n r.history e by ∙ ap (λ z. z ++ e ∷ []) named_here.1 in
      let ground_is : ground_of x.value ≡ ground = of_some_any v.ground (ground_of x.value) g f.same_ground in (
        w,
        gives,
        tt,
        moved s r id v w at (set s.words 1 ((k + 1) % 2 ^ 64)) hs (r.history ++ e ∷ []) r.ticket
            (ap (λ l. set l 1 ((k + 1) % 2 ^ 64)) r.words ∙ ap (λ z. r.ticket ∷ z ∷ []) (next ∙ sym grown)) refl few (omega arith)
            (record {
              same_ground = f.same_ground;
              seen = subst (λ z. IsPrefix z (r.history ++ e ∷ [])) (sym seen_now) (prefix-refl (r.history ++ e ∷ []));
              also = prefix-longer v.also r.history (e ∷ []) f.also;
              own_seen = subst (λ o. IfSome o (λ u. (u < passes s.views) × (own number u (r.history ++ e ∷ []) ≡ w.mine) × (own number u w.seen ≡ w.mine))) (sym named) (named_here.0, mine_now, ap (own number n) seen_now ∙ mine_now);
              numbered = omega arith;
              in_turn = tt;
              inside = λ z. absurd (false≢true' z);
              makes = f.makes;
            })
            (λ j d ne there h. record {
              same_ground = h.same_ground;
              seen = prefix-longer d.seen r.history (e ∷ []) h.seen;
              also = prefix-longer d.also r.history (e ∷ []) h.also;
              own_seen = others_own r.history d.seen d.mine (passes s.views) n e by d.number (λ z. ne (r.apart j id d v there at n z named)) h.own_seen;
              numbered = h.numbered;
              in_turn = subst (λ z. IfSome (ticket_of d.stage) (λ u. (z ≤ u) × (u < r.ticket))) (sym grown)
                  (in_turn_next (length r.history) r.ticket (ticket_of d.stage) (λ u z same. ne (r.alone j id d v there at t (z ∙ ap Some (same ∙ sym here)) mine)) h.in_turn);
              inside = λ z. absurd (ne (r.alone j id d v there at t ((h.inside z).0 ∙ ap Some (sym here)) mine));
              makes = h.makes;
            })
            (λ u z. absurd (none_some u z))
            (below-snoc number (passes s.views) r.history e given r.names)
            (λ _. (y, homed, subst (stands x.value) seen_now stood, ground_is)),
        ((λ i. (record me.0 { seen = me.0.seen ++ sym made_is i; mine = me.0.mine ++ sym made_is i; stage = Idle }, rest (has i))), is ∙ ap length (sym whole), omega (arith, limit_is)),
      )

  too_new : (s : St) (r : Rule s) (i : ℕ) (d : V) (n : ℕ) → get_elem? s.views i ≡ some d → d.number ≡ Some n → passes s.views ≤ n → ⊥
  too_new s r i d n at is le = let p = of_some (λ u. (u < passes s.views) × (own number u r.history ≡ d.mine) × (own number u d.seen ≡ d.mine)) d.number n is ((r.fits i d at).own_seen) in let lt = p.0 in omega arith

  -- more passes were made
  made_more : (h : List E) (ticket a b : ℕ) (d : V) → a ≤ b → (0 < d.spare → ⊥) ⊎ (a ≡ b) → F h ticket a d → F h ticket b d
  made_more h ticket a b d le poor f = record {
    same_ground = f.same_ground;
    seen = f.seen;
    also = f.also;
    own_seen = if_some (λ n p. let lt = p.0 in (omega arith, p.1, p.2)) d.number f.own_seen;
    numbered = f.numbered;
    in_turn = f.in_turn;
    inside = f.inside;
    makes = λ l. ⊎_elim (λ no_room. absurd (no_room l)) (λ same. let m = f.makes l in (m.0, ap (λ z. d.spare + z) (sym same) ∙ m.1)) poor;
  }

  -- a new seat comes from one whose turn stays as it is
  split_any : (s : St) (r : Rule s) (id : ℕ) (v left right : V) → get_elem? s.views id ≡ some v → left.number ≡ v.number → left.stage ≡ v.stage → right.stage ≡ Idle
      → passes s.views + one_if right.number ≤ ticket_limit + 1
      → F r.history r.ticket (passes s.views + one_if right.number) left
      → F r.history r.ticket (passes s.views + one_if right.number) right
      → ((j : ℕ) (d : V) → j ≢ id → get_elem? s.views j ≡ some d → F r.history r.ticket (passes s.views) d → F r.history r.ticket (passes s.views + one_if right.number) d)
      → ((n : ℕ) → right.number ≡ Some n → passes s.views ≤ n)
      → Rule (record { words = s.words; homes = s.homes; views = set s.views id left ++ right ∷ [] })
  split_any s r id v left right at same staged idle fits_in mine new others fresh =
      let vs : List V = set s.views id left in
      let stage_same : permit left.stage ≡ permit v.stage = ap permit staged in
      let sum = permits-set s.views id v left at in let sum2 = permits-snoc vs right in
      let none_new : permit right.stage ≡ 0 = ap permit idle in
      let p = passes-set s.views id v left at in let q : one_if left.number ≡ one_if v.number = ap one_if same in
      let p2 = passes-snoc vs right in
      let count : passes (vs ++ right ∷ []) ≡ passes s.views + one_if right.number = omega arith in
      let limit = r.limit in
      let old : (j : ℕ) (d : V) → get_elem? vs j ≡ some d → (o : V) × (get_elem? s.views j ≡ some o) × (d.number ≡ o.number) × (d.stage ≡ o.stage) =
      each (λ j d. (o : V) × (get_elem? s.views j ≡ some o) × (d.number ≡ o.number) × (d.stage ≡ o.stage)) s.views id left (v, at, same, staged) (λ j d _ e. (d, e, refl, refl)) in
      record {
        history = r.history;
        ticket = r.ticket;
        words = r.words;
        limit = omega arith;
        behind = r.behind;
        made = rw count fits_in;
        fits = rw count (λ j d e. ⊎_elim (each (λ _ x. F r.history r.ticket (passes s.views + one_if right.number) x) s.views id left mine (λ i x ne z. others i x ne z (r.fits i x z)) j d)
            (λ (t : (j ≡ length vs) × (right ≡ d)). subst (F r.history r.ticket (passes s.views + one_if right.number)) t.1 new) (at_snoc_place vs right d j e));
        alone = λ i j a b x y t ta tb. ⊎_elim
            (λ ia. ⊎_elim (λ jb. let oa = old i a ia in let ob = old j b jb in r.alone i j oa.0 ob.0 oa.1 ob.1 t (ap ticket_of (sym oa.3) ∙ ta) (ap ticket_of (sym ob.3) ∙ tb))
            (λ (u : (j ≡ length vs) × (right ≡ b)). absurd (none_some t (ap ticket_of (sym idle) ∙ (ap (λ (z : V). ticket_of z.stage) u.1 ∙ tb)))) (at_snoc_place vs right b j y))
            (λ (u : (i ≡ length vs) × (right ≡ a)). absurd (none_some t (ap ticket_of (sym idle) ∙ (ap (λ (z : V). ticket_of z.stage) u.1 ∙ ta)))) (at_snoc_place vs right a i x);
        apart = λ i j a b x y n na nb. ⊎_elim
            (λ ia. ⊎_elim (λ jb. let oa = old i a ia in let ob = old j b jb in r.apart i j oa.0 ob.0 oa.1 ob.1 n (sym oa.2 ∙ na) (sym ob.2 ∙ nb))
            (λ (u : (j ≡ length vs) × (right ≡ b)). let oa = old i a ia in absurd (too_new s r i oa.0 n oa.1 (sym oa.2 ∙ na) (fresh n (ap (λ (z : V). z.number) u.1 ∙ nb)))) (at_snoc_place vs right b j y))
            (λ (u : (i ≡ length vs) × (right ≡ a)). ⊎_elim (λ jb. let ob = old j b jb in absurd (too_new s r j ob.0 n ob.1 (sym ob.2 ∙ nb) (fresh n (ap (λ (z : V). z.number) u.1 ∙ na))))
            (λ (w : (j ≡ length vs) × (right ≡ b)). u.0 ∙ sym w.0) (at_snoc_place vs right b j y)) (at_snoc_place vs right a i x);
        names = rw count (below-more number (passes s.views) (passes s.views + one_if right.number) r.history (omega arith) r.names);
        home = λ all. r.home (λ j d e. dite (ℕ_discrete j id)
            (λ is. let same_view : d ≡ v = some-injective d v (sym e ∙ (ap (get_elem? s.views) is ∙ at)) in
            ap (λ (z : V). is_inside z.stage) same_view ∙ (ap is_inside (sym staged) ∙ all id left (at_longer vs (right ∷ []) id left (set_here s.views id left (here_at s.views id v at)))))
            (λ ne. all j d (at_longer vs (right ∷ []) j d (set_else s.views id j left ne ∙ e))));
      }

  pub another_splits : (id : ℕ) (v : V) → 0 < v.spare → Splits Rule id v (elder v) (newer v)
  another_splits id v room_left s r at =
      let f = r.fits id v at in let m = f.makes room_left in let sum : v.spare + passes s.views ≡ ticket_limit + 1 = m.1 in
      let n : ℕ = ticket_limit + 1 - v.spare in let is : n ≡ passes s.views = omega arith in
      let names : NamesBelow number n r.history = below-more number (passes s.views) n r.history (omega arith) r.names in
      split_any s r id v (elder v) (newer v) at refl refl refl (omega arith)
      (record {
        same_ground = f.same_ground;
        seen = f.seen;
        also = f.also;
        own_seen = if_some (λ k p. let lt = p.0 in (omega arith, p.1, p.2)) v.number f.own_seen;
        numbered = f.numbered;
        in_turn = f.in_turn;
        inside = f.inside;
        makes = λ _. (m.0, omega arith);
      })
      (record {
        same_ground = f.same_ground;
        seen = f.seen;
        also = (r.history, refl);
        own_seen = (omega arith, own-none number n r.history names, own-none number n v.seen (below-prefix number n v.seen r.history f.seen names));
        numbered = omega arith;
        in_turn = tt;
        inside = λ e. absurd (false≢true' e);
        makes = λ l. absurd (omega arith);
      })
      (λ j d ne there g. made_more r.history r.ticket (passes s.views) (passes s.views + 1) d (omega arith)
      (inl (λ l. ne (r.apart j id d v there at 0 ((g.makes l).0) m.0))) g)
      (λ k e. let same = some_inj n k e in omega arith)

  pub note_splits : (id : ℕ) (v : V) → Splits Rule id v v (noted v)
  note_splits id v s r at = let f = r.fits id v at in let made = r.made in
      let more : (d : V) → F r.history r.ticket (passes s.views) d → F r.history r.ticket (passes s.views + 0) d =
      λ d g. made_more r.history r.ticket (passes s.views) (passes s.views + 0) d (omega arith) (inr (omega arith)) g in
      split_any s r id v v (noted v) at refl refl refl (omega arith)
      (more v f)
      (record {
        same_ground = f.same_ground;
        seen = f.seen;
        also = (r.history, refl);
        own_seen = tt;
        numbered = omega arith;
        in_turn = tt;
        inside = λ e. absurd (false≢true' e);
        makes = λ l. absurd (omega arith);
      })
      (λ j d _ _ g. more d g)
      (λ k e. absurd (none_some k e))

  joined_fits : (s : St) (r : Rule s) (v w : V) → F r.history r.ticket (passes s.views) v → F r.history r.ticket (passes s.views) w → (b : Bool) → ltb (length v.seen) (length w.seen) ≡ b
      → F r.history r.ticket (passes s.views) (record v { seen = cond b w.seen v.seen; also = cond b v.seen w.seen })
  joined_fits s r v w f k true lt = let longer = ltb-true _ _ lt in record {
    same_ground = f.same_ground;
    seen = k.seen;
    also = f.seen;
    own_seen = if_some (λ n p. (p.0, p.1, own-between number n v.seen w.seen r.history v.mine (prefix_both v.seen w.seen r.history f.seen k.seen (omega arith)) k.seen p.2 p.1)) v.number f.own_seen;
    numbered = f.numbered;
    in_turn = f.in_turn;
    inside = λ e. let all = ap length ((f.inside e).1) in let part = prefix_length w.seen r.history k.seen in absurd (omega arith);
    makes = f.makes;
  }
  joined_fits s r v w f k false ge = record {
    same_ground = f.same_ground;
    seen = f.seen;
    also = k.seen;
    own_seen = f.own_seen;
    numbered = f.numbered;
    in_turn = f.in_turn;
    inside = f.inside;
    makes = f.makes;
  }

  pub joins_step : (id : ℕ) (v : V) (other : ℕ) (w : V) → w.number ≡ None → w.stage ≡ Idle → Joins Rule id v other w (joined_view v w) spent_view
  joins_step id v other w anon resting s r at ne there =
      let both : V = joined_view v w in
      let before : get_elem? s.views other ≡ some w = sym (set_else s.views id other both ne) ∙ there in
      let sum = permits-set s.views id v both at in
      let limit = r.limit in
      let one = moved s r id v both at s.words s.homes r.history r.ticket r.words refl (omega arith) r.behind
      (joined_fits s r v w (r.fits id v at) (r.fits other w before) (ltb (length v.seen) (length w.seen)) refl)
      (λ j d _ _ g. g)
      (λ t e j d apart here et. apart (r.alone j id d v here at t et e))
      r.names
      (λ all. r.home (quiet s.views id v both at (all id both (set_here s.views id both (here_at s.views id v at))) all)) in
      let s1 : St = record { words = s.words; homes = s.homes; views = set s.views id both } in
      let gone : V = spent_view in
      let sum1 = permits-set s1.views other w gone there in let c : permit w.stage ≡ 0 = ap permit resting in
      let limit1 = one.limit in
      moved s1 one other w gone there s.words s.homes one.history one.ticket one.words (sym anon) (omega arith) one.behind
      (record {
        same_ground = tt;
        seen = (one.history, refl);
        also = (one.history, refl);
        own_seen = tt;
        numbered = omega arith;
        in_turn = tt;
        inside = λ e. absurd (false≢true' e);
        makes = λ l. absurd (omega arith);
      })
      (λ j d _ _ g. g)
      (λ t e. absurd (none_some t e))
      one.names
      (λ all. one.home (quiet s1.views other w gone there (ap is_inside resting) all))

  pub met_step : (slots id : ℕ) (me : M) → Allows Rule slots id me 1 (λ x. x) (met number (step slots 1 0 0 none) me)
  met_step slots id me s r _ at _ = let f = r.fits id me.0 at in (
    me.0,
    keeps,
    tt,
    same_state s r 1 id me at,
    (
      refl,
      record {
        names = below-prefix number (ticket_limit + 1 - me.0.spare) me.0.seen r.history f.seen
            (below-more number (passes s.views) (ticket_limit + 1 - me.0.spare) r.history (room me.0.spare (passes s.views) r.made (λ l. (f.makes l).1)) r.names);
        shorter = λ le. prefix_both me.0.also me.0.seen r.history f.also f.seen le;
        own_seen = if_some (λ n p. p.2) me.0.number f.own_seen;
        whole = λ u e. let now = f.inside (ap is_inside e) in ap length now.1 ∙ sym (some_inj u (length r.history) (sym (ap ticket_of e) ∙ now.0));
      },
    ),
  )

  single : (j : ℕ) (d : V) → get_elem? (first_view ground ∷ []) j ≡ some d → (j ≡ 0) × (first_view ground ≡ d)
  single zero d e = (refl, some-injective (first_view ground) d e)
  single (suc j) d e = absurd (some-ne-none d (sym e))

  pub opens : (x : Held T E) → stands x.value.value [] → ground_of x.value.value ≡ ground → Rule (record { words = 0 ∷ 0 ∷ []; homes = some (Some x) ∷ []; views = first_view ground ∷ [] })
  opens x stood is =
      let only : (j : ℕ) (d : V) → get_elem? (first_view ground ∷ []) j ≡ some d → (j ≡ 0) × (first_view ground ≡ d) = λ j d e. single j d e in
      record {
        history = [];
        ticket = 0;
        words = refl;
        limit = omega arith;
        behind = le_refl 0;
        made = omega arith;
        fits = λ j d e. subst (F [] 0 1) ((only j d e).1) (record {
          same_ground = refl;
          seen = ([], refl);
          also = ([], refl);
          own_seen = (omega arith, refl, refl);
          numbered = omega arith;
          in_turn = tt;
          inside = λ z. absurd (false≢true' z);
          makes = λ _. (refl, omega arith);
        });
        alone = λ i j a b p q t u w. (only i a p).0 ∙ sym ((only j b q).0);
        apart = λ i j a b p q t u w. (only i a p).0 ∙ sym ((only j b q).0);
        names = All-nil (λ e. number e < 1);
        home = λ _. (x, refl, stood, is);
      }

  word_0 : (t n : ℕ) (ws : List ℕ) (a : ℕ) → t ∷ n ∷ [] ≡ ws → get_elem? ws 0 ≡ some a → t ≡ a
  word_0 t n ws a is e = some-injective t a (ap (λ l. get_elem? l 0) is ∙ e)

  word_1 : (t n : ℕ) (ws : List ℕ) (a : ℕ) → t ∷ n ∷ [] ≡ ws → get_elem? ws 1 ≡ some a → n ≡ a
  word_1 t n ws a is e = some-injective n a (ap (λ l. get_elem? l 1) is ∙ e)

  nobody : (lo hi : ℕ) (o : Option ℕ) → lo ≡ hi → IfSome o (λ t. (lo ≤ t) × (t < hi)) → (n : ℕ) → o ≡ Some n → ⊥
  nobody lo hi None is p n e = none_some n e
  nobody lo hi (Some t) is p n e = let a = p.0 in let b = p.1 in omega arith

  pub ends : (id m : ℕ) (v : V) (ws : List ℕ) (xs : List (Option (Held T E))) (t n : ℕ) (y : Option (Held T E)) → Final (Seen Rule id v) ws xs
      → get_elem? ws 0 ≡ some t → get_elem? ws 1 ≡ some n → get_elem? xs 0 ≡ some y → v.number ≡ Some m → IsSome v.ground → t ≡ n → (x : Held T E) × (y ≡ Some x) × Ends number ground_of stands m v x.value.value
  ends id m v ws xs t n y (s, seen, words, _, vals) at0 at1 aty named has is =
      let r = seen.0 in let at = seen.1 in let f = r.fits id v at in
      let a = word_0 r.ticket (length r.history) ws t (sym r.words ∙ words) at0 in
      let b = word_1 r.ticket (length r.history) ws n (sym r.words ∙ words) at1 in
      let free : (j : ℕ) (d : V) → get_elem? s.views j ≡ some d → is_inside d.stage ≡ false =
      λ j d e. false_from_ne_true (is_inside d.stage) (λ in_it. nobody (length r.history) r.ticket (ticket_of d.stage) (omega arith) ((r.fits j d e).in_turn) (length r.history) (((r.fits j d e).inside in_it).0)) in
      let home = r.home free in
      let there = vals 0 (Some home.0) (ap (λ l. get_elem? l 0) home.1) in
      let same : Some home.0 ≡ y = some-injective (Some home.0) y (sym there ∙ aty) in (
        home.0,
        sym same,
        record {
          history = r.history;
          stood = home.2;
          begins = f.seen;
          same_ground = known v.ground has f.same_ground ∙ ap Some (sym home.3);
          own_all = (of_some (λ u. (u < passes s.views) × (own number u r.history ≡ v.mine) × (own number u v.seen ≡ v.mine)) v.number m named f.own_seen).1;
        },
      )

  pub lost : (id : ℕ) (v : V) (ws : List ℕ) (xs : List (Option (Held T E))) (t n : ℕ) → Final (Seen Rule id v) ws xs → get_elem? ws 0 ≡ some t → get_elem? ws 1 ≡ some n → t ≢ n → (length v.seen ≤ n) × (n < t)
  lost id v ws xs t n (s, seen, words, _, _) at0 at1 ne =
      let r = seen.0 in let behind = r.behind in let long = prefix_length v.seen r.history ((r.fits id v seen.1).seen) in
      let a = word_0 r.ticket (length r.history) ws t (sym r.words ∙ words) at0 in
      let b = word_1 r.ticket (length r.history) ws n (sym r.words ∙ words) at1 in (omega arith, omega arith)

module _ {E G : Type 0} (number : E → ℕ) where
  -- what a step tells, in the words of a pass
  pub told_own : (v : View E G) (n : ℕ) → v.number ≡ Some n → Told number v → own number n v.seen ≡ v.mine
  told_own v n named told = of_some (λ n. own number n v.seen ≡ v.mine) v.number n named told.own_seen

  pub told_names : (v : View E G) (next : ℕ) → next + v.spare ≡ 4611686018427387905 → Told number v → NamesBelow number next v.seen
  told_names v next spared told = let same : ticket_limit + 1 - v.spare ≡ next = omega (arith, limit_is) in subst (λ n. NamesBelow number n v.seen) same told.names
