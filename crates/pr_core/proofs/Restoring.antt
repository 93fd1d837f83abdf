-- The seats and the world of a power-up.
use Rattle.std.proofs.Common.{◌≡◌, ℕ, zero, suc, ◌+◌, ◌<◌, ◌≤◌, Bool, true, false, cond, ◌||◌, List, [], ◌∷◌, ◌++◌, length, map, drop, get_or, Option, Some, None, is_some, slice_get, IsTrue, refl, sym, ap, ◌∙◌, subst, arith}
use std.Path.{fun_ext}
use Rattle.std.proofs.lemmas.List.Elements.{All-head, All-tail, All-cons, All-nil}
use Rattle.std.proofs.lemmas.List.{length-map, get_or-map}
use Rattle.pr_words.specs.declared.nexus.Nexus.{Nexus}
use Rattle.pr_words.specs.declared.nexus.Pair.{Pair}
use Rattle.pr_words.specs.declared.code.Code.{Code}
use Rattle.pr_words.specs.Orders.{same_nexus, comes_before}
use Rattle.pr_words.specs.declared.code.TheConstants.Code.{POWER_ON}
use Rattle.pr_words.specs.declared.limits.TheConstants.{LIMIT}
use Rattle.pr_grammar.specs.Standings as standings
use Rattle.pr_grammar.specs.Standings.{Standing, Kept, is_registered, is_port}
use Rattle.pr_model.specs.Registrants.{IsWellFormed}
use Rattle.pr_model.specs.Worlds.{Blocks, Task, opened, restored, is_known}
use Rattle.pr_model.proofs.Came.{same_self}
use Rattle.pr_model.proofs.Orders.{same_is}
use Rattle.pr_param.proofs.Holders.{drop_front}
use Rattle.pr_aptpl.specs.Doubts as keepable
use Rattle.pr_table.specs.Tables.{standing_of}
use Rattle.pr_core.specs.declared.seats.Seat.{Seat}
use Rattle.pr_core.specs.declared.state.State.{State}
use Rattle.pr_core.specs.Places.{seat_in, IsAscending}
use Rattle.pr_core.specs.Seats.{seat_of, count_of, attentions_in, owner_in, task_in, new_seat}
use Rattle.pr_core.specs.States.{Depicts}
use Rattle.pr_core.specs.Fitting.{AllFit, AreOwned, HavePorts}

-- seats of registered nexuses

abbrev pub seats_for : List Pair → List Seat
seats_for ps = map (λ p. new_seat p.nexus) ps

pub one_more_seat : (ps : List Pair) (seats : List Seat) (i : ℕ) (p : Pair) → slice_get ps i ≡ Some p → seats_for ps ≡ seats ++ seats_for (drop i ps) → seats_for ps ≡ (seats ++ new_seat p.nexus ∷ []) ++ seats_for (drop (i + 1) ps)
one_more_seat ps seats i p is before = before ∙ ap (λ (rest : List Pair). seats ++ seats_for rest) (drop_front ps i p is) ∙ joined seats (new_seat p.nexus) (seats_for (drop (i + 1) ps))
  where
    joined : (xs : List Seat) (x : Seat) (ys : List Seat) → xs ++ x ∷ ys ≡ (xs ++ x ∷ []) ++ ys
    joined [] x ys = refl
    joined (s ∷ xs) x ys = ap (λ (rest : List Seat). s ∷ rest) (joined xs x ys)

pub no_more_seats : (ps : List Pair) (seats : List Seat) (i : ℕ) → length ps ≤ i → seats_for ps ≡ seats ++ seats_for (drop i ps) → seats ≡ seats_for ps
no_more_seats ps seats i over before = sym (before ∙ ap (λ (rest : List Pair). seats ++ seats_for rest) (nothing ps i over) ∙ ended seats)
  where
    nothing : (ps : List Pair) (i : ℕ) → length ps ≤ i → drop i ps ≡ []
    nothing [] zero over = refl
    nothing [] (suc i) over = refl
    nothing (p ∷ ps) zero over = absurd (omega (arith, over))
    nothing (p ∷ ps) (suc i) over = nothing ps i (omega (arith, over))

    ended : (xs : List Seat) → xs ++ [] ≡ xs
    ended [] = refl
    ended (x ∷ xs) = ap (λ (rest : List Seat). x ∷ rest) (ended xs)

pub seats_ascend : (ps : List Pair) → standings.IsAscending ps → IsAscending (seats_for ps)
seats_ascend ps up i j d less within =
    let short : j < length ps = subst (λ (k : ℕ). j < k) (length-map ps (λ p. new_seat p.nexus)) within in
    let e : Pair = record { nexus = d.nexus; key = record { 0 = 0 } } in
    subst (λ (s : Seat). comes_before s.nexus (get_or (seats_for ps) j d).nexus ≡ true) (sym (get_or-map (λ p. new_seat p.nexus) ps i e d (omega (arith, less, short))))
    (subst (λ (s : Seat). comes_before (get_or ps i e).nexus s.nexus ≡ true) (sym (get_or-map (λ p. new_seat p.nexus) ps j e d short)) (up i j e less short))

abbrev pub seat_after : List Pair → Nexus → Option Seat
seat_after ps n = cond (is_registered ps n) (Some (new_seat n)) None

pub seat_is : (ps : List Pair) (n : Nexus) → seat_in (seats_for ps) n ≡ seat_after ps n
seat_is [] n = refl
seat_is (p ∷ ps) n = by (same_nexus p.nexus n) refl (seat_is ps n)
  where
    by : (b : Bool) → same_nexus p.nexus n ≡ b → seat_in (seats_for ps) n ≡ seat_after ps n → cond b (Some (new_seat p.nexus)) (seat_in (seats_for ps) n) ≡ cond (b || is_registered ps n) (Some (new_seat n)) None
    by true e rest = ap (λ (m : Nexus). Some (new_seat m)) (same_is p.nexus n e)
    by false e rest = rest

pub seats_are : (ps : List Pair) (items : List Seat) → items ≡ seats_for ps → seat_in items ≡ (λ n. seat_after ps n)
seats_are ps items is = ap seat_in is ∙ fun_ext (seat_is ps)

pub seats_count : (ps : List Pair) (items : List Seat) → items ≡ seats_for ps → length items ≡ length ps
seats_count ps items is = ap length is ∙ length-map ps (λ p. new_seat p.nexus)

-- what each seat holds

after_some : (b : Bool) (n : Nexus) → is_some (cond b (Some (new_seat n)) None) ≡ b
after_some true n = refl
after_some false n = refl

after_attentions : (b : Bool) (n : Nexus) → attentions_in (cond b (Some (new_seat n)) None) ≡ POWER_ON ∷ []
after_attentions true n = refl
after_attentions false n = refl

after_owner : (b : Bool) (n : Nexus) → owner_in (cond b (Some (new_seat n)) None) ≡ None
after_owner true n = refl
after_owner false n = refl

after_task : (b : Bool) (n : Nexus) → task_in (cond b (Some (new_seat n)) None) ≡ None
after_task true n = refl
after_task false n = refl

turned : (m k : Nexus) → same_nexus m k ≡ same_nexus k m
turned m k = by (same_nexus m k) (same_nexus k m) refl refl
  where
    by : (a b : Bool) → same_nexus m k ≡ a → same_nexus k m ≡ b → a ≡ b
    by true true e f = refl
    by true false e f = sym (subst (λ (x : Nexus). same_nexus x m ≡ true) (same_is m k e) (same_self m)) ∙ f
    by false true e f = sym e ∙ subst (λ (x : Nexus). same_nexus x k ≡ true) (same_is k m f) (same_self k)
    by false false e f = refl

known_is : (ps : List Pair) (n : Nexus) → is_known (map (λ (p : Pair). p.nexus) ps) n ≡ is_registered ps n
known_is [] n = refl
known_is (p ∷ ps) n = by (same_nexus n p.nexus) (same_nexus p.nexus n) (turned n p.nexus) (known_is ps n)
  where
    by : (a b : Bool) → a ≡ b → is_known (map (λ (q : Pair). q.nexus) ps) n ≡ is_registered ps n → (a || is_known (map (λ (q : Pair). q.nexus) ps) n) ≡ (b || is_registered ps n)
    by a b e rest = rw (e, rest) refl

-- the state of a power-up
pub restored_depicts : (s : State) (k : Kept) (m : Blocks) (tells : Bool) → m.count ≡ s.blocks → standing_of s.table ≡ restored k
    → seat_of s.seats ≡ (λ n. seat_after (standing_of s.table).pairs n) → count_of s.seats ≡ length (standing_of s.table).pairs → Depicts s (opened m tells k)
restored_depicts s k m tells blocks standing seats count =
    let ps : List Pair = (restored k).pairs in
    let seat : (n : Nexus) → seat_of s.seats n ≡ seat_after ps n = λ n. ap (λ (f : Nexus → Option Seat). f n) seats ∙ ap (λ (t : Standing). seat_after t.pairs n) standing in
    record {
      blocks = blocks;
      known = map (λ (p : Pair). p.nexus) ps;
      lists = record {
        count = length-map ps (λ (p : Pair). p.nexus) ∙ sym (count ∙ ap (λ (t : Standing). length t.pairs) standing);
        same = λ n. known_is ps n ∙ sym (ap is_some (seat n) ∙ after_some (is_registered ps n) n);
      };
      world =
          ap (λ (t : Standing). record (opened m tells k) { standing = t }) (sym standing)
          ∙ ap (λ (a : Nexus → List Code). record (opened m tells k) { standing = standing_of s.table; attentions = a }) (fun_ext (λ n. sym (ap attentions_in (seat n) ∙ after_attentions (is_registered ps n) n)))
          ∙ ap (λ (o : Nexus → Option ℕ). record (opened m tells k) { standing = standing_of s.table; attentions = λ n. attentions_in (seat_of s.seats n); owner = o }) (fun_ext (λ n. sym (ap owner_in (seat n) ∙ after_owner (is_registered ps n) n)))
          ∙ ap (λ (t : Nexus → Option Task). record (opened m tells k) { standing = standing_of s.table; attentions = λ n. attentions_in (seat_of s.seats n); owner = λ n. owner_in (seat_of s.seats n); task = t }) (fun_ext (λ n. sym (ap task_in (seat n) ∙ after_task (is_registered ps n) n)));
    }

-- the ports of registrants

abbrev HasPort : Pair → Type 0
HasPort p = IsTrue (is_port p.nexus.port)

port_of : (ps : List Pair) (n : Nexus) → keepable.HavePorts ps → is_registered ps n ≡ true → is_port n.port ≡ true
port_of [] n ports registered = absurd cc
port_of (p ∷ ps) n ports registered = by (same_nexus p.nexus n) refl registered (λ rest. port_of ps n (All-tail HasPort p ps ports) rest)
  where
    by : (b : Bool) → same_nexus p.nexus n ≡ b → (b || is_registered ps n) ≡ true → (is_registered ps n ≡ true → is_port n.port ≡ true) → is_port n.port ≡ true
    by true e is rest = ap (λ (m : Nexus). is_port m.port) (sym (same_is p.nexus n e)) ∙ All-head HasPort p ps ports
    by false e is rest = rest is

pub have_ports : (ps : List Pair) → ((n : Nexus) → is_registered ps n ≡ true → is_port n.port ≡ true) → keepable.HavePorts ps
have_ports [] each = All-nil HasPort
have_ports (p ∷ ps) each = All-cons HasPort p ps (each p.nexus (rw (same_self p.nexus) refl)) (have_ports ps (λ n is. each n (later (same_nexus p.nexus n) (is_registered ps n) is)))
  where
    later : (a b : Bool) → b ≡ true → (a || b) ≡ true
    later true b is = refl
    later false b is = is

-- its seats fit, and nobody is logged in

module _ (f : Nexus → Option Seat) (ps : List Pair) (is : f ≡ (λ n. seat_after ps n)) where
  seat_at : (n : Nexus) → f n ≡ seat_after ps n
  seat_at n = ap (λ (g : Nexus → Option Seat). g n) is

  pub restored_seated : (n : Nexus) → is_registered ps n ≡ true → is_some (f n) ≡ true
  restored_seated n registered = ap is_some (seat_at n) ∙ after_some (is_registered ps n) n ∙ registered

  pub restored_fits : (blocks : ℕ) → AllFit blocks f
  restored_fits blocks n t runs = let clash : None ≡ Some t = sym (ap task_in (seat_at n) ∙ after_task (is_registered ps n) n) ∙ runs in absurd cc

  pub restored_owned : AreOwned f
  restored_owned n none = ap task_in (seat_at n) ∙ after_task (is_registered ps n) n

  pub restored_ports : keepable.HavePorts ps → HavePorts f
  restored_ports ports n known = port_of ps n ports (sym (after_some (is_registered ps n) n) ∙ ap is_some (sym (seat_at n)) ∙ known)

-- the state's registrants are well formed
pub formed_of : (s : State) → IsWellFormed LIMIT (standing_of s.table)
formed_of s = record { within = s.within; ascending = s.ascending; keys = s.keys; sound = s.sound }
