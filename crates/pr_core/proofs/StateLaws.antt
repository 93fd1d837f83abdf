-- What logins and logouts make of the worlds for which a state stands.
use Rattle.std.proofs.Common.{◌≡◌, ◌⊎◌, inl, inr, ℕ, ◌+◌, ◌≤◌, Bool, true, false, cond, not, nat_lt, ◌&&◌, ◌||◌, List, [], ◌∷◌, ◌++◌, length, Option, Some, None, is_some, option_map, if◌then◌else◌, refl, sym, ap, ◌∙◌, arith}
use Rattle.std.proofs.lemmas.Bool.{true≢false, false≢true}
use Rattle.std.proofs.lemmas.List.{length-append}
use Rattle.std.proofs.lemmas.List.Folds.{list_any-append}
use Rattle.std.proofs.lemmas.Bool.Decides.{nat_tests}
use std.Path.{fun_ext}
use Rattle.pr_words.specs.declared.nexus.Nexus.{Nexus}
use Rattle.pr_words.specs.declared.code.Code.{Code}
use Rattle.pr_words.specs.Orders.{same_nexus}
use Rattle.pr_words.specs.declared.limits.TheConstants.{KNOWN}
use Rattle.pr_grammar.specs.Standings.{Standing}
use Rattle.pr_model.specs.Worlds.{World, Task, set_at, is_known}
use Rattle.pr_model.specs.Histories as moves
use Rattle.pr_model.specs.Histories.{with_known, is_port, login_code}
use Rattle.pr_model.proofs.Orders.{same_is}
use Rattle.pr_table.specs.Tables.{standing_of}
use Rattle.pr_core.specs.declared.seats.Seat.{Seat}
use Rattle.pr_core.specs.declared.seats.Seats.{Seats}
use Rattle.pr_core.specs.declared.state.State.{State}
use Rattle.pr_core.specs.Seats.{seat_of, count_of, attentions_in, owner_in, task_in, logged_in, logged_out, Lists}
use Rattle.pr_core.specs.States.{Depicts, owner_at, progress_in}
use Rattle.pr_core.specs.Fitting.{Fits, AllFit, HavePorts}
use Rattle.pr_core.proofs.SeatLaws.{same_self}

-- the seat of one nexus is changed

pub at_same : {A : Type 0} (f : Nexus → A) (n : Nexus) (x : A) → set_at f n x n ≡ x
at_same f n x = rw (same_self n) refl

seen_changed : {A : Type 0} (g : Option Seat → A) (seat : Nexus → Option Seat) (n : Nexus) (o : Option Seat) (x : A) → g o ≡ x → (λ m. g (set_at seat n o m)) ≡ set_at (λ m. g (seat m)) n x
seen_changed {A} g seat n o x e = fun_ext (λ m. by m (same_nexus m n))
  where
    by : (m : Nexus) (b : Bool) → g (cond b o (seat m)) ≡ cond b x (g (seat m))
    by m true = e
    by m false = refl

seen_same : {A : Type 0} (g : Option Seat → A) (seat : Nexus → Option Seat) (n : Nexus) (o : Option Seat) → g o ≡ g (seat n) → (m : Nexus) → g (set_at seat n o m) ≡ g (seat m)
seen_same {A} g seat n o e m = by (same_nexus m n) refl
  where
    by : (b : Bool) → same_nexus m n ≡ b → g (cond b o (seat m)) ≡ g (seat m)
    by true f = e ∙ ap (λ k. g (seat k)) (sym (same_is m n f))
    by false f = refl

pub stays_seated : (seat : Nexus → Option Seat) (n : Nexus) (s : Seat) (m : Nexus) → is_some (seat m) ≡ true → is_some (set_at seat n (Some s) m) ≡ true
stays_seated seat n s m e = by (same_nexus m n)
  where
    by : (b : Bool) → is_some (cond b (Some s) (seat m)) ≡ true
    by true = refl
    by false = e

some_mapped : (f : Seat → Seat) (o : Option Seat) → is_some (option_map f o) ≡ is_some o
some_mapped f None = refl
some_mapped f (Some s) = refl

pub seated_same : (f : Seat → Seat) (seat : Nexus → Option Seat) (n m : Nexus) → is_some (set_at seat n (option_map f (seat n)) m) ≡ is_some (seat m)
seated_same f seat n m = seen_same is_some seat n (option_map f (seat n)) (some_mapped f (seat n)) m

-- who has another nexus logged in keeps it
pub others_stay : (seat : Nexus → Option Seat) (n : Nexus) (o : Option Seat) (other : ℕ) (m : Nexus) → (owner_in (seat n) ≡ Some other → ⊥) → owner_in (seat m) ≡ Some other → owner_in (set_at seat n o m) ≡ Some other
others_stay seat n o other m not_here e = by (same_nexus m n) refl
  where
    by : (b : Bool) → same_nexus m n ≡ b → owner_in (cond b o (seat m)) ≡ Some other
    by true f = absurd (not_here (ap (λ k. owner_in (seat k)) (sym (same_is m n f)) ∙ e))
    by false f = e

-- the known nexuses after a login

known_more : (known : List Nexus) (n m : Nexus) → is_known (with_known known n) m ≡ (same_nexus m n || is_known known m)
known_more known n m = by (is_known known n) (same_nexus m n) refl refl
  where
    by : (b c : Bool) → is_known known n ≡ b → same_nexus m n ≡ c → is_known (cond b known (known ++ n ∷ [])) m ≡ (c || is_known known m)
    by true true e f = ap (is_known known) (same_is m n f) ∙ e
    by true false e f = refl
    by false true e f = list_any-append (same_nexus m) known (n ∷ []) ∙ rw f (or_true (is_known known m))
      where
        or_true : (b : Bool) → (b || (true || false)) ≡ true
        or_true true = refl
        or_true false = refl
    by false false e f = list_any-append (same_nexus m) known (n ∷ []) ∙ rw f (or_false (is_known known m))
      where
        or_false : (b : Bool) → (b || (false || false)) ≡ b
        or_false true = refl
        or_false false = refl

login_lists : (known : List Nexus) (old new : Seats) (n : Nexus) (s : Seat) → seat_of new ≡ set_at (seat_of old) n (Some s) → count_of new ≡ (if is_some (seat_of old n) then count_of old else count_of old + 1) → Lists known old → Lists (with_known known n) new
login_lists known old new n s seat count lists =
    record {
      count = by_count (is_known known n) refl;
      same = λ m. known_more known n m ∙ rw (seat, lists.same m) (by_same m (same_nexus m n));
    }
  where
    by_same : (m : Nexus) (b : Bool) → (b || is_some (seat_of old m)) ≡ is_some (cond b (Some s) (seat_of old m))
    by_same m true = refl
    by_same m false = refl

    by_count : (b : Bool) → is_known known n ≡ b → length (cond b known (known ++ n ∷ [])) ≡ count_of new
    by_count true e = lists.count ∙ sym (count ∙ rw (sym (lists.same n) ∙ e) refl)
    by_count false e = length-append known (n ∷ []) ∙ ap (λ k. k + 1) lists.count ∙ sym (count ∙ rw (sym (lists.same n) ∙ e) refl)

-- the worlds

abbrev world_of : World → Standing → List Nexus → (Nexus → List Code) → (Nexus → Option ℕ) → (Nexus → Option Task) → World
world_of w standing known attentions owner task =
    record w { standing = standing; known = known; attentions = attentions; owner = owner; task = task }

same_world : (w : World) (standing : Standing) (known : List Nexus) (a b : Nexus → List Code) (p q : Nexus → Option ℕ) (t u : Nexus → Option Task) → a ≡ b → p ≡ q → t ≡ u
    → world_of w standing known a p t ≡ world_of w standing known b q u
same_world w standing known a b p q t u e f g =
    ap (λ x. world_of w standing known x p t) e ∙ ap (λ x. world_of w standing known b x t) f ∙ ap (world_of w standing known b q) g

pub owner_now : (who : ℕ) (n : Nexus) (o : Option Seat) → owner_in (Some (logged_in who n o)) ≡ Some who
owner_now who n None = refl
owner_now who n (Some s) = refl

attentions_now : (who : ℕ) (n : Nexus) (o : Option Seat) → attentions_in (Some (logged_in who n o)) ≡ attentions_in o
attentions_now who n None = refl
attentions_now who n (Some s) = refl

pub task_now : (who : ℕ) (n : Nexus) (o : Option Seat) → task_in (Some (logged_in who n o)) ≡ task_in o
task_now who n None = refl
task_now who n (Some s) = refl

pub login_depicts : (old new : State) (who : ℕ) (n : Nexus) → standing_of new.table ≡ standing_of old.table → new.blocks ≡ old.blocks → seat_of new.seats ≡ set_at (seat_of old.seats) n (Some (logged_in who n (seat_of old.seats n))) → count_of new.seats ≡ (if is_some (seat_of old.seats n) then count_of old.seats else count_of old.seats + 1) → (w : World) → Depicts old w → Depicts new (moves.logged_in w who n)
login_depicts old new who n table blocks seat count w depicts =
    let before = seat_of old.seats in
    let s = logged_in who n (before n) in
    record {
      blocks = depicts.blocks ∙ sym blocks;
      known = with_known depicts.known n;
      lists = login_lists depicts.known old.seats new.seats n s seat count depicts.lists;
      world =
          ap (λ v. moves.logged_in v who n) depicts.world
          ∙ rw (table, seat) (sym (same_world w (standing_of old.table) (with_known depicts.known n) _ _ _ _ _ _
          (fun_ext (seen_same attentions_in before n (Some s) (attentions_now who n (before n))))
          (seen_changed owner_in before n (Some s) (Some who) (owner_now who n (before n)))
          (fun_ext (seen_same task_in before n (Some s) (task_now who n (before n))))));
    }

nobody_now : (o : Option Seat) → owner_in (option_map logged_out o) ≡ None
nobody_now None = refl
nobody_now (Some s) = refl

still_waiting : (o : Option Seat) → attentions_in (option_map logged_out o) ≡ attentions_in o
still_waiting None = refl
still_waiting (Some s) = refl

pub idle_now : (o : Option Seat) → task_in (option_map logged_out o) ≡ None
idle_now None = refl
idle_now (Some s) = refl

pub logout_depicts : (old new : State) (n : Nexus) → standing_of new.table ≡ standing_of old.table → new.blocks ≡ old.blocks → seat_of new.seats ≡ set_at (seat_of old.seats) n (option_map logged_out (seat_of old.seats n)) → count_of new.seats ≡ count_of old.seats → (w : World) → Depicts old w → Depicts new (moves.logged_out w n)
logout_depicts old new n table blocks seat count w depicts =
    let before = seat_of old.seats in
    let o = option_map logged_out (before n) in
    record {
      blocks = depicts.blocks ∙ sym blocks;
      known = depicts.known;
      lists = record { count = depicts.lists.count ∙ sym count; same = λ m. depicts.lists.same m ∙ sym (rw seat (seated_same logged_out before n m)) };
      world =
          ap (λ v. moves.logged_out v n) depicts.world
          ∙ rw (table, seat) (sym (same_world w (standing_of old.table) depicts.known _ _ _ _ _ _
          (fun_ext (seen_same attentions_in before n o (still_waiting (before n))))
          (seen_changed owner_in before n o None (nobody_now (before n)))
          (seen_changed task_in before n o None (idle_now (before n)))));
    }

-- a login that none of the refusals concerns

pub port_by : (port : ℕ) → (port ≡ 0 → ⊥) → port ≤ 16 → is_port port ≡ true
port_by port some le = grind (arith, nat_tests)

not_full : (known full : Bool) → (known ≡ true) ⊎ (full ≡ false) → (not known && full) ≡ false
not_full true full e = refl
not_full false false e = refl
not_full false true (inl e) = absurd (false≢true e)
not_full false true (inr e) = absurd (true≢false e)

pub accepted_code : (s : State) (w : World) (version : ℕ) (n : Nexus) → Depicts s w → version ≡ 1 → (n.port ≡ 0 → ⊥) → n.port ≤ 16 → is_some (owner_at s n) ≡ false
    → (is_some (seat_of s.seats n) ≡ true) ⊎ (not (nat_lt (count_of s.seats) KNOWN) ≡ false) → login_code w version n ≡ 0
accepted_code s w version n depicts one some le nobody room =
    let full = not_full (is_some (seat_of s.seats n)) (not (nat_lt (count_of s.seats) KNOWN)) room in
    ap (λ v. login_code v version n) depicts.world ∙ rw (one, port_by n.port some le, nobody, depicts.lists.same n, depicts.lists.count, full) refl

-- tasks

-- where one seat was changed, whose task fits, all do
pub set_fits : (blocks : ℕ) (seat : Nexus → Option Seat) (n : Nexus) (o : Option Seat) → AllFit blocks seat → ((t : Task) → task_in o ≡ Some t → Fits blocks t) → AllFit blocks (set_at seat n o)
set_fits blocks seat n o all here m t = by (same_nexus m n)
  where
    by : (b : Bool) → task_in (cond b o (seat m)) ≡ Some t → Fits blocks t
    by true is = here t is
    by false is = all m t is

pub login_fits : (blocks who : ℕ) (seat : Nexus → Option Seat) (n : Nexus) → AllFit blocks seat → AllFit blocks (set_at seat n (Some (logged_in who n (seat n))))
login_fits blocks who seat n all = set_fits blocks seat n (Some (logged_in who n (seat n))) all (λ t is. all n t (sym (task_now who n (seat n)) ∙ is))

pub logout_fits : (blocks : ℕ) (seat : Nexus → Option Seat) (n : Nexus) → AllFit blocks seat → AllFit blocks (set_at seat n (option_map logged_out (seat n)))
logout_fits blocks seat n all = set_fits blocks seat n (option_map logged_out (seat n)) all (λ t is. let clash : None ≡ Some t = sym (idle_now (seat n)) ∙ is in absurd cc)

-- the task of another nexus is as it was
pub others_go_on : (seat : Nexus → Option Seat) (n : Nexus) (o : Option Seat) (other : ℕ) (m : Nexus) → (owner_in (seat n) ≡ Some other → ⊥) → owner_in (seat m) ≡ Some other → progress_in (task_in (set_at seat n o m)) ≡ progress_in (task_in (seat m))
others_go_on seat n o other m not_here e = by (same_nexus m n) refl
  where
    by : (b : Bool) → same_nexus m n ≡ b → progress_in (task_in (cond b o (seat m))) ≡ progress_in (task_in (seat m))
    by true f = absurd (not_here (ap (λ k. owner_in (seat k)) (sym (same_is m n f)) ∙ e))
    by false f = refl

pub elsewhere : (seat : Nexus → Option Seat) (n : Nexus) (o : Option Seat) (m : Nexus) → same_nexus m n ≡ false → set_at seat n o m ≡ seat m
elsewhere seat n o m other = rw other refl

-- a nexus that is known has a port, also where another one is known with its own
pub set_ports : (seat : Nexus → Option Seat) (n : Nexus) (o : Option Seat) → HavePorts seat → is_port n.port ≡ true → HavePorts (set_at seat n o)
set_ports seat n o ports here m = by (same_nexus m n) refl
  where
    by : (b : Bool) → same_nexus m n ≡ b → is_some (cond b o (seat m)) ≡ true → is_port m.port ≡ true
    by true e is = ap (λ (k : Nexus). is_port k.port) (same_is m n e) ∙ here
    by false e is = ports m is

pub same_ports : (f g : Nexus → Option Seat) → ((m : Nexus) → is_some (g m) ≡ is_some (f m)) → HavePorts f → HavePorts g
same_ports f g same ports m is = ports m (sym (same m) ∙ is)
