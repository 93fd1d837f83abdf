-- The world of a state in which one seat has another task.
use Rattle.std.proofs.Common.{◌≡◌, ℕ, Bool, true, false, cond, List, Option, Some, None, option_map, is_some, refl, sym, ap, ◌∙◌, subst}
use std.Path.{fun_ext}
use Rattle.pr_words.specs.declared.nexus.Nexus.{Nexus}
use Rattle.pr_words.specs.declared.code.Code.{Code}
use Rattle.pr_words.specs.Orders.{same_nexus}
use Rattle.pr_grammar.specs.Standings.{Standing}
use Rattle.pr_model.specs.Worlds.{Blocks, World, Task, set_at}
use Rattle.pr_model.proofs.Orders.{same_is}
use Rattle.pr_table.specs.Tables.{standing_of}
use Rattle.pr_core.specs.declared.seats.Seat.{Seat}
use Rattle.pr_core.specs.declared.state.State.{State}
use Rattle.pr_core.specs.Seats.{seat_of, count_of, attentions_in, task_in}
use Rattle.pr_core.specs.States.{Depicts, world_with}
use Rattle.pr_core.specs.Stepping.{with_task}
use Rattle.pr_core.specs.Fitting.{Fits, AllFit}
use Rattle.pr_core.proofs.StateLaws.{set_fits, seated_same}
use Rattle.pr_core.proofs.Going.{set_owner}

-- the state after it
pub record Retasks (old new : State) (n : Nexus) (t : Option Task) : Type 0 where
  pub standing : standing_of new.table ≡ standing_of old.table
  pub blocks : new.blocks ≡ old.blocks
  pub seat : seat_of new.seats ≡ set_at (seat_of old.seats) n (option_map (with_task t) (seat_of old.seats n))
  pub count : count_of new.seats ≡ count_of old.seats
  pub known : is_some (seat_of old.seats n) ≡ true

attentions_stay : (t : Option Task) (o : Option Seat) → attentions_in (option_map (with_task t) o) ≡ attentions_in o
attentions_stay t None = refl
attentions_stay t (Some s) = refl

set_attentions : (f g : Nexus → Option Seat) (n : Nexus) (t : Option Task) → g ≡ set_at f n (option_map (with_task t) (f n)) → (m : Nexus) → attentions_in (g m) ≡ attentions_in (f m)
set_attentions f g n t is m = ap (λ (h : Nexus → Option Seat). attentions_in (h m)) is ∙ by (same_nexus m n) refl
  where
    by : (b : Bool) → same_nexus m n ≡ b → attentions_in (cond b (option_map (with_task t) (f n)) (f m)) ≡ attentions_in (f m)
    by true e = attentions_stay t (f n) ∙ ap (λ (k : Nexus). attentions_in (f k)) (sym (same_is m n e))
    by false e = refl

set_task : (f g : Nexus → Option Seat) (n : Nexus) (t : Option Task) → is_some (f n) ≡ true → g ≡ set_at f n (option_map (with_task t) (f n)) → (m : Nexus) → task_in (g m) ≡ set_at (λ k. task_in (f k)) n t m
set_task f g n t known is m = ap (λ (h : Nexus → Option Seat). task_in (h m)) is ∙ by (same_nexus m n)
  where
    given : (o : Option Seat) → is_some o ≡ true → task_in (option_map (with_task t) o) ≡ t
    given None k = absurd cc
    given (Some s) k = refl

    by : (b : Bool) → task_in (cond b (option_map (with_task t) (f n)) (f m)) ≡ cond b t (task_in (f m))
    by true = given (f n) known
    by false = refl

-- a world like the one before it, with that task, and over another medium of as many blocks
pub retasked : (old new : State) (n : Nexus) (t : Option Task) (m : Blocks) (w : World) → Retasks old new n t → Depicts old w → m.count ≡ w.medium.count → Depicts new (record w { medium = m; task = set_at w.task n t })
retasked old new n t m w r depicts same =
    let f : Nexus → Option Seat = seat_of old.seats in
    let g : Nexus → Option Seat = seat_of new.seats in
    let v : World = record w { medium = m } in
    record {
      blocks = same ∙ depicts.blocks ∙ sym r.blocks;
      known = depicts.known;
      lists = record {
        count = depicts.lists.count ∙ sym r.count;
        same = λ k. depicts.lists.same k ∙ sym (ap (λ (h : Nexus → Option Seat). is_some (h k)) r.seat ∙ seated_same (with_task t) f n k);
      };
      world =
          ap (λ (x : World). record x { medium = m; task = set_at x.task n t }) depicts.world
          ∙ ap (λ (s : Standing). record (world_with v s f depicts.known) { task = set_at (λ k. task_in (f k)) n t }) (sym r.standing)
          ∙ ap (λ (a : Nexus → List Code). record (world_with v (standing_of new.table) f depicts.known) { attentions = a; task = set_at (λ k. task_in (f k)) n t }) (fun_ext (λ k. sym (set_attentions f g n t r.seat k)))
          ∙ ap (λ (o : Nexus → Option ℕ). record (world_with v (standing_of new.table) g depicts.known) { owner = o; task = set_at (λ k. task_in (f k)) n t }) (fun_ext (λ k. sym (set_owner f g n t r.seat k)))
          ∙ ap (λ (u : Nexus → Option Task). record (world_with v (standing_of new.table) g depicts.known) { task = u }) (fun_ext (λ k. sym (set_task f g n t r.known r.seat k)));
    }

pub retasked_is : (old new : State) (n : Nexus) (t : Option Task) (m : Blocks) (w v : World) → Retasks old new n t → Depicts old w → m.count ≡ w.medium.count → v ≡ record w { medium = m; task = set_at w.task n t } → Depicts new v
retasked_is old new n t m w v r depicts same is = subst (λ (x : World). Depicts new x) (sym is) (retasked old new n t m w r depicts same)

pub retasked_fits : (blocks : ℕ) (f g : Nexus → Option Seat) (n : Nexus) (t : Option Task) → g ≡ set_at f n (option_map (with_task t) (f n)) → AllFit blocks f → ((u : Task) → t ≡ Some u → Fits blocks u) → AllFit blocks g
retasked_fits blocks f g n t is all fit = rw is (set_fits blocks f n (option_map (with_task t) (f n)) all (each (f n)))
  where
    each : (o : Option Seat) (u : Task) → task_in (option_map (with_task t) o) ≡ Some u → Fits blocks u
    each None u e = absurd cc
    each (Some s) u e = fit u e
