-- A nexus that nobody has logged in has no task.
use Rattle.std.proofs.Common.{◌≡◌, ℕ, Bool, true, false, cond, Option, Some, None, is_some, option_map, refl, sym, ap, ◌∙◌}
use Rattle.pr_words.specs.declared.nexus.Nexus.{Nexus}
use Rattle.pr_words.specs.Orders.{same_nexus}
use Rattle.pr_model.specs.Worlds.{Task, set_at}
use Rattle.pr_core.specs.declared.seats.Seat.{Seat}
use Rattle.pr_core.specs.Seats.{owner_in, task_in, logged_in, logged_out}
use Rattle.pr_core.specs.States.{progress_in}
use Rattle.pr_core.specs.Stepping.{with_task}
use Rattle.pr_core.specs.Fitting.{AreOwned}
use Rattle.pr_core.proofs.StateLaws.{at_same, owner_now, task_now, idle_now}

no_task : (o : Option Task) → progress_in o ≡ None → o ≡ None
no_task None is = refl
no_task (Some t) is = absurd cc

nobody : (o : Option ℕ) → is_some o ≡ false → o ≡ None
nobody None is = refl
nobody (Some who) is = absurd cc

-- where owners and progress are as before
pub same_owned : (f g : Nexus → Option Seat) → ((m : Nexus) → owner_in (g m) ≡ owner_in (f m)) → ((m : Nexus) → progress_in (task_in (g m)) ≡ progress_in (task_in (f m))) → AreOwned f → AreOwned g
same_owned f g owner progress owned m none = no_task (task_in (g m)) (progress m ∙ ap progress_in (owned m (sym (owner m) ∙ none)))

-- where one seat was changed
set_owned : (seat : Nexus → Option Seat) (n : Nexus) (o : Option Seat) → AreOwned seat → (owner_in o ≡ None → task_in o ≡ None) → AreOwned (set_at seat n o)
set_owned seat n o owned here m = by (same_nexus m n)
  where
    by : (b : Bool) → owner_in (cond b o (seat m)) ≡ None → task_in (cond b o (seat m)) ≡ None
    by true none = here none
    by false none = owned m none

pub login_owned : (who : ℕ) (seat : Nexus → Option Seat) (n : Nexus) → AreOwned seat → AreOwned (set_at seat n (Some (logged_in who n (seat n))))
login_owned who seat n owned = set_owned seat n (Some (logged_in who n (seat n))) owned (λ none. let clash : Some who ≡ None = sym (owner_now who n (seat n)) ∙ none in absurd cc)

pub logout_owned : (seat : Nexus → Option Seat) (n : Nexus) → AreOwned seat → AreOwned (set_at seat n (option_map logged_out (seat n)))
logout_owned seat n owned = set_owned seat n (option_map logged_out (seat n)) owned (λ none. idle_now (seat n))

owner_stays : (t : Option Task) (o : Option Seat) → owner_in (option_map (with_task t) o) ≡ owner_in o
owner_stays t None = refl
owner_stays t (Some s) = refl

pub retasked_owned : (f g : Nexus → Option Seat) (n : Nexus) (t : Option Task) → g ≡ set_at f n (option_map (with_task t) (f n)) → is_some (owner_in (f n)) ≡ true → AreOwned f → AreOwned g
retasked_owned f g n t is has owned =
    rw is (set_owned f n (option_map (with_task t) (f n)) owned (λ none. let clash : is_some (owner_in (f n)) ≡ false = ap is_some (sym (owner_stays t (f n)) ∙ none) in absurd cc))

-- a nexus whose task runs is logged in
pub runs_owned : (f : Nexus → Option Seat) (n : Nexus) (t : Task) → AreOwned f → task_in (f n) ≡ Some t → is_some (owner_in (f n)) ≡ true
runs_owned f n t owned runs = by (owner_in (f n)) refl
  where
    by : (o : Option ℕ) → owner_in (f n) ≡ o → is_some o ≡ true
    by None e = let clash : None ≡ Some t = sym (owned n e) ∙ runs in absurd cc
    by (Some who) e = refl

-- nor has one that is logged in now and wasn't before
pub login_idle : (who : ℕ) (f g : Nexus → Option Seat) (n : Nexus) → g ≡ set_at f n (Some (logged_in who n (f n))) → is_some (owner_in (f n)) ≡ false → AreOwned f → progress_in (task_in (g n)) ≡ None
login_idle who f g n is free owned =
    ap (λ (seat : Nexus → Option Seat). progress_in (task_in (seat n))) is
    ∙ ap (λ (o : Option Seat). progress_in (task_in o)) (at_same f n (Some (logged_in who n (f n))))
    ∙ ap progress_in (task_now who n (f n) ∙ owned n (nobody (owner_in (f n)) free))
