-- What commands make of how far tasks have come.
use Rattle.std.proofs.Common.{◌≡◌, ℕ, Bool, true, false, cond, List, length, take, ◌≤◌, arith, Option, Some, None, option_map, is_some, refl, sym, ap, ◌∙◌, unwrap_or}
use Rattle.pr_words.specs.declared.nexus.Nexus.{Nexus}
use Rattle.pr_words.specs.declared.task.Way.{Way}
use Rattle.pr_words.specs.Orders.{same_nexus}
use Rattle.pr_model.specs.Worlds.{Task, set_at}
use Rattle.pr_model.proofs.Orders.{same_is}
use Rattle.pr_core.specs.declared.seats.Seat.{Seat}
use Rattle.pr_core.specs.declared.state.State.{State}
use Rattle.pr_core.specs.declared.answers.CommandOut.{CommandOut}
use Rattle.pr_core.specs.declared.answers.CommandOut.TheVariants as outs
use Rattle.pr_core.specs.Seats.{owner_in, task_in}
use Rattle.pr_core.specs.States.{Progress, owner_at, progress_at, progress_in, TasksStay, KeepsOthersAt}
use Rattle.std.proofs.lemmas.List.{length-take}
use Rattle.pr_core.specs.declared.admitted.Admitted.{Admitted}
use Rattle.pr_core.specs.declared.admitted.Admitted.TheVariants as admitted
use Rattle.pr_core.specs.Feeding.{announced}
use Rattle.pr_core.specs.Passing.{HasData, IsBegun}
use Rattle.pr_core.specs.Outs.{Begins, IsEnded, IsFed, LeavesData}
use Rattle.pr_core.specs.Stepping.{with_task}
use Rattle.pr_core.proofs.StateLaws.{elsewhere, at_same}

pub ended_begins : (r : CommandOut) (now : Option Progress) → IsEnded r → now ≡ None → Begins r now
ended_begins (outs.Ended s sense len) now ended is = is
ended_begins (outs.Started way count) now ended is = absurd ended

pub same_tasks : (n : Nexus) (old new : State) → progress_at new ≡ progress_at old → TasksStay n old new
same_tasks n old new same m other = ap (λ (p : Nexus → Option Progress). p m) same

pub same_idle : (n : Nexus) (old new : State) → progress_at new ≡ progress_at old → progress_at old n ≡ None → progress_at new n ≡ None
same_idle n old new same idle = ap (λ (p : Nexus → Option Progress). p n) same ∙ idle

pub tasks_more : (n : Nexus) (a b c : State) → progress_at b ≡ progress_at a → TasksStay n b c → TasksStay n a c
tasks_more n a b c same stay m other = stay m other ∙ ap (λ (p : Nexus → Option Progress). p m) same

pub others_keep : (who : ℕ) (n : Nexus) (old new : State) → owner_at old n ≡ Some who → owner_at new ≡ owner_at old → TasksStay n old new → KeepsOthersAt who old new
others_keep who n old new owns same stay other m apart owned =
    (ap (λ (owner : Nexus → Option ℕ). owner m) same ∙ owned, by (same_nexus m n) refl)
  where
    by : (b : Bool) → same_nexus m n ≡ b → progress_at new m ≡ progress_at old m
    by true e = absurd (apart (ap (λ (o : Option ℕ). unwrap_or o other) (sym owned ∙ ap (owner_at old) (same_is m n e) ∙ owns)))
    by false e = stay m e

pub others_seated : (who : ℕ) (n : Nexus) (f g : Nexus → Option Seat) → owner_in (f n) ≡ Some who → ((m : Nexus) → owner_in (g m) ≡ owner_in (f m)) → ((m : Nexus) → same_nexus m n ≡ false → progress_in (task_in (g m)) ≡ progress_in (task_in (f m)))
    → (other : ℕ) (m : Nexus) → (other ≡ who → ⊥) → owner_in (f m) ≡ Some other → (owner_in (g m) ≡ Some other) × (progress_in (task_in (g m)) ≡ progress_in (task_in (f m)))
others_seated who n f g owns same stay other m apart owned = (same m ∙ owned, by (same_nexus m n) refl)
  where
    by : (b : Bool) → same_nexus m n ≡ b → progress_in (task_in (g m)) ≡ progress_in (task_in (f m))
    by true e = absurd (apart (ap (λ (o : Option ℕ). unwrap_or o other) (sym owned ∙ ap (λ (k : Nexus). owner_in (f k)) (same_is m n e) ∙ owns)))
    by false e = stay m e

-- one seat has another task

pub set_stays : (f g : Nexus → Option Seat) (n : Nexus) (o : Option Seat) → g ≡ set_at f n o → (m : Nexus) → same_nexus m n ≡ false → progress_in (task_in (g m)) ≡ progress_in (task_in (f m))
set_stays f g n o is m other = ap (λ (h : Nexus → Option Seat). progress_in (task_in (h m))) is ∙ ap (λ (x : Option Seat). progress_in (task_in x)) (elsewhere f n o m other)

task_given : (t : Option Task) (o : Option Seat) → is_some o ≡ true → task_in (option_map (with_task t) o) ≡ t
task_given t None known = absurd cc
task_given t (Some s) known = refl

pub set_here : (f g : Nexus → Option Seat) (n : Nexus) (t : Option Task) → is_some (f n) ≡ true → g ≡ set_at f n (option_map (with_task t) (f n)) → task_in (g n) ≡ t
set_here f g n t known is = ap (λ (h : Nexus → Option Seat). task_in (h n)) is ∙ ap task_in (at_same f n (option_map (with_task t) (f n))) ∙ task_given t (f n) known

owner_stays : (t : Option Task) (o : Option Seat) → owner_in (option_map (with_task t) o) ≡ owner_in o
owner_stays t None = refl
owner_stays t (Some s) = refl

pub set_owner : (f g : Nexus → Option Seat) (n : Nexus) (t : Option Task) → g ≡ set_at f n (option_map (with_task t) (f n)) → (m : Nexus) → owner_in (g m) ≡ owner_in (f m)
set_owner f g n t is m = ap (λ (h : Nexus → Option Seat). owner_in (h m)) is ∙ by (same_nexus m n) refl
  where
    by : (b : Bool) → same_nexus m n ≡ b → owner_in (cond b (option_map (with_task t) (f n)) (f m)) ≡ owner_in (f m)
    by true e = owner_stays t (f n) ∙ ap (λ (k : Nexus). owner_in (f k)) (sym (same_is m n e))
    by false e = refl

-- a task that has begun
pub progress_is : (t : Task) (way : Way) (count : ℕ) → way ≡ t.way → count ≡ t.count → t.done ≡ 0 → progress_in (Some t) ≡ Some (record { way = way; count = count; done = 0 })
progress_is t way count e f g =
    ap (λ (w : Way). Some (record { way = w; count = t.count; done = t.done })) (sym e)
    ∙ ap (λ (k : ℕ). Some (record { way = way; count = k; done = t.done })) (sym f)
    ∙ ap (λ (k : ℕ). Some (record { way = way; count = count; done = k })) g

-- the data-out of a task that has begun

pub ended_fed : (r : CommandOut) (size : ℕ) → IsEnded r → IsFed r size
ended_fed (outs.Ended s sense len) size ended = tt
ended_fed (outs.Started way count) size ended = absurd ended

pub same_kept : (r : CommandOut) (old : List ℕ) → LeavesData r old old
same_kept (outs.Ended s sense len) old = tt
same_kept (outs.Started way count) old = refl

pub ended_begun : (r : CommandOut) (a : Admitted) → IsEnded r → IsBegun a r
ended_begun (outs.Ended s sense len) a ended = tt
ended_begun (outs.Started way count) a ended = absurd ended

pub begun_fed : (r : CommandOut) (a : Admitted) (sent : List ℕ) (size : ℕ) → IsBegun a r → HasData sent a → length sent ≡ size → IsFed r size
begun_fed (outs.Ended s sense len) a sent size begun fed is = tt
begun_fed (outs.Started way count) (admitted.Transfer t) sent size begun fed is =
    sym is ∙ fed ∙ ap (λ (w : Way). announced w t.count) (sym begun.0) ∙ ap (announced way) (sym begun.1)
begun_fed (outs.Started way count) admitted.TestUnitReady sent size begun fed is = absurd begun
begun_fed (outs.Started way count) (admitted.RequestSense descriptor allocation) sent size begun fed is = absurd begun
begun_fed (outs.Started way count) (admitted.Inquiry vital page allocation) sent size begun fed is = absurd begun
begun_fed (outs.Started way count) admitted.ReadCapacity10 sent size begun fed is = absurd begun
begun_fed (outs.Started way count) (admitted.ReadCapacity16 allocation) sent size begun fed is = absurd begun
begun_fed (outs.Started way count) (admitted.ReportLuns select allocation) sent size begun fed is = absurd begun
begun_fed (outs.Started way count) admitted.SynchronizeCache sent size begun fed is = absurd begun
begun_fed (outs.Started way count) (admitted.ReserveIn service allocation) sent size begun fed is = absurd begun
begun_fed (outs.Started way count) (admitted.ReserveOut request list) sent size begun fed is = absurd begun

pub taken_long : (size : ℕ) (bytes : List ℕ) → size ≤ length bytes → length (take size bytes) ≡ size
taken_long size bytes within = omega (arith, length-take size bytes, within)
