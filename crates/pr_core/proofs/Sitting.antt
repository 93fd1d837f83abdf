-- A seat whose first attention is taken, and the worlds before and after.
use Rattle.std.proofs.Common.{◌≡◌, ℕ, ◌<◌, Bool, true, false, cond, List, [], ◌∷◌, drop, Option, Some, None, is_some, option_map, slice_get, IfSome, unwrap_or, refl, sym, ap, ◌∙◌, subst, arith, lit<, Ok, Err}
use std.Path.{fun_ext}
use Rattle.std.proofs.lemmas.Bool.Decides.{nat_tests}
use Rattle.pr_words.specs.declared.nexus.Nexus.{Nexus}
use Rattle.pr_words.specs.declared.code.Code.{Code}
use Rattle.pr_words.specs.Orders.{same_nexus}
use Rattle.pr_words.specs.declared.code.TheConstants.Code.{NO_SENSE}
use Rattle.pr_grammar.specs.Standings.{Standing}
use Rattle.pr_model.specs.Attentions.{is_attention}
use Rattle.pr_model.specs.Worlds.{World, Task, set_at}
use Rattle.pr_grammar.specs.Operations.{is_unconditional}
use Rattle.pr_model.specs.Commands.{attention_check, hand_out}
use Rattle.pr_model.proofs.Orders.{same_is}
use Rattle.pr_table.specs.Tables.{standing_of}
use Rattle.pr_core.specs.declared.seats.Seat.{Seat}
use Rattle.pr_core.specs.declared.state.State.{State}
use Rattle.pr_core.specs.Seats.{seat_of, count_of, attentions_in, owner_in, task_in, told_first, Lists}
use Rattle.pr_core.specs.States.{world_with, Depicts, progress_in}
use Rattle.pr_core.specs.Fitting.{AllFit}
use Rattle.pr_core.specs.Admits.{PassesAttention, Senses}

-- the world by its parts
abbrev shape : World → Standing → List Nexus → (Nexus → List Code) → (Nexus → Option ℕ) → (Nexus → Option Task) → World
shape b s k a o t = record b { standing = s; known = k; attentions = a; owner = o; task = t }

pub same_world : (b : World) (s : Standing) (k : List Nexus) (f g : Nexus → Option Seat) → ((m : Nexus) → attentions_in (g m) ≡ attentions_in (f m)) → ((m : Nexus) → owner_in (g m) ≡ owner_in (f m))
    → ((m : Nexus) → task_in (g m) ≡ task_in (f m)) → world_with b s f k ≡ world_with b s g k
same_world b s k f g attentions owner task =
    ap (λ (a : Nexus → List Code). shape b s k a (λ m. owner_in (f m)) (λ m. task_in (f m))) (fun_ext (λ m. sym (attentions m)))
    ∙ ap (λ (o : Nexus → Option ℕ). shape b s k (λ m. attentions_in (g m)) o (λ m. task_in (f m))) (fun_ext (λ m. sym (owner m)))
    ∙ ap (λ (t : Nexus → Option Task). shape b s k (λ m. attentions_in (g m)) (λ m. owner_in (g m)) t) (fun_ext (λ m. sym (task m)))

-- one seat that changes
one_seat : (h : Seat → Seat) (f : Nexus → Option Seat) (n m : Nexus) → set_at f n (option_map h (f n)) m ≡ cond (same_nexus m n) (option_map h (f m)) (f m)
one_seat h f n m = by (same_nexus m n) refl
  where
    by : (b : Bool) → same_nexus m n ≡ b → cond b (option_map h (f n)) (f m) ≡ cond b (option_map h (f m)) (f m)
    by true e = ap (λ (k : Nexus). option_map h (f k)) (sym (same_is m n e))
    by false e = refl

some_kept : (h : Seat → Seat) (b : Bool) (o : Option Seat) → is_some (cond b (option_map h o) o) ≡ is_some o
some_kept h true None = refl
some_kept h true (Some s) = refl
some_kept h false o = refl

owner_kept : (b : Bool) (o : Option Seat) → owner_in (cond b (option_map told_first o) o) ≡ owner_in o
owner_kept true None = refl
owner_kept true (Some s) = refl
owner_kept false o = refl

task_kept : (b : Bool) (o : Option Seat) → task_in (cond b (option_map told_first o) o) ≡ task_in o
task_kept true None = refl
task_kept true (Some s) = refl
task_kept false o = refl

-- nothing is taken where nothing waits
quiet_kept : (b : Bool) (o : Option Seat) → (b ≡ true → attentions_in o ≡ []) → attentions_in (cond b (option_map told_first o) o) ≡ attentions_in o
quiet_kept true None quiet = refl
quiet_kept true (Some s) quiet = ap (λ (cs : List Code). drop 1 cs) (quiet refl) ∙ sym (quiet refl)
quiet_kept false o quiet = refl

taken_list : (o : Option Seat) → is_some o ≡ true → attentions_in (option_map told_first o) ≡ drop 1 (attentions_in o)
taken_list None known = absurd cc
taken_list (Some s) known = refl

attentions_set : (f : Nexus → Option Seat) (n m : Nexus) (v : Option Seat) → attentions_in (set_at f n v m) ≡ set_at (λ k. attentions_in (f k)) n (attentions_in v) m
attentions_set f n m v = by (same_nexus m n)
  where
    by : (b : Bool) → attentions_in (cond b v (f m)) ≡ cond b (attentions_in v) (attentions_in (f m))
    by true = refl
    by false = refl

-- the first attention of a nexus was taken
abbrev pub TakesOf : (Nexus → Option Seat) → (Nexus → Option Seat) → Nexus → Type 0
TakesOf f g n = g ≡ set_at f n (option_map told_first (f n))

seat_at : (f g : Nexus → Option Seat) (n : Nexus) → TakesOf f g n → (m : Nexus) → g m ≡ cond (same_nexus m n) (option_map told_first (f m)) (f m)
seat_at f g n takes m = ap (λ (h : Nexus → Option Seat). h m) takes ∙ one_seat told_first f n m

pub takes_some : (f g : Nexus → Option Seat) (n : Nexus) → TakesOf f g n → (m : Nexus) → is_some (g m) ≡ is_some (f m)
takes_some f g n takes m = ap is_some (seat_at f g n takes m) ∙ some_kept told_first (same_nexus m n) (f m)

pub takes_owner : (f g : Nexus → Option Seat) (n : Nexus) → TakesOf f g n → (m : Nexus) → owner_in (g m) ≡ owner_in (f m)
takes_owner f g n takes m = ap owner_in (seat_at f g n takes m) ∙ owner_kept (same_nexus m n) (f m)

pub takes_task : (f g : Nexus → Option Seat) (n : Nexus) → TakesOf f g n → (m : Nexus) → task_in (g m) ≡ task_in (f m)
takes_task f g n takes m = ap task_in (seat_at f g n takes m) ∙ task_kept (same_nexus m n) (f m)

-- and nothing else changed
pub record Takes (old new : State) (n : Nexus) : Type 0 where
  pub standing : standing_of new.table ≡ standing_of old.table
  pub seat : TakesOf (seat_of old.seats) (seat_of new.seats) n
  pub count : count_of new.seats ≡ count_of old.seats
  pub blocks : new.blocks ≡ old.blocks
  pub known : is_some (seat_of old.seats n) ≡ true

takes_lists : (old new : State) (n : Nexus) (k : List Nexus) → Takes old new n → Lists k old.seats → Lists k new.seats
takes_lists old new n k takes lists = record { count = lists.count ∙ sym takes.count; same = λ m. lists.same m ∙ sym (takes_some (seat_of old.seats) (seat_of new.seats) n takes.seat m) }

none_first : (cs : List Code) → None ≡ slice_get cs 0 → cs ≡ []
none_first [] is = refl
none_first (c ∷ cs) is = absurd cc

pub some_first : (c : Code) (cs : List Code) → Some c ≡ slice_get cs 0 → cs ≡ c ∷ drop 1 cs
some_first c [] is = absurd cc
some_first c (d ∷ cs) is = cc

-- where nothing waited, it stands for the same worlds
pub shows_still : (old new : State) (n : Nexus) (w : World) → Takes old new n → attentions_in (seat_of old.seats n) ≡ [] → Depicts old w → Depicts new w
shows_still old new n w takes quiet depicts =
    record {
      blocks = depicts.blocks ∙ sym takes.blocks;
      known = depicts.known;
      lists = takes_lists old new n depicts.known takes depicts.lists;
      world =
          depicts.world ∙ ap (λ (s : Standing). world_with w s (seat_of old.seats) depicts.known) (sym takes.standing)
          ∙ same_world w (standing_of new.table) depicts.known (seat_of old.seats) (seat_of new.seats)
          (λ m. ap attentions_in (seat_at (seat_of old.seats) (seat_of new.seats) n takes.seat m) ∙ quiet_kept (same_nexus m n) (seat_of old.seats m) (λ e. ap (λ (k : Nexus). attentions_in (seat_of old.seats k)) (same_is m n e) ∙ quiet))
          (λ m. takes_owner (seat_of old.seats) (seat_of new.seats) n takes.seat m)
          (λ m. takes_task (seat_of old.seats) (seat_of new.seats) n takes.seat m);
    }

-- else for the worlds without it
abbrev pub without : World → Nexus → List Code → World
without w n cs = record w { attentions = set_at w.attentions n cs }

pub shows_less : (old new : State) (n : Nexus) (w : World) → Takes old new n → Depicts old w → Depicts new (without w n (drop 1 (attentions_in (seat_of old.seats n))))
shows_less old new n w takes depicts =
    let left : List Code = drop 1 (attentions_in (seat_of old.seats n)) in
    let attentions : (m : Nexus) → attentions_in (seat_of new.seats m) ≡ set_at (λ k. attentions_in (seat_of old.seats k)) n left m =
    λ m. ap (λ (f : Nexus → Option Seat). attentions_in (f m)) takes.seat ∙ attentions_set (seat_of old.seats) n m (option_map told_first (seat_of old.seats n)) ∙ ap (λ (cs : List Code). set_at (λ k. attentions_in (seat_of old.seats k)) n cs m) (taken_list (seat_of old.seats n) takes.known) in
    record {
      blocks = depicts.blocks ∙ sym takes.blocks;
      known = depicts.known;
      lists = takes_lists old new n depicts.known takes depicts.lists;
      world =
          ap (λ (x : World). without x n left) depicts.world
          ∙ ap (λ (s : Standing). shape w s depicts.known (set_at (λ k. attentions_in (seat_of old.seats k)) n left) (λ m. owner_in (seat_of old.seats m)) (λ m. task_in (seat_of old.seats m))) (sym takes.standing)
          ∙ ap (λ (a : Nexus → List Code). shape w (standing_of new.table) depicts.known a (λ m. owner_in (seat_of old.seats m)) (λ m. task_in (seat_of old.seats m))) (fun_ext (λ m. sym (attentions m)))
          ∙ ap (λ (o : Nexus → Option ℕ). shape w (standing_of new.table) depicts.known (λ m. attentions_in (seat_of new.seats m)) o (λ m. task_in (seat_of old.seats m))) (fun_ext (λ m. sym (takes_owner (seat_of old.seats) (seat_of new.seats) n takes.seat m)))
          ∙ ap (λ (t : Nexus → Option Task). shape w (standing_of new.table) depicts.known (λ m. attentions_in (seat_of new.seats m)) (λ m. owner_in (seat_of new.seats m)) t) (fun_ext (λ m. sym (takes_task (seat_of old.seats) (seat_of new.seats) n takes.seat m)));
    }

attentions_of : (old : State) (n : Nexus) (w : World) → Depicts old w → w.attentions n ≡ attentions_in (seat_of old.seats n)
attentions_of old n w depicts = ap (λ (x : World). x.attentions n) depicts.world

pub low_key : (c : Code) → is_attention c ≡ true → c.key < 16
low_key c is = grind (arith, nat_tests, is)

pub high_key : (c : Code) → is_attention c ≡ true → 4 < c.key
high_key c is = grind (arith, nat_tests, is)

pub attention_passes : (old new : State) (n : Nexus) (op : ℕ) → Takes old new n → None ≡ slice_get (attentions_in (seat_of old.seats n)) 0 → PassesAttention old new n op (Ok tt)
attention_passes old new n op takes none w depicts =
    let quiet : attentions_in (seat_of old.seats n) ≡ [] = none_first _ none in
    (shows_still old new n w takes quiet depicts, ap (attention_check w n op) (attentions_of old n w depicts ∙ quiet))

pub attention_reported : (old new : State) (n : Nexus) (op : ℕ) (c : Code) → Takes old new n → is_unconditional op ≡ false → Some c ≡ slice_get (attentions_in (seat_of old.seats n)) 0 → is_attention c ≡ true → PassesAttention old new n op (Err c)
attention_reported old new n op c takes looks first is = (
  (high_key c is, low_key c is),
  λ w depicts. (
    without w n (drop 1 (attentions_in (seat_of old.seats n))),
    shows_less old new n w takes depicts,
    refl,
    ap (attention_check w n op) (attentions_of old n w depicts ∙ some_first c _ first) ∙ (rw looks refl),
  ),
)

pub attention_passed_over : (s : State) (n : Nexus) (op : ℕ) → is_unconditional op ≡ true → PassesAttention s s n op (Ok tt)
attention_passed_over s n op passes w depicts = (depicts, by (w.attentions n))
  where
    by : (cs : List Code) → attention_check w n op cs ≡ None
    by [] = refl
    by (c ∷ cs) = rw passes refl

-- REQUEST SENSE on logical unit 0
pub senses : (old new : State) (n : Nexus) (lun : ℕ) (first : Option Code) (c : Code) → Takes old new n → lun ≡ 0 → first ≡ slice_get (attentions_in (seat_of old.seats n)) 0 → IfSome first (λ a. is_attention a ≡ true) → c ≡ unwrap_or first NO_SENSE
    → Senses old new n lun c
senses old new n lun None c takes here first known is =
    let quiet : attentions_in (seat_of old.seats n) ≡ [] = none_first _ first in (
      subst (λ (x : Code). x.key < 16) (sym is) (lit< tt),
      λ w depicts. (
        w,
        shows_still old new n w takes quiet depicts,
        refl,
        λ descriptor allocation.
            rw (here, is) (ap (hand_out w n descriptor allocation) (attentions_of old n w depicts ∙ quiet)),
      ),
    )
senses old new n lun (Some a) c takes here first known is = (
  low_key c (subst (λ (x : Code). is_attention x ≡ true) (sym is) known),
  λ w depicts. (
    without w n (drop 1 (attentions_in (seat_of old.seats n))),
    shows_less old new n w takes depicts,
    refl,
    λ descriptor allocation.
        rw (here, is) (ap (hand_out w n descriptor allocation) (attentions_of old n w depicts ∙ some_first a _ first)),
  ),
)

-- all tasks still fit
pub takes_fit : (blocks : ℕ) (f g : Nexus → Option Seat) (n : Nexus) → TakesOf f g n → AllFit blocks f → AllFit blocks g
takes_fit blocks f g n takes fit m t is = fit m t (sym (takes_task f g n takes m) ∙ is)

pub takes_progress : (f g : Nexus → Option Seat) (n : Nexus) → TakesOf f g n → (m : Nexus) → progress_in (task_in (g m)) ≡ progress_in (task_in (f m))
takes_progress f g n takes m = ap progress_in (takes_task f g n takes m)
