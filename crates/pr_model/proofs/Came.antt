-- A task that runs after an entry ran before it, or begins with it.
use Rattle.std.proofs.Common.{◌≡◌, ◌⊎◌, inl, inr, ℕ, Bool, true, false, cond, ◌&&◌, ◌==◌, List, [], ◌∷◌, find, Option, Some, None, option_map, refl, sym, ap, ◌∙◌, subst, arith}
use Rattle.std.proofs.lemmas.Bool.{true≢false, false≢true, eqb-true, eq-eqb}
use Rattle.std.proofs.lemmas.Grind.{common_steps}
use Rattle.pr_words.specs.declared.nexus.Nexus.{Nexus}
use Rattle.pr_words.specs.declared.code.Code.{Code}
use Rattle.pr_words.specs.declared.task.Way.{Way}
use Rattle.pr_words.specs.declared.task.Way.TheVariants as ways
use Rattle.pr_words.specs.Orders.{same_nexus}
use Rattle.pr_grammar.specs.declared.cdb.Class.TheVariants.{Writes}
use Rattle.pr_grammar.specs.declared.operation.OperationCode.{OperationCode}
use Rattle.pr_grammar.specs.declared.operation.OperationCode.TheVariants as operations
use Rattle.pr_grammar.specs.Operations.{row_of, every_operation, operation_at, class_in}
use Rattle.pr_grammar.specs.Cdbs.{operation_code, service_action, command_in}
use Rattle.pr_grammar.specs.OutLists.{list_of}
use Rattle.pr_grammar.specs.Standings.{IsAscending, is_registered}
use Rattle.pr_words.specs.Fields.{number16_at, number32_at, number64_at}
use Rattle.pr_words.specs.declared.limits.TheConstants.{LIMIT}
use Rattle.pr_model.specs.Acts.{Acted, Verdict, Good, Conflict, Bad, acted}
use Rattle.pr_model.specs.Acts as acts
use Rattle.pr_model.specs.Attentions.{told}
use Rattle.pr_model.specs.Conflicts.{is_forbidden}
use Rattle.pr_model.specs.Worlds.{World, Task, set_at}
use Rattle.pr_model.specs.Tasks.{new_task, advanced, aborted, marked}
use Rattle.pr_model.specs.Entries as entries
use Rattle.pr_model.specs.Entries.{Act, Out, Entry, Login, Command, Step, Logout, Power, entry, Started, Ended}
use Rattle.pr_model.specs.Commands.{Answer, answer, good, checking, conflict, by_verdict, out_request, hand_out, served, answered}
use Rattle.pr_model.specs.Steps.{MayStepIn, stepped_in}
use Rattle.pr_model.specs.Saving.{tells_failure, settled, MayAnswer, MayRestore}
use Rattle.pr_model.specs.Histories.{MayEnd, MayFollow, moved, moved_by, login_code, logged_in}
use Rattle.pr_model.specs.Fencing.{Fences, IsPreemptAndAbort, IsStarted, IsStartOf}
use Rattle.pr_model.proofs.Orders.{same_is}
use Rattle.pr_model.proofs.Checked.{answer_fits, reported}
use Rattle.pr_model.proofs.Removed.{abort_parts}
use Rattle.pr_model.proofs.Reaching.{acted_reaches}
use Rattle.pr_model.proofs.Settling.{settles}

pub same_self : (n : Nexus) → same_nexus n n ≡ true
same_self n = grind (arith, common_steps)

same_itself : (m n : Nexus) → m ≡ n → same_nexus n m ≡ true
same_itself m n e = ap (same_nexus n) e ∙ same_self n

-- what a search finds passes
found : {X : Type 0} (p : X → Bool) (xs : List X) (x : X) → find p xs ≡ Some x → p x ≡ true
found p [] x is = absurd cc
found p (y ∷ ys) x is = by (p y) refl is (found p ys x)
  where
    by : (b : Bool) → p y ≡ b → cond b (Some y) (find p ys) ≡ Some x → (find p ys ≡ Some x → p x ≡ true) → p x ≡ true
    by true e is rest = let same : y ≡ x = cc in ap p (sym same) ∙ e
    by false e is rest = rest is

-- the task ran before an entry, which may begin one or fence the nexus, and was marked by it or not
pub record Went (w : World) (n : Nexus) (Begins Fencing : Type 0) (now : Task) : Type 0 where
  pub task : Task
  pub ran : w.task n ≡ Some task
  pub way : task.way ≡ now.way
  pub other : Begins → ⊥
  pub marks : now.aborted ≡ true → (task.aborted ≡ true) ⊎ (IsAscending w.standing.pairs → Fencing)
  pub stays : task.aborted ≡ true → now.aborted ≡ true
  pub fenced : Fencing → now.aborted ≡ true

-- or it begins with an entry of a nexus with this outcome
pub record Starting (w : World) (m n : Nexus) (out : Out) (now : Task) : Type 0 where
  pub here : m ≡ n
  pub started : out ≡ Started now.way
  pub unmarked : now.aborted ≡ false
  pub allowed : now.way ≡ ways.Write → is_forbidden w.standing n Writes ≡ false

abbrev pub CameBy : World → Entry → Nexus → Task → Type 0
CameBy w e n now = Went w n (IsStartOf e n) (Fences w e n) now ⊎ Starting w e.nexus n e.out now

-- a PREEMPT AND ABORT with this answer
record FencedBy (w : World) (cdb : List ℕ) (a : Answer) (n : Nexus) : Type 0 where
  asks : (operation_code cdb ≡ 0x5F) × (service_action cdb ≡ 0x05)
  good : a.out ≡ good []
  was : is_registered w.standing.pairs n ≡ true
  gone : is_registered a.world.standing.pairs n ≡ false

module _ (w : World) (m : Nexus) (cdb : List ℕ) (n : Nexus) where
  abbrev Comes : Answer → Type 0
  Comes a = (now : Task) → a.world.task n ≡ Some now → Went w n ((m ≡ n) × IsStarted a.out) (FencedBy w cdb a n) now ⊎ Starting w m n a.out now

  unchanged : (a : Answer) → a.world.task n ≡ w.task n → (IsStarted a.out → ⊥) → (FencedBy w cdb a n → ⊥) → Comes a
  unchanged a same ended free now is =
      inl (record { task = now; ran = sym same ∙ is; way = refl; other = λ s. ended s.1; marks = λ e. inl e; stays = λ e. e; fenced = λ f. absurd (free f) })

  refusal_comes : (c : Code) → Comes (answer w (checking c))
  refusal_comes c = unchanged (answer w (checking c)) refl (λ s. s) (λ f. let e = f.good in absurd cc)

  conflict_comes : Comes (answer w conflict)
  conflict_comes = unchanged (answer w conflict) refl (λ s. s) (λ f. let e = f.good in absurd cc)

  other_operation : (o : OperationCode) → operation_at (operation_code cdb) ≡ Some o → (Some o ≡ Some operations.ReserveOut → ⊥) → (a : Answer) → FencedBy w cdb a n → ⊥
  other_operation o at other a f = other (sym at ∙ ap operation_at f.asks.0)

  begin_comes : (o : OperationCode) → operation_at (operation_code cdb) ≡ Some o → (Some o ≡ Some operations.ReserveOut → ⊥) → (way : Way) (lba count : ℕ) (none : Bool) → (way ≡ ways.Write → is_forbidden w.standing m Writes ≡ false)
      → Comes (cond none (answer w (good [])) (answer (record w { task = set_at w.task m (Some (new_task way lba count)) }) (Started way)))
  begin_comes o at other way lba count true allowed now is = unchanged (answer w (good [])) refl (λ s. s) (other_operation o at other (answer w (good []))) now is
  begin_comes o at other way lba count false allowed now is = by (same_nexus n m) refl is
    where
      by : (b : Bool) → same_nexus n m ≡ b → cond b (Some (new_task way lba count)) (w.task n) ≡ Some now
          → Went w n ((m ≡ n) × Unit {0}) (FencedBy w cdb (answer (record w { task = set_at w.task m (Some (new_task way lba count)) }) (Started way)) n) now ⊎ Starting w m n (Started way) now
      by true same is =
          let task : new_task way lba count ≡ now = cc in
          let same_way : way ≡ now.way = ap (λ (t : Task). t.way) task in
          inr (record {
            here = sym (same_is n m same);
            started = ap Started same_way;
            unmarked = sym (ap (λ (t : Task). t.aborted) task);
            allowed = λ writes. subst (λ (k : Nexus). is_forbidden w.standing k Writes ≡ false) (sym (same_is n m same)) (allowed (same_way ∙ writes));
          })
      by false other_nexus is =
          inl (record {
            task = now;
            ran = is;
            way = refl;
            other = λ s. true≢false (sym (same_itself m n s.0) ∙ other_nexus);
            marks = λ e. inl e;
            stays = λ e. e;
            fenced = λ f. absurd (other_operation o at other (answer (record w { task = set_at w.task m (Some (new_task way lba count)) }) (Started way)) f);
          })

  hand_out_comes : (o : OperationCode) → operation_at (operation_code cdb) ≡ Some o → (Some o ≡ Some operations.ReserveOut → ⊥) → (descriptor : Bool) (allocation : ℕ) (cs : List Code) → Comes (hand_out w m descriptor allocation cs)
  hand_out_comes o at other descriptor allocation [] = unchanged (hand_out w m descriptor allocation []) refl (λ s. s) (other_operation o at other (hand_out w m descriptor allocation []))
  hand_out_comes o at other descriptor allocation (c ∷ cs) = unchanged (hand_out w m descriptor allocation (c ∷ cs)) refl (λ s. s) (other_operation o at other (hand_out w m descriptor allocation (c ∷ cs)))

  sense_comes : (o : OperationCode) → operation_at (operation_code cdb) ≡ Some o → (Some o ≡ Some operations.ReserveOut → ⊥) → (here : Bool) (last : Answer) (descriptor : Bool) (allocation : ℕ) → Comes last
      → Comes (cond here (hand_out w m descriptor allocation (w.attentions m)) last)
  sense_comes o at other true last descriptor allocation comes = hand_out_comes o at other descriptor allocation (w.attentions m)
  sense_comes o at other false last descriptor allocation comes = comes

  -- PERSISTENT RESERVE OUT
  reserve_comes : operation_at (operation_code cdb) ≡ Some operations.ReserveOut → (o : acts.ReserveOut) → o.action ≡ service_action cdb → (a : Acted) → a ≡ acted LIMIT w.standing m o
      → (v : Verdict) → Comes (by_verdict w (record w { standing = a.standing; attentions = told m a w.attentions; task = marked (service_action cdb) a.removed w.task; doubts = [] }) v)
  reserve_comes at o named a is Conflict now runs = conflict_comes now runs
  reserve_comes at o named a is (Bad c) now runs = refusal_comes c now runs
  reserve_comes at o named a is Good now runs = by (service_action cdb == 5) (is_registered a.removed n) refl refl (w.task n) refl runs
    where
      next : World
      next = record w { standing = a.standing; attentions = told m a w.attentions; task = marked (service_action cdb) a.removed w.task; doubts = [] }

      by : (five gone : Bool) → (service_action cdb == 5) ≡ five → is_registered a.removed n ≡ gone → (t : Option Task) → w.task n ≡ t → cond (five && gone) (option_map aborted t) t ≡ Some now
          → Went w n ((m ≡ n) × ⊥) (FencedBy w cdb (answer next (good [])) n) now ⊎ Starting w m n (good []) now
      by true true five gone None task runs = absurd cc
      by true true five gone (Some t) task runs =
          let is_now : aborted t ≡ now = cc in
          let action : o.action ≡ 5 = named ∙ eqb-true (service_action cdb) 5 five in
          inl (record {
            task = t;
            ran = task;
            way = ap (λ (u : Task). u.way) is_now;
            other = λ s. s.1;
            marks = λ e. inr (λ up. record {
              asks = (sym (eqb-true 0x5F (operation_code cdb) (found (λ x. (row_of x).byte == operation_code cdb) every_operation operations.ReserveOut at)), eqb-true (service_action cdb) 5 five);
              good = refl;
              was = (acted_reaches LIMIT w.standing m o).removed n (ap (λ (x : Acted). is_registered x.removed n) (sym is) ∙ gone);
              gone = ap (λ (x : Acted). is_registered x.standing.pairs n) is ∙ (abort_parts w.standing n LIMIT m o action).gone up (ap (λ (x : Acted). is_registered x.removed n) (sym is) ∙ gone);
            });
            stays = λ e. sym (ap (λ (u : Task). u.aborted) is_now);
            fenced = λ f. sym (ap (λ (u : Task). u.aborted) is_now);
          })
      by true false five gone t task runs =
          inl (record {
            task = now;
            ran = task ∙ runs;
            way = refl;
            other = λ s. s.1;
            marks = λ e. inl e;
            stays = λ e. e;
            fenced = λ f. absurd (false≢true (sym gone ∙ ap (λ (x : Acted). is_registered x.removed n) is ∙ (abort_parts w.standing n LIMIT m o (named ∙ f.asks.1)).removed f.was (ap (λ (x : Acted). is_registered x.standing.pairs n) (sym is) ∙ f.gone)));
          })
      by false gone other gone_is t task runs =
          inl (record {
            task = now;
            ran = task ∙ runs;
            way = refl;
            other = λ s. s.1;
            marks = λ e. inl e;
            stays = λ e. e;
            fenced = λ f. absurd (false≢true (sym other ∙ eq-eqb (service_action cdb) 5 f.asks.1));
          })

  served_comes : (lun : ℕ) (sent : List ℕ) (o : Option OperationCode) → operation_at (operation_code cdb) ≡ o → is_forbidden w.standing m (class_in o) ≡ false → Comes (served w m lun (command_in o cdb) sent)
  served_comes lun sent None at free = unchanged (answer w (good [])) refl (λ s. s) (λ f. let e : None ≡ Some operations.ReserveOut = sym at ∙ ap operation_at f.asks.0 in absurd cc)
  served_comes lun sent (Some operations.TestUnitReady) at free = let a = served w m lun (command_in (Some operations.TestUnitReady) cdb) sent in unchanged a refl (λ s. s) (other_operation operations.TestUnitReady at (λ e. absurd cc) a)
  served_comes lun sent (Some operations.RequestSense) at free = sense_comes operations.RequestSense at (λ e. absurd cc) (lun == 0) _ _ _ (unchanged (answer w (good _)) refl (λ s. s) (other_operation operations.RequestSense at (λ e. absurd cc) _))
  served_comes lun sent (Some operations.Inquiry) at free = let a = served w m lun (command_in (Some operations.Inquiry) cdb) sent in unchanged a refl (λ s. s) (other_operation operations.Inquiry at (λ e. absurd cc) a)
  served_comes lun sent (Some operations.ReadCapacity10) at free = let a = served w m lun (command_in (Some operations.ReadCapacity10) cdb) sent in unchanged a refl (λ s. s) (other_operation operations.ReadCapacity10 at (λ e. absurd cc) a)
  served_comes lun sent (Some operations.Read10) at free = begin_comes operations.Read10 at (λ e. absurd cc) ways.Read (number32_at cdb 2) (number16_at cdb 7) (number16_at cdb 7 == 0) (λ e. absurd cc)
  served_comes lun sent (Some operations.Write10) at free = begin_comes operations.Write10 at (λ e. absurd cc) ways.Write (number32_at cdb 2) (number16_at cdb 7) (number16_at cdb 7 == 0) (λ e. free)
  served_comes lun sent (Some operations.SynchronizeCache10) at free = let a = served w m lun (command_in (Some operations.SynchronizeCache10) cdb) sent in unchanged a refl (λ s. s) (other_operation operations.SynchronizeCache10 at (λ e. absurd cc) a)
  served_comes lun sent (Some operations.ReserveIn) at free = let a = served w m lun (command_in (Some operations.ReserveIn) cdb) sent in unchanged a refl (λ s. s) (other_operation operations.ReserveIn at (λ e. absurd cc) a)
  served_comes lun sent (Some operations.ReserveOut) at free =
      let o = out_request (service_action cdb) _ _ (list_of sent) in reserve_comes at o refl (acted LIMIT w.standing m o) refl (acted LIMIT w.standing m o).verdict
  served_comes lun sent (Some operations.Read16) at free = begin_comes operations.Read16 at (λ e. absurd cc) ways.Read (number64_at cdb 2) (number32_at cdb 10) (number32_at cdb 10 == 0) (λ e. absurd cc)
  served_comes lun sent (Some operations.Write16) at free = begin_comes operations.Write16 at (λ e. absurd cc) ways.Write (number64_at cdb 2) (number32_at cdb 10) (number32_at cdb 10 == 0) (λ e. free)
  served_comes lun sent (Some operations.ReadCapacity16) at free = let a = served w m lun (command_in (Some operations.ReadCapacity16) cdb) sent in unchanged a refl (λ s. s) (other_operation operations.ReadCapacity16 at (λ e. absurd cc) a)
  served_comes lun sent (Some operations.ReportLuns) at free = let a = served w m lun (command_in (Some operations.ReportLuns) cdb) sent in unchanged a refl (λ s. s) (other_operation operations.ReportLuns at (λ e. absurd cc) a)

  answered_comes : (lun : ℕ) (sent : List ℕ) → Comes (answered w m lun cdb sent)
  answered_comes lun sent =
      answer_fits Comes w refusal_comes m lun cdb sent conflict_comes
      (reported w m (operation_code cdb) (w.attentions m) Comes (λ c rest. unchanged (answer (record w { attentions = set_at w.attentions m rest }) (checking c)) refl (λ s. s) (λ f. let e = f.good in absurd cc)))
      (λ free. served_comes lun sent (operation_at (operation_code cdb)) refl free)

command_comes : (w : World) (who : ℕ) (m : Nexus) (lun : ℕ) (cdb sent : List ℕ) (out : Out) (n : Nexus) (now : Task) → out ≡ (answered w m lun cdb sent).out → settled w (answered w m lun cdb sent) out ≡ (answered w m lun cdb sent).world
    → (answered w m lun cdb sent).world.task n ≡ Some now → CameBy w (entry who m (Command lun cdb sent) out) n now
command_comes w who m lun cdb sent out n now is left runs = by (answered_comes w m cdb n lun sent now runs)
  where
    a : Answer
    a = answered w m lun cdb sent

    registered : is_registered (settled w a out).standing.pairs n ≡ is_registered a.world.standing.pairs n
    registered = ap (λ (v : World). is_registered v.standing.pairs n) left

    here : Fences w (entry who m (Command lun cdb sent) out) n → FencedBy w cdb a n
    here f = record { asks = f.asks; good = sym is ∙ f.good; was = f.was; gone = sym registered ∙ f.gone }

    back : FencedBy w cdb a n → Fences w (entry who m (Command lun cdb sent) out) n
    back f = record { asks = f.asks; good = is ∙ f.good; was = f.was; gone = registered ∙ f.gone }

    marks_back : (t : Task) → (t.aborted ≡ true) ⊎ (IsAscending w.standing.pairs → FencedBy w cdb a n) → (t.aborted ≡ true) ⊎ (IsAscending w.standing.pairs → Fences w (entry who m (Command lun cdb sent) out) n)
    marks_back t (inl e) = inl e
    marks_back t (inr f) = inr (λ up. back (f up))

    by : Went w n ((m ≡ n) × IsStarted a.out) (FencedBy w cdb a n) now ⊎ Starting w m n a.out now → CameBy w (entry who m (Command lun cdb sent) out) n now
    by (inl r) =
        inl (record {
          task = r.task;
          ran = r.ran;
          way = r.way;
          other = λ s. r.other (s.0, subst IsStarted is s.1);
          marks = λ e. marks_back r.task (r.marks e);
          stays = r.stays;
          fenced = λ f. r.fenced (here f);
        })
    by (inr r) = inr (record { here = r.here; started = is ∙ r.started; unmarked = r.unmarked; allowed = r.allowed })

-- the entry is no command: a task runs on as it did
record Same (w : World) (n : Nexus) (now : Task) : Type 0 where
  task : Task
  ran : w.task n ≡ Some task
  way : task.way ≡ now.way
  mark : task.aborted ≡ now.aborted

as_came : (w : World) (e : Entry) (n : Nexus) (now : Task) → (IsStarted e.out → ⊥) → (IsPreemptAndAbort e.act → ⊥) → Same w n now → CameBy w e n now
as_came w e n now ended free s =
    inl (record {
      task = s.task;
      ran = s.ran;
      way = s.way;
      other = λ b. ended b.1;
      marks = λ x. inl (s.mark ∙ x);
      stays = λ x. sym s.mark ∙ x;
      fenced = λ f. absurd (free f.asks);
    })

runs_on : (w : World) (n : Nexus) (now : Task) → w.task n ≡ Some now → Same w n now
runs_on w n now is = record { task = now; ran = is; way = refl; mark = refl }

login_runs : (w next : World) (b : Bool) (n : Nexus) (now : Task) → next.task n ≡ w.task n → (cond b next w).task n ≡ Some now → Same w n now
login_runs w next true n now same is = runs_on w n now (sym same ∙ is)
login_runs w next false n now same is = runs_on w n now is

set_runs : (w : World) (m n : Nexus) (o : Option Task) (now : Task) → ((u : Task) → o ≡ Some u → Same w m u) → set_at w.task m o n ≡ Some now → Same w n now
set_runs w m n o now before is = by (same_nexus n m) refl is
  where
    by : (b : Bool) → same_nexus n m ≡ b → cond b o (w.task n) ≡ Some now → Same w n now
    by true same is = subst (λ (k : Nexus). Same w k now) (sym (same_is n m same)) (before now is)
    by false other is = runs_on w n now is

step_runs : (w : World) (m n : Nexus) (o : Option Task) (sent : List ℕ) (out : Out) (now : Task) → w.task m ≡ o → MayStepIn w.medium o sent out → (stepped_in w m o sent out).task n ≡ Some now → Same w n now
step_runs w m n None sent out now task may is = absurd may
step_runs w m n (Some t) sent entries.Wrote now task may is = set_runs w m n (Some (advanced t)) now (λ u e. let same : advanced t ≡ u = cc in record { task = t; ran = task; way = ap (λ (x : Task). x.way) same; mark = ap (λ (x : Task). x.aborted) same }) is
step_runs w m n (Some t) sent (entries.Read bytes) now task may is = set_runs w m n (Some (advanced t)) now (λ u e. let same : advanced t ≡ u = cc in record { task = t; ran = task; way = ap (λ (x : Task). x.way) same; mark = ap (λ (x : Task). x.aborted) same }) is
step_runs w m n (Some t) sent (entries.Fault code) now task may is = set_runs w m n None now (λ u e. absurd cc) is
step_runs w m n (Some t) sent entries.Done now task may is = set_runs w m n None now (λ u e. absurd cc) is
step_runs w m n (Some t) sent entries.Aborted now task may is = set_runs w m n None now (λ u e. absurd cc) is
step_runs w m n (Some t) sent (entries.Login_code code) now task may is = absurd may
step_runs w m n (Some t) sent (Ended status sense data_in) now task may is = absurd may
step_runs w m n (Some t) sent (Started way) now task may is = absurd may
step_runs w m n (Some t) sent entries.Left now task may is = absurd may
step_runs w m n (Some t) sent (entries.Restored value) now task may is = absurd may

step_ends : (m : _) (o : Option Task) (sent : List ℕ) (out : Out) → MayStepIn m o sent out → IsStarted out → ⊥
step_ends m None sent out may s = may
step_ends m (Some t) sent (Started way) may s = may
step_ends m (Some t) sent entries.Wrote may s = s
step_ends m (Some t) sent (entries.Read bytes) may s = s
step_ends m (Some t) sent (entries.Fault code) may s = s
step_ends m (Some t) sent entries.Done may s = s
step_ends m (Some t) sent entries.Aborted may s = s
step_ends m (Some t) sent (entries.Login_code code) may s = s
step_ends m (Some t) sent (Ended status sense data_in) may s = s
step_ends m (Some t) sent entries.Left may s = s
step_ends m (Some t) sent (entries.Restored value) may s = s

-- a command whose save failed leaves the tasks as they were, and begins none
unsaved_comes : (w : World) (who : ℕ) (m : Nexus) (lun : ℕ) (cdb sent : List ℕ) (out : Out) (n : Nexus) (now : Task) → tells_failure out ≡ true → w.task n ≡ Some now → CameBy w (entry who m (Command lun cdb sent) out) n now
unsaved_comes w who m lun cdb sent out n now tells runs =
    inl (record {
      task = now;
      ran = runs;
      way = refl;
      other = λ b. no_start out tells b.1;
      marks = λ x. inl x;
      stays = λ x. x;
      fenced = λ f. absurd (false≢true (sym (ap tells_failure f.good) ∙ tells));
    })
  where
    no_start : (out : Out) → tells_failure out ≡ true → IsStarted out → ⊥
    no_start (Started way) tells s = false≢true tells
    no_start (Ended status sense data_in) tells s = s
    no_start entries.Wrote tells s = s
    no_start (entries.Read block) tells s = s
    no_start (entries.Fault code) tells s = s
    no_start entries.Done tells s = s
    no_start entries.Aborted tells s = s
    no_start (entries.Login_code code) tells s = s
    no_start entries.Left tells s = s
    no_start (entries.Restored value) tells s = s

settled_comes : (w : World) (who : ℕ) (m : Nexus) (lun : ℕ) (cdb sent : List ℕ) (out : Out) (n : Nexus) (now : Task) → MayAnswer w (answered w m lun cdb sent) out → (settled w (answered w m lun cdb sent) out).task n ≡ Some now
    → CameBy w (entry who m (Command lun cdb sent) out) n now
settled_comes w who m lun cdb sent out n now may is =
    elim (settles w (answered w m lun cdb sent) out may) [
      | inl s ↦ command_comes w who m lun cdb sent out n now s.0 s.1 (sym (ap (λ (v : World). v.task n) s.1) ∙ is)
      | inr s ↦ unsaved_comes w who m lun cdb sent out n now s.0 (sym (ap (λ (v : World). v.task n) s.1) ∙ is)
    ]

-- after a power-up no task runs
power_ends : (w : World) (out : Out) (n : Nexus) (now : Task) → MayRestore w out → (moved_by w 0 n Power out).task n ≡ Some now → ⊥
power_ends w (entries.Restored value) n now may is = absurd cc
power_ends w (Started way) n now may is = may
power_ends w (Ended status sense data_in) n now may is = may
power_ends w entries.Wrote n now may is = may
power_ends w (entries.Read block) n now may is = may
power_ends w (entries.Fault code) n now may is = may
power_ends w entries.Done n now may is = may
power_ends w entries.Aborted n now may is = may
power_ends w (entries.Login_code code) n now may is = may
power_ends w entries.Left n now may is = may

pub came_by : (w : World) (e : Entry) (n : Nexus) (now : Task) → MayFollow w e → (moved w e).task n ≡ Some now → CameBy w e n now
came_by w e n now may is = by e.who e.nexus e.act e.out may is
  where
    by : (who : ℕ) (m : Nexus) (act : Act) (out : Out) → MayEnd w who m act out → (moved_by w who m act out).task n ≡ Some now → CameBy w (entry who m act out) n now
    by who m (Login version) out may is =
        as_came w (entry who m (Login version) out) n now (λ s. subst IsStarted may s) (λ x. x) (login_runs w (logged_in w who m) (login_code w version m == 0) n now refl is)
    by who m (Command lun cdb sent) out may is = settled_comes w who m lun cdb sent out n now may.2 is
    by who m (Step sent) out may is = as_came w (entry who m (Step sent) out) n now (step_ends w.medium (w.task m) sent out may.1) (λ x. x) (step_runs w m n (w.task m) sent out now refl may.1 is)
    by who m Logout out may is = as_came w (entry who m Logout out) n now (λ s. subst IsStarted may.1 s) (λ x. x) (set_runs w m n None now (λ u e. absurd cc) is)
    by who m Power out may is = absurd (power_ends w out n now may is)
