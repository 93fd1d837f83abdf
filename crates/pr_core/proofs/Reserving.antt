-- A PERSISTENT RESERVE OUT moves the worlds.
use Rattle.std.proofs.Common.{◌≡◌, ℕ, ◌==◌, not, Bool, true, false, cond, List, [], ◌∷◌, ◌++◌, Result, Ok, Err, Option, Some, None, is_some, option_map, inl, inr, ◌&&◌, refl, sym, ap, ◌∙◌, subst}
use std.Path.{fun_ext}
use Rattle.pr_words.specs.declared.nexus.Nexus.{Nexus}
use Rattle.pr_words.specs.declared.nexus.Pair.{Pair}
use Rattle.pr_words.specs.declared.code.Code.{Code}
use Rattle.pr_words.specs.declared.code.Status.TheVariants as status
use Rattle.pr_words.specs.Orders.{same_nexus}
use Rattle.pr_words.specs.declared.code.TheConstants.Code.{INTERNAL_TARGET_FAILURE}
use Rattle.pr_words.specs.declared.limits.TheConstants.{LIMIT}
use Rattle.pr_grammar.specs.Standings.{Standing, is_registered}
use Rattle.pr_grammar.specs.declared.param.OutList.{OutList}
use Rattle.pr_model.specs.Acts.{Acted, Verdict as Verdicts, Good, Conflict, Bad, ReserveOut, acted}
use Rattle.pr_model.specs.Attentions.{with_code, raised_any, is_other, told}
use Rattle.pr_model.specs.Worlds.{World, Task}
use Rattle.pr_model.specs.Tasks.{aborted, marked}
use Rattle.pr_model.specs.Entries.{Out}
use Rattle.pr_model.specs.Commands.{answer, good, conflict, checking, by_verdict, reserve_out}
use Rattle.pr_model.proofs.Orders.{same_is}
use Rattle.pr_model.proofs.Reaching.{acted_knows, acted_reaches}
use Rattle.pr_io.specs.declared.outside.Disk as disks
use Rattle.pr_model.specs.Keeping.{kept, same_kept}
use Rattle.pr_model.specs.Histories.{failures_by}
use Rattle.pr_table.specs.declared.table.Table.{Table}
use Rattle.pr_table.specs.Tables.{standing_of, limit_of}
use Rattle.pr_aptpl.specs.declared.keeper.Keeper.{Keeper}
use Rattle.pr_table.specs.declared.request.OutRequest.{OutRequest}
use Rattle.pr_table.specs.declared.verdict.Verdict.{Verdict}
use Rattle.pr_table.specs.Told as table
use Rattle.pr_table.specs.Told.{Does}
use Rattle.pr_core.specs.declared.seats.Seat.{Seat}
use Rattle.pr_core.specs.declared.state.State.{State}
use Rattle.pr_core.specs.declared.answers.CommandOut.{CommandOut}
use Rattle.pr_core.specs.declared.answers.CommandOut.TheVariants as outs
use Rattle.pr_core.specs.Outs.{out_of}
use Rattle.pr_core.specs.Places.{seat_in}
use Rattle.pr_core.specs.Seats.{seat_of, count_of, attentions_in, owner_in, task_in, Lists}
use Rattle.pr_core.specs.Telling.{raised_where, told_seat, marked_seat}
use Rattle.pr_core.specs.Fitting.{Fits, AllFit}
use Rattle.pr_core.specs.States.{world_with, Depicts, progress_in}
use Rattle.pr_core.specs.Saves.{Holds, SavesTo, Counts}
use Rattle.pr_core.specs.Admits.{Reserves}
use Rattle.pr_core.proofs.Settled.{ends_still, ends_saved, ends_unsaved, counts_still, refusal_counts, illegal_request}

-- the seat of a nexus is its own
pub seat_in_is : (seats : List Seat) (m : Nexus) (s : Seat) → seat_in seats m ≡ Some s → s.nexus ≡ m
seat_in_is [] m s is = absurd cc
seat_in_is (t ∷ seats) m s is = by (same_nexus t.nexus m) refl is (seat_in_is seats m s)
  where
    by : (b : Bool) → same_nexus t.nexus m ≡ b → cond b (Some t) (seat_in seats m) ≡ Some s → (seat_in seats m ≡ Some s → s.nexus ≡ m) → s.nexus ≡ m
    by true e is later = let same : t ≡ s = cc in ap (λ (x : Seat). x.nexus) (sym same) ∙ same_is t.nexus m e
    by false e is later = later is

raised_at : (who : Nexus → Bool) (code : Option Code) (lists : Nexus → List Code) (m : Nexus) → raised_any who code lists m ≡ raised_where (who m) code (lists m)
raised_at who None lists m = by (who m)
  where
    by : (b : Bool) → lists m ≡ raised_where b None (lists m)
    by true = refl
    by false = refl
raised_at who (Some c) lists m = by (who m)
  where
    by : (b : Bool) → cond b (with_code c (lists m)) (lists m) ≡ raised_where b (Some c) (lists m)
    by true = refl
    by false = refl

told_at : (n : Nexus) (a : Acted) (lists : Nexus → List Code) (m : Nexus) → told n a lists m ≡ raised_where (is_other n a.standing.pairs m) a.stay_code (raised_where (is_other n a.removed m) a.removed_code (lists m))
told_at n a lists m =
    raised_at (is_other n a.standing.pairs) a.stay_code (raised_any (is_other n a.removed) a.removed_code lists) m
    ∙ ap (λ (cs : List Code). raised_where (is_other n a.standing.pairs m) a.stay_code cs) (raised_at (is_other n a.removed) a.removed_code lists m)

not_raised : (b : Bool) (code : Option Code) (cs : List Code) → b ≡ false → raised_where b code cs ≡ cs
not_raised true code cs e = absurd cc
not_raised false None cs e = refl
not_raised false (Some c) cs e = refl

-- a nexus without a seat is none of these registrants
no_other : (f : Nexus → Option Seat) (n : Nexus) (ps : List Pair) (m : Nexus) → (is_registered ps m ≡ true → is_some (f m) ≡ true) → f m ≡ None → is_other n ps m ≡ false
no_other f n ps m seated none = by (is_registered ps m) refl
  where
    by : (b : Bool) → is_registered ps m ≡ b → (b && not (same_nexus m n)) ≡ false
    by true e = absurd (let is : is_some (f m) ≡ true = seated e in let not_so : is_some (f m) ≡ false = ap is_some none in cc)
    by false e = refl

-- marking

abbrev after_mark : Bool → List Pair → Nexus → Option Task → Option Task
after_mark aborts gone m t = cond (aborts && is_registered gone m) (option_map aborted t) t

-- the seat of a nexus that was told, and then marked
abbrev pub both : Nexus → Acted → Bool → Option Seat → Option Seat
both n a aborts o = option_map (marked_seat aborts a.removed) (option_map (told_seat n a.standing.pairs a.stay_code a.removed a.removed_code) o)

both_some : (n : Nexus) (a : Acted) (aborts : Bool) (o : Option Seat) → is_some (both n a aborts o) ≡ is_some o
both_some n a aborts None = refl
both_some n a aborts (Some s) = refl

both_owner : (n : Nexus) (a : Acted) (aborts : Bool) (o : Option Seat) → owner_in (both n a aborts o) ≡ owner_in o
both_owner n a aborts None = refl
both_owner n a aborts (Some s) = refl

both_attentions : (n : Nexus) (a : Acted) (aborts : Bool) (o : Option Seat) → attentions_in (both n a aborts o) ≡ attentions_in (option_map (told_seat n a.standing.pairs a.stay_code a.removed a.removed_code) o)
both_attentions n a aborts None = refl
both_attentions n a aborts (Some s) = refl

none_marked : (b : Bool) → cond b (option_map aborted None) None ≡ None
none_marked true = refl
none_marked false = refl

both_task : (n : Nexus) (a : Acted) (aborts : Bool) (m : Nexus) (o : Option Seat) → ((s : Seat) → o ≡ Some s → s.nexus ≡ m) → task_in (both n a aborts o) ≡ after_mark aborts a.removed m (task_in o)
both_task n a aborts m None own = sym (none_marked (aborts && is_registered a.removed m))
both_task n a aborts m (Some s) own = ap (λ (k : Nexus). after_mark aborts a.removed k s.task) (own s refl)

-- all seats are told, and their nexuses are all that there are to tell
pub record Tells (f g : Nexus → Option Seat) (n : Nexus) (a : Acted) : Type 0 where
  pub aborts : Bool
  pub seat : (m : Nexus) → g m ≡ both n a aborts (f m)
  pub own : (m : Nexus) (s : Seat) → f m ≡ Some s → s.nexus ≡ m
  pub stay : (m : Nexus) → is_registered a.standing.pairs m ≡ true → is_some (f m) ≡ true
  pub gone : (m : Nexus) → is_registered a.removed m ≡ true → is_some (f m) ≡ true

pub some_told : (h : Seat → Seat) (o : Option Seat) → is_some (option_map h o) ≡ is_some o
some_told h None = refl
some_told h (Some s) = refl

pub tells_some : (f g : Nexus → Option Seat) (n : Nexus) (a : Acted) → Tells f g n a → (m : Nexus) → is_some (g m) ≡ is_some (f m)
tells_some f g n a tells m = ap is_some (tells.seat m) ∙ both_some n a tells.aborts (f m)

pub told_owner : (n : Nexus) (ps : List Pair) (c : Option Code) (qs : List Pair) (d : Option Code) (o : Option Seat) → owner_in (option_map (told_seat n ps c qs d) o) ≡ owner_in o
told_owner n ps c qs d None = refl
told_owner n ps c qs d (Some s) = refl

owner_told : (n : Nexus) (a : Acted) (o : Option Seat) → owner_in (option_map (told_seat n a.standing.pairs a.stay_code a.removed a.removed_code) o) ≡ owner_in o
owner_told n a o = told_owner n a.standing.pairs a.stay_code a.removed a.removed_code o

pub tells_owner : (f g : Nexus → Option Seat) (n : Nexus) (a : Acted) → Tells f g n a → (m : Nexus) → owner_in (g m) ≡ owner_in (f m)
tells_owner f g n a tells m = ap owner_in (tells.seat m) ∙ both_owner n a tells.aborts (f m)

pub tells_task : (f g : Nexus → Option Seat) (n : Nexus) (a : Acted) (tells : Tells f g n a) → (m : Nexus) → task_in (g m) ≡ after_mark tells.aborts a.removed m (task_in (f m))
tells_task f g n a tells m = ap task_in (tells.seat m) ∙ both_task n a tells.aborts m (f m) (tells.own m)

attentions_told : (f g : Nexus → Option Seat) (n : Nexus) (a : Acted) → Tells f g n a → (m : Nexus) → attentions_in (g m) ≡ told n a (λ k. attentions_in (f k)) m
attentions_told f g n a tells m = by (f m) refl
  where
    by : (o : Option Seat) → f m ≡ o → attentions_in (g m) ≡ told n a (λ k. attentions_in (f k)) m
    by None e =
        ap attentions_in (tells.seat m) ∙ both_attentions n a tells.aborts (f m) ∙ ap (λ (o : Option Seat). attentions_in (option_map (told_seat n a.standing.pairs a.stay_code a.removed a.removed_code) o)) e
        ∙ sym (told_at n a (λ k. attentions_in (f k)) m
        ∙ not_raised (is_other n a.standing.pairs m) a.stay_code _ (no_other f n a.standing.pairs m (tells.stay m) e)
        ∙ not_raised (is_other n a.removed m) a.removed_code _ (no_other f n a.removed m (tells.gone m) e)
        ∙ ap attentions_in e)
    by (Some s) e =
        let here : s.nexus ≡ m = tells.own m s e in
        ap attentions_in (tells.seat m) ∙ both_attentions n a tells.aborts (f m) ∙ ap (λ (o : Option Seat). attentions_in (option_map (told_seat n a.standing.pairs a.stay_code a.removed a.removed_code) o)) e
        ∙ ap (λ (k : Nexus). raised_where (is_other n a.standing.pairs k) a.stay_code (raised_where (is_other n a.removed k) a.removed_code s.attentions)) here
        ∙ sym (told_at n a (λ k. attentions_in (f k)) m
        ∙ ap (λ (o : Option Seat). raised_where (is_other n a.standing.pairs m) a.stay_code (raised_where (is_other n a.removed m) a.removed_code (attentions_in o))) e)

-- the world after an act that is accepted
abbrev next : World → Nexus → ℕ → Acted → World
next w n action a = record w { standing = a.standing; attentions = told n a w.attentions; task = marked action a.removed w.task; doubts = [] }

accepted : (w : World) (n : Nexus) (action : ℕ) (a : Acted) → a.verdict ≡ Good → reserve_out w n action a ≡ answer (next w n action a) (good [])
accepted w n action a is = ap (λ (v : Verdicts). by_verdict w (next w n action a) v) is

conflicting : (w : World) (n : Nexus) (action : ℕ) (a : Acted) → a.verdict ≡ Conflict → reserve_out w n action a ≡ answer w conflict
conflicting w n action a is = ap (λ (v : Verdicts). by_verdict w (next w n action a) v) is

refused : (w : World) (n : Nexus) (action : ℕ) (a : Acted) (c : Code) → a.verdict ≡ Bad c → reserve_out w n action a ≡ answer w (checking c)
refused w n action a c is = ap (λ (v : Verdicts). by_verdict w (next w n action a) v) is

standing_in : (s : State) (w : World) → Depicts s w → w.standing ≡ standing_of s.table
standing_in s w depicts = ap (λ (x : World). x.standing) depicts.world

same_depicts : (old new : State) (w : World) → standing_of new.table ≡ standing_of old.table → new.blocks ≡ old.blocks → new.seats ≡ old.seats → Depicts old w → Depicts new w
same_depicts old new w standing blocks seats depicts =
    record {
      blocks = depicts.blocks ∙ sym blocks;
      known = depicts.known;
      lists = rw seats depicts.lists;
      world = depicts.world ∙ rw (standing, seats) refl;
    }

module _ {D : Type 0} {gd : disks.Ghosts D} where
  pub reserves_conflict : (old new : State) (k : Keeper D gd) (n : Nexus) (o : ReserveOut) (result : CommandOut) → standing_of new.table ≡ standing_of old.table → new.blocks ≡ old.blocks → new.seats ≡ old.seats → (acted LIMIT (standing_of old.table) n o).verdict ≡ Conflict → result ≡ outs.Ended status.ReservationConflict None 0 → Reserves old new k k n o result
  reserves_conflict old new k n o result standing blocks seats is told = (
    λ w depicts holds buf.
        ends_still k new w w (reserve_out w n o.action (acted LIMIT w.standing n o)) (out_of result buf)
        (ap (λ (s : Standing). reserve_out w n o.action (acted LIMIT s n o)) (standing_in old w depicts) ∙ conflicting w n o.action (acted LIMIT (standing_of old.table) n o) is ∙ ap (λ (r : CommandOut). answer w (out_of r buf)) (sym told))
        refl (same_depicts old new w standing blocks seats depicts) holds,
    counts_still k result (λ buf. ap (λ (r : CommandOut). failures_by (out_of r buf)) told),
  )

  pub reserves_bad : (old new : State) (k : Keeper D gd) (n : Nexus) (o : ReserveOut) (c : Code) (result : CommandOut) → standing_of new.table ≡ standing_of old.table → new.blocks ≡ old.blocks → new.seats ≡ old.seats → (acted LIMIT (standing_of old.table) n o).verdict ≡ Bad c → ((buf : List ℕ) → out_of result buf ≡ checking c) → Reserves old new k k n o result
  reserves_bad old new k n o c result standing blocks seats is out = (
    λ w depicts holds buf.
        ends_still k new w w (reserve_out w n o.action (acted LIMIT w.standing n o)) (out_of result buf)
        (ap (λ (s : Standing). reserve_out w n o.action (acted LIMIT s n o)) (standing_in old w depicts) ∙ refused w n o.action (acted LIMIT (standing_of old.table) n o) c is ∙ ap (λ (x : Out). answer w x) (sym (out buf)))
        refl (same_depicts old new w standing blocks seats depicts) holds,
    counts_still k result (λ buf. ap failures_by (out buf) ∙ refusal_counts c (illegal_request c ((acted_reaches LIMIT (standing_of old.table) n o).refusal c is))),
  )

tells_lists : (old new : State) (n : Nexus) (a : Acted) (k : List Nexus) → Tells (seat_of old.seats) (seat_of new.seats) n a → count_of new.seats ≡ count_of old.seats → Lists k old.seats → Lists k new.seats
tells_lists old new n a k tells count lists = record { count = lists.count ∙ sym count; same = λ m. lists.same m ∙ sym (tells_some (seat_of old.seats) (seat_of new.seats) n a tells m) }

-- what an act asks its save for, and where it leads
module _ {D : Type 0} {gd : disks.Ghosts D} (before now : Keeper D gd) (old : State) (n : Nexus) (o : ReserveOut) where
  -- a save of what the act keeps
  abbrev pub SavesAct : {T E : Type 0} → Result T E → Type 0
  SavesAct result = (w v : World) → Holds before w → kept v.standing ≡ kept (acted LIMIT (standing_of old.table) n o).standing → v.doubts ≡ [] → not (same_kept (kept (standing_of old.table)) (kept (acted LIMIT (standing_of old.table) n o).standing)) ≡ not (same_kept (kept w.standing) (kept v.standing)) → SavesTo before now w v result

  saved_here : {T E : Type 0} (r : Result T E) (w : World) → SavesAct r → Depicts old w → Holds before w → SavesTo before now w (next w n o.action (acted LIMIT (standing_of old.table) n o)) r
  saved_here r w saves depicts holds =
      saves w (next w n o.action (acted LIMIT (standing_of old.table) n o)) holds refl refl
      (ap (λ (s : Standing). not (same_kept (kept s) (kept (acted LIMIT (standing_of old.table) n o).standing))) (sym (standing_in old w depicts)))

  answered_here : (w : World) → Depicts old w → (acted LIMIT (standing_of old.table) n o).verdict ≡ Good
      → reserve_out w n o.action (acted LIMIT w.standing n o) ≡ answer (next w n o.action (acted LIMIT (standing_of old.table) n o)) (good [])
  answered_here w depicts is = ap (λ (s : Standing). reserve_out w n o.action (acted LIMIT s n o)) (standing_in old w depicts) ∙ accepted w n o.action (acted LIMIT (standing_of old.table) n o) is

  pub reserves_good : {T E : Type 0} (new : State) (r : Result T E) (x : T) (result : CommandOut) → standing_of new.table ≡ (acted LIMIT (standing_of old.table) n o).standing → new.blocks ≡ old.blocks
      → (tells : Tells (seat_of old.seats) (seat_of new.seats) n (acted LIMIT (standing_of old.table) n o)) → tells.aborts ≡ (o.action == 5) → count_of new.seats ≡ count_of old.seats
      → (acted LIMIT (standing_of old.table) n o).verdict ≡ Good → r ≡ Ok x → SavesAct r → Counts before now result → result ≡ outs.Ended status.Good None 0 → Reserves old new before now n o result
  reserves_good {T} {E} new r x result standing blocks tells aborts count is done saves counts told_it = (
    λ w depicts holds buf.
        let a : Acted = acted LIMIT (standing_of old.table) n o in
        let v : World = next w n o.action a in
        let f : Nexus → Option Seat = seat_of old.seats in
        let g : Nexus → Option Seat = seat_of new.seats in
        ends_saved before now new w v (reserve_out w n o.action (acted LIMIT w.standing n o)) (out_of result buf) (answered_here w depicts is) (ap (λ (q : CommandOut). out_of q buf) told_it)
        (record {
          blocks = depicts.blocks ∙ sym blocks;
          known = depicts.known;
          lists = tells_lists old new n a depicts.known tells count depicts.lists;
          world =
              ap (λ (y : World). next y n o.action a) depicts.world
              ∙ ap (λ (s : Standing). record (world_with v s f depicts.known) { attentions = told n a (λ k. attentions_in (f k)); task = marked o.action a.removed (λ k. task_in (f k)) }) (sym standing)
              ∙ ap (λ (l : Nexus → List Code). record (world_with v (standing_of new.table) f depicts.known) { attentions = l; task = marked o.action a.removed (λ k. task_in (f k)) }) (fun_ext (λ m. sym (attentions_told f g n a tells m)))
              ∙ ap (λ (l : Nexus → Option ℕ). record (world_with v (standing_of new.table) g depicts.known) { owner = l; task = marked o.action a.removed (λ k. task_in (f k)) }) (fun_ext (λ m. sym (tells_owner f g n a tells m)))
              ∙ ap (λ (l : Nexus → Option Task). record (world_with v (standing_of new.table) g depicts.known) { task = l }) (fun_ext (λ m. ap (λ (b : Bool). after_mark b a.removed m (task_in (f m))) (sym aborts) ∙ sym (tells_task f g n a tells m)));
        })
        (subst (λ (q : Result T E). SavesTo before now w v q) done (saved_here r w saves depicts holds)),
    counts,
  )

  pub reserves_unsaved : {T E : Type 0} (new : State) (r : Result T E) (e : E) (result : CommandOut) → standing_of new.table ≡ standing_of old.table → new.blocks ≡ old.blocks → new.seats ≡ old.seats
      → (acted LIMIT (standing_of old.table) n o).verdict ≡ Good → r ≡ Err e → SavesAct r → Counts before now result → ((buf : List ℕ) → out_of result buf ≡ checking INTERNAL_TARGET_FAILURE) → Reserves old new before now n o result
  reserves_unsaved {T} {E} new r e result standing blocks seats is failed saves counts out = (
    λ w depicts holds buf.
        let v : World = next w n o.action (acted LIMIT (standing_of old.table) n o) in
        let saved = subst (λ (q : Result T E). SavesTo before now w v q) failed (saved_here r w saves depicts holds) in
        let d = same_depicts old new w standing blocks seats depicts in
        ends_unsaved before now new w v (reserve_out w n o.action (acted LIMIT w.standing n o)) (out_of result buf) (answered_here w depicts is) (out buf)
        (record { blocks = d.blocks; known = d.known; lists = d.lists; world = ap (λ (y : World). record y { doubts = w.doubts ++ kept v.standing ∷ [] }) d.world }) saved.0 saved.1,
    counts,
  )

-- what the table did, at the target's limit
pub does_here : (old : State) (spare : Table) (n : Nexus) (request : OutRequest) (list : OutList) (result : Verdict) (now : Standing) (gone : List Pair)
    → limit_of spare ≡ LIMIT → standing_of spare ≡ standing_of old.table → Does (acted (limit_of spare) (standing_of spare) n (table.requested request list)) result now gone
    → Does (acted LIMIT (standing_of old.table) n (table.requested request list)) result now gone
does_here old spare n request list result now gone limit standing does =
    subst (λ (s : Standing). Does (acted LIMIT s n (table.requested request list)) result now gone) standing
    (subst (λ (k : ℕ). Does (acted k (standing_of spare) n (table.requested request list)) result now gone) limit does)

-- what the table did, in the core's words
pub record Served (old : State) (n : Nexus) (o : ReserveOut) (standing : Standing) (gone : List Pair) : Type 0 where
  pub standing_is : standing ≡ (acted LIMIT (standing_of old.table) n o).standing
  pub gone_is : gone ≡ (acted LIMIT (standing_of old.table) n o).removed
  pub caller : is_some (seat_of old.seats n) ≡ true

pub seated_still : (old : State) (n : Nexus) (o : ReserveOut) (standing : Standing) (gone : List Pair) → Served old n o standing gone → (m : Nexus) → is_registered standing.pairs m ≡ true → is_some (seat_of old.seats m) ≡ true
seated_still old n o standing gone served m is =
    elim (acted_knows LIMIT (standing_of old.table) n o m (ap (λ (s : Standing). is_registered s.pairs m) (sym served.standing_is) ∙ is)) [
      | inl before ↦ old.seated m before
      | inr caller ↦ ap (λ (k : Nexus). is_some (seat_of old.seats k)) caller ∙ served.caller
    ]

-- seats that were told and marked with the table's own words are told and marked with those of the act
abbrev pub tells_by : (old : State) (mid g : Nexus → Option Seat) (n : Nexus) (o : ReserveOut) (standing : Standing) (gone : List Pair) (stay_code removed_code : Option Code) (aborts : Bool) → Served old n o standing gone
    → stay_code ≡ (acted LIMIT (standing_of old.table) n o).stay_code → removed_code ≡ (acted LIMIT (standing_of old.table) n o).removed_code
    → mid ≡ (λ m. option_map (told_seat n standing.pairs stay_code gone removed_code) (seat_of old.seats m)) → g ≡ (λ m. option_map (marked_seat aborts gone) (mid m)) → Tells (seat_of old.seats) g n (acted LIMIT (standing_of old.table) n o)
tells_by old mid g n o standing gone stay_code removed_code aborts served stay left told marks =
    let a : Acted = acted LIMIT (standing_of old.table) n o in
    record {
      aborts = aborts;
      seat = λ m.
          ap (λ (f : Nexus → Option Seat). f m) marks
          ∙ ap (λ (f : Nexus → Option Seat). option_map (marked_seat aborts gone) (f m)) told
          ∙ ap (λ (s : Standing). option_map (marked_seat aborts gone) (option_map (told_seat n s.pairs stay_code gone removed_code) (seat_of old.seats m))) served.standing_is
          ∙ ap (λ (c : Option Code). option_map (marked_seat aborts gone) (option_map (told_seat n a.standing.pairs c gone removed_code) (seat_of old.seats m))) stay
          ∙ ap (λ (ps : List Pair). option_map (marked_seat aborts ps) (option_map (told_seat n a.standing.pairs a.stay_code ps removed_code) (seat_of old.seats m))) served.gone_is
          ∙ ap (λ (c : Option Code). option_map (marked_seat aborts a.removed) (option_map (told_seat n a.standing.pairs a.stay_code a.removed c) (seat_of old.seats m))) left;
      own = λ m s is. seat_in_is old.seats.items.items m s is;
      stay = λ m is. seated_still old n o standing gone served m (ap (λ (s : Standing). is_registered s.pairs m) served.standing_is ∙ is);
      gone = λ m is. old.seated m ((acted_reaches LIMIT (standing_of old.table) n o).removed m is);
    }

-- a mark changes nothing of how far a task has come, nor of its blocks
mark_progress : (b : Bool) (t : Option Task) → progress_in (cond b (option_map aborted t) t) ≡ progress_in t
mark_progress true None = refl
mark_progress true (Some t) = refl
mark_progress false t = refl

pub tells_progress : (f g : Nexus → Option Seat) (n : Nexus) (a : Acted) → Tells f g n a → (m : Nexus) → progress_in (task_in (g m)) ≡ progress_in (task_in (f m))
tells_progress f g n a tells m = ap progress_in (tells_task f g n a tells m) ∙ mark_progress (tells.aborts && is_registered a.removed m) (task_in (f m))

mark_fits : (blocks : ℕ) (b : Bool) (o : Option Task) (t : Task) → cond b (option_map aborted o) o ≡ Some t → ((u : Task) → o ≡ Some u → Fits blocks u) → Fits blocks t
mark_fits blocks true None t is fit = absurd cc
mark_fits blocks true (Some u) t is fit =
    let same : aborted u ≡ t = cc in
    let here : Fits blocks u = fit u refl in
    subst (Fits blocks) same (record { within = here.within; few = here.few })
mark_fits blocks false o t is fit = fit t is

pub tells_fit : (blocks : ℕ) (f g : Nexus → Option Seat) (n : Nexus) (a : Acted) → Tells f g n a → AllFit blocks f → AllFit blocks g
tells_fit blocks f g n a tells fit m t is = mark_fits blocks (tells.aborts && is_registered a.removed m) (task_in (f m)) t (sym (tells_task f g n a tells m) ∙ is) (fit m)
