-- A run of a schedule, record by record.
use Rattle.std.proofs.Common.{◌≡◌, ℕ, ◌+◌, ◌-◌, ◌≤◌, ◌<◌, List, [], ◌∷◌, ◌++◌, length, replicate, Option, Some, None, refl, sym, ap, ◌∙◌, subst, arith, inl, inr}
use Rattle.std.specs.List.{flat_map}
use Rattle.std.proofs.lemmas.List.{append-nil, length-append}
use Rattle.std.proofs.lemmas.List.Concat.{flat_map-append, flat_map-cons}
use Rattle.std.proofs.lemmas.List.Elements.{All-nil, All-append, All-cons}
use Rattle.pr_io.specs.Streams.{Took, Put}
use Rattle.pr_io.specs.Causes.{next_fault}
use Rattle.pr_io.specs.Images.{Story, Stays}
use Rattle.pr_io.specs.Told.{ToldMedium, ToldSink, ToldStreams, Told, NoneFailed}
use Rattle.pr_io.proofs.Pieces.{put_more, took_more, put_nothing, took_nothing}
use Rattle.pr_grammar.specs.Schedules.{Record, Power_loss, IsRecord, spelled_record}
use Rattle.pr_grammar.proofs.Records.{not_whole_and_broken, not_whole_and_long, not_broken_and_long, broken_once}
use Rattle.pr_model.specs.Keeping.{Kept}
use Rattle.pr_model.specs.Entries.{History, power_up}
use Rattle.pr_model.specs.Lanes.{Lane, fresh}
use Rattle.pr_model.specs.Runs.{Deed, deed, IsRun, IsCutRun}
use Rattle.pr_model.proofs.RunLaws.{run-append}
use Rattle.pr_io.specs.declared.outside.Medium as media
use Rattle.pr_io.specs.declared.outside.Disk as disks
use Rattle.pr_core.specs.declared.target.Core.{Core}
use Rattle.pr_core.specs.View.{Extends, disk_of}
use Rattle.pr_core.proofs.Entering.{extends_none, extends_append}
use Rattle.pr_tool.specs.Reading.{Stops}
use Rattle.pr_tool.specs.Exits.{HasRun, RunEnds, EndsUnpowered, HasEnded, Stands, GoesOn, Reopened, LeavesDisk, Causes, IsEarlier, Decides}
use Rattle.pr_grammar.specs.Files.{file_head, file_layout}
use Rattle.pr_aptpl.specs.declared.fault.OpenFault.{OpenFault}
use Rattle.pr_aptpl.specs.declared.fault.OpenFault.TheVariants as faults
use Rattle.pr_aptpl.specs.Opens.{FailsAt, IsFaultOf}
use Rattle.pr_tool.specs.Stops.{Did, LosesPower, WasCut, StopsBy, exit_at, exit_of, unopened_of}
use Rattle.pr_tool.specs.declared.exit.Exit.{Exit}
use Rattle.pr_tool.specs.declared.exit.Exit.TheVariants as exits
use Rattle.pr_tool.specs.declared.schedule.End.{End}
use Rattle.pr_tool.specs.declared.schedule.End.TheVariants.{Done, ReadFault, Broken, TooLong}
use Rattle.pr_tool.specs.declared.replay.Stop.{Stop}
use Rattle.pr_tool.specs.declared.replay.Stop.TheVariants as stop
use Rattle.pr_tool.proofs.Causes.{Carries, carries_all, carries_more, at_place, done_whole, broken_broken, too_long_long}

pub run_first : {M D : Type 0} {gm : media.Ghosts M} {gd : disks.Ghosts D} (lanes budget : ℕ) (c : Core M D gm gd) (a : ToldStreams) (now : List Lane) → now ≡ replicate lanes fresh → GoesOn lanes budget budget c c a a now
run_first lanes budget c a now is =
    record {
      run =
          record {
            records = [];
            entries = [];
            output = [];
            read = [];
            took = took_nothing a.source.rest;
            spelling = refl;
            valid = All-nil (IsRecord lanes);
            within = omega arith;
            puts = put_nothing a.sink.written;
            served = extends_none c;
            runs = (refl, is);
          };
      counted = omega arith;
      calm = (refl, refl);
    }

spelled_more : (records : List Record) (r : Record) (read : List ℕ) → read ≡ flat_map spelled_record records ++ [] → read ++ spelled_record r ≡ flat_map spelled_record (records ++ r ∷ []) ++ []
spelled_more records r read is =
    ap (λ (x : List ℕ). x ++ spelled_record r) (is ∙ append-nil (flat_map spelled_record records))
    ∙ sym (append-nil (flat_map spelled_record (records ++ r ∷ [])) ∙ flat_map-append spelled_record records (r ∷ []) ∙ ap (λ (x : List ℕ). flat_map spelled_record records ++ x) (flat_map-cons spelled_record r [] ∙ append-nil (spelled_record r)))

size_more : (records : List Record) (r : Record) → length (flat_map spelled_record (records ++ r ∷ [])) ≡ length (flat_map spelled_record records) + length (spelled_record r)
size_more records r =
    let text : flat_map spelled_record (records ++ r ∷ []) ≡ flat_map spelled_record records ++ spelled_record r =
    flat_map-append spelled_record records (r ∷ []) ∙ ap (λ (x : List ℕ). flat_map spelled_record records ++ x) (flat_map-cons spelled_record r [] ∙ append-nil (spelled_record r)) in
    ap length text ∙ length-append (flat_map spelled_record records) (spelled_record r)

-- one more record that ran
pub run_more : {M D : Type 0} {gm : media.Ghosts M} {gd : disks.Ghosts D} (lanes budget left size : ℕ) (c0 c1 c2 : Core M D gm gd) (a b c : ToldStreams) (before now : List Lane)
    → GoesOn lanes budget left c0 c1 a b before → Did lanes left b c c1 before c2 now size → GoesOn lanes budget (left - size) c0 c2 a c now
run_more lanes budget left size c0 c1 c2 a b c before now s did =
    let extends : Extends c0 c2 (s.run.entries ++ did.ran.entries) = extends_append c0 c1 c2 s.run.entries did.ran.entries s.run.served did.ran.extends in
    let counted : length (flat_map spelled_record (s.run.records ++ did.first ∷ [])) + (left - size) ≡ budget = omega (arith, size_more s.run.records did.first, s.counted, did.counted, did.within) in
    record {
      run =
          record {
            records = s.run.records ++ did.first ∷ [];
            entries = s.run.entries ++ did.ran.entries;
            output = s.run.output ++ did.ran.output;
            read = s.run.read ++ spelled_record did.first;
            took = took_more a.source.rest b.source.rest c.source.rest s.run.read (spelled_record did.first) s.run.took did.took;
            spelling = spelled_more s.run.records did.first s.run.read s.run.spelling;
            valid = All-append (IsRecord lanes) s.run.records (did.first ∷ []) s.run.valid (All-cons (IsRecord lanes) did.first [] did.valid (All-nil (IsRecord lanes)));
            within = omega (arith, counted);
            puts = put_more a.sink.written b.sink.written c.sink.written s.run.output did.ran.output s.run.puts did.ran.puts;
            served = extends;
            runs = run-append (replicate lanes fresh) s.run.records (deed s.run.entries s.run.output) before did.first (deed did.ran.entries did.ran.output) now s.run.runs did.ran.acts;
          };
      counted = counted;
      calm = (did.calm.0 ∙ s.calm.0, did.calm.1 ∙ s.calm.1);
    }

-- power was lost and the target was opened again, with new connections
pub powered : {M D : Type 0} {gm : media.Ghosts M} {gd : disks.Ghosts D} (lanes left : ℕ) (a b : ToldStreams) (c1 c2 c3 : Core M D gm gd) (before mid now : List Lane) (value : Kept)
    → LosesPower lanes left a b c1 before c2 mid → Extends c2 c3 (power_up value ∷ []) → now ≡ replicate (length mid) fresh → Did lanes left a b c1 before c3 now 4
powered {M} {D} {gm} {gd} lanes left a b c1 c2 c3 before mid now value loses extends is = record {
  first = Power_loss;
  took = loses.took;
  valid = loses.valid;
  within = loses.within;
  ran = record {
    entries = power_up value ∷ [];
    output = [];
    acts = inr (refl, (value, refl, is ∙ ap (λ (w : List Lane). replicate (length w) fresh) loses.lanes_stay));
    extends = subst (λ (c : Core M D gm gd). Extends c c3 (power_up value ∷ [])) loses.core extends;
    puts = subst (λ (k : ToldSink). Put a.sink.written k.written []) (sym loses.sink) (put_nothing a.sink.written);
  };
  counted = refl;
  some = omega arith;
  calm = (loses.faults, ap (λ (k : ToldSink). k.faults) loses.sink);
}

-- one more record that was cut
run_cut : {M D : Type 0} {gm : media.Ghosts M} {gd : disks.Ghosts D} (lanes budget left : ℕ) (c0 c1 c2 : Core M D gm gd) (a b c : ToldStreams) (before : List Lane)
    → GoesOn lanes budget left c0 c1 a b before → WasCut lanes left b c c1 before c2 → RunEnds (λ h. Extends c0 c2 h) lanes budget exits.WriteFault a c
run_cut lanes budget left c0 c1 c2 a b c before s did = (
  did.last,
  record {
    records = s.run.records ++ did.first ∷ [];
    entries = s.run.entries ++ did.ran.entries;
    output = s.run.output ++ did.ran.output;
    read = s.run.read ++ spelled_record did.first;
    took = took_more a.source.rest b.source.rest c.source.rest s.run.read (spelled_record did.first) s.run.took did.took;
    spelling = spelled_more s.run.records did.first s.run.read s.run.spelling;
    valid = All-append (IsRecord lanes) s.run.records (did.first ∷ []) s.run.valid (All-cons (IsRecord lanes) did.first [] did.valid (All-nil (IsRecord lanes)));
    within = omega (arith, size_more s.run.records did.first, s.counted, did.within);
    puts = put_more a.sink.written b.sink.written c.sink.written s.run.output did.ran.output s.run.puts did.ran.puts;
    served = extends_append c0 c1 c2 s.run.entries did.ran.entries s.run.served did.ran.extends;
    runs = (
      s.run.records,
      did.first,
      deed s.run.entries s.run.output,
      before,
      deed did.ran.entries did.ran.output,
      refl,
      s.run.runs,
      did.ran.acts,
      refl,
    );
  },
  (did.failed.0 ∙ s.calm.0, did.failed.1 ∙ ap next_fault s.calm.1),
)

-- a run that stops behind some bytes that are no record
abbrev with_tail : (Served : History → Type 0) (lanes budget : ℕ) (a b c : ToldStreams) (last : List Lane) (tail : List ℕ) → HasRun IsRun Served lanes budget a b last [] → Took b.source.rest c.source.rest tail → c.sink ≡ b.sink → HasRun IsRun Served lanes budget a c last tail
with_tail Served lanes budget a b c last tail run took same =
    record {
      records = run.records;
      entries = run.entries;
      output = run.output;
      read = run.read ++ tail;
      took = took_more a.source.rest b.source.rest c.source.rest run.read tail run.took took;
      spelling = ap (λ (x : List ℕ). x ++ tail) (run.spelling ∙ append-nil (flat_map spelled_record run.records));
      valid = run.valid;
      within = run.within;
      puts = subst (λ (k : ToldSink). Put a.sink.written k.written run.output) (sym same) run.puts;
      served = run.served;
      runs = run.runs;
    }

-- where no record was read
read_stops : {M D : Type 0} {gm : media.Ghosts M} {gd : disks.Ghosts D} (lanes budget left : ℕ) (end : End) (c0 c1 c2 : Core M D gm gd) (place : ℕ) (a b c : ToldStreams) (now : List Lane) → place + left ≡ budget
    → GoesOn lanes budget left c0 c1 a b now → StopsBy lanes left (stop.Read end) b c c1 now c2 → RunEnds (λ h. Extends c0 c1 h) lanes budget (exit_at end place) a c
read_stops lanes budget left Done c0 c1 c2 place a b c now at s stops =
    let calm : NoneFailed a c = (stops.1 ∙ s.calm.0, ap (λ (k : ToldSink). k.faults) stops.2 ∙ s.calm.1) in
    (now, with_tail (λ h. Extends c0 c1 h) lanes budget a b c now [] s.run stops.0.0 stops.2, stops.0.1, calm)
read_stops lanes budget left ReadFault c0 c1 c2 place a b c now at s stops =
    (now, stops.0.0, with_tail (λ h. Extends c0 c1 h) lanes budget a b c now stops.0.0 s.run stops.0.1 stops.2, stops.0.2, omega (arith, s.counted, stops.0.3), (stops.1 ∙ ap next_fault s.calm.0, ap (λ (k : ToldSink). k.faults) stops.2 ∙ s.calm.1))
read_stops lanes budget left Broken c0 c1 c2 place a b c now at s stops =
    let calm : NoneFailed a c = (stops.1 ∙ s.calm.0, ap (λ (k : ToldSink). k.faults) stops.2 ∙ s.calm.1) in
    (now, stops.0.0, with_tail (λ h. Extends c0 c1 h) lanes budget a b c now stops.0.0 s.run stops.0.1 stops.2, omega (arith, s.counted, at), omega (arith, at, s.counted, stops.0.3), stops.0.2, stops.0.4, calm)
read_stops lanes budget left TooLong c0 c1 c2 place a b c now at s stops =
    let calm : NoneFailed a c = (stops.1 ∙ s.calm.0, ap (λ (k : ToldSink). k.faults) stops.2 ∙ s.calm.1) in
    (now, stops.0.0, stops.0.1, with_tail (λ h. Extends c0 c1 h) lanes budget a b c now (stops.0.0 ++ stops.0.1) s.run stops.0.2 stops.2, stops.0.3, omega (arith, s.counted, stops.0.4), stops.0.5, calm)

-- where power was lost, and the target couldn't be opened again
unpowered_ends : {M D : Type 0} {gm : media.Ghosts M} {gd : disks.Ghosts D} (lanes budget left : ℕ) (c0 c1 c2 : Core M D gm gd) (a b c : ToldStreams) (before now : List Lane)
    → GoesOn lanes budget left c0 c1 a b before → LosesPower lanes left b c c1 before c2 now → EndsUnpowered (λ h. Extends c0 c2 h) lanes budget a c
unpowered_ends {M} {D} {gm} {gd} lanes budget left c0 c1 c2 a b c before now s loses =
    subst (λ (k : Core M D gm gd). EndsUnpowered (λ h. Extends c0 k h) lanes budget a c) (sym loses.core) (
      before,
      with_tail (λ h. Extends c0 c1 h) lanes budget a b c before (spelled_record Power_loss) s.run loses.took loses.sink,
      omega (arith, s.counted, loses.within),
      (loses.faults ∙ s.calm.0, ap (λ (k : ToldSink). k.faults) loses.sink ∙ s.calm.1),
    )

pub run_unpowered : {M D : Type 0} {gm : media.Ghosts M} {gd : disks.Ghosts D} (lanes budget left : ℕ) (f : OpenFault) (c0 c1 c2 : Core M D gm gd) (a b c : ToldStreams) (before now : List Lane)
    → GoesOn lanes budget left c0 c1 a b before → LosesPower lanes left b c c1 before c2 now → RunEnds (λ h. Extends c0 c2 h) lanes budget (unopened_of f) a c
run_unpowered lanes budget left (faults.BadFile place) c0 c1 c2 a b c before now s loses = unpowered_ends lanes budget left c0 c1 c2 a b c before now s loses
run_unpowered lanes budget left faults.DiskFault c0 c1 c2 a b c before now s loses = unpowered_ends lanes budget left c0 c1 c2 a b c before now s loses
run_unpowered lanes budget left faults.OutOfMemory c0 c1 c2 a b c before now s loses = unpowered_ends lanes budget left c0 c1 c2 a b c before now s loses

-- the disk that a run leaves, at each exit

pub stops_leave : {M D : Type 0} {gm : media.Ghosts M} {gd : disks.Ghosts D} (s : Stop) (place : ℕ) (core : Core M D gm gd) (disk : D) → disk ≡ disk_of core → LeavesDisk (exit_of s place) core disk
stops_leave (stop.Read Done) place core disk is = is
stops_leave (stop.Read ReadFault) place core disk is = is
stops_leave (stop.Read Broken) place core disk is = is
stops_leave (stop.Read TooLong) place core disk is = is
stops_leave stop.Write place core disk is = is

pub unopened_leave : {M D : Type 0} {gm : media.Ghosts M} {gd : disks.Ghosts D} (f : OpenFault) (core : Core M D gm gd) (disk : D) → Reopened f core disk → LeavesDisk (unopened_of f) core disk
unopened_leave (faults.BadFile place) core disk is = is
unopened_leave faults.DiskFault core disk is = is
unopened_leave faults.OutOfMemory core disk is = is

-- the place at which a run stops is what is gone of the budget
pub run_stops : {M D : Type 0} {gm : media.Ghosts M} {gd : disks.Ghosts D} (lanes budget left : ℕ) (s : Stop) (c0 c1 c2 : Core M D gm gd) (place : ℕ) (a b c : ToldStreams) (now : List Lane) → place + left ≡ budget
    → GoesOn lanes budget left c0 c1 a b now → StopsBy lanes left s b c c1 now c2 → RunEnds (λ h. Extends c0 c2 h) lanes budget (exit_of s place) a c
run_stops {M} {D} {gm} {gd} lanes budget left (stop.Read end) c0 c1 c2 place a b c now at s stops =
    subst (λ (k : Core M D gm gd). RunEnds (λ h. Extends c0 k h) lanes budget (exit_at end place) a c) (sym stops.3)
    (read_stops lanes budget left end c0 c1 c2 place a b c now at s stops)
run_stops lanes budget left stop.Write c0 c1 c2 place a b c now at s stops = run_cut lanes budget left c0 c1 c2 a b c now s stops

-- what the rest of a schedule brings, all of it brings, where it is told
abbrev pub CarriesTold : ℕ → ℕ → ℕ → Option (List ℕ) → Option (List ℕ) → Type 0
CarriesTold lanes budget left None now = Unit {0}
CarriesTold lanes budget left (Some all) None = ⊥
CarriesTold lanes budget left (Some all) (Some rest) = Carries lanes budget left all rest

pub told_first : (lanes budget : ℕ) (r : Option (List ℕ)) → CarriesTold lanes budget budget r r
told_first lanes budget None = tt
told_first lanes budget (Some all) = carries_all lanes budget all

pub told_more : (lanes budget left size : ℕ) (first : Record) (ra rb rc : Option (List ℕ)) → IsRecord lanes first → length (spelled_record first) ≤ left → size ≡ length (spelled_record first)
    → Took rb rc (spelled_record first) → CarriesTold lanes budget left ra rb → CarriesTold lanes budget (left - size) ra rc
told_more lanes budget left size first None rb rc valid within counted took carries = tt
told_more lanes budget left size first (Some all) None rc valid within counted took carries = absurd carries
told_more lanes budget left size first (Some all) (Some rest) None valid within counted took carries = absurd took
told_more lanes budget left size first (Some all) (Some rest) (Some later) valid within counted took carries =
    subst (λ (k : ℕ). Carries lanes budget (left - k) all later) (sym counted)
    (carries_more lanes budget left first all rest later (record { spelling = took; valid = valid; fits = within }) carries)

told_stops : (lanes : ℕ) (end : End) (budget left place : ℕ) (ra rb rc : Option (List ℕ)) → place + left ≡ budget → CarriesTold lanes budget left ra rb → Stops lanes left end rb rc → Causes lanes (exit_at end place) budget ra
told_stops lanes Done budget left place None rb rc at carries stops = tt
told_stops lanes Done budget left place (Some all) None rc at carries stops = absurd carries
told_stops lanes Done budget left place (Some all) (Some rest) rc at carries stops = carries.whole (done_whole lanes left rest rc stops)
told_stops lanes ReadFault budget left place ra rb rc at carries stops = tt
told_stops lanes Broken budget left place None rb rc at carries stops = tt
told_stops lanes Broken budget left place (Some all) None rc at carries stops = absurd carries
told_stops lanes Broken budget left place (Some all) (Some rest) rc at carries stops =
    at_place lanes budget all (budget - left + 0) place (omega (arith, at)) (carries.broken 0 (broken_broken lanes left rest rc stops))
told_stops lanes TooLong budget left place None rb rc at carries stops = tt
told_stops lanes TooLong budget left place (Some all) None rc at carries stops = absurd carries
told_stops lanes TooLong budget left place (Some all) (Some rest) rc at carries stops = carries.long (too_long_long lanes left rest rc stops)

pub run_causes : {M D : Type 0} {gm : media.Ghosts M} {gd : disks.Ghosts D} (lanes : ℕ) (s : Stop) (budget left place : ℕ) (ra : Option (List ℕ)) (b c : ToldStreams) (c1 c2 : Core M D gm gd) (now : List Lane) → place + left ≡ budget
    → CarriesTold lanes budget left ra b.source.rest → StopsBy lanes left s b c c1 now c2 → Causes lanes (exit_of s place) budget ra
run_causes lanes (stop.Read end) budget left place ra b c c1 c2 now at carries stops = told_stops lanes end budget left place ra b.source.rest c.source.rest at carries stops.0
run_causes lanes stop.Write budget left place ra b c c1 c2 now at carries stops = tt

pub same_name : {X : Type 0} (a b : X) → Some a ≡ Some b → a ≡ b
same_name a b is = cc

-- a run whose history was served so, where that says more
module _ {P Q : History → Type 0} (more : (h : History) → P h → Q h) where
  abbrev run_serves : (Run : List Lane → List Record → Deed → List Lane → Type 0) (lanes budget : ℕ) (a b : ToldStreams) (last : List Lane) (tail : List ℕ) → HasRun Run P lanes budget a b last tail → HasRun Run Q lanes budget a b last tail
  run_serves Run lanes budget a b last tail run = record {
    records = run.records;
    entries = run.entries;
    output = run.output;
    read = run.read;
    took = run.took;
    spelling = run.spelling;
    valid = run.valid;
    within = run.within;
    puts = run.puts;
    served = more run.entries run.served;
    runs = run.runs;
  }

  pub ends_serve : (lanes budget : ℕ) (e : Exit) (a b : ToldStreams) → RunEnds P lanes budget e a b → RunEnds Q lanes budget e a b
  ends_serve lanes budget exits.Done a b ends = (ends.0, run_serves IsRun lanes budget a b ends.0 [] ends.1, ends.2, ends.3)
  ends_serve lanes budget exits.BadWords a b ends = absurd ends
  ends_serve lanes budget exits.ReadFault a b ends = (ends.0, ends.1, run_serves IsRun lanes budget a b ends.0 ends.1 ends.2, ends.3, ends.4, ends.5)
  ends_serve lanes budget exits.WriteFault a b ends = (ends.0, run_serves IsCutRun lanes budget a b ends.0 [] ends.1, ends.2)
  ends_serve lanes budget (exits.BadSchedule place) a b ends = (ends.0, ends.1, run_serves IsRun lanes budget a b ends.0 ends.1 ends.2, ends.3, ends.4, ends.5, ends.6, ends.7)
  ends_serve lanes budget (exits.BadFile place) a b ends = (ends.0, run_serves IsRun lanes budget a b ends.0 (spelled_record Power_loss) ends.1, ends.2, ends.3)
  ends_serve lanes budget exits.NoMemory a b ends = (ends.0, run_serves IsRun lanes budget a b ends.0 (spelled_record Power_loss) ends.1, ends.2, ends.3)
  ends_serve lanes budget exits.DiskFault a b ends = (ends.0, run_serves IsRun lanes budget a b ends.0 (spelled_record Power_loss) ends.1, ends.2, ends.3)
  ends_serve lanes budget exits.TooLong a b ends = (ends.0, ends.1, ends.2, run_serves IsRun lanes budget a b ends.0 (ends.1 ++ ends.2) ends.3, ends.4, ends.5, ends.6, ends.7)

-- a run that has begun has a history that was served
pub ends_served : {P : History → Type 0} (lanes budget : ℕ) (e : Exit) (a b : ToldStreams) → RunEnds P lanes budget e a b → (h : History) × P h
ends_served lanes budget exits.Done a b ends = (ends.1.entries, ends.1.served)
ends_served lanes budget exits.BadWords a b ends = absurd ends
ends_served lanes budget exits.ReadFault a b ends = (ends.2.entries, ends.2.served)
ends_served lanes budget exits.WriteFault a b ends = (ends.1.entries, ends.1.served)
ends_served lanes budget (exits.BadSchedule place) a b ends = (ends.2.entries, ends.2.served)
ends_served lanes budget (exits.BadFile place) a b ends = (ends.1.entries, ends.1.served)
ends_served lanes budget exits.NoMemory a b ends = (ends.1.entries, ends.1.served)
ends_served lanes budget exits.DiskFault a b ends = (ends.1.entries, ends.1.served)
ends_served lanes budget exits.TooLong a b ends = (ends.3.entries, ends.3.served)

-- how often the disk failed when it was opened again, where that is the exit
abbrev pub more_by : Exit → ℕ
more_by exits.DiskFault = 1
more_by _ = 0

-- a run that has begun, among all that stands
pub ends_stand : (Untouched : Type 0) (lanes budget : ℕ) (e : Exit) (before after : Told) (s t : Story) → ((place : ℕ) → e ≡ exits.BadFile place → t.now ≡ None)
    → HasEnded (more_by e) lanes budget e before after s t → Stands Untouched lanes budget e before after s t
ends_stand U lanes budget exits.Done before after s t untold ends = ends
ends_stand U lanes budget exits.BadWords before after s t untold ends = absurd ends
ends_stand U lanes budget exits.ReadFault before after s t untold ends = ends
ends_stand U lanes budget exits.WriteFault before after s t untold ends = ends
ends_stand U lanes budget (exits.BadSchedule place) before after s t untold ends = ends
ends_stand U lanes budget (exits.BadFile place) before after s t untold ends = inr (untold place refl, ends)
ends_stand U lanes budget exits.NoMemory before after s t untold ends = inr ends
ends_stand U lanes budget exits.DiskFault before after s t untold ends = inr ends
ends_stand U lanes budget exits.TooLong before after s t untold ends = ends

-- a target that couldn't be opened

told_same : (a b : Told) → a.streams ≡ b.streams → a.medium ≡ b.medium → a.disk.faults ≡ b.disk.faults → a ≡ b
told_same a b streams medium faults =
    ap (λ (x : ToldStreams). record { streams = x; medium = a.medium; disk = a.disk }) streams
    ∙ ap (λ (x : ToldMedium). record { streams = b.streams; medium = x; disk = a.disk }) medium
    ∙ ap (λ (x : ℕ). record { streams = b.streams; medium = b.medium; disk = record { faults = x } }) faults

pub unopened_stands : (Untouched : Type 0) (lanes budget : ℕ) (f : OpenFault) (e : Exit) (before after : Told) (s t : Story) → e ≡ unopened_of f → after.streams ≡ before.streams → after.medium ≡ before.medium
    → IsFaultOf f before.disk.faults after.disk.faults → FailsAt file_head file_layout f s → Stays s t → Untouched → Stands Untouched lanes budget e before after s t
unopened_stands U lanes budget (faults.BadFile place) e before after s t is streams medium fault fails stays untouched =
    subst (λ (x : Exit). Stands U lanes budget x before after s t) (sym is) (inl (untouched, told_same after before streams medium fault, stays, fails))
unopened_stands U lanes budget faults.DiskFault e before after s t is streams medium fault fails stays untouched =
    subst (λ (x : Exit). Stands U lanes budget x before after s t) (sym is) (inl (untouched, (streams, medium, fault.0), stays))
unopened_stands U lanes budget faults.OutOfMemory e before after s t is streams medium fault fails stays untouched =
    subst (λ (x : Exit). Stands U lanes budget x before after s t) (sym is) (inl (untouched, told_same after before streams medium fault, stays))

pub unopened_causes : (lanes budget : ℕ) (f : OpenFault) (e : Exit) (r : Option (List ℕ)) → e ≡ unopened_of f → Causes lanes e budget r
unopened_causes lanes budget (faults.BadFile place) e r is = subst (λ (x : Exit). Causes lanes x budget r) (sym is) tt
unopened_causes lanes budget faults.DiskFault e r is = subst (λ (x : Exit). Causes lanes x budget r) (sym is) tt
unopened_causes lanes budget faults.OutOfMemory e r is = subst (λ (x : Exit). Causes lanes x budget r) (sym is) tt

pub unopened_early : (f : OpenFault) (e : Exit) → e ≡ unopened_of f → IsEarlier e
unopened_early (faults.BadFile place) e is = subst IsEarlier (sym is) tt
unopened_early faults.DiskFault e is = subst IsEarlier (sym is) tt
unopened_early faults.OutOfMemory e is = subst IsEarlier (sym is) tt

pub unopened_begun : (f : OpenFault) (e : Exit) → e ≡ unopened_of f → e ≡ exits.BadWords → ⊥
unopened_begun (faults.BadFile place) e is words = let clash : exits.BadFile place ≡ exits.BadWords = sym is ∙ words in cc
unopened_begun faults.DiskFault e is words = let clash : exits.DiskFault ≡ exits.BadWords = sym is ∙ words in cc
unopened_begun faults.OutOfMemory e is words = let clash : exits.NoMemory ≡ exits.BadWords = sym is ∙ words in cc

-- a run that has begun doesn't end with the exits that come before it
pub not_words : (P : History → Type 0) (lanes budget : ℕ) (e : Exit) (before after : ToldStreams) → RunEnds P lanes budget e before after → e ≡ exits.BadWords → ⊥
not_words P lanes budget exits.Done before after ends is = cc
not_words P lanes budget exits.BadWords before after ends is = ends
not_words P lanes budget exits.ReadFault before after ends is = cc
not_words P lanes budget exits.WriteFault before after ends is = cc
not_words P lanes budget (exits.BadSchedule place) before after ends is = cc
not_words P lanes budget (exits.BadFile place) before after ends is = cc
not_words P lanes budget exits.NoMemory before after ends is = cc
not_words P lanes budget exits.DiskFault before after ends is = cc
not_words P lanes budget exits.TooLong before after ends is = cc

-- the causes exclude each other
pub causes_decide : (lanes : ℕ) (e : Exit) (budget : ℕ) (r : Option (List ℕ)) → 0 < lanes → Causes lanes e budget r → Decides lanes e budget r
causes_decide lanes e budget None some cause = tt
causes_decide lanes exits.Done budget (Some all) some cause = (λ w. inr refl, λ place b. absurd (not_whole_and_broken lanes budget place all some cause b), λ l. absurd (not_whole_and_long lanes budget all cause l))
causes_decide lanes exits.BadWords budget (Some all) some cause = (λ w. inl tt, λ place b. inl tt, λ l. inl tt)
causes_decide lanes exits.ReadFault budget (Some all) some cause = (λ w. inl tt, λ place b. inl tt, λ l. inl tt)
causes_decide lanes exits.WriteFault budget (Some all) some cause = (λ w. inl tt, λ place b. inl tt, λ l. inl tt)
causes_decide lanes (exits.BadSchedule place) budget (Some all) some cause = (
  λ w. absurd (not_whole_and_broken lanes budget place all some w cause),
  λ other b. inr (ap exits.BadSchedule (broken_once lanes budget place other all cause b)),
  λ l. absurd (not_broken_and_long lanes budget place all cause l),
)
causes_decide lanes (exits.BadFile place) budget (Some all) some cause = (λ w. inl tt, λ other b. inl tt, λ l. inl tt)
causes_decide lanes exits.NoMemory budget (Some all) some cause = (λ w. inl tt, λ place b. inl tt, λ l. inl tt)
causes_decide lanes exits.DiskFault budget (Some all) some cause = (λ w. inl tt, λ place b. inl tt, λ l. inl tt)
causes_decide lanes exits.TooLong budget (Some all) some cause = (λ w. absurd (not_whole_and_long lanes budget all w cause), λ place b. absurd (not_broken_and_long lanes budget place all b cause), λ l. inr refl)

pub early_decides : (lanes : ℕ) (e : Exit) (budget : ℕ) (r : Option (List ℕ)) → IsEarlier e → Decides lanes e budget r
early_decides lanes e budget None early = tt
early_decides lanes e budget (Some all) early = (λ w. inl early, λ place b. inl early, λ l. inl early)
