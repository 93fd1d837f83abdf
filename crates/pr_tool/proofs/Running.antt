-- Turns and records that were run with a core.
use Rattle.std.proofs.Common.{◌≡◌, ℕ, suc, zero, ◌+◌, ◌-◌, ◌*◌, ◌≤◌, ◌<◌, ◌⊎◌, inl, inr, List, [], ◌++◌, length, take, drop, min, refl, sym, ap, ◌∙◌, subst, arith}
use Rattle.std.proofs.lemmas.List.{take-append-drop, length-append, length-take, length-drop, drop-drop, drop_all, take_all}
use Rattle.pr_io.specs.Streams.{Put, PutSome}
use Rattle.pr_io.specs.Told.{ToldSink}
use Rattle.pr_io.proofs.Pieces.{put_more, put_nothing}
use Rattle.pr_grammar.specs.Outputs.{output_of}
use Rattle.pr_grammar.specs.Schedules.{Arrival}
use Rattle.pr_model.specs.Lanes.{Lane, Phase, Fresh, In, Busy, Dead, AwaitsFrame, fresh, arrived, turn}
use Rattle.pr_model.specs.Runs.{Deed, deed, TakesTurn, TakesTurns, CutsTurn, RunsRecord, CutsRecord, closing, Closes}
use Rattle.pr_model.proofs.Overflow.{MadeRoom, Has_died, Has_room, room_made, takes_more, turns-append, arrived-append, arrived-nil}
use Rattle.pr_io.specs.declared.outside.Medium as media
use Rattle.pr_io.specs.declared.outside.Disk as disks
use Rattle.pr_core.specs.declared.target.Core.{Core}
use Rattle.pr_core.specs.View.{Extends}
use Rattle.pr_core.proofs.Entering.{extends_none, extends_append}
use Rattle.pr_words.specs.declared.task.Way.{Way}
use Rattle.pr_words.specs.declared.task.Way.TheVariants as ways
use Rattle.pr_words.specs.declared.limits.TheConstants.{HELD, DATA}
use Rattle.pr_session.specs.Coming.{HasCome}
use Rattle.pr_session.specs.Driving.{Agrees, Follows, LeavesLess, left_by, left_of}
use Rattle.pr_session.specs.Feeding.{fed, fed_at}
use Rattle.pr_tool.specs.Exits.{Ran}
use Rattle.pr_tool.specs.Lanes.{Advances}

-- a turn whose reply was written
pub turn_ran : {M D : Type 0} {gm : media.Ghosts M} {gd : disks.Ghosts D} (who : ℕ) (old new : Core M D gm gd) (a b : ToldSink) (l m : Lane) (reply : List ℕ) → Follows who old l (turn l) new m reply → Put a.written b.written (output_of who reply) → Ran (TakesTurn who) a b old l new m
turn_ran who old new a b l m reply f put =
    record { entries = f.entries; output = output_of who reply; acts = (f.entries, reply, f.makes, refl); extends = f.extends; puts = put }

-- a turn of whose reply just a front was written
pub turn_cut : {M D : Type 0} {gm : media.Ghosts M} {gd : disks.Ghosts D} (who : ℕ) (old new : Core M D gm gd) (a b : ToldSink) (l m : Lane) (reply : List ℕ) → Follows who old l (turn l) new m reply → PutSome a.written b.written (output_of who reply) → Ran (CutsTurn who) a b old l new m
turn_cut who old new a b l m reply f put =
    record {
      entries = f.entries;
      output = put.0;
      acts = (put.1, (f.entries, reply, f.makes, ap (deed f.entries) (sym put.2)), put.4);
      extends = f.extends;
      puts = put.3;
    }

fed_some : (p : Phase) (bytes more : List ℕ) → (p ≡ Dead → ⊥) → length bytes < HELD → 0 < length more → 0 < fed_at p bytes more
fed_some Dead bytes more alive room some = absurd (alive refl)
fed_some Fresh bytes more alive room some = omega arith
fed_some (In n) bytes more alive room some = omega arith
fed_some (Busy n j) bytes more alive room some = omega arith

fed_room : (p : Phase) (bytes more : List ℕ) → length bytes < HELD → 0 < length more → 0 < fed_at p bytes more
fed_room Dead bytes more room some = some
fed_room Fresh bytes more room some = omega arith
fed_room (In n) bytes more room some = omega arith
fed_room (Busy n j) bytes more room some = omega arith

dead_fed : (p : Phase) (bytes more : List ℕ) → p ≡ Dead → 0 < length more → 0 < fed_at p bytes more
dead_fed p bytes more is some = rw is some

made_room : (m : Lane) (more : List ℕ) → MadeRoom m → 0 < length more → 0 < fed m more
made_room m more (Has_died l is) some = dead_fed m.phase m.bytes more is some
made_room m more (Has_room l room) some = fed_room m.phase m.bytes more room some

-- after a turn of a full lane that lives there is room, or less is left of its task
pub turn_room : {M D : Type 0} {gm : media.Ghosts M} {gd : disks.Ghosts D} (who : ℕ) (old new : Core M D gm gd) (l m : Lane) (reply : List ℕ) → Follows who old l (turn l) new m reply
    → length l.bytes ≡ HELD → (l.phase ≡ Dead → ⊥) → LeavesLess l.phase m.phase → Advances l m
turn_room who old new l m reply f full alive less = by l.phase refl
  where
    makes : AwaitsFrame l.phase → Advances l m
    makes awaits = inl (λ more some. made_room m more (room_made who l m f.entries reply full awaits f.makes) some)

    by : (p : Phase) → l.phase ≡ p → Advances l m
    by Fresh is = makes (subst AwaitsFrame (sym is) tt)
    by (In n) is = makes (subst AwaitsFrame (sym is) tt)
    by (Busy n j) is = inr (subst (λ (p : Phase). left_of m.phase < left_of p) (sym is) (subst (λ (p : Phase). LeavesLess p m.phase) is less))
    by Dead is = absurd (alive is)

-- how much is left of a task, at the most
pub left_bound : {M D : Type 0} {gm : media.Ghosts M} {gd : disks.Ghosts D} (p : Phase) (who : ℕ) (c : Core M D gm gd) → Agrees p who c → left_of p ≤ DATA + 1
left_bound Fresh who c agrees = omega arith
left_bound (In n) who c agrees = omega arith
left_bound Dead who c agrees = omega arith
left_bound (Busy n j) who c agrees = by j.way agrees.come
  where
    by : (way : Way) → HasCome way agrees.progress (length j.bytes) → left_by way (length j.bytes) ≤ DATA + 1
    by ways.Read come = omega arith
    by ways.Write come = omega (arith, come, agrees.few)

-- what is still to be done of an arrival: its bytes that wait, and what is left of a task
abbrev pub to_do : ℕ → ℕ → ℕ
to_do waiting left = waiting * (DATA + 2) + left

pub less_to_do : (waiting n left before : ℕ) → n ≤ waiting → left ≤ DATA + 1 → (0 < n) ⊎ (left < before) → to_do (waiting - n) left < to_do waiting before
less_to_do waiting n left before within bound (inl some) = omega (arith, within, bound, some)
less_to_do waiting n left before within bound (inr less) = omega (arith, within, less)

-- turns that make room for bytes that arrive

abbrev pub Makes_room : ℕ → List ℕ → Lane → Deed → Lane → Type 0
Makes_room who bytes l d m = (turns : ℕ) × TakesTurns turns who (arrived l bytes) d m

bytes_alive : (p : Phase) (bytes more : List ℕ) (place : ℕ) → (p ≡ Dead → ⊥) → length (arrived (record { bytes = bytes; phase = p; place = place }) more).bytes ≡ length bytes + length more
bytes_alive Dead bytes more place alive = absurd (alive refl)
bytes_alive Fresh bytes more place alive = length-append bytes more
bytes_alive (In n) bytes more place alive = length-append bytes more
bytes_alive (Busy n j) bytes more place alive = length-append bytes more

fed_not_all : (p : Phase) (bytes more : List ℕ) (n : ℕ) → n ≡ fed_at p bytes more → n < length more → p ≡ Dead → ⊥
fed_not_all Dead bytes more n is less dead = omega (arith, is, less)
fed_not_all Fresh bytes more n is less dead = absurd cc
fed_not_all (In m) bytes more n is less dead = absurd cc
fed_not_all (Busy m j) bytes more n is less dead = absurd cc

fed_count : (p : Phase) (bytes more : List ℕ) → (p ≡ Dead → ⊥) → fed_at p bytes more ≡ min (length more) (HELD - length bytes)
fed_count Dead bytes more alive = absurd (alive refl)
fed_count Fresh bytes more alive = refl
fed_count (In m) bytes more alive = refl
fed_count (Busy m j) bytes more alive = refl

same_phase : (l : Lane) (more : List ℕ) → (arrived l more).phase ≡ l.phase
same_phase l more = by_phase l.phase l.bytes l.place
  where
    by_phase : (p : Phase) (bytes : List ℕ) (place : ℕ) → (arrived (record { bytes = bytes; phase = p; place = place }) more).phase ≡ p
    by_phase Dead bytes place = refl
    by_phase Fresh bytes place = refl
    by_phase (In n) bytes place = refl
    by_phase (Busy n j) bytes place = refl

-- where not all bytes were taken, the lane lives and is full
pub fed_full : (l m : Lane) (more : List ℕ) (n : ℕ) → n ≡ fed l more → m ≡ arrived l (take n more) → length m.bytes ≤ HELD → n < length more → (length m.bytes ≡ HELD) × (m.phase ≡ Dead → ⊥)
fed_full l m more n is goes bound less =
    let alive : l.phase ≡ Dead → ⊥ = fed_not_all l.phase l.bytes more n is less in
    let size : length m.bytes ≡ length l.bytes + length (take n more) = ap (λ (x : Lane). length x.bytes) goes ∙ bytes_alive l.phase l.bytes (take n more) l.place alive in
    let count : n ≡ min (length more) (HELD - length l.bytes) = is ∙ fed_count l.phase l.bytes more alive in (
      omega (arith, size, length-take n more, less, count, bound),
      λ dead. alive (sym (ap (λ (x : Lane). x.phase) goes ∙ same_phase l (take n more)) ∙ dead),
    )

-- bytes that were taken, and those that wait behind them
taken_and_rest : (l m : Lane) (bytes : List ℕ) (n : ℕ) → m ≡ arrived l (take n bytes) → arrived m (drop n bytes) ≡ arrived l bytes
taken_and_rest l m bytes n goes = ap (λ (x : Lane). arrived x (drop n bytes)) goes ∙ arrived-append l (take n bytes) (drop n bytes) ∙ ap (arrived l) (take-append-drop n bytes)

pub room_start : {M D : Type 0} {gm : media.Ghosts M} {gd : disks.Ghosts D} (who : ℕ) (c : Core M D gm gd) (a : ToldSink) (l m : Lane) (bytes : List ℕ) (n : ℕ) → m ≡ arrived l (take n bytes) → Ran (Makes_room who bytes) a a c l c (arrived m (drop n bytes))
room_start who c a l m bytes n goes =
    record {
      entries = [];
      output = [];
      acts = (zero, (refl, taken_and_rest l m bytes n goes));
      extends = extends_none c;
      puts = put_nothing a.written;
    }

room_join : {M D : Type 0} {gm : media.Ghosts M} {gd : disks.Ghosts D} (who : ℕ) (c0 c1 c2 : Core M D gm gd) (a b d : ToldSink) (l mid last : Lane) (bytes : List ℕ)
    → Ran (Makes_room who bytes) a b c0 l c1 mid → HELD < length mid.bytes → Ran (TakesTurn who) b d c1 mid c2 last → Ran (Makes_room who bytes) a d c0 l c2 last
room_join who c0 c1 c2 a b d l mid last bytes first more next =
    record {
      entries = first.entries ++ next.entries;
      output = first.output ++ next.output;
      acts = (suc first.acts.0, turns-append first.acts.0 who (arrived l bytes) mid last (deed first.entries first.output) (deed next.entries next.output) first.acts.1 more next.acts);
      extends = extends_append c0 c1 c2 first.entries next.entries first.extends next.extends;
      puts = put_more a.written b.written d.written first.output next.output first.puts next.puts;
    }

turn_behind : {M D : Type 0} {gm : media.Ghosts M} {gd : disks.Ghosts D} (who : ℕ) (c1 c2 : Core M D gm gd) (b d : ToldSink) (l m : Lane) (rest : List ℕ) → HELD ≤ length l.bytes
    → Ran (TakesTurn who) b d c1 l c2 m → Ran (TakesTurn who) b d c1 (arrived l rest) c2 (arrived m rest)
turn_behind who c1 c2 b d l m rest full ran =
    record { entries = ran.entries; output = ran.output; acts = takes_more who l m (deed ran.entries ran.output) rest full ran.acts; extends = ran.extends; puts = ran.puts }

cut_behind : {M D : Type 0} {gm : media.Ghosts M} {gd : disks.Ghosts D} (who : ℕ) (c1 c2 : Core M D gm gd) (b d : ToldSink) (l m : Lane) (rest : List ℕ) → HELD ≤ length l.bytes
    → Ran (CutsTurn who) b d c1 l c2 m → Ran (CutsTurn who) b d c1 (arrived l rest) c2 (arrived m rest)
cut_behind who c1 c2 b d l m rest full ran =
    record {
      entries = ran.entries;
      output = ran.output;
      acts = (ran.acts.0, takes_more who l m (deed ran.entries (ran.output ++ ran.acts.0)) rest full ran.acts.1, ran.acts.2);
      extends = ran.extends;
      puts = ran.puts;
    }

-- more bytes than are held wait on a full lane that lives
long_behind : (l : Lane) (rest : List ℕ) → length l.bytes ≡ HELD → (l.phase ≡ Dead → ⊥) → 0 < length rest → HELD < length (arrived l rest).bytes
long_behind l rest full alive some = omega (arith, bytes_alive l.phase l.bytes rest l.place alive, full, some)

-- one more turn of a full lane, with bytes that wait behind it
pub room_more : {M D : Type 0} {gm : media.Ghosts M} {gd : disks.Ghosts D} (who : ℕ) (c0 c1 c2 : Core M D gm gd) (a b d : ToldSink) (l mid next : Lane) (bytes rest : List ℕ)
    → Ran (Makes_room who bytes) a b c0 l c1 (arrived mid rest) → length mid.bytes ≡ HELD → (mid.phase ≡ Dead → ⊥) → 0 < length rest
    → Ran (TakesTurn who) b d c1 mid c2 next → Ran (Makes_room who bytes) a d c0 l c2 (arrived next rest)
room_more who c0 c1 c2 a b d l mid next bytes rest first full alive some turn =
    room_join who c0 c1 c2 a b d l (arrived mid rest) (arrived next rest) bytes first (long_behind mid rest full alive some) (turn_behind who c1 c2 b d mid next rest (omega (arith, full)) turn)

-- the same of a turn that is cut, with which an arrival ends
pub room_cut : {M D : Type 0} {gm : media.Ghosts M} {gd : disks.Ghosts D} (who : ℕ) (c0 c1 c2 : Core M D gm gd) (a b d : ToldSink) (l mid next : Lane) (bytes rest : List ℕ)
    → Ran (Makes_room who bytes) a b c0 l c1 (arrived mid rest) → length mid.bytes ≡ HELD → (mid.phase ≡ Dead → ⊥) → 0 < length rest
    → Ran (CutsTurn who) b d c1 mid c2 next → Ran (CutsRecord (Arrival who bytes)) a d c0 l c2 (arrived next rest)
room_cut who c0 c1 c2 a b d l mid next bytes rest first full alive some last =
    let cut = cut_behind who c1 c2 b d mid next rest (omega (arith, full)) last in
    record {
      entries = first.entries ++ cut.entries;
      output = first.output ++ cut.output;
      acts = (
        first.acts.0,
        (
          deed first.entries first.output,
          arrived mid rest,
          deed cut.entries cut.output,
          first.acts.1,
          long_behind mid rest full alive some,
          cut.acts,
          refl,
        ),
      );
      extends = extends_append c0 c1 c2 first.entries cut.entries first.extends cut.extends;
      puts = put_more a.written b.written d.written first.output cut.output first.puts cut.puts;
    }

-- the lane takes some of the bytes that wait
pub room_fed : {M D : Type 0} {gm : media.Ghosts M} {gd : disks.Ghosts D} (who : ℕ) (c0 c1 : Core M D gm gd) (a b : ToldSink) (l mid next : Lane) (bytes : List ℕ) (at n : ℕ)
    → Ran (Makes_room who bytes) a b c0 l c1 (arrived mid (drop at bytes)) → next ≡ arrived mid (take n (drop at bytes)) → Ran (Makes_room who bytes) a b c0 l c1 (arrived next (drop (at + n) bytes))
room_fed who c0 c1 a b l mid next bytes at n ran goes =
    let same : arrived mid (drop at bytes) ≡ arrived next (drop (at + n) bytes) =
    sym (ap (λ (w : List ℕ). arrived next w) (sym (drop-drop n at bytes)) ∙ taken_and_rest mid next (drop at bytes) n goes) in
    subst (λ (x : Lane). Ran (Makes_room who bytes) a b c0 l c1 x) same ran

-- all bytes were taken
pub room_end : {M D : Type 0} {gm : media.Ghosts M} {gd : disks.Ghosts D} (who : ℕ) (c0 c1 : Core M D gm gd) (a b : ToldSink) (l m : Lane) (bytes : List ℕ) (at : ℕ) → length bytes ≤ at → length m.bytes ≤ HELD
    → Ran (Makes_room who bytes) a b c0 l c1 (arrived m (drop at bytes)) → Ran (RunsRecord (Arrival who bytes)) a b c0 l c1 m
room_end who c0 c1 a b l m bytes at all bound ran =
    let last : arrived m (drop at bytes) ≡ m = ap (arrived m) (drop_all at bytes all) ∙ arrived-nil m in
    let here : Ran (Makes_room who bytes) a b c0 l c1 m = subst (λ (x : Lane). Ran (Makes_room who bytes) a b c0 l c1 x) last ran in
    record { entries = here.entries; output = here.output; acts = (here.acts, bound); extends = here.extends; puts = here.puts }

pub fed_within : (p : Phase) (bytes more : List ℕ) → fed_at p bytes more ≤ length more
fed_within Dead bytes more = omega arith
fed_within Fresh bytes more = omega arith
fed_within (In n) bytes more = omega arith
fed_within (Busy n j) bytes more = omega arith

-- a session agrees with a core as before while bytes come
pub agrees_still : {M D : Type 0} {gm : media.Ghosts M} {gd : disks.Ghosts D} (who : ℕ) (c : Core M D gm gd) (l m : Lane) (more : List ℕ) → m ≡ arrived l more → Agrees l.phase who c → Agrees m.phase who c
agrees_still who c l m more goes agrees = subst (λ (p : Phase). Agrees p who c) (sym (ap (λ (x : Lane). x.phase) goes ∙ same_phase l more)) agrees

pub all_behind : (at : ℕ) (bytes : List ℕ) → take (length bytes - at) (drop at bytes) ≡ drop at bytes
all_behind at bytes = take_all (length bytes - at) (drop at bytes) (omega (arith, length-drop at bytes))

-- a connection that was closed, which writes nothing
pub closed_ran : {M D : Type 0} {gm : media.Ghosts M} {gd : disks.Ghosts D} (who : ℕ) (old new : Core M D gm gd) (a : ToldSink) (l m : Lane) → Extends old new (closing who l.phase) → m ≡ fresh → Ran (Closes who) a a old l new m
closed_ran who old new a l m made is = record { entries = closing who l.phase; output = []; acts = (refl, is); extends = made; puts = put_nothing a.written }
