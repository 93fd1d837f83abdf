-- On a wire whose targets serve the agent no run of off stops, unless a count rose.
use Rattle.std.proofs.Common.{◌≡◌, ◌⊎◌, ◌==◌, ℕ, zero, suc, inl, inr, Bool, true, false, List, [], ◌∷◌, ◌++◌, map, Option, Some, None, refl, sym, ap, ◌∙◌, subst, append-nil, arith}
use Rattle.std.specs.Prelude.{Result, Ok, Err, slice_get, if◌then◌else◌}
use Rattle.std.specs.List.{AllByRecursion, filter}
use Rattle.std.specs.String.{string_bytes}
use Rattle.std.specs.declared.string.String.{String}
use Rattle.std.proofs.lemmas.Bool.{eq-eqb}
use Rattle.std.proofs.lemmas.List.{map-append}
use Rattle.std.proofs.lemmas.List.Elements.{filter-append}
use Rattle.pr_words.specs.declared.nexus.Key.{Key}
use Rattle.pr_words.specs.declared.nexus.Nexus.{Nexus}
use Rattle.pr_model.specs.Entries.{History}
use Rattle.pr_model.specs.Histories.{IsLegalFrom, after, failures_in, moved}
use Rattle.pr_model.specs.Lanes.{Idle, turn}
use Rattle.pr_model.specs.Sessions.{AreTurns, AsksFor, connection}
use Rattle.pr_model.specs.Worlds.{World}
use Rattle.pr_model.proofs.Walk.{legal_behind}
use Rattle.pr_io.specs.Causes.{Rose}
use Rattle.pr_io.specs.declared.mem_wire.MemWire.{MemWire}
use Rattle.pr_io.specs.declared.outside.Medium as media
use Rattle.pr_io.specs.declared.outside.Disk as disks
use Rattle.pr_io.specs.declared.peer.Peer as peers
use Rattle.pr_io.specs.declared.recorded.Recorded.{Recorded}
use Rattle.pr_io.specs.Devices.{AllCome, DeviceComes, DeviceStands}
use Rattle.pr_io.specs.Lines.{Exchange, Line, nothing_said}
use Rattle.pr_io.specs.Recordings.{AreNamed, address_at, addresses_of, exchange_of, last_of, line_of, own_address, standing, talk_of, told_current, told_of}
use Rattle.pr_io.specs.Talks.{Connection, Talk, one_more}
use Rattle.pr_initiator.specs.Goings.{EndedAt, WasEnded}
use Rattle.pr_fence.specs.declared.exit.FenceExit.{FenceExit}
use Rattle.pr_fence.specs.declared.exit.FenceExit.TheVariants as exit
use Rattle.pr_fence.specs.declared.plan.Errand.{Errand}
use Rattle.pr_fence.specs.declared.plan.Errand.TheVariants as errand
use Rattle.pr_fence.specs.Exits.{ended}
use Rattle.pr_fence.specs.Whole.{Ends, Runs, ToldWire, at, exit_of}
use Rattle.pr_fence.specs.Words.{FenceOff, Text, Wanted, wanted_by}
use Rattle.pr_io.specs.Told.{ToldSink}
use Rattle.pr_core.specs.Shared.{MayTell, ground_in, opened_on, unknown}
use Rattle.pr_core.specs.View.{StandsFor, disk_of}
use Rattle.pr_core.specs.declared.ground.Ground.{Ground}
use Rattle.pr_session.specs.declared.lane_peer.LanePeer.{LanePeer}
use Rattle.pr_session.specs.Sessions.{lane_of, reply_of}
use Rattle.pr_session.specs.Peers.{AsksBehind, Comes, GoesOnFrom, HasMade, peer_number}
use Rattle.pr_rig.specs.Rig.{AllHaveMade, AllPairs, AreOpen, IsOpen, IsReady, NoDiskFails}
use Rattle.pr_rig.proofs.Attending.{attends_after, attends_opened, attention_keys, few_attentions}
use Rattle.pr_rig.proofs.Completing.{AllCalm, IsWhole, aligned, all_at, calm_behind, calm_entries, calm_first, cancel, came_at, each_exchange, none_failed, rests_after, same_addresses}
use Rattle.pr_rig.proofs.Conversing.{Rests}
use Rattle.pr_rig.proofs.Lasting.{formed_after, nothing_asked}
use Rattle.pr_rig.proofs.Owning.{AreKeys}
use Rattle.pr_rig.proofs.Passing.{Formed}
use Rattle.pr_rig.proofs.Stopping.{RestsBehind, Stopped, run_stops, stopping}
use Rattle.pr_rig.proofs.Turning.{AllFollow}
use Rattle.pr_rig.proofs.Wiring.{Split, all_named, device_at, each_told, named_at, split, stands_at}

named_front : (addresses : List (List ℕ)) (xs ys : List Recorded) → AreNamed addresses (xs ++ ys) → AreNamed addresses xs
named_front addresses [] ys named = refl
named_front addresses (x ∷ xs) ys named =
    let head : address_at addresses x ≡ own_address x = cc in
    let rest : AreNamed addresses xs = named_front addresses xs ys (cc) in
    ap (λ (o : Option (List ℕ)). o ∷ map (address_at addresses) xs) head ∙ ap (λ (l : List (Option (List ℕ))). own_address x ∷ l) rest

pair_at : {X : Type 0} (holds : X → X → Type 0) (ds es : List X) (i : ℕ) (d e : X) → slice_get ds i ≡ Some d → slice_get es i ≡ Some e → AllPairs holds ds es → holds d e
pair_at holds [] es i d e is now all = absurd cc
pair_at holds (x ∷ ds) [] i d e is now all = absurd cc
pair_at holds (x ∷ ds) (y ∷ es) zero d e is now all =
    let one : x ≡ d = cc in
    let two : y ≡ e = cc in
    subst (λ a. holds a e) one (subst (λ b. holds x b) two all.0)
pair_at holds (x ∷ ds) (y ∷ es) (suc i) d e is now all = pair_at holds ds es i d e is now all.1

may_false : {M : Type 0} (gm : media.Ghosts M) → MayTell gm false
may_false gm told = absurd cc

module _ (own victim : Key) (n : Nexus) (k : AreKeys own victim n) where
  -- the world of a target that served the agent's run from its start on
  rests_at : (g : Ground) (h since : History) → IsLegalFrom (opened_on g false) (h ++ since) → Formed (opened_on g false) → IsOpen n victim (after (opened_on g false) h) → Rests own victim n k (after (opened_on g false) h)
  rests_at g h since legal formed serves =
      let are = attends_after (opened_on g false) h (attends_opened (unknown g.blocks false) false g.kept) n in (
        record {
          formed = formed_after (opened_on g false) h since legal formed;
          fits = serves.fits;
          other = serves.other;
          room = inr serves.few;
          known = inr serves.fewer;
          attends = attention_keys ((after (opened_on g false) h).attentions n) are;
          few = omega (arith, few_attentions ((after (opened_on g false) h).attentions n) are);
        },
        serves.nobody n,
      )

  follow_stop : (t : Talk) (start : ℕ) (w : World) (h : History) → AllCalm w h → AllFollow (stopping own victim n k t start).claim w h
  follow_stop t start w [] calm = tt
  follow_stop t start w (e ∷ h) calm = (calm.0, follow_stop t start (moved w e) h calm.1)

module _ {M D : Type 0} {gm : media.Ghosts M} {gd : disks.Ghosts D} where
  module _ (own victim : Key) (n : Nexus) (k : AreKeys own victim n) where
    module _ {of : peers.Ghosts (LanePeer M D gm gd)} (v w : MemWire (LanePeer M D gm gd) of) (start : ℕ) (made : AllHaveMade v)
        (all : AllCome (DeviceComes (λ (p : LanePeer M D gm gd) l q m. Comes p l q m)) v.devices.items (line_of v.earlier.items v.current) w.devices.items (line_of w.earlier.items w.current))
        (ready : IsReady v) (serve : AreOpen v n victim) (calm : NoDiskFails v.devices.items w.devices.items)
        (stopped : Stopped own victim n k start (talk_of v.earlier.items v.current) (talk_of w.earlier.items w.current)) where
      -- what one device has heard and said before the run, and since
      module _ (c : Recorded) (current : w.current ≡ Some c) (last_is : told_of c ≡ stopped.last)
          (d e : String _ × LanePeer M D gm gd) (there : slice_get v.devices.items c.device ≡ Some d) (now : slice_get w.devices.items c.device ≡ Some e)
          (came : Comes d.1 (line_of v.earlier.items v.current c.device) e.1 (line_of w.earlier.items w.current c.device)) (h : History) (was : HasMade d.1 (line_of v.earlier.items v.current c.device) h) where
        abbrev old_line : Line
        old_line = line_of v.earlier.items v.current c.device

        abbrev new_line : Line
        new_line = line_of w.earlier.items w.current c.device

        goes : GoesOnFrom d.1 old_line e.1 new_line h
        goes = came.goes h was

        nothing_last : old_line.last ≡ nothing_said
        nothing_last = ap (last_of c.device) ready.alone

        none_asked : was.asked ≡ []
        none_asked =
            let asks = subst (λ (x : Exchange). AsksFor peer_number x.heard was.asked (x.said ++ reply_of d.1.session) (lane_of d.1.session)) nothing_last was.asks in
            nothing_asked asks.turns was.asked (reply_of d.1.session) (lane_of d.1.session) asks.taken

        behind : AsksBehind old_line.past e.1 new_line goes.since
        behind =
            goes.later old_line.past []
            (record {
              others = [];
              earlier = [];
              asked = [];
              line = sym (append-nil old_line.past);
              all = refl;
              past = refl;
              asks = subst (λ (x : History). AsksFor peer_number old_line.last.heard x (old_line.last.said ++ reply_of d.1.session) (lane_of d.1.session)) none_asked was.asks;
              quiet = was.quiet;
            })

        told_since : map told_of w.earlier.items ≡ map told_of v.earlier.items ++ stopped.more
        told_since = stopped.before ∙ ap (λ (o : Option Recorded). one_more (map told_of v.earlier.items) (told_current o) ++ stopped.more) ready.alone

        cut : Split w.earlier.items (map told_of v.earlier.items) stopped.more
        cut = split w.earlier.items (map told_of v.earlier.items) stopped.more told_since

        lined_up : map exchange_of (filter (λ (r : Recorded). r.device == c.device) cut.before) ≡ old_line.past
        lined_up =
            let addresses : addresses_of w.devices.items ≡ addresses_of v.devices.items = same_addresses (λ (p : LanePeer M D gm gd) l q m. Comes p l q m) v.devices.items w.devices.items (line_of v.earlier.items v.current) (line_of w.earlier.items w.current) all in
            let named : AreNamed (addresses_of v.devices.items) w.earlier.items = subst (λ (a : List (List ℕ)). AreNamed a w.earlier.items) addresses w.past in
            aligned (addresses_of v.devices.items) ready.apart c.device cut.before v.earlier.items cut.first (named_front (addresses_of v.devices.items) cut.before cut.behind (subst (AreNamed (addresses_of v.devices.items)) cut.all named)) v.past

        others_are : behind.others ≡ map exchange_of (filter (λ (r : Recorded). r.device == c.device) cut.behind)
        others_are =
            let goes_to : Recorded → Bool = λ r. r.device == c.device in
            let parts : new_line.past ≡ map exchange_of (filter goes_to cut.before) ++ map exchange_of (filter goes_to cut.behind) =
            ap (λ (l : List Recorded). map exchange_of (filter goes_to l)) cut.all ∙ ap (map exchange_of) (filter-append goes_to cut.before cut.behind) ∙ map-append exchange_of (filter goes_to cut.before) (filter goes_to cut.behind) in
            cancel old_line.past behind.others (map exchange_of (filter goes_to cut.behind)) (sym behind.line ∙ parts ∙ ap (λ (l : List Exchange). l ++ map exchange_of (filter goes_to cut.behind)) lined_up)

        whole : AllByRecursion (IsWhole own victim n k) behind.others
        whole =
            subst (AllByRecursion (IsWhole own victim n k)) (sym others_are)
            (each_exchange (IsWhole own victim n k) c.device cut.behind (each_told (RestsBehind own victim n k) cut.behind stopped.more cut.told stopped.rests))

        -- the world before the run
        abbrev before : World
        before = after (opened_on (ground_in e.1.core) false) h

        legal : IsLegalFrom (opened_on (ground_in e.1.core) false) (h ++ goes.since)
        legal = goes.made.stands.legal false (may_false gm)

        calm_since : AllCalm before goes.since
        calm_since =
            calm_entries before goes.since (legal_behind (opened_on (ground_in e.1.core) false) h goes.since legal)
            (none_failed (failures_in goes.since) (gd.faults (disk_of d.1.core)) (gd.faults (disk_of e.1.core)) goes.failed (pair_at (λ x y. Rose (gd.faults (disk_of x.1.core)) (gd.faults (disk_of y.1.core)) → ⊥) v.devices.items w.devices.items c.device d e there now calm))

        rests : Rests own victim n k before
        rests =
            let serves : (world : World) → StandsFor d.1.core world → IsOpen n victim world = all_at (λ x. (world : World) → StandsFor x.1.core world → IsOpen n victim world) v.devices.items c.device d there serve in
            let first : IsOpen n victim (after (opened_on (ground_in d.1.core) false) h) = serves (after (opened_on (ground_in d.1.core) false) h) (was.stands.stands false (may_false gm)) in
            rests_at own victim n k (ground_in e.1.core) h goes.since legal (goes.made.stands.formed false (may_false gm)) (subst (λ (g : Ground). IsOpen n victim (after (opened_on g false) h)) (sym came.ground) first)

        never : ⊥
        never = stuck (λ ended. (behind.quiet (quiet_is ended)).1)
          where
            calm_all : AllCalm before (behind.earlier ++ behind.asked)
            calm_all = subst (AllCalm before) behind.all calm_since

            last_exchange : new_line.last ≡ exchange_of c
            last_exchange = ap (last_of c.device) current ∙ ap (λ (b : Bool). if b then exchange_of c else nothing_said) (eq-eqb c.device c.device refl)

            quiet_is : WasEnded (Some (talk_of w.earlier.items w.current)) → new_line.last.quiet ≡ true
            quiet_is ended = ap (λ (x : Exchange). x.quiet) last_exchange ∙ subst (λ (o : Option Recorded). EndedAt (told_current o)) current ended

            turns : AreTurns behind.asks.turns peer_number (connection stopped.last.sent) behind.asked (stopped.last.received ++ reply_of e.1.session) (lane_of e.1.session)
            turns =
                subst (λ (x : Connection). AreTurns behind.asks.turns peer_number (connection x.sent) behind.asked (x.received ++ reply_of e.1.session) (lane_of e.1.session)) last_is
                (subst (λ (x : Exchange). AreTurns behind.asks.turns peer_number (connection x.heard) behind.asked (x.said ++ reply_of e.1.session) (lane_of e.1.session)) last_exchange behind.asks.taken)

            served : Rests own victim n k (after before behind.earlier)
            served = rests_after own victim n k behind.others before behind.earlier whole behind.past rests (calm_first before behind.earlier behind.asked calm_all)

            stuck : (WasEnded (Some (talk_of w.earlier.items w.current)) → turn (lane_of e.1.session) ≡ Idle) → ⊥
            stuck =
                stopped.stuck (after before behind.earlier) (reply_of e.1.session) served (λ ended. (behind.quiet (quiet_is ended)).0) behind.asks.turns behind.asked (lane_of e.1.session) turns
                (follow_stop own victim n k (talk_of w.earlier.items w.current) start (after before behind.earlier) behind.asked (calm_behind before behind.earlier behind.asked calm_all))

      at_current : (o : Option Recorded) → w.current ≡ o → ⊥
      at_current None is = absurd (let never_so : None ≡ Some stopped.last = sym (ap told_current is) ∙ stopped.current in cc)
      at_current (Some c) is =
          let addresses : List (List ℕ) = addresses_of w.devices.items in
          let last_is : told_of c ≡ stopped.last = (let both : Some (told_of c) ≡ Some stopped.last = sym (ap told_current is) ∙ stopped.current in cc) in
          let names : AreNamed addresses (w.earlier.items ++ standing w.current) = all_named addresses w.earlier.items (standing w.current) w.past w.named in
          let named : AreNamed addresses (w.earlier.items ++ c ∷ []) = subst (λ (x : Option Recorded). AreNamed addresses (w.earlier.items ++ standing x)) is names in
          let e = device_at w.devices.items c.device (string_bytes c.address) (named_at addresses w.earlier.items c [] named) in
          let d = came_at (DeviceComes (λ (p : LanePeer M D gm gd) l q m. Comes p l q m)) v.devices.items w.devices.items (line_of v.earlier.items v.current) (line_of w.earlier.items w.current) c.device e.device e.there all in
          let was = stands_at (DeviceStands (λ (p : LanePeer M D gm gd) l. (h : History) × HasMade p l h)) v.devices.items (line_of v.earlier.items v.current) c.device d.device d.there made in
          never c is last_is d.device e.device d.there e.there d.came.1 was.0 was.1

      pub never_stops : ⊥
      never_stops = at_current w.current refl

  -- words of off, on a wire whose targets serve the agent: it is done, or there was no memory for the run
  pub completes : {of : peers.Ghosts (LanePeer M D gm gd)} (v w : MemWire (LanePeer M D gm gd) of) (wanted : Wanted) (victim : Key) (k : AreKeys wanted.own victim wanted.nexus) (wants : wanted.errand ≡ errand.Off victim) (old new : ToldWire) (sink printed : ToldSink)
      (outcome : FenceExit) → old.talk ≡ Some (talk_of v.earlier.items v.current) → new.talk ≡ Some (talk_of w.earlier.items w.current) → AllHaveMade v
      → AllCome (DeviceComes (λ (p : LanePeer M D gm gd) l q m. Comes p l q m)) v.devices.items (line_of v.earlier.items v.current) w.devices.items (line_of w.earlier.items w.current) → IsReady v → AreOpen v wanted.nexus victim → NoDiskFails v.devices.items w.devices.items
      → (Rose old.faults new.faults → ⊥) → (Rose sink.faults printed.faults → ⊥) → Ends (Ok wanted) old new sink printed outcome → (outcome ≡ exit.Done) ⊎ (outcome ≡ exit.NoMemory)
  completes v w wanted victim k wants old new sink printed outcome first last made all ready serve disks_hold calm quiet (inl none) = inr none.0
  completes v w wanted victim k wants old new sink printed outcome first last made all ready serve disks_hold calm quiet (inr run) = by run.result run.runs run.ends
    where
      by : (r : Result Bool FenceExit) → Runs wanted (at run.first sink) (at run.last printed) r → outcome ≡ exit_of wanted.errand r → (outcome ≡ exit.Done) ⊎ (outcome ≡ exit.NoMemory)
      by (Ok found) runs is = inl (is ∙ ap (λ (x : Errand). ended x found) wants)
      by (Err e) runs is =
          let before : run.first.faults ≡ old.faults = ap (λ (x : ToldWire). x.faults) run.before in
          let after_run : run.last.faults ≡ new.faults = ap (λ (x : ToldWire). x.faults) run.after in
          absurd
          (never_stops wanted.own victim wanted.nexus k v w old.faults made all ready serve disks_hold
          (run_stops wanted.own victim wanted.nexus k wanted wants refl refl old.faults sink.faults (talk_of w.earlier.items w.current) wanted.addresses 0 false (talk_of v.earlier.items v.current) (at run.first sink) (at run.last printed) e
          (ap (λ (x : ToldWire). x.talk) run.before ∙ first) (ap (λ (x : ToldWire). x.talk) run.after ∙ last) (omega (arith, before)) (omega arith) (λ rose. calm (subst (λ (x : ℕ). Rose old.faults x) after_run rose)) quiet runs))

  -- the same of words that were read
  pub completes_by : {of : peers.Ghosts (LanePeer M D gm gd)} (v w : MemWire (LanePeer M D gm gd) of) (words : List Text) (wanted : Wanted) (victim : Key) (k : AreKeys wanted.own victim wanted.nexus) (off : FenceOff words wanted victim) (old new : ToldWire)
      (sink printed : ToldSink) (outcome : FenceExit) → old.talk ≡ Some (talk_of v.earlier.items v.current) → new.talk ≡ Some (talk_of w.earlier.items w.current) → AllHaveMade v
      → AllCome (DeviceComes (λ (p : LanePeer M D gm gd) l q m. Comes p l q m)) v.devices.items (line_of v.earlier.items v.current) w.devices.items (line_of w.earlier.items w.current) → IsReady v → AreOpen v wanted.nexus victim → NoDiskFails v.devices.items w.devices.items
      → (Rose old.faults new.faults → ⊥) → (Rose sink.faults printed.faults → ⊥) → Ends (wanted_by words) old new sink printed outcome → (outcome ≡ exit.Done) ⊎ (outcome ≡ exit.NoMemory)
  completes_by v w words wanted victim k off old new sink printed outcome first last made all ready serve disks_hold calm quiet ends =
      completes v w wanted victim k off.1 old new sink printed outcome first last made all ready serve disks_hold calm quiet (subst (λ r. Ends r old new sink printed outcome) off.0 ends)
