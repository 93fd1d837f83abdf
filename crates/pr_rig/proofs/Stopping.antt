-- A run of off that stopped though no count rose: the connections before the last were whole, and on the last the device can't have answered so.
use Rattle.std.proofs.Common.{◌≡◌, ◌+◌, ◌≤◌, ◌||◌, ℕ, Bool, false, List, [], ◌∷◌, ◌++◌, Option, Some, None, refl, sym, ap, ◌∙◌, subst, append_assoc, append-nil, arith}
use Rattle.std.specs.Prelude.{Result, Ok, Err, if◌then◌else◌}
use Rattle.std.specs.List.{AllByRecursion}
use Rattle.pr_words.specs.declared.nexus.Key.{Key}
use Rattle.pr_words.specs.declared.nexus.Nexus.{Nexus}
use Rattle.pr_model.specs.Entries.{Entry}
use Rattle.pr_model.specs.Histories.{MayFollow}
use Rattle.pr_model.specs.Lanes.{Idle, dead, turn}
use Rattle.pr_model.specs.Saving.{tells_failure}
use Rattle.pr_model.specs.Sessions.{connection}
use Rattle.pr_model.specs.Worlds.{World}
use Rattle.pr_io.specs.Causes.{Rose}
use Rattle.pr_io.specs.Talks as talks
use Rattle.pr_io.specs.Talks.{Begins, Connection, Talk, connections, dialled}
use Rattle.pr_initiator.specs.Goings.{CurrentGoes, Goes, WasEnded}
use Rattle.pr_initiator.specs.Links.{Link}
use Rattle.pr_fence.specs.declared.exit.FenceExit.{FenceExit}
use Rattle.pr_fence.specs.declared.fence_fault.FenceFault.{FenceFault}
use Rattle.pr_fence.specs.declared.plan.Errand.{Errand}
use Rattle.pr_fence.specs.declared.plan.Errand.TheVariants as errand
use Rattle.pr_fence.specs.Devices.{TurnsOff}
use Rattle.pr_fence.specs.Whole.{At, Visits, VisitsAll, Works}
use Rattle.pr_fence.specs.Words.{Wanted}
use Rattle.pr_rig.proofs.Conversing.{DoneSo, IfEnded, Rests, Talks, device_comes}
use Rattle.pr_rig.proofs.Failing.{Course}
use Rattle.pr_rig.proofs.Knowing.{same_self}
use Rattle.pr_rig.proofs.Owning.{AreKeys, Joined}
use Rattle.pr_rig.proofs.Running.{MayRest}
use Rattle.pr_rig.proofs.Turning.{Leads}

-- Connections

-- a connection to an address follows those of a talk, with these bytes
record FollowsOn (t : Talk) (now : Option Talk) (sent heard : List ℕ) : Type 0 where
  talk : Talk
  is : now ≡ Some talk
  last : Connection
  before : talk.earlier ≡ connections t
  current : talk.current ≡ Some last
  sent_is : last.sent ≡ sent
  heard_is : last.received ≡ heard

current_on : (address : List ℕ) (t u : Talk) (d : Option Connection) (sent heard : List ℕ) → u.current ≡ d → u.earlier ≡ connections t → CurrentGoes (Some (talks.connection address)) d sent heard → FollowsOn t (Some u) sent heard
current_on address t u None sent heard is before goes = absurd goes
current_on address t u (Some d) sent heard is before goes = record { talk = u; is = refl; last = d; before = before; current = is; sent_is = goes.1; heard_is = goes.2 }

talk_on : (address : List ℕ) (t : Talk) (old mid now : Option Talk) (sent heard : List ℕ) → old ≡ Some t → Begins old mid address → Goes mid now sent heard → FollowsOn t now sent heard
talk_on address t None mid now sent heard is begins goes = absurd cc
talk_on address t (Some o) None now sent heard is begins goes = absurd begins
talk_on address t (Some o) (Some m) None sent heard is begins goes = absurd goes
talk_on address t (Some o) (Some m) (Some u) sent heard is begins goes =
    let same : o ≡ t = cc in
    let from : m ≡ dialled t address = begins ∙ ap (λ (x : Talk). dialled x address) same in
    current_on address t u u.current sent heard refl (goes.0 ∙ ap (λ (x : Talk). x.earlier) from) (subst (λ (x : Talk). CurrentGoes x.current u.current sent heard) from goes.1)

-- legal entries of which none is a save that failed
abbrev pub Calmly : World → Entry → Type 0
Calmly w e = MayFollow w e × (tells_failure e.out ≡ false)

module _ (own victim : Key) (n : Nexus) (k : AreKeys own victim n) where
  -- behind a whole conversation the device may serve the agent again
  abbrev pub resting : Course
  resting = record {
    claim = record { Follows = Calmly; may = λ w e calmly. calmly.0; Holds = λ w l. Rests own victim n k w × (l ≡ dead) };
    sound = λ w e calmly. calmly.1;
    start = 0;
    Stops = λ b. ⊥;
    calm = λ b stops. absurd stops;
    stuck = λ b stops ended w l busy. absurd stops;
  }

  may_rest : MayRest resting n (Joined own victim n k false)
  may_rest w holds follows = (
    (
      record {
        formed = holds.0.0.formed;
        fits = holds.0.0.fits;
        other = holds.0.0.other;
        room = holds.0.0.room;
        known = holds.0.0.known;
        attends = holds.0.0.attends;
        few = holds.0.0.few;
      },
      ap (λ (b : Bool). if b then None else w.owner n) (same_self n),
    ),
    refl,
  )

  -- a run may stop with this talk, where the count of its wire hasn't risen since
  abbrev pub stopping : Talk → ℕ → Course
  stopping t start = record {
    claim = record { Follows = Calmly; may = λ w e calmly. calmly.0; Holds = λ w l. (WasEnded (Some t) → turn l ≡ Idle) → ⊥ };
    sound = λ w e calmly. calmly.1;
    start = start;
    Stops = λ b. (b.talk ≡ Some t) × (Rose start b.faults → ⊥);
    calm = λ b stops. stops.1;
    stuck = λ b stops ended w l busy idle. busy (idle (subst WasEnded stops.0 ended));
  }

  abbrev pub RestsBehind : Connection → Type 0
  RestsBehind c = (w : World) (lost : List ℕ) → Rests own victim n k w → Leads resting.claim w (connection c.sent) (c.received ++ lost)

  abbrev pub StuckOn : Talk → ℕ → Connection → Type 0
  StuckOn t start c = (w : World) (lost : List ℕ) → Rests own victim n k w → (WasEnded (Some t) → lost ≡ []) → Leads (stopping t start).claim w (connection c.sent) (c.received ++ lost)

  -- one device that was served
  record ServedOne (t : Talk) (old new : Link) : Type 0 where
    talk : Talk
    is : new.talk ≡ Some talk
    last : Connection
    all : connections talk ≡ connections t ++ last ∷ []
    rests : RestsBehind last
    later : old.faults ≤ new.faults

  served_one : (aptpl : Bool) (address : List ℕ) (t : Talk) (old new : Link) (found : Bool) → old.talk ≡ Some t → TurnsOff address n own victim aptpl old new (Ok found) → ServedOne t old new
  served_one aptpl address t old new found is work =
      let done : DoneSo own victim n k resting aptpl address old new = device_comes own victim n k resting aptpl address old new (Ok found) (omega arith) work may_rest in
      let f = talk_on address t old.talk done.talks.dialled.talk new.talk done.talks.sent done.talks.heard is done.talks.begins done.talks.goes in
      record {
        talk = f.talk;
        is = f.is;
        last = f.last;
        all = ap (λ (c : Option Connection). talks.one_more f.talk.earlier c) f.current ∙ ap (λ (cs : List Connection). cs ++ f.last ∷ []) f.before;
        rests = λ w lost rests.
            subst (λ (x : List ℕ). Leads resting.claim w (connection x) (f.last.received ++ lost)) (sym f.sent_is)
            (subst (λ (x : List ℕ). Leads resting.claim w (connection done.talks.sent) (x ++ lost)) (sym f.heard_is) (done.talks.leads w lost rests tt));
        later = done.later;
      }

  -- a run that stopped
  pub record Stopped (start : ℕ) (t last_talk : Talk) : Type 0 where
    pub more : List Connection
    pub last : Connection
    pub before : last_talk.earlier ≡ connections t ++ more
    pub current : last_talk.current ≡ Some last
    pub rests : AllByRecursion RestsBehind more
    pub stuck : StuckOn last_talk start last

  stopped_here : (aptpl : Bool) (address : List ℕ) (start : ℕ) (t u : Talk) (old new : Link) (e : FenceFault) → old.talk ≡ Some t → new.talk ≡ Some u → start ≤ old.faults → (Rose start new.faults → ⊥)
      → TurnsOff address n own victim aptpl old new (Err e) → Stopped start t u
  stopped_here aptpl address start t u old new e is last since calm work =
      let stuck : Talks own victim n k (stopping u start) aptpl address (IfEnded own victim n k (stopping u start) aptpl address new) old new = device_comes own victim n k (stopping u start) aptpl address old new (Err e) since work (last, calm) in
      let f = talk_on address t old.talk stuck.dialled.talk new.talk stuck.sent stuck.heard is stuck.begins stuck.goes in
      let same : f.talk ≡ u = (let both : Some f.talk ≡ Some u = sym f.is ∙ last in cc) in
      record {
        more = [];
        last = f.last;
        before = ap (λ (x : Talk). x.earlier) (sym same) ∙ f.before ∙ sym (append-nil (connections t));
        current = ap (λ (x : Talk). x.current) (sym same) ∙ f.current;
        rests = tt;
        stuck = λ w lost rests quiet.
            subst (λ (x : List ℕ). Leads (stopping u start).claim w (connection x) (f.last.received ++ lost)) (sym f.sent_is)
            (subst (λ (x : List ℕ). Leads (stopping u start).claim w (connection stuck.sent) (x ++ lost)) (sym f.heard_is) (stuck.leads w lost rests (λ ended. quiet (subst WasEnded last ended))));
      }

  stopped_later : (start : ℕ) (t mid u : Talk) (c : Connection) → connections mid ≡ connections t ++ c ∷ [] → RestsBehind c → Stopped start mid u → Stopped start t u
  stopped_later start t mid u c all rests s =
      record {
        more = c ∷ s.more;
        last = s.last;
        before = s.before ∙ ap (λ (cs : List Connection). cs ++ s.more) all ∙ append_assoc (connections t) (c ∷ []) s.more;
        current = s.current;
        rests = (rests, s.rests);
        stuck = s.stuck;
      }

  -- the sink took what was printed, whose count hasn't risen either
  module _ (w : Wanted) (wants : w.errand ≡ errand.Off victim) (node : w.nexus ≡ n) (key : w.own ≡ own) (start sink_start : ℕ) (u : Talk) where
    works : (address : List ℕ) (a b : Link) (r : Result Bool FenceFault) → Works w w.errand address a b r → TurnsOff address n own victim w.aptpl a b r
    works address a b r work =
        subst (λ (x : Key). TurnsOff address n x victim w.aptpl a b r) key
        (subst (λ (x : Nexus). TurnsOff address x w.own victim w.aptpl a b r) node (subst (λ (x : Errand). Works w x address a b r) wants work))

    -- one device was visited
    record Visited (t : Talk) (old new : At) : Type 0 where
      one : ServedOne t old.link new.link
      prints : old.sink.faults ≤ new.sink.faults

    visited : (t : Talk) (device : ℕ) (address : List ℕ) (old new : At) (found : Bool) → old.link.talk ≡ Some t → Visits w device address old new (Ok found) → Visited t old new
    visited t device address old new found is (m, Ok b, (Ok v, work, same_sink, ok), (same_link, p, printed, result)) =
        record {
          one = subst (λ (x : Link). ServedOne t old.link x) (sym same_link) (served_one w.aptpl address t old.link m.link v is (works address old.link m.link (Ok v) work));
          prints = subst (λ (x : ℕ). x ≤ new.sink.faults) (ap (λ s. s.faults) same_sink) printed.cause.later;
        }
    visited t device address old new found is (m, Ok b, (Err f, work, same_sink, bad), rest) = absurd cc
    visited t device address old new found is (m, Err x, one, (same, bad)) = absurd cc

    stops_at : (t : Talk) (device : ℕ) (address : List ℕ) (old new : At) (e : FenceExit) → old.link.talk ≡ Some t → new.link.talk ≡ Some u → start ≤ old.link.faults → sink_start ≤ old.sink.faults → (Rose start new.link.faults → ⊥)
        → (Rose sink_start new.sink.faults → ⊥) → Visits w device address old new (Err e) → Stopped start t u
    stops_at t device address old new e is last since printed calm quiet (m, Ok b, (r, work, same_sink, ok), (same_link, Ok p, prints, result)) = absurd cc
    stops_at t device address old new e is last since printed calm quiet (m, Ok b, (r, work, same_sink, ok), (same_link, Err p, prints, result)) =
        let from : old.sink.faults ≡ m.sink.faults = ap (λ s. s.faults) (sym same_sink) in
        absurd (quiet (omega (arith, printed, from, prints.cause.failed)))
    stops_at t device address old new e is last since printed calm quiet (m, Err x, (Ok v, work, same_sink, bad), (same, result)) = absurd cc
    stops_at t device address old new e is last since printed calm quiet (m, Err x, (Err f, work, same_sink, bad), (same, result)) =
        let link : new.link ≡ m.link = ap (λ (a : At). a.link) same in
        stopped_here w.aptpl address start t u old.link m.link f is (ap (λ (l : Link). l.talk) (sym link) ∙ last) since (λ rose. calm (subst (λ (l : Link). Rose start l.faults) (sym link) rose)) (works address old.link m.link (Err f) work)

    pub run_stops : (addresses : List (List ℕ)) (device : ℕ) (found : Bool) (t : Talk) (old new : At) (e : FenceExit) → old.link.talk ≡ Some t → new.link.talk ≡ Some u → start ≤ old.link.faults → sink_start ≤ old.sink.faults
        → (Rose start new.link.faults → ⊥) → (Rose sink_start new.sink.faults → ⊥) → VisitsAll w device found addresses old new (Err e) → Stopped start t u
    run_stops [] device found t old new e is last since printed calm quiet (same, bad) = absurd cc
    run_stops (address ∷ rest) device found t old new e is last since printed calm quiet (mid, Ok here, one, on) =
        let v : Visited t old mid = visited t device address old mid here is one in
        stopped_later start t v.one.talk u v.one.last v.one.all v.one.rests
        (run_stops rest (device + 1) (found || here) v.one.talk mid new e v.one.is last (omega (arith, since, v.one.later)) (omega (arith, printed, v.prints)) calm quiet on)
    run_stops (address ∷ rest) device found t old new e is last since printed calm quiet (mid, Err x, one, (same, bad)) =
        stops_at t device address old mid x is (ap (λ (a : At). a.link.talk) (sym same) ∙ last) since printed (λ rose. calm (subst (λ (a : At). Rose start a.link.faults) (sym same) rose))
        (λ rose. quiet (subst (λ (a : At). Rose sink_start a.sink.faults) (sym same) rose)) one
