-- Turns that were made with a core.
use Rattle.std.proofs.Common.{◌≡◌, ℕ, ◌<◌, List, [], ◌∷◌, length, Option, Some, None, refl, ap, sym, ◌∙◌, subst}
use Rattle.pr_words.specs.declared.nexus.Nexus.{Nexus}
use Rattle.pr_words.specs.declared.nexus.Side.TheVariants.{Target}
use Rattle.pr_grammar.specs.Frames.{Front, Lacking, Broken, Whole, front}
use Rattle.pr_model.specs.Entries as entries
use Rattle.pr_model.specs.Entries.{entry}
use Rattle.pr_model.specs.Lanes as lanes
use Rattle.pr_model.specs.Lanes.{Lane, Phase, Turn, Turned, Idle, Silent, Asks, turn}
use Rattle.pr_model.specs.Runs.{closing}
use Rattle.pr_io.specs.declared.outside.Medium as media
use Rattle.pr_io.specs.declared.outside.Disk as disks
use Rattle.pr_core.specs.declared.target.Core.{Core}
use Rattle.pr_core.specs.View.{Extends, owner_of}
use Rattle.pr_core.proofs.Entering.{extends_none}
use Rattle.pr_link.specs.declared.deframer.Deframer.{Deframer}
use Rattle.pr_link.specs.Deframer.{held_of, place_of}
use Rattle.pr_session.specs.declared.act.Act.{Act}
use Rattle.pr_session.specs.declared.act.Out.{Out}
use Rattle.pr_session.specs.declared.act.Want.{Want}
use Rattle.pr_session.specs.declared.act.Want.TheVariants as want
use Rattle.pr_session.specs.declared.asked.Asked.{Asked}
use Rattle.pr_session.specs.declared.asked.Asked.TheVariants.{Login, Command, Step, Logout, Reject}
use Rattle.pr_session.specs.declared.state.State.{State}
use Rattle.pr_session.specs.declared.state.State.TheVariants as states
use Rattle.pr_session.specs.declared.session.Session.{Session}
use Rattle.pr_session.specs.Jobs.{job_of}
use Rattle.pr_session.specs.Acts.{outcome_by, Fits}
use Rattle.pr_session.specs.Coming.{IsIdleIn, RunsTask, Agrees, IsReady}
use Rattle.pr_session.specs.Asking.{nexus_in, act_in, next_by}
use Rattle.pr_session.specs.States.{asked_in, next_for, nexus_at, phase_of, IsSettledIn}
use Rattle.pr_session.specs.Sessions.{HasTurned, next_of, work_of, lane_of, reply_of}
use Rattle.pr_session.specs.Turning.{IsFor, Begins, AwaitsAt}
use Rattle.pr_session.specs.Driving.{Does, Follows, IsReadyIn, GoesOn, LeavesLess, left_by, left_of}

pub never_awaits : (p : Phase) (f : Front) (n : Nexus) (a : Act) → AwaitsAt p f (want.Act n a) → ⊥
never_awaits lanes.Dead f n a is = absurd cc
never_awaits lanes.Fresh (Lacking k) n a is = absurd cc
never_awaits lanes.Fresh (Broken r) n a is = is
never_awaits lanes.Fresh (Whole f rest) n a is = is
never_awaits (lanes.In m) (Lacking k) n a is = absurd cc
never_awaits (lanes.In m) (Broken r) n a is = is
never_awaits (lanes.In m) (Whole f rest) n a is = is
never_awaits (lanes.Busy m j) (Lacking k) n a is = absurd cc
never_awaits (lanes.Busy m j) (Broken r) n a is = is
never_awaits (lanes.Busy m j) (Whole f rest) n a is = is

pub never_dead : (n : Nexus) (a : Act) → want.Act n a ≡ want.Dead → ⊥
never_dead n a is = absurd cc

-- what an act needs that is asked for, the core has
ready : {M D : Type 0} {gm : media.Ghosts M} {gd : disks.Ghosts D} (p : Phase) (what : Asked) (work : List ℕ) (c : Core M D gm gd) (who : ℕ) → IsFor p what work → Agrees p who c → IsReady what work c who
ready lanes.Fresh (Login head n version) work c who is agrees = tt
ready lanes.Fresh (Command head n cdb sent) work c who is agrees = absurd is
ready lanes.Fresh (Step n j) work c who is agrees = absurd is
ready lanes.Fresh (Logout head n) work c who is agrees = absurd is
ready lanes.Fresh (Reject n r) work c who is agrees = absurd is
ready (lanes.In m) (Login head n version) work c who is agrees = tt
ready (lanes.In m) (Command head n cdb sent) work c who is agrees = (subst (IsIdleIn c who) is.0 agrees, is.1)
ready (lanes.In m) (Step n j) work c who is agrees = absurd is
ready (lanes.In m) (Logout head n) work c who is agrees = subst (λ (k : Nexus). owner_of c k ≡ Some who) is agrees.0
ready (lanes.In m) (Reject n r) work c who is agrees = subst (λ (k : Nexus). owner_of c k ≡ Some who) is agrees.0
ready (lanes.Busy m k) (Login head n version) work c who is agrees = tt
ready (lanes.Busy m k) (Command head n cdb sent) work c who is agrees = absurd is
ready (lanes.Busy m k) (Step n j) work c who is agrees = subst (λ (x : Nexus). RunsTask c who x (job_of j work)) is.0 (subst (RunsTask c who m) is.1 agrees)
ready (lanes.Busy m k) (Logout head n) work c who is agrees = absurd is
ready (lanes.Busy m k) (Reject n r) work c who is agrees = absurd is
ready lanes.Dead (Login head n version) work c who is agrees = tt
ready lanes.Dead (Command head n cdb sent) work c who is agrees = absurd is
ready lanes.Dead (Step n j) work c who is agrees = absurd is
ready lanes.Dead (Logout head n) work c who is agrees = absurd is
ready lanes.Dead (Reject n r) work c who is agrees = absurd is

pub ready_in : {M D : Type 0} {gm : media.Ghosts M} {gd : disks.Ghosts D} (who : ℕ) (c : Core M D gm gd) (l : Lane) (t : Turn) (n : Nexus) (a : Act) (s : Session) → Begins l t (want.Act n a) s → Agrees l.phase who c → IsReadyIn s c who
ready_in who c l Idle n a s b agrees = absurd (never_awaits l.phase (front Target l.bytes) n a b.0)
ready_in who c l (Silent next) n a s b agrees = absurd (never_dead n a b.0)
ready_in who c l (Asks m act next) n a s b agrees = (b.what, b.state, ready l.phase b.what (work_of s) c who b.phase agrees)

-- what a session makes of an outcome, by what it asked for
pub next_is : (s1 s2 : Session) (what : Asked) (result : Out) → asked_in s1.state ≡ Some what → s2.state ≡ s1.state → s2.deframer ≡ s1.deframer
    → next_of s2 result ≡ next_by what (work_of s2) (held_of s1.deframer) (place_of s1.deframer) (outcome_by what result (work_of s2))
next_is s1 s2 what result asked state stream =
    ap (λ (o : Option Asked). next_for o (work_of s2) (held_of s2.deframer) (place_of s2.deframer) result) (ap asked_in state ∙ asked)
    ∙ ap (λ (d : Deframer). next_by what (work_of s2) (held_of d) (place_of d) (outcome_by what result (work_of s2))) stream

-- an act that was done and answered
pub drives : {M D : Type 0} {gm : media.Ghosts M} {gd : disks.Ghosts D} (who : ℕ) (old new : Core M D gm gd) (l : Lane) (t : Turn) (n : Nexus) (a : Act) (s1 s2 s3 : Session) (result : Out)
    → Begins l t (want.Act n a) s1 → ((what : Asked) → asked_in s1.state ≡ Some what → Does what who old (work_of s1) result new (work_of s2)) → s2.state ≡ s1.state → s2.deframer ≡ s1.deframer
    → HasTurned s3 (next_of s2 result) → Follows who old l t new (lane_of s3) (reply_of s3)
drives who old new l Idle n a s1 s2 s3 result b did state stream turned = absurd (never_awaits l.phase (front Target l.bytes) n a b.0)
drives who old new l (Silent next) n a s1 s2 s3 result b did state stream turned = absurd (never_dead n a b.0)
drives who old new l (Asks m act next) n a s1 s2 s3 result b did state stream turned =
    let does : Does b.what who old (work_of s1) result new (work_of s2) = did b.what b.state in
    let out : entries.Out = outcome_by b.what result (work_of s2) in
    let then_is : next_of s2 result ≡ next out = next_is s1 s2 b.what result b.state state stream ∙ does.goes (held_of s1.deframer) (place_of s1.deframer) ∙ b.next out in
    record {
      entries = entry who m act out ∷ [];
      makes = (out, refl, turned.reply ∙ ap (λ (x : Turned). x.reply) then_is, turned.lane ∙ ap (λ (x : Turned). x.lane) then_is);
      extends =
          subst (λ (x : Nexus). Extends old new (entry who x act out ∷ [])) b.nexus
          (subst (λ (x : entries.Act). Extends old new (entry who (nexus_in b.what) x out ∷ [])) b.act does.made);
    }

-- the core goes on with the session
pub agrees_then : {M D : Type 0} {gm : media.Ghosts M} {gd : disks.Ghosts D} (who : ℕ) (old new : Core M D gm gd) (l : Lane) (t : Turn) (n : Nexus) (a : Act) (s1 s2 s3 : Session) (result : Out)
    → Begins l t (want.Act n a) s1 → ((what : Asked) → asked_in s1.state ≡ Some what → Does what who old (work_of s1) result new (work_of s2)) → s2.state ≡ s1.state → s2.deframer ≡ s1.deframer
    → HasTurned s3 (next_of s2 result) → Agrees (lane_of s3).phase who new
agrees_then who old new l Idle n a s1 s2 s3 result b did state stream turned = absurd (never_awaits l.phase (front Target l.bytes) n a b.0)
agrees_then who old new l (Silent next) n a s1 s2 s3 result b did state stream turned = absurd (never_dead n a b.0)
agrees_then who old new l (Asks m act next) n a s1 s2 s3 result b did state stream turned =
    let does : Does b.what who old (work_of s1) result new (work_of s2) = did b.what b.state in
    let lane_is = turned.lane ∙ ap (λ (x : Turned). x.lane) (next_is s1 s2 b.what result b.state state stream) in
    subst (λ (m : Lane). Agrees m.phase who new) (sym lane_is) (does.agrees (held_of s1.deframer) (place_of s1.deframer))

-- and of a task less is left
pub leaves : (p : Phase) (what : Asked) (work : List ℕ) (next : Phase) → IsFor p what work → GoesOn what work next → LeavesLess p next
leaves lanes.Fresh what work next is goes = tt
leaves (lanes.In m) what work next is goes = tt
leaves lanes.Dead what work next is goes = tt
leaves (lanes.Busy m k) (Login head n version) work next is goes = absurd is
leaves (lanes.Busy m k) (Command head n cdb sent) work next is goes = absurd is
leaves (lanes.Busy m k) (Step n j) work next is goes = subst (λ (x : lanes.Job). left_of next < left_by x.way (length x.bytes)) (sym is.1) goes
leaves (lanes.Busy m k) (Logout head n) work next is goes = absurd is
leaves (lanes.Busy m k) (Reject n r) work next is goes = absurd is

pub onward : {M D : Type 0} {gm : media.Ghosts M} {gd : disks.Ghosts D} (who : ℕ) (old new : Core M D gm gd) (l : Lane) (t : Turn) (n : Nexus) (a : Act) (s1 s2 s3 : Session) (result : Out)
    → Begins l t (want.Act n a) s1 → ((what : Asked) → asked_in s1.state ≡ Some what → Does what who old (work_of s1) result new (work_of s2)) → s2.state ≡ s1.state → s2.deframer ≡ s1.deframer
    → HasTurned s3 (next_of s2 result) → LeavesLess l.phase (lane_of s3).phase
onward who old new l Idle n a s1 s2 s3 result b did state stream turned = absurd (never_awaits l.phase (front Target l.bytes) n a b.0)
onward who old new l (Silent next) n a s1 s2 s3 result b did state stream turned = absurd (never_dead n a b.0)
onward who old new l (Asks m act next) n a s1 s2 s3 result b did state stream turned =
    let does : Does b.what who old (work_of s1) result new (work_of s2) = did b.what b.state in
    let lane_is = turned.lane ∙ ap (λ (x : Turned). x.lane) (next_is s1 s2 b.what result b.state state stream) in
    subst (λ (m : Lane). LeavesLess l.phase m.phase) (sym lane_is) (leaves l.phase b.what (work_of s1) _ b.phase (does.onward (held_of s1.deframer) (place_of s1.deframer)))

-- a session that wants no act has no task
pub calm : (l : Lane) (w : Want) (s : Session) (next : Phase) → Begins l (turn l) w s → ((n : Nexus) (a : Act) → w ≡ want.Act n a → ⊥) → LeavesLess l.phase next
calm l w s next b none = by l.phase b
  where
    by : (p : Phase) → Begins (lanes.lane l.bytes p l.place) (turn (lanes.lane l.bytes p l.place)) w s → LeavesLess p next
    by lanes.Fresh b = tt
    by (lanes.In m) b = tt
    by lanes.Dead b = tt
    by (lanes.Busy m j) b = absurd (none (nexus_in b.what) (act_in b.what) b.want)

-- and its turn makes no entry
pub follows_calm : {M D : Type 0} {gm : media.Ghosts M} {gd : disks.Ghosts D} (who : ℕ) (c : Core M D gm gd) (l : Lane) (t : Turn) (w : Want) (s : Session) → Begins l t w s → ((n : Nexus) (a : Act) → w ≡ want.Act n a → ⊥) → Follows who c l t c (lane_of s) (reply_of s)
follows_calm who c l Idle w s b none = record { entries = []; makes = (refl, b.1.reply, b.1.lane); extends = extends_none c }
follows_calm who c l (Silent next) w s b none = record { entries = []; makes = (refl, b.1.reply, b.1.lane); extends = extends_none c }
follows_calm who c l (Asks n a next) w s b none = absurd (none (nexus_in b.what) (act_in b.what) b.want)

-- nor does a connection that is closed where nobody is logged in
pub closes_calm : {M D : Type 0} {gm : media.Ghosts M} {gd : disks.Ghosts D} (who : ℕ) (c : Core M D gm gd) (s : State) (work : List ℕ) → nexus_at s ≡ None → Extends c c (closing who (phase_of s work))
closes_calm who c states.Fresh work none = extends_none c
closes_calm who c (states.In n) work none = absurd cc
closes_calm who c (states.Busy n j) work none = absurd cc
closes_calm who c (states.Dead r) work none = extends_none c
closes_calm who c (states.Asking a) work none = extends_none c

-- and where somebody is, that one is logged out
pub closes_out : {M D : Type 0} {gm : media.Ghosts M} {gd : disks.Ghosts D} (who : ℕ) (old new : Core M D gm gd) (s : State) (work : List ℕ) (n : Nexus) → IsSettledIn s → nexus_at s ≡ Some n → Extends old new (entry who n entries.Logout entries.Left ∷ []) → Extends old new (closing who (phase_of s work))
closes_out who old new states.Fresh work n settled is made = absurd cc
closes_out who old new (states.In m) work n settled is made = let same : m ≡ n = cc in subst (λ (k : Nexus). Extends old new (entry who k entries.Logout entries.Left ∷ [])) (sym same) made
closes_out who old new (states.Busy m j) work n settled is made = let same : m ≡ n = cc in subst (λ (k : Nexus). Extends old new (entry who k entries.Logout entries.Left ∷ [])) (sym same) made
closes_out who old new (states.Dead r) work n settled is made = absurd cc
closes_out who old new (states.Asking a) work n settled is made = absurd cc

-- an outcome that a session is told is one that its act can have
pub answers_fit : {M D : Type 0} {gm : media.Ghosts M} {gd : disks.Ghosts D} (who : ℕ) (old new : Core M D gm gd) (l : Lane) (t : Turn) (n : Nexus) (a : Act) (s1 s2 : Session) (result : Out)
    → Begins l t (want.Act n a) s1 → ((what : Asked) → asked_in s1.state ≡ Some what → Does what who old (work_of s1) result new (work_of s2)) → s2.state ≡ s1.state → (x : Asked) × (asked_in s2.state ≡ Some x) × Fits x result
answers_fit who old new l Idle n a s1 s2 result b did state = absurd (never_awaits l.phase (front Target l.bytes) n a b.0)
answers_fit who old new l (Silent next) n a s1 s2 result b did state = absurd (never_dead n a b.0)
answers_fit who old new l (Asks m act next) n a s1 s2 result b did state = (b.what, ap asked_in state ∙ b.state, (did b.what b.state).fits)

-- what is asked for, by the state
same_asked : (s : State) (a b : Asked) → asked_in s ≡ Some a → asked_in s ≡ Some b → a ≡ b
same_asked s a b one other = cc

pub ready_of : {M D : Type 0} {gm : media.Ghosts M} {gd : disks.Ghosts D} (s : Session) (c : Core M D gm gd) (who : ℕ) (what : Asked) → asked_in s.state ≡ Some what → IsReadyIn s c who → IsReady what (work_of s) c who
ready_of s c who what is r = subst (λ (x : Asked). IsReady x (work_of s) c who) (same_asked s.state r.0 what r.1 is) r.2

pub does_as : {M D : Type 0} {gm : media.Ghosts M} {gd : disks.Ghosts D} (s : State) (what a : Asked) (who : ℕ) (old new : Core M D gm gd) (work left : List ℕ) (result : Out) → asked_in s ≡ Some what → asked_in s ≡ Some a → Does what who old work result new left → Does a who old work result new left
does_as s what a who old new work left result one other does = subst (λ (x : Asked). Does x who old work result new left) (same_asked s what a one other) does
