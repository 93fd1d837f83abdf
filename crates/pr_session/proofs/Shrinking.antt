-- Each turn of a session leaves it less to do, and loses no power.
use Rattle.std.proofs.Common.{◌≡◌, ℕ, ◌+◌, ◌*◌, ◌≤◌, ◌<◌, Bool, true, false, cond, eqb, List, [], ◌∷◌, length, refl, sym, ap, ◌∙◌, subst, arith}
use Rattle.std.proofs.lemmas.List.{length-drop}
use Rattle.pr_words.specs.declared.nexus.Nexus.{Nexus}
use Rattle.pr_words.specs.declared.nexus.Side.TheVariants.{Target}
use Rattle.pr_words.specs.declared.task.Way.{Way}
use Rattle.pr_words.specs.declared.task.Way.TheVariants as ways
use Rattle.pr_words.specs.Fields.{number32_at}
use Rattle.pr_words.specs.declared.limits.TheConstants.{DATA}
use Rattle.pr_grammar.specs.Frames.{Frame, Front, Lacking, Broken, Whole, front}
use Rattle.pr_grammar.specs.Bodies.{login_nexus, login_version, command_cdb, command_data}
use Rattle.pr_grammar.proofs.Spellings.{found}
use Rattle.pr_model.specs.Entries.{Out, Login_code, Ended, Started, Wrote, Read, Done, Aborted, Fault, Left, Restored, Act, Login, Command, Logout, History}
use Rattle.pr_model.specs.Lanes.{Job, Phase, Fresh, In, Busy, Dead, AwaitsFrame, Lane, dead, Turned, Turn, Idle, Silent, Asks, turn, turn_at, turn_by, after_step, after_login, after_command, after_logout, place_after, rejected}
use Rattle.pr_model.specs.Runs.{Makes, closing}
use Rattle.pr_io.specs.declared.outside.Medium as media
use Rattle.pr_io.specs.declared.outside.Disk as disks
use Rattle.pr_core.specs.declared.target.Core.{Core}
use Rattle.pr_core.specs.Shared.{IsPowered, ArePowered}
use Rattle.pr_session.specs.declared.act.Act as acts
use Rattle.pr_session.specs.declared.act.Want.{Want}
use Rattle.pr_session.specs.declared.act.Want.TheVariants as want
use Rattle.pr_session.specs.declared.session.Session.{Session}
use Rattle.pr_session.specs.Sessions.{lane_of}
use Rattle.pr_session.specs.Asking.{nexus_in, act_in}
use Rattle.pr_session.specs.Turning.{Begins}
use Rattle.pr_session.specs.Coming.{Agrees, HasCome}
use Rattle.pr_session.specs.Driving.{LeavesLess, left_by, left_of}
use Rattle.pr_session.specs.Answering.{HasLessLeft}
use Rattle.pr_session.proofs.Turns.{dead_idle}
use Rattle.pr_session.proofs.Drivings.{never_awaits}
use Rattle.pr_session.specs.Ends.{IsMade}

-- a turn asks for no loss of power
abbrev IsPoweredTurn : Turn → Type 0
IsPoweredTurn Idle = Unit {0}
IsPoweredTurn (Silent next) = Unit {0}
IsPoweredTurn (Asks n act next) = IsPowered act

fresh_powered : (b : Bool) (n : Nexus) (version : ℕ) (next : Out → Turned) (other : Turned) → IsPoweredTurn (cond b (Asks n (Login version) next) (Silent other))
fresh_powered true n version next other = tt
fresh_powered false n version next other = tt

in_powered : (a b : Bool) (n : Nexus) (lun : ℕ) (cdb sent : List ℕ) (x y z : Out → Turned) → IsPoweredTurn (cond a (Asks n (Command lun cdb sent) x) (cond b (Asks n Logout y) (Asks n Logout z)))
in_powered true b n lun cdb sent x y z = tt
in_powered false true n lun cdb sent x y z = tt
in_powered false false n lun cdb sent x y z = tt

powered_at : (p : Phase) (place : ℕ) (f : Front) → IsPoweredTurn (turn_at p place f)
powered_at p place (Lacking k) = tt
powered_at Fresh place (Broken r) = tt
powered_at (In n) place (Broken r) = tt
powered_at (Busy n j) place (Broken r) = tt
powered_at Dead place (Broken r) = tt
powered_at Fresh place (Whole f rest) = fresh_powered (eqb f.kind 1) (login_nexus f.body) (login_version f.body) (after_login f rest (place_after place f)) (rejected 5 place)
powered_at (In n) place (Whole f rest) = in_powered (eqb f.kind 2) (eqb f.kind 3) n f.lun (command_cdb f.body) (command_data f.body) (after_command n f rest (place_after place f)) (λ _. after_logout f) (λ _. rejected 5 place)
powered_at (Busy n j) place (Whole f rest) = tt
powered_at Dead place (Whole f rest) = tt

powered_turn : (p : Phase) (bytes : List ℕ) (place : ℕ) → IsPoweredTurn (turn_by p bytes place)
powered_turn Fresh bytes place = powered_at Fresh place (front Target bytes)
powered_turn (In n) bytes place = powered_at (In n) place (front Target bytes)
powered_turn (Busy n j) bytes place = tt
powered_turn Dead bytes place = powered_at Dead place (front Target bytes)

powered_by : (who : ℕ) (l m : Lane) (t : Turn) (es : History) (reply : List ℕ) → IsPoweredTurn t → Makes who l t es reply m → ArePowered es
powered_by who l m Idle es reply powered makes = subst ArePowered (sym makes.0) tt
powered_by who l m (Silent next) es reply powered makes = subst ArePowered (sym makes.0) tt
powered_by who l m (Asks n act next) es reply powered makes = subst ArePowered (sym makes.1) (powered, tt)

pub powered_made : (who : ℕ) (l m : Lane) (es : History) (reply : List ℕ) → Makes who l (turn l) es reply m → ArePowered es
powered_made who l m es reply makes = powered_by who l m (turn l) es reply (powered_turn l.phase l.bytes l.place) makes

pub powered_closing : (who : ℕ) (p : Phase) → ArePowered (closing who p)
powered_closing who Fresh = tt
powered_closing who (In n) = (tt, tt)
powered_closing who (Busy n j) = (tt, tt)
powered_closing who Dead = tt

-- the bytes that are held after an outcome
login_bytes : (f : Frame) (rest : List ℕ) (place : ℕ) (out : Out) → length (after_login f rest place out).lane.bytes ≤ length rest
login_bytes f rest place (Login_code c) = omega arith
login_bytes f rest place (Ended s e d) = omega arith
login_bytes f rest place (Started way) = omega arith
login_bytes f rest place Wrote = omega arith
login_bytes f rest place (Read b) = omega arith
login_bytes f rest place Done = omega arith
login_bytes f rest place Aborted = omega arith
login_bytes f rest place (Fault c) = omega arith
login_bytes f rest place Left = omega arith
login_bytes f rest place (Restored v) = omega arith

command_bytes : (n : Nexus) (f : Frame) (rest : List ℕ) (place : ℕ) (out : Out) → length (after_command n f rest place out).lane.bytes ≤ length rest
command_bytes n f rest place (Ended s e d) = omega arith
command_bytes n f rest place (Login_code c) = omega arith
command_bytes n f rest place (Started way) = omega arith
command_bytes n f rest place Wrote = omega arith
command_bytes n f rest place (Read b) = omega arith
command_bytes n f rest place Done = omega arith
command_bytes n f rest place Aborted = omega arith
command_bytes n f rest place (Fault c) = omega arith
command_bytes n f rest place Left = omega arith
command_bytes n f rest place (Restored v) = omega arith

step_bytes : (n : Nexus) (j : Job) (rest : List ℕ) (place : ℕ) (out : Out) → length (after_step n j rest place out).lane.bytes ≤ length rest
step_bytes n j rest place Wrote = omega arith
step_bytes n j rest place (Read b) = omega arith
step_bytes n j rest place Done = omega arith
step_bytes n j rest place Aborted = omega arith
step_bytes n j rest place (Fault c) = omega arith
step_bytes n j rest place (Login_code c) = omega arith
step_bytes n j rest place (Ended s e d) = omega arith
step_bytes n j rest place (Started way) = omega arith
step_bytes n j rest place Left = omega arith
step_bytes n j rest place (Restored v) = omega arith

rest_shorter : (bytes : List ℕ) (f : Frame) (rest : List ℕ) → front Target bytes ≡ Whole f rest → length rest < length bytes
rest_shorter bytes f rest is =
    let here = found Target bytes f rest is in
    omega (arith, ap length here.left, length-drop (4 + number32_at bytes 0) bytes, here.whole)

-- a frame that breaks a rule has bytes
broken_some : (bytes : List ℕ) (r : ℕ) → front Target bytes ≡ Broken r → 0 < length bytes
unfolding front
broken_some [] r is = absurd cc
broken_some (x ∷ xs) r is = omega arith

same_size : (m l : Lane) → m ≡ l → length m.bytes ≡ length l.bytes
same_size m l is = ap (λ (x : Lane). length x.bytes) is

dies : (m : Lane) (bytes : List ℕ) → m ≡ dead → 0 < length bytes → length m.bytes < length bytes
dies m bytes is some = omega (arith, same_size m dead is, some)

fresh_less : (who : ℕ) (l m : Lane) (b : Bool) (f : Frame) (rest bytes reply : List ℕ) (es : History) (place : ℕ) → length rest < length bytes
    → Makes who l (cond b (Asks (login_nexus f.body) (Login (login_version f.body)) (after_login f rest (place_after place f))) (Silent (rejected 5 place))) es reply m → length m.bytes < length bytes
fresh_less who l m true f rest bytes reply es place less makes = omega (arith, same_size m _ makes.3, login_bytes f rest (place_after place f) makes.0, less)
fresh_less who l m false f rest bytes reply es place less makes = dies m bytes makes.2 (omega (arith, less))

in_less : (who : ℕ) (l m : Lane) (a b : Bool) (n : Nexus) (f : Frame) (rest bytes reply : List ℕ) (es : History) (place : ℕ) → length rest < length bytes
    → Makes who l (cond a (Asks n (Command f.lun (command_cdb f.body) (command_data f.body)) (after_command n f rest (place_after place f))) (cond b (Asks n Logout (λ _. after_logout f)) (Asks n Logout (λ _. rejected 5 place)))) es reply m → length m.bytes < length bytes
in_less who l m true b n f rest bytes reply es place less makes = omega (arith, same_size m _ makes.3, command_bytes n f rest (place_after place f) makes.0, less)
in_less who l m false true n f rest bytes reply es place less makes = dies m bytes makes.3 (omega (arith, less))
in_less who l m false false n f rest bytes reply es place less makes = dies m bytes makes.3 (omega (arith, less))

frame_less : (who : ℕ) (l m : Lane) (p : Phase) (bytes reply : List ℕ) (place : ℕ) (f : Front) (es : History) → front Target bytes ≡ f → AwaitsFrame p → IsMade (turn_at p place f)
    → Makes who l (turn_at p place f) es reply m → length m.bytes < length bytes
frame_less who l m p bytes reply place (Lacking k) es is awaits some makes = absurd some
frame_less who l m Dead bytes reply place f es is awaits some makes = absurd awaits
frame_less who l m (Busy n j) bytes reply place f es is awaits some makes = absurd awaits
frame_less who l m Fresh bytes reply place (Broken r) es is awaits some makes = dies m bytes makes.2 (broken_some bytes r is)
frame_less who l m (In n) bytes reply place (Broken r) es is awaits some makes = dies m bytes makes.3 (broken_some bytes r is)
frame_less who l m Fresh bytes reply place (Whole f rest) es is awaits some makes = fresh_less who l m (eqb f.kind 1) f rest bytes reply es place (rest_shorter bytes f rest is) makes
frame_less who l m (In n) bytes reply place (Whole f rest) es is awaits some makes = in_less who l m (eqb f.kind 2) (eqb f.kind 3) n f rest bytes reply es place (rest_shorter bytes f rest is) makes

-- how much is left of a task, at the most
left_most : {M D : Type 0} {gm : media.Ghosts M} {gd : disks.Ghosts D} (p : Phase) (who : ℕ) (c : Core M D gm gd) → Agrees p who c → left_of p ≤ DATA + 1
left_most Fresh who c agrees = omega arith
left_most (In n) who c agrees = omega arith
left_most Dead who c agrees = omega arith
left_most (Busy n j) who c agrees = by j.way agrees.come
  where
    by : (way : Way) → HasCome way agrees.progress (length j.bytes) → left_by way (length j.bytes) ≤ DATA + 1
    by ways.Read come = omega arith
    by ways.Write come = omega (arith, come, agrees.few)

fewer_bytes : (a b x y : ℕ) → a < b → x ≤ DATA + 1 → a * (DATA + 2) + x < b * (DATA + 2) + y
fewer_bytes a b x y less bound = omega (arith, less, bound)

less_task : (a b x y : ℕ) → a ≤ b → x < y → a * (DATA + 2) + x < b * (DATA + 2) + y
less_task a b x y most less = omega (arith, most, less)

-- a turn that does something leaves less to do
pub less_left : {M D : Type 0} {gm : media.Ghosts M} {gd : disks.Ghosts D} (who : ℕ) (c : Core M D gm gd) (l m : Lane) (es : History) (reply : List ℕ) → IsMade (turn l) → Makes who l (turn l) es reply m → Agrees m.phase who c → LeavesLess l.phase m.phase → HasLessLeft l m
less_left who c l m es reply some makes agrees less = by l.phase refl some makes less
  where
    by : (p : Phase) → l.phase ≡ p → IsMade (turn_by p l.bytes l.place) → Makes who l (turn_by p l.bytes l.place) es reply m → LeavesLess p m.phase → HasLessLeft l m
    by Fresh is some makes less = fewer_bytes (length m.bytes) (length l.bytes) (left_of m.phase) (left_of l.phase) (frame_less who l m Fresh l.bytes reply l.place (front Target l.bytes) es refl tt some makes) (left_most m.phase who c agrees)
    by (In n) is some makes less = fewer_bytes (length m.bytes) (length l.bytes) (left_of m.phase) (left_of l.phase) (frame_less who l m (In n) l.bytes reply l.place (front Target l.bytes) es refl tt some makes) (left_most m.phase who c agrees)
    by (Busy n j) is some makes less =
        less_task (length m.bytes) (length l.bytes) (left_of m.phase) (left_of l.phase) (omega (arith, same_size m _ makes.3, step_bytes n j l.bytes l.place makes.0))
        (subst (λ (p : Phase). left_of m.phase < left_of p) (sym is) less)
    by Dead is some makes less = absurd (rests (front Target l.bytes) some)
      where
        rests : (f : Front) → IsMade (turn_at Dead l.place f) → ⊥
        rests (Lacking k) some = some
        rests (Broken r) some = some
        rests (Whole f rest) some = some

-- a turn without an entry ends the session
abbrev EndsSilently : Turn → Type 0
EndsSilently Idle = Unit {0}
EndsSilently (Silent next) = next.lane.phase ≡ Dead
EndsSilently (Asks n act next) = Unit {0}

fresh_ends : (b : Bool) (n : Nexus) (act : Act) (next : Out → Turned) (place : ℕ) → EndsSilently (cond b (Asks n act next) (Silent (rejected 5 place)))
fresh_ends true n act next place = tt
fresh_ends false n act next place = refl

in_ends : (a b : Bool) (n : Nexus) (one two three : Act) (x y z : Out → Turned) → EndsSilently (cond a (Asks n one x) (cond b (Asks n two y) (Asks n three z)))
in_ends true b n one two three x y z = tt
in_ends false true n one two three x y z = tt
in_ends false false n one two three x y z = tt

ends_at : (p : Phase) (place : ℕ) (f : Front) → EndsSilently (turn_at p place f)
ends_at p place (Lacking k) = tt
ends_at Fresh place (Broken r) = refl
ends_at (In n) place (Broken r) = tt
ends_at (Busy n j) place (Broken r) = tt
ends_at Dead place (Broken r) = tt
ends_at Fresh place (Whole f rest) = fresh_ends (eqb f.kind 1) (login_nexus f.body) (Login (login_version f.body)) (after_login f rest (place_after place f)) place
ends_at (In n) place (Whole f rest) = in_ends (eqb f.kind 2) (eqb f.kind 3) n (Command f.lun (command_cdb f.body) (command_data f.body)) Logout Logout (after_command n f rest (place_after place f)) (λ _. after_logout f) (λ _. rejected 5 place)
ends_at (Busy n j) place (Whole f rest) = tt
ends_at Dead place (Whole f rest) = tt

ends_turn : (p : Phase) (bytes : List ℕ) (place : ℕ) → EndsSilently (turn_by p bytes place)
ends_turn Fresh bytes place = ends_at Fresh place (front Target bytes)
ends_turn (In n) bytes place = ends_at (In n) place (front Target bytes)
ends_turn (Busy n j) bytes place = tt
ends_turn Dead bytes place = ends_at Dead place (front Target bytes)

dead_turn : (m : Lane) → m.phase ≡ Dead → turn m ≡ Idle
dead_turn m is = ap (λ (p : Phase). turn_by p m.bytes m.place) is ∙ dead_idle m.place (front Target m.bytes)

-- behind a turn that asked for no act nothing is left to do
pub rests_calm : (l : Lane) (w : Want) (s : Session) → Begins l (turn l) w s → ((n : Nexus) (a : acts.Act) → w ≡ want.Act n a → ⊥) → turn (lane_of s) ≡ Idle
rests_calm l w s begins none = by (turn l) refl begins
  where
    by : (t : Turn) → turn l ≡ t → Begins l t w s → turn (lane_of s) ≡ Idle
    by Idle is b = ap turn b.1.lane ∙ is
    by (Silent next) is b = dead_turn (lane_of s) (ap (λ (m : Lane). m.phase) b.1.lane ∙ subst EndsSilently is (ends_turn l.phase l.bytes l.place))
    by (Asks n act next) is b = absurd (none (nexus_in b.what) (act_in b.what) b.want)

-- a turn that asked for an act does something
pub some_wanted : (l : Lane) (t : Turn) (n : Nexus) (a : acts.Act) (s : Session) → Begins l t (want.Act n a) s → IsMade t
some_wanted l Idle n a s b = absurd (never_awaits l.phase (front Target l.bytes) n a b.0)
some_wanted l (Silent next) n a s b = tt
some_wanted l (Asks m act next) n a s b = tt
