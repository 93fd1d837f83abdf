-- Turns that make room: what waits behind a full buffer goes on waiting behind what is left of it.
use Rattle.std.proofs.Common.{◌≡◌, ◌⊎◌, inl, inr, ℕ, suc, zero, ◌+◌, ◌≤◌, ◌<◌, Bool, true, false, cond, eqb, List, [], ◌++◌, length, refl, sym, ap, ◌∙◌, append_assoc, subst, arith}
use Rattle.std.proofs.lemmas.List.{append-nil, length-drop}
use std.Path.{fun_ext}
use Rattle.pr_words.specs.declared.nexus.Nexus.{Nexus}
use Rattle.pr_words.specs.declared.nexus.Side.TheVariants.{Target}
use Rattle.pr_grammar.specs.Frames.{Frame, Front, Lacking, Broken, Whole, front}
use Rattle.pr_grammar.specs.Bodies.{login_nexus, login_version, command_cdb, command_data, login_reply}
use Rattle.pr_words.specs.Fields.{number32_at}
use Rattle.pr_words.specs.declared.limits.TheConstants.{HELD}
use Rattle.pr_grammar.proofs.Fronts.{grown, front_more, full_front}
use Rattle.pr_grammar.proofs.Spellings.{found}
use Rattle.pr_model.specs.Entries.{Out, Login_code, Ended, Started, Wrote, Read, Done, Aborted, Fault, Left, Restored, Login, Command, Step, Logout, History}
use Rattle.pr_model.specs.Lanes.{Job, Phase, Fresh, In, Busy, Dead, AwaitsFrame, Lane, lane, dead, Turned, turned, Turn, Idle, Silent, Asks, turn, turn_at, turn_by, carried, after_step, arrived, after_login, after_command, after_logout, place_after, rejected, replied}
use Rattle.pr_model.specs.Runs.{Deed, joined, nothing, Makes, TakesTurn, TakesTurns}
use Rattle.pr_model.proofs.RunLaws.{joined-nothing, joined-assoc}

pub arrived-append : (l : Lane) (xs ys : List ℕ) → arrived (arrived l xs) ys ≡ arrived l (xs ++ ys)
arrived-append l xs ys = by_phase l.phase l.bytes l.place xs ys
  where
    by_phase : (p : Phase) (bytes : List ℕ) (place : ℕ) (xs ys : List ℕ) → arrived (arrived (lane bytes p place) xs) ys ≡ arrived (lane bytes p place) (xs ++ ys)
    by_phase Dead bytes place xs ys = refl
    by_phase Fresh bytes place xs ys = ap (λ (b : List ℕ). lane b Fresh place) (append_assoc bytes xs ys)
    by_phase (In n) bytes place xs ys = ap (λ (b : List ℕ). lane b (In n) place) (append_assoc bytes xs ys)
    by_phase (Busy n j) bytes place xs ys = ap (λ (b : List ℕ). lane b (Busy n j) place) (append_assoc bytes xs ys)

pub arrived-nil : (l : Lane) → arrived l [] ≡ l
arrived-nil l = by_phase l.phase l.bytes l.place
  where
    by_phase : (p : Phase) (bytes : List ℕ) (place : ℕ) → arrived (lane bytes p place) [] ≡ lane bytes p place
    by_phase Dead bytes place = refl
    by_phase Fresh bytes place = ap (λ (b : List ℕ). lane b Fresh place) (append-nil bytes)
    by_phase (In n) bytes place = ap (λ (b : List ℕ). lane b (In n) place) (append-nil bytes)
    by_phase (Busy n j) bytes place = ap (λ (b : List ℕ). lane b (Busy n j) place) (append-nil bytes)

-- a turn with more bytes behind it
abbrev pub grown_turned : Turned → List ℕ → Turned
grown_turned t ys = turned (arrived t.lane ys) t.reply

abbrev pub grown_turn : Turn → List ℕ → Turn
grown_turn Idle ys = Idle
grown_turn (Silent next) ys = Silent (grown_turned next ys)
grown_turn (Asks n act next) ys = Asks n act (λ out. grown_turned (next out) ys)

login_more : (f : Frame) (rest ys : List ℕ) (place c : ℕ) (b : Bool) → turned (lane (rest ++ ys) (cond b (In (login_nexus f.body)) Fresh) place) (replied f 0x81 (login_reply c))
    ≡ grown_turned (turned (lane rest (cond b (In (login_nexus f.body)) Fresh) place) (replied f 0x81 (login_reply c))) ys
login_more f rest ys place c true = refl
login_more f rest ys place c false = refl

after_login_more : (f : Frame) (rest ys : List ℕ) (place : ℕ) (out : Out) → after_login f (rest ++ ys) place out ≡ grown_turned (after_login f rest place out) ys
after_login_more f rest ys place (Login_code c) = login_more f rest ys place c (eqb c 0)
after_login_more f rest ys place (Ended s e d) = refl
after_login_more f rest ys place (Started way) = refl
after_login_more f rest ys place Wrote = refl
after_login_more f rest ys place (Read b) = refl
after_login_more f rest ys place Done = refl
after_login_more f rest ys place Aborted = refl
after_login_more f rest ys place (Fault c) = refl
after_login_more f rest ys place Left = refl
after_login_more f rest ys place (Restored v) = refl

after_command_more : (n : Nexus) (f : Frame) (rest ys : List ℕ) (place : ℕ) (out : Out) → after_command n f (rest ++ ys) place out ≡ grown_turned (after_command n f rest place out) ys
after_command_more n f rest ys place (Ended s e d) = refl
after_command_more n f rest ys place (Login_code c) = refl
after_command_more n f rest ys place (Started way) = refl
after_command_more n f rest ys place Wrote = refl
after_command_more n f rest ys place (Read b) = refl
after_command_more n f rest ys place Done = refl
after_command_more n f rest ys place Aborted = refl
after_command_more n f rest ys place (Fault c) = refl
after_command_more n f rest ys place Left = refl
after_command_more n f rest ys place (Restored v) = refl

pub after_step_more : (n : Nexus) (j : Job) (rest ys : List ℕ) (place : ℕ) (out : Out) → after_step n j (rest ++ ys) place out ≡ grown_turned (after_step n j rest place out) ys
after_step_more n j rest ys place Wrote = refl
after_step_more n j rest ys place (Read b) = refl
after_step_more n j rest ys place Done = refl
after_step_more n j rest ys place Aborted = refl
after_step_more n j rest ys place (Fault c) = refl
after_step_more n j rest ys place (Login_code c) = refl
after_step_more n j rest ys place (Ended s e d) = refl
after_step_more n j rest ys place (Started way) = refl
after_step_more n j rest ys place Left = refl
after_step_more n j rest ys place (Restored v) = refl

fresh_more : (b : Bool) (f : Frame) (rest ys : List ℕ) (place : ℕ)
    → cond b (Asks (login_nexus f.body) (Login (login_version f.body)) (after_login f (rest ++ ys) (place_after place f))) (Silent (rejected 5 place))
    ≡ grown_turn (cond b (Asks (login_nexus f.body) (Login (login_version f.body)) (after_login f rest (place_after place f))) (Silent (rejected 5 place))) ys
fresh_more true f rest ys place = ap (Asks (login_nexus f.body) (Login (login_version f.body))) (fun_ext (after_login_more f rest ys (place_after place f)))
fresh_more false f rest ys place = refl

in_more : (a b : Bool) (n : Nexus) (f : Frame) (rest ys : List ℕ) (place : ℕ)
    → cond a (Asks n (Command f.lun (command_cdb f.body) (command_data f.body)) (after_command n f (rest ++ ys) (place_after place f))) (cond b (Asks n Logout (λ _. after_logout f)) (Asks n Logout (λ _. rejected 5 place)))
    ≡ grown_turn (cond a (Asks n (Command f.lun (command_cdb f.body) (command_data f.body)) (after_command n f rest (place_after place f))) (cond b (Asks n Logout (λ _. after_logout f)) (Asks n Logout (λ _. rejected 5 place)))) ys
in_more true b n f rest ys place = ap (Asks n (Command f.lun (command_cdb f.body) (command_data f.body))) (fun_ext (after_command_more n f rest ys (place_after place f)))
in_more false true n f rest ys place = refl
in_more false false n f rest ys place = refl

pub turn_at_more : (p : Phase) (place : ℕ) (f : Front) (ys : List ℕ) → turn_at p place (grown f ys) ≡ grown_turn (turn_at p place f) ys
turn_at_more p place (Lacking k) ys = refl
turn_at_more Dead place (Broken r) ys = refl
turn_at_more (Busy n j) place (Broken r) ys = refl
turn_at_more (Busy n j) place (Whole f rest) ys = refl
turn_at_more Fresh place (Broken r) ys = refl
turn_at_more (In n) place (Broken r) ys = refl
turn_at_more Dead place (Whole f rest) ys = refl
turn_at_more Fresh place (Whole f rest) ys = fresh_more (eqb f.kind 1) f rest ys place
turn_at_more (In n) place (Whole f rest) ys = in_more (eqb f.kind 2) (eqb f.kind 3) n f rest ys place

dead_turn : (place : ℕ) (f : Front) → turn_at Dead place f ≡ Idle
dead_turn place (Lacking k) = refl
dead_turn place (Broken r) = refl
dead_turn place (Whole f rest) = refl

turn_more_at : (p : Phase) (bytes ys : List ℕ) (place : ℕ) → HELD ≤ length bytes → turn (arrived (lane bytes p place) ys) ≡ grown_turn (turn (lane bytes p place)) ys
turn_more_at Dead bytes ys place full = dead_turn place (front Target bytes) ∙ sym (ap (λ (t : Turn). grown_turn t ys) (dead_turn place (front Target bytes)))
turn_more_at Fresh bytes ys place full = ap (turn_at Fresh place) (front_more Target bytes ys full) ∙ turn_at_more Fresh place (front Target bytes) ys
turn_more_at (In n) bytes ys place full = ap (turn_at (In n) place) (front_more Target bytes ys full) ∙ turn_at_more (In n) place (front Target bytes) ys
turn_more_at (Busy n j) bytes ys place full = ap (Asks n (Step (carried j))) (fun_ext (after_step_more n j bytes ys place))

pub turn_more : (l : Lane) (ys : List ℕ) → HELD ≤ length l.bytes → turn (arrived l ys) ≡ grown_turn (turn l) ys
turn_more l ys full = turn_more_at l.phase l.bytes ys l.place full

pub makes_more : (who : ℕ) (l m : Lane) (t : Turn) (es : History) (reply ys : List ℕ) → Makes who l t es reply m → Makes who (arrived l ys) (grown_turn t ys) es reply (arrived m ys)
makes_more who l m Idle es reply ys makes = (makes.0, makes.1, ap (λ (x : Lane). arrived x ys) makes.2)
makes_more who l m (Silent next) es reply ys makes = (makes.0, makes.1, ap (λ (x : Lane). arrived x ys) makes.2)
makes_more who l m (Asks n act next) es reply ys makes = (makes.0, makes.1, makes.2, ap (λ (x : Lane). arrived x ys) makes.3)

-- a turn of a full lane, with more bytes behind it
pub takes_more : (who : ℕ) (l m : Lane) (d : Deed) (ys : List ℕ) → HELD ≤ length l.bytes → TakesTurn who l d m → TakesTurn who (arrived l ys) d (arrived m ys)
takes_more who l m d ys full takes =
    (takes.0, takes.1, subst (λ (t : Turn). Makes who (arrived l ys) t takes.0 takes.1 (arrived m ys)) (sym (turn_more l ys full)) (makes_more who l m (turn l) takes.0 takes.1 ys takes.2), takes.3)

-- some turns and one more
pub turns-append : (turns who : ℕ) (l mid last : Lane) (d e : Deed) → TakesTurns turns who l d mid → HELD < length mid.bytes → TakesTurn who mid e last → TakesTurns (suc turns) who l (joined d e) last
turns-append zero who l mid last d e done more takes =
    let here : HELD < length l.bytes = subst (λ (x : Lane). HELD < length x.bytes) done.1 more in
    let turn : TakesTurn who l e last = subst (λ (x : Lane). TakesTurn who x e last) done.1 takes in
    (here, (e, last, nothing, turn, (refl, refl), ap (λ (x : Deed). joined x e) done.0 ∙ sym (joined-nothing e)))
turns-append (suc k) who l mid last d e done more takes =
    let rest = turns-append k who done.1.1 mid last done.1.2 e done.1.4 more takes in
    (done.0, (done.1.0, done.1.1, joined done.1.2 e, done.1.3, rest, ap (λ (x : Deed). joined x e) done.1.5 ∙ joined-assoc done.1.0 done.1.2 e))

-- a turn of a full lane that looks at its frame makes room, or the lane dies
pub data MadeRoom : Lane → Type 0 where
  Has_died : (l : Lane) → l.phase ≡ Dead → MadeRoom l
  Has_room : (l : Lane) → length l.bytes < HELD → MadeRoom l

login_room : (f : Frame) (rest : List ℕ) (place : ℕ) (out : Out) → length rest < HELD → MadeRoom (after_login f rest place out).lane
login_room f rest place (Login_code c) less = Has_room _ less
login_room f rest place (Ended s e d) less = Has_died _ refl
login_room f rest place (Started way) less = Has_died _ refl
login_room f rest place Wrote less = Has_died _ refl
login_room f rest place (Read b) less = Has_died _ refl
login_room f rest place Done less = Has_died _ refl
login_room f rest place Aborted less = Has_died _ refl
login_room f rest place (Fault c) less = Has_died _ refl
login_room f rest place Left less = Has_died _ refl
login_room f rest place (Restored v) less = Has_died _ refl

command_room : (n : Nexus) (f : Frame) (rest : List ℕ) (place : ℕ) (out : Out) → length rest < HELD → MadeRoom (after_command n f rest place out).lane
command_room n f rest place (Ended s e d) less = Has_room _ less
command_room n f rest place (Login_code c) less = Has_died _ refl
command_room n f rest place (Started way) less = Has_room _ less
command_room n f rest place Wrote less = Has_died _ refl
command_room n f rest place (Read b) less = Has_died _ refl
command_room n f rest place Done less = Has_died _ refl
command_room n f rest place Aborted less = Has_died _ refl
command_room n f rest place (Fault c) less = Has_died _ refl
command_room n f rest place Left less = Has_died _ refl
command_room n f rest place (Restored v) less = Has_died _ refl

died : (m : Lane) → m ≡ dead → MadeRoom m
died m is = Has_died m (ap (λ (x : Lane). x.phase) is)

same_room : (m l : Lane) → m ≡ l → MadeRoom l → MadeRoom m
same_room m l is room = subst MadeRoom (sym is) room

fresh_room : (who : ℕ) (l m : Lane) (b : Bool) (f : Frame) (rest reply : List ℕ) (es : History) (place : ℕ) → length rest < HELD
    → Makes who l (cond b (Asks (login_nexus f.body) (Login (login_version f.body)) (after_login f rest (place_after place f))) (Silent (rejected 5 place))) es reply m → MadeRoom m
fresh_room who l m true f rest reply es place less makes = same_room m _ makes.3 (login_room f rest (place_after place f) makes.0 less)
fresh_room who l m false f rest reply es place less makes = died m makes.2

in_room : (who : ℕ) (l m : Lane) (a b : Bool) (n : Nexus) (f : Frame) (rest reply : List ℕ) (es : History) (place : ℕ) → length rest < HELD
    → Makes who l (cond a (Asks n (Command f.lun (command_cdb f.body) (command_data f.body)) (after_command n f rest (place_after place f))) (cond b (Asks n Logout (λ _. after_logout f)) (Asks n Logout (λ _. rejected 5 place)))) es reply m → MadeRoom m
in_room who l m true b n f rest reply es place less makes = same_room m _ makes.3 (command_room n f rest (place_after place f) makes.0 less)
in_room who l m false true n f rest reply es place less makes = died m makes.3
in_room who l m false false n f rest reply es place less makes = died m makes.3

short_rest : (bytes : List ℕ) (f : Frame) (rest : List ℕ) → front Target bytes ≡ Whole f rest → length bytes ≤ HELD → length rest < HELD
short_rest bytes f rest is full =
    let here = found Target bytes f rest is in
    omega (arith, ap length here.left, length-drop (4 + number32_at bytes 0) bytes, here.whole)

frame_room : (who : ℕ) (l m : Lane) (p : Phase) (bytes reply : List ℕ) (place : ℕ) (f : Front) (es : History) → f ≡ front Target bytes → length bytes ≡ HELD → AwaitsFrame p
    → Makes who l (turn_at p place f) es reply m → MadeRoom m
frame_room who l m p bytes reply place (Lacking k) es is full awaits makes = absurd (full_front Target bytes (omega (arith, full)) k (sym is))
frame_room who l m Dead bytes reply place f es is full awaits makes = absurd awaits
frame_room who l m (Busy n j) bytes reply place f es is full awaits makes = absurd awaits
frame_room who l m Fresh bytes reply place (Broken r) es is full awaits makes = died m makes.2
frame_room who l m (In n) bytes reply place (Broken r) es is full awaits makes = died m makes.3
frame_room who l m Fresh bytes reply place (Whole f rest) es is full awaits makes = fresh_room who l m (eqb f.kind 1) f rest reply es place (short_rest bytes f rest (sym is) (omega (arith, full))) makes
frame_room who l m (In n) bytes reply place (Whole f rest) es is full awaits makes = in_room who l m (eqb f.kind 2) (eqb f.kind 3) n f rest reply es place (short_rest bytes f rest (sym is) (omega (arith, full))) makes

room_at : (who : ℕ) (l m : Lane) (p : Phase) (bytes reply : List ℕ) (place : ℕ) (es : History) → length bytes ≡ HELD → AwaitsFrame p → Makes who l (turn_by p bytes place) es reply m → MadeRoom m
room_at who l m Dead bytes reply place es full awaits makes = absurd awaits
room_at who l m (Busy n j) bytes reply place es full awaits makes = absurd awaits
room_at who l m Fresh bytes reply place es full awaits makes = frame_room who l m Fresh bytes reply place (front Target bytes) es refl full awaits makes
room_at who l m (In n) bytes reply place es full awaits makes = frame_room who l m (In n) bytes reply place (front Target bytes) es refl full awaits makes

pub room_made : (who : ℕ) (l m : Lane) (es : History) (reply : List ℕ) → length l.bytes ≡ HELD → AwaitsFrame l.phase → Makes who l (turn l) es reply m → MadeRoom m
room_made who l m es reply full awaits makes = room_at who l m l.phase l.bytes reply l.place es full awaits makes

-- a step of a task leaves the bytes that wait, and the lane lives but where the outcome is none of a step
pub step_keeps : (who : ℕ) (l m : Lane) (n : Nexus) (j : Job) (es : History) (reply : List ℕ) → l.phase ≡ Busy n j → Makes who l (turn l) es reply m → (m.phase ≡ Dead) ⊎ (m.bytes ≡ l.bytes)
step_keeps who l m n j es reply busy makes = by l.phase busy makes
  where
    ended : (out : Out) → ((after_step n j l.bytes l.place out).lane.phase ≡ Dead) ⊎ ((after_step n j l.bytes l.place out).lane.bytes ≡ l.bytes)
    ended Wrote = inr refl
    ended (Read b) = inr refl
    ended Done = inr refl
    ended Aborted = inr refl
    ended (Fault c) = inr refl
    ended (Login_code c) = inl refl
    ended (Ended s e d) = inl refl
    ended (Started way) = inl refl
    ended Left = inl refl
    ended (Restored v) = inl refl

    by : (p : Phase) → p ≡ Busy n j → Makes who l (turn_by p l.bytes l.place) es reply m → (m.phase ≡ Dead) ⊎ (m.bytes ≡ l.bytes)
    by p is made =
        let here : Makes who l (turn_by (Busy n j) l.bytes l.place) es reply m = subst (λ (q : Phase). Makes who l (turn_by q l.bytes l.place) es reply m) is made in
        subst (λ (x : Lane). (x.phase ≡ Dead) ⊎ (x.bytes ≡ l.bytes)) (sym here.3) (ended here.0)
