-- Turns that wait for the outcome of their acts.
use Rattle.std.proofs.Common.{◌≡◌, ℕ, ◌==◌, ◌||◌, ◌⊎◌, inl, inr, Bool, true, false, List, [], length, take, refl, ap, sym, ◌∙◌, subst}
use Rattle.std.specs.Prelude.{if◌then◌else◌}
use Rattle.std.proofs.lemmas.Bool.{eqb-true}
use Rattle.pr_words.specs.declared.nexus.Nexus.{Nexus}
use Rattle.pr_words.specs.declared.nexus.Side.TheVariants.{Target}
use Rattle.pr_grammar.specs.Frames as frames
use Rattle.pr_grammar.specs.Frames.{frame, is_kind}
use Rattle.pr_grammar.specs.Bodies.{login_version, login_nexus, login_reply, command_cdb, command_data}
use Rattle.pr_model.specs.Entries as entries
use Rattle.pr_model.specs.Entries.{Out, Login_code, Ended, Started, Wrote, Read, Done, Aborted, Fault, Left, Restored}
use Rattle.pr_model.specs.Lanes.{Lane, Phase, Turn, Turned, turned, lane, In, Busy, Fresh, Idle, Asks, asked, turn, carried, place_after, after_login, after_command, after_step, after_logout, broken, rejected, phase_after_login, replied}
use Rattle.pr_model.specs.Lanes as lanes
use Rattle.pr_link.specs.declared.frame.Frame.{Frame}
use Rattle.pr_link.specs.Streams.{frame_of}
use Rattle.pr_link.specs.Deframer.{held_of, place_of}
use Rattle.pr_link.specs.declared.request.Request.{Request}
use Rattle.pr_link.specs.declared.request.Request.TheVariants as requests
use Rattle.pr_link.specs.Requests.{request_of}
use Rattle.pr_session.specs.declared.act.Want.{Want}
use Rattle.pr_session.specs.declared.state.Rejection.{Rejection}
use Rattle.pr_session.specs.declared.state.State.{State}
use Rattle.pr_session.specs.declared.state.State.TheVariants.{Asking, Busy as Running}
use Rattle.pr_session.specs.declared.session.Session.{Session}
use Rattle.pr_session.specs.declared.job.Job.{Job}
use Rattle.pr_session.specs.declared.asked.Asked.{Asked}
use Rattle.pr_session.specs.declared.asked.Asked.TheVariants.{Login, Command, Step, Logout, Reject}
use Rattle.pr_session.specs.Places.{data_in}
use Rattle.pr_session.specs.Jobs.{job_of, begun_by}
use Rattle.pr_session.specs.Acts.{act_by}
use Rattle.pr_session.specs.Asking.{nexus_in, want_of, next_by}
use Rattle.pr_session.specs.States.{phase_of, asked_in}
use Rattle.pr_session.specs.Sessions.{lane_of, work_of}
use Rattle.pr_session.specs.Turning.{IsAsked, IsFor, Begins}

pub login_next : (head : Frame) (body : List ℕ) (n : Nexus) (version : ℕ) (work held : List ℕ) (place : ℕ) → n ≡ login_nexus body → (out : Out) → next_by (Login head n version) work held place out ≡ after_login (frame_of head body) held place out
login_next head body n version work held place is (Login_code code) = ap (λ (m : Nexus). turned (lane held (phase_after_login m code) place) (replied (frame_of head body) 0x81 (login_reply code))) is
login_next head body n version work held place is (Ended status sense data_in) = refl
login_next head body n version work held place is (Started way) = refl
login_next head body n version work held place is Wrote = refl
login_next head body n version work held place is (Read block) = refl
login_next head body n version work held place is Done = refl
login_next head body n version work held place is Aborted = refl
login_next head body n version work held place is (Fault code) = refl
login_next head body n version work held place is Left = refl
login_next head body n version work held place is (Restored value) = refl

pub command_next : (head : Frame) (body : List ℕ) (n : Nexus) (cdb : List ℕ) (sent : ℕ) (work held : List ℕ) (place : ℕ) → take sent (data_in work) ≡ command_data body
    → (out : Out) → next_by (Command head n cdb sent) work held place out ≡ after_command n (frame_of head body) held place out
command_next head body n cdb sent work held place same (Login_code code) = refl
command_next head body n cdb sent work held place same (Ended status sense bytes) = refl
command_next head body n cdb sent work held place same (Started way) = ap (λ (d : List ℕ). turned (lane held (Busy n (begun_by head way d)) place) []) same
command_next head body n cdb sent work held place same Wrote = refl
command_next head body n cdb sent work held place same (Read block) = refl
command_next head body n cdb sent work held place same Done = refl
command_next head body n cdb sent work held place same Aborted = refl
command_next head body n cdb sent work held place same (Fault code) = refl
command_next head body n cdb sent work held place same Left = refl
command_next head body n cdb sent work held place same (Restored value) = refl

-- an act that was asked for
pub asks : (from : Phase) (n : Nexus) (a : entries.Act) (follows : Out → Turned) (w : Want) (s : Session) (what : Asked) → s.state ≡ Asking what → w ≡ want_of what → nexus_in what ≡ n → act_by what (work_of s) ≡ a → IsFor from what (work_of s)
    → ((out : Out) → next_by what (work_of s) (held_of s.deframer) (place_of s.deframer) out ≡ follows out) → IsAsked from n a follows w s
asks from n a follows w s what state want nexus act is_for next =
    record { what = what; state = ap asked_in state; want = want; nexus = nexus; act = act; phase = is_for; next = next }

-- a frame that breaks a rule where a nexus is logged in
pub refused : (l : Lane) (n : Nexus) (r : Rejection) (w : Want) (s : Session) (from : Phase) → l.phase ≡ from → from ≡ In n → s.state ≡ Asking (Reject n r) → w ≡ want_of (Reject n r) → Begins l (broken from r.place r.reason) w s
refused l n r w s from same is state want =
    subst (λ (p : Phase). l.phase ≡ p → Begins l (broken p r.place r.reason) w s) (sym is)
    (λ in_n. subst (λ (p : Phase). IsAsked p n entries.Logout (λ _. rejected r.reason r.place) w s) (sym in_n) (asks (In n) n entries.Logout (λ _. rejected r.reason r.place) w s (Reject n r) state want refl refl refl (λ out. refl))) same

-- a Logout of a nexus that is logged in
pub left : (l : Lane) (n : Nexus) (head : Frame) (body : List ℕ) (w : Want) (s : Session) → l.phase ≡ In n → s.state ≡ Asking (Logout head n) → w ≡ want_of (Logout head n) → IsAsked l.phase n entries.Logout (λ _. after_logout (frame_of head body)) w s
left l n head body w s in_n state want =
    subst (λ (p : Phase). IsAsked p n entries.Logout (λ _. after_logout (frame_of head body)) w s) (sym in_n)
    (asks (In n) n entries.Logout (λ _. after_logout (frame_of head body)) w s (Logout head n) state want refl refl refl (λ out. refl))

-- a step of a task that runs
pub stepping : (s : Session) (n : Nexus) (j : Job) (w : Want) → s.state ≡ Running n j → w ≡ want_of (Step n j) → Begins (lane_of s) (turn (lane_of s)) w s
stepping s n j w runs want =
    let held : List ℕ = held_of s.deframer in
    let place : ℕ = place_of s.deframer in
    let job = job_of j (work_of s) in
    let busy : phase_of s.state (work_of s) ≡ Busy n job = ap (λ (t : State). phase_of t (work_of s)) runs in
    let made : IsAsked (Busy n job) n (entries.Step (carried job)) (after_step n job held place) w s =
    record { what = Step n j; state = ap asked_in runs; want = want; nexus = refl; act = refl; phase = (refl, refl); next = λ out. refl } in
    subst (λ (p : Phase). Begins (lane held p place) (turn (lane held p place)) w s) (sym busy) made

-- what a frame asks for, by the request that it carries
abbrev pub asked_by : Phase → ℕ → frames.Frame → List ℕ → Request → Turn
asked_by lanes.Dead place f rest r = Idle
asked_by (lanes.Busy n j) place f rest r = Idle
asked_by Fresh place f rest (requests.Login version n) = Asks n (entries.Login version) (after_login f rest (place_after place f))
asked_by Fresh place f rest r = broken Fresh place 5
asked_by (In n) place f rest (requests.Command cdb sent) = Asks n (entries.Command f.lun cdb (command_data f.body)) (after_command n f rest (place_after place f))
asked_by (In n) place f rest requests.Logout = Asks n entries.Logout (λ _. after_logout f)
asked_by (In n) place f rest (requests.Login version m) = broken (In n) place 5

which : {A B C : Type 0} → (a b c : Bool) → (a || b || c) ≡ true → (a ≡ true → A) → (b ≡ true → B) → (c ≡ true → C) → A ⊎ (B ⊎ C)
which true b c some f g h = inl (f refl)
which false true c some f g h = inr (inl (g refl))
which false false true some f g h = inr (inr (h refl))
which false false false some f g h = absurd cc

abbrev asked_of : ℕ → Phase → ℕ → ℕ → ℕ → List ℕ → List ℕ → Type 0
asked_of kind p place lun tag body rest = asked p place (frame kind lun tag body) rest ≡ asked_by p place (frame kind lun tag body) rest (request_of kind body)

by_phase : (p : Phase) (place lun tag : ℕ) (body rest : List ℕ) → asked_of 1 p place lun tag body rest × asked_of 2 p place lun tag body rest × asked_of 3 p place lun tag body rest
by_phase lanes.Dead place lun tag body rest = (refl, refl, refl)
by_phase (lanes.Busy n j) place lun tag body rest = (refl, refl, refl)
by_phase Fresh place lun tag body rest = (refl, refl, refl)
by_phase (In n) place lun tag body rest = (refl, refl, refl)

pub asked_is : (p : Phase) (place kind lun tag : ℕ) (body rest : List ℕ) → is_kind Target kind ≡ true → asked p place (frame kind lun tag body) rest ≡ asked_by p place (frame kind lun tag body) rest (request_of kind body)
asked_is p place kind lun tag body rest is =
    let all = by_phase p place lun tag body rest in
    let goes : (k : ℕ) → kind ≡ k → asked_of k p place lun tag body rest → asked_of kind p place lun tag body rest = λ k same made. subst (λ (x : ℕ). asked_of x p place lun tag body rest) (sym same) made in
    let choice : (kind ≡ 1) ⊎ ((kind ≡ 2) ⊎ (kind ≡ 3)) = which (kind == 1) (kind == 2) (kind == 3) is (eqb-true kind 1) (eqb-true kind 2) (eqb-true kind 3) in
    elim choice [ inl one ↦ goes 1 one all.0 | inr (inl two) ↦ goes 2 two all.1 | inr (inr three) ↦ goes 3 three all.2 ]

-- a request of a frame's body
abbrev nexus_or : Nexus → Request → Nexus
nexus_or d (requests.Login version n) = n
nexus_or d _ = d

abbrev count_or : ℕ → Request → ℕ
count_or d (requests.Command cdb sent) = sent
count_or d _ = d

login_if : (body cdb : List ℕ) (count version : ℕ) (n : Nexus) (a b : Bool) → (if a then requests.Login (login_version body) (login_nexus body) else if b then requests.Command cdb count else requests.Logout) ≡ requests.Login version n → n ≡ login_nexus body
login_if body cdb count version n true b is = sym (ap (nexus_or n) is)
login_if body cdb count version n false true is = absurd cc
login_if body cdb count version n false false is = absurd cc

pub login_read : (kind : ℕ) (body : List ℕ) (version : ℕ) (n : Nexus) → request_of kind body ≡ requests.Login version n → n ≡ login_nexus body
login_read kind body version n is = login_if body (command_cdb body) (length (command_data body)) version n (kind == 1) (kind == 2) is

command_if : (body cdb other : List ℕ) (count sent : ℕ) (a b : Bool) → (if a then requests.Login (login_version body) (login_nexus body) else if b then requests.Command other count else requests.Logout) ≡ requests.Command cdb sent → sent ≡ count
command_if body cdb other count sent true b is = absurd cc
command_if body cdb other count sent false true is = sym (ap (count_or sent) is)
command_if body cdb other count sent false false is = absurd cc

pub command_read : (kind : ℕ) (body cdb : List ℕ) (sent : ℕ) → request_of kind body ≡ requests.Command cdb sent → sent ≡ length (command_data body)
command_read kind body cdb sent is = command_if body cdb (command_cdb body) (length (command_data body)) sent (kind == 1) (kind == 2) is

-- what a frame that came asks for
pub serves : (from p : Phase) (place : ℕ) (g : Frame) (body held : List ℕ) (r : Request) → from ≡ p → is_kind Target g.kind ≡ true → request_of g.kind body ≡ r → asked from place (frame_of g body) held ≡ asked_by p place (frame_of g body) held r
serves from p place g body held r same is read =
    ap (λ (x : Phase). asked x place (frame_of g body) held) same ∙ asked_is p place g.kind g.lun g.tag body held is ∙ ap (asked_by p place (frame_of g body) held) read
