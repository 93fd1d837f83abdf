-- How many frames were replied to.
use Rattle.std.proofs.Common.{◌≡◌, ℕ, ◌+◌, ◌≤◌, Bool, true, false, cond, eqb, List, [], ◌∷◌, ◌++◌, Result, Ok, Err, IfOk, refl, sym, ap, ◌∙◌, arith}
use Rattle.pr_words.specs.declared.nexus.Nexus.{Nexus}
use Rattle.pr_grammar.specs.Bodies.{login_nexus, login_version, command_cdb, command_data}
use Rattle.pr_grammar.specs.Frames.{Frame, Front, Lacking, Broken, Whole, front}
use Rattle.pr_words.specs.declared.nexus.Side.TheVariants.{Target}
use Rattle.pr_model.specs.Entries.{Act, Login, Command, Logout, Out, Login_code, Ended, Started, Wrote, Read, Done, Aborted, Fault, Left, Restored, History}
use Rattle.pr_model.specs.Lanes.{Phase, Fresh, In, Busy, Dead, Job, Lane, Turn, Idle, Silent, Asks, Turned, turn, turn_at, turn_by, after_login, after_command, after_step, after_logout, rejected, place_after}
use Rattle.pr_model.specs.Runs.{Makes}
use Rattle.pr_session.specs.Ends.{replies_by, replies_in, frames_by, frames_if}
use Rattle.pr_session.specs.Sharing.{Shares}

-- what follows of two facts about a result that is Ok
pub on_both : {T E : Type 0} {P Q R : T → Type 0} (r : Result T E) → ((x : T) → P x → Q x → R x) → IfOk r P → IfOk r Q → IfOk r R
on_both (Ok x) goes one two = goes x one two
on_both (Err e) goes one two = tt

pub replies-append : (h k : History) → replies_in (h ++ k) ≡ replies_in h + replies_in k
replies-append [] k = let none : replies_in k ≡ 0 + replies_in k = omega arith in none
replies-append (e ∷ h) k =
    let rest : replies_in (h ++ k) ≡ replies_in h + replies_in k = replies-append h k in
    let all : replies_by e.out + replies_in (h ++ k) ≡ (replies_by e.out + replies_in h) + replies_in k = omega (arith, rest) in
    all

login_counts : (f : Frame) (rest : List ℕ) (place : ℕ) (out : Out) → ((after_login f rest place out).lane.phase ≡ Dead → ⊥) → replies_by out ≡ frames_by (after_login f rest place out).reply
login_counts f rest place (Login_code code) lives = refl
login_counts f rest place (Ended status sense bytes) lives = absurd (lives refl)
login_counts f rest place (Started way) lives = absurd (lives refl)
login_counts f rest place Wrote lives = absurd (lives refl)
login_counts f rest place (Read block) lives = absurd (lives refl)
login_counts f rest place Done lives = absurd (lives refl)
login_counts f rest place Aborted lives = absurd (lives refl)
login_counts f rest place (Fault code) lives = absurd (lives refl)
login_counts f rest place Left lives = absurd (lives refl)
login_counts f rest place (Restored value) lives = absurd (lives refl)

command_counts : (n : Nexus) (f : Frame) (rest : List ℕ) (place : ℕ) (out : Out) → ((after_command n f rest place out).lane.phase ≡ Dead → ⊥) → replies_by out ≡ frames_by (after_command n f rest place out).reply
command_counts n f rest place (Ended status sense bytes) lives = refl
command_counts n f rest place (Started way) lives = refl
command_counts n f rest place (Login_code code) lives = absurd (lives refl)
command_counts n f rest place Wrote lives = absurd (lives refl)
command_counts n f rest place (Read block) lives = absurd (lives refl)
command_counts n f rest place Done lives = absurd (lives refl)
command_counts n f rest place Aborted lives = absurd (lives refl)
command_counts n f rest place (Fault code) lives = absurd (lives refl)
command_counts n f rest place Left lives = absurd (lives refl)
command_counts n f rest place (Restored value) lives = absurd (lives refl)

step_counts : (n : Nexus) (j : Job) (rest : List ℕ) (place : ℕ) (out : Out) → ((after_step n j rest place out).lane.phase ≡ Dead → ⊥) → replies_by out ≡ frames_by (after_step n j rest place out).reply
step_counts n j rest place Wrote lives = refl
step_counts n j rest place (Read block) lives = refl
step_counts n j rest place Done lives = refl
step_counts n j rest place Aborted lives = refl
step_counts n j rest place (Fault code) lives = refl
step_counts n j rest place (Login_code code) lives = absurd (lives refl)
step_counts n j rest place (Ended status sense bytes) lives = absurd (lives refl)
step_counts n j rest place (Started way) lives = absurd (lives refl)
step_counts n j rest place Left lives = absurd (lives refl)
step_counts n j rest place (Restored value) lives = absurd (lives refl)

module _ (who : ℕ) (l m : Lane) (es : History) (reply : List ℕ) (lives : m.phase ≡ Dead → ⊥) where
  by_idle : Makes who l Idle es reply m → replies_in es ≡ frames_by reply
  by_idle makes = ap replies_in makes.0 ∙ sym (ap frames_by makes.1)

  by_silent : (next : Turned) → next.lane.phase ≡ Dead → Makes who l (Silent next) es reply m → replies_in es ≡ frames_by reply
  by_silent next dies makes = absurd (lives (ap (λ (k : Lane). k.phase) makes.2 ∙ dies))

  by_asks : (n : Nexus) (act : Act) (next : Out → Turned) → ((out : Out) → ((next out).lane.phase ≡ Dead → ⊥) → replies_by out ≡ frames_by (next out).reply) → Makes who l (Asks n act next) es reply m → replies_in es ≡ frames_by reply
  by_asks n act next each makes =
      let one = each makes.0 (λ dead. lives (ap (λ (k : Lane). k.phase) makes.3 ∙ dead)) in
      let all : replies_in es ≡ replies_by makes.0 + 0 = ap replies_in makes.1 in
      let said : frames_by reply ≡ frames_by (next makes.0).reply = ap frames_by makes.2 in
      omega (arith, one, all, said)

  by_fresh : (b : Bool) (f : Frame) (rest : List ℕ) (place : ℕ) → Makes who l (cond b (Asks (login_nexus f.body) (Login (login_version f.body)) (after_login f rest (place_after place f))) (Silent (rejected 5 place))) es reply m → replies_in es ≡ frames_by reply
  by_fresh true f rest place makes = by_asks _ _ _ (login_counts f rest (place_after place f)) makes
  by_fresh false f rest place makes = by_silent (rejected 5 place) refl makes

  by_in : (a b : Bool) (n : Nexus) (f : Frame) (rest : List ℕ) (place : ℕ)
      → Makes who l (cond a (Asks n (Command f.lun (command_cdb f.body) (command_data f.body)) (after_command n f rest (place_after place f))) (cond b (Asks n Logout (λ _. after_logout f)) (Asks n Logout (λ _. rejected 5 place)))) es reply m → replies_in es ≡ frames_by reply
  by_in true b n f rest place makes = by_asks _ _ _ (command_counts n f rest (place_after place f)) makes
  by_in false true n f rest place makes = by_asks n Logout (λ _. after_logout f) (λ out goes. absurd (goes refl)) makes
  by_in false false n f rest place makes = by_asks n Logout (λ _. rejected 5 place) (λ out goes. absurd (goes refl)) makes

  by_front : (p : Phase) (place : ℕ) (f : Front) → Makes who l (turn_at p place f) es reply m → replies_in es ≡ frames_by reply
  by_front p place (Lacking k) makes = by_idle makes
  by_front Fresh place (Broken r) makes = by_silent (rejected r place) refl makes
  by_front (In n) place (Broken r) makes = by_asks n Logout (λ _. rejected r place) (λ out goes. absurd (goes refl)) makes
  by_front (Busy n j) place (Broken r) makes = by_idle makes
  by_front Dead place (Broken r) makes = by_idle makes
  by_front Fresh place (Whole f rest) makes = by_fresh (eqb f.kind 1) f rest place makes
  by_front (In n) place (Whole f rest) makes = by_in (eqb f.kind 2) (eqb f.kind 3) n f rest place makes
  by_front (Busy n j) place (Whole f rest) makes = by_idle makes
  by_front Dead place (Whole f rest) makes = by_idle makes

  by_phase : (p : Phase) (bytes : List ℕ) (place : ℕ) → Makes who l (turn_by p bytes place) es reply m → replies_in es ≡ frames_by reply
  by_phase Fresh bytes place makes = by_front Fresh place (front Target bytes) makes
  by_phase (In n) bytes place makes = by_front (In n) place (front Target bytes) makes
  by_phase (Busy n j) bytes place makes = by_asks _ _ _ (step_counts n j bytes place) makes
  by_phase Dead bytes place makes = by_front Dead place (front Target bytes) makes

-- a turn whose session lives on replied to one frame where it has a reply, and else to none
pub frames_made : (who : ℕ) (own own_now : History) (l m : Lane) (reply : List ℕ) (b : Bool) → Shares who own l (turn l) own_now m reply → (m.phase ≡ Dead → ⊥) → frames_by reply ≡ frames_if b → replies_in own_now ≡ frames_if b + replies_in own
frames_made who own own_now l m reply b shares lives said =
    let all : replies_in own_now ≡ replies_in own + replies_in shares.entries = ap replies_in shares.published ∙ replies-append own shares.entries in
    let made : replies_in shares.entries ≡ frames_by reply = by_phase who l m shares.entries reply lives l.phase l.bytes l.place shares.makes in
    omega (arith, all, made, said)

one_reply : (out : Out) → replies_by out ≤ 1
one_reply (Login_code code) = omega arith
one_reply (Ended status sense bytes) = omega arith
one_reply (Started way) = omega arith
one_reply Wrote = omega arith
one_reply (Read block) = omega arith
one_reply Done = omega arith
one_reply Aborted = omega arith
one_reply (Fault code) = omega arith
one_reply Left = omega arith
one_reply (Restored value) = omega arith

few_by : (who : ℕ) (l m : Lane) (t : Turn) (es : History) (reply : List ℕ) → Makes who l t es reply m → replies_in es ≤ 1
few_by who l m Idle es reply makes = let none : replies_in es ≡ 0 = ap replies_in makes.0 in omega (arith, none)
few_by who l m (Silent next) es reply makes = let none : replies_in es ≡ 0 = ap replies_in makes.0 in omega (arith, none)
few_by who l m (Asks n act next) es reply makes =
    let all : replies_in es ≡ replies_by makes.0 + 0 = ap replies_in makes.1 in
    omega (arith, all, one_reply makes.0)

-- and each turn to one at the most
pub few_made : (who : ℕ) (own own_now : History) (l m : Lane) (t : Turn) (reply : List ℕ) → Shares who own l t own_now m reply → replies_in own_now ≤ 1 + replies_in own
few_made who own own_now l m t reply shares =
    let all : replies_in own_now ≡ replies_in own + replies_in shares.entries = ap replies_in shares.published ∙ replies-append own shares.entries in
    omega (arith, all, few_by who l m t shares.entries reply shares.makes)
