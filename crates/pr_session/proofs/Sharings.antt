-- Turns of a session over a gate.
use Rattle.std.proofs.Common.{◌≡◌, ℕ, Bool, true, false, cond, eqb, List, [], ◌∷◌, ◌++◌, take, drop, filter, Option, Some, None, is_some, refl, sym, ap, ◌∙◌, subst}
use Rattle.std.proofs.lemmas.Bool.{false≢true, eq-eqb}
use mathlib.Core.List.{IsPrefix}
use Rattle.std.proofs.lemmas.List.{append-nil}
use Rattle.std.proofs.lemmas.List.Elements.{filter-append}
use Rattle.pr_words.specs.declared.nexus.Nexus.{Nexus}
use Rattle.pr_words.specs.declared.nexus.Side.TheVariants.{Target}
use Rattle.pr_grammar.specs.Bodies.{login_nexus, login_version, command_cdb, command_data}
use Rattle.pr_grammar.specs.Frames.{Front, Lacking, Broken, Whole, front}
use Rattle.pr_model.specs.Entries as entries
use Rattle.pr_model.specs.Entries.{Entry, History, entry}
use Rattle.pr_model.specs.Lanes as lanes
use Rattle.pr_model.specs.Lanes.{Lane, Phase, Turn, Turned, Idle, Silent, Asks, turn, turned, carried}
use Rattle.pr_io.specs.declared.outside.Medium as media
use Rattle.pr_io.specs.declared.outside.Disk as disks
use Rattle.pr_core.specs.declared.target.Core.{Core}
use Rattle.pr_core.specs.declared.ground.Ground.{Ground}
use Rattle.pr_core.specs.Shared.{Stands, AreOthers, IsPowered, IsRightOn, ground_in}
use Rattle.pr_core.proofs.SharedLaws.{others_stay, extends_stands, stands_right}
use Rattle.pr_session.specs.declared.act.Act.{Act}
use Rattle.pr_session.specs.declared.act.Out.{Out}
use Rattle.pr_session.specs.declared.act.Out.TheVariants as outs
use Rattle.pr_session.specs.declared.job.Job.{Job}
use Rattle.pr_tasks.specs.declared.step_out.StepOut.{StepOut}
use Rattle.pr_core.specs.Outs.{step_out}
use Rattle.pr_words.specs.declared.limits.TheConstants.{BLOCK}
use Rattle.pr_session.specs.Jobs.{job_of, block_in, block_place, carried_of}
use Rattle.pr_session.specs.declared.act.Want.{Want}
use Rattle.pr_session.specs.declared.act.Want.TheVariants as want
use Rattle.pr_session.specs.declared.asked.Asked.{Asked}
use Rattle.pr_session.specs.declared.asked.Asked.TheVariants.{Login, Command, Step, Logout, Reject}
use Rattle.pr_session.specs.declared.session.Session.{Session}
use Rattle.pr_link.specs.Deframer.{held_of, place_of}
use Rattle.pr_session.specs.Acts.{act_by, outcome_by, Fits}
use Rattle.pr_session.specs.Asking.{nexus_in, next_by, rejection_by}
use Rattle.pr_session.specs.Coming.{Agrees}
use Rattle.pr_session.specs.declared.state.State.{State}
use Rattle.pr_session.specs.declared.state.State.TheVariants as states
use Rattle.pr_session.specs.declared.state.Rejection.{Rejection}
use Rattle.pr_session.specs.Ends.{IsMade, EndsTurn}
use Rattle.pr_core.specs.declared.answers.CommandOut.TheVariants as answers
use Rattle.pr_tasks.specs.declared.step_out.StepOut.TheVariants as steps
use Rattle.pr_link.specs.Streams.{frame_of}
use Rattle.pr_session.specs.States.{asked_in, rejection_in}
use Rattle.pr_session.specs.Sessions.{HasTurned, next_of, work_of, lane_of, reply_of, rejection_of}
use Rattle.pr_session.specs.Turning.{Begins, AwaitsAt, IsRejection}
use Rattle.pr_session.specs.Driving.{Does, LeavesLess}
use Rattle.pr_session.specs.Sharing.{OnLater, WillAgree, WillBeReady, Publishes, Shares, sent_place}
use Rattle.pr_session.proofs.Drivings.{ready_in, never_awaits, never_dead, next_is, leaves}
use Rattle.pr_session.proofs.Blocks.{block_behind}
use Rattle.pr_session.proofs.Jobs.{carried_there}

-- who made none of these entries
none_of : (who : ℕ) (es : History) → filter (λ (e : Entry). eqb e.who who) es ≡ [] → AreOthers who es
none_of who [] none = tt
none_of who (e ∷ es) none = by (eqb e.who who) refl none (none_of who es)
  where
    by : (b : Bool) → eqb e.who who ≡ b → cond b (e ∷ filter (λ (x : Entry). eqb x.who who) es) (filter (λ (x : Entry). eqb x.who who) es) ≡ [] → (filter (λ (x : Entry). eqb x.who who) es ≡ [] → AreOthers who es) → AreOthers who (e ∷ es)
    by true is none rest = absurd cc
    by false is none rest = ((λ same. false≢true (sym is ∙ eq-eqb e.who who same)), rest none)

nothing_behind : (xs ys : History) → xs ++ ys ≡ xs → ys ≡ []
nothing_behind [] ys same = same
nothing_behind (x ∷ xs) ys same = nothing_behind xs ys (ap tail same)
  where
    tail : History → History
    tail [] = []
    tail (y ∷ zs) = zs

-- where a number's own entries are as before, others made what was seen since
pub others_since : (who : ℕ) (seen since : History) → filter (λ (e : Entry). eqb e.who who) (seen ++ since) ≡ filter (λ (e : Entry). eqb e.who who) seen → AreOthers who since
others_since who seen since same =
    none_of who since (nothing_behind (filter (λ (e : Entry). eqb e.who who) seen) (filter (λ (e : Entry). eqb e.who who) since) (sym (filter-append (λ (e : Entry). eqb e.who who) seen since) ∙ same))

same_some : (g k : Ground) → Some g ≡ Some k → g ≡ k
same_some g k e = cc

-- an entry of a session is no loss of power
act_powered : (a : Asked) (work : List ℕ) → IsPowered (act_by a work)
act_powered (Login head n version) work = tt
act_powered (Command head n cdb sent) work = tt
act_powered (Step n j) work = tt
act_powered (Logout head n) work = tt
act_powered (Reject n r) work = tt

-- a turn without an act was made
pub shares_calm : (who : ℕ) (own : History) (l : Lane) (t : Turn) (w : Want) (s : Session) → Begins l t w s → ((n : Nexus) (a : Act) → w ≡ want.Act n a → ⊥) → Shares who own l t own (lane_of s) (reply_of s)
shares_calm who own l Idle w s b none = record { entries = []; makes = (refl, b.1.reply, b.1.lane); published = sym (append-nil own) }
shares_calm who own l (Silent next) w s b none = record { entries = []; makes = (refl, b.1.reply, b.1.lane); published = sym (append-nil own) }
shares_calm who own l (Asks n a next) w s b none = absurd (none _ _ b.want)

-- an act is wanted where a turn asks for one
pub wants_asked : (l : Lane) (t : Turn) (n : Nexus) (a : Act) (s : Session) → Begins l t (want.Act n a) s → is_some (asked_in s.state) ≡ true
wants_asked l Idle n a s b = absurd (never_awaits l.phase _ n a b.0)
wants_asked l (Silent next) n a s b = absurd (never_dead n a b.0)
wants_asked l (Asks m act next) n a s b = ap is_some b.state

-- a turn without an entry ends the session
abbrev silent_phase : Turn → Phase
silent_phase Idle = lanes.Dead
silent_phase (Silent next) = next.lane.phase
silent_phase (Asks n a next) = lanes.Dead

fresh_dies : (b : Bool) (n : Nexus) (a : entries.Act) (next : entries.Out → Turned) (place : ℕ) → silent_phase (cond b (Asks n a next) (Silent (lanes.rejected 5 place))) ≡ lanes.Dead
fresh_dies true n a next place = refl
fresh_dies false n a next place = refl

in_dies : (a b : Bool) (n : Nexus) (one two three : entries.Act) (x y z : entries.Out → Turned) → silent_phase (cond a (Asks n one x) (cond b (Asks n two y) (Asks n three z))) ≡ lanes.Dead
in_dies true b n one two three x y z = refl
in_dies false true n one two three x y z = refl
in_dies false false n one two three x y z = refl

silent_at : (p : Phase) (place : ℕ) (f : Front) → silent_phase (lanes.turn_at p place f) ≡ lanes.Dead
silent_at p place (Lacking k) = refl
silent_at lanes.Fresh place (Broken r) = refl
silent_at (lanes.In n) place (Broken r) = refl
silent_at (lanes.Busy n j) place (Broken r) = refl
silent_at lanes.Dead place (Broken r) = refl
silent_at lanes.Fresh place (Whole f rest) = fresh_dies (eqb f.kind 1) (login_nexus f.body) (entries.Login (login_version f.body)) (lanes.after_login f rest (lanes.place_after place f)) place
silent_at (lanes.In n) place (Whole f rest) = in_dies (eqb f.kind 2) (eqb f.kind 3) n (entries.Command f.lun (command_cdb f.body) (command_data f.body)) entries.Logout entries.Logout (lanes.after_command n f rest (lanes.place_after place f)) (λ _. lanes.after_logout f) (λ _. lanes.rejected 5 place)
silent_at (lanes.Busy n j) place (Whole f rest) = refl
silent_at lanes.Dead place (Whole f rest) = refl

silent_dies : (p : Phase) (bytes : List ℕ) (place : ℕ) → silent_phase (lanes.turn_by p bytes place) ≡ lanes.Dead
silent_dies lanes.Fresh bytes place = silent_at lanes.Fresh place (front Target bytes)
silent_dies (lanes.In n) bytes place = silent_at (lanes.In n) place (front Target bytes)
silent_dies (lanes.Busy n j) bytes place = refl
silent_dies lanes.Dead bytes place = silent_at lanes.Dead place (front Target bytes)

module _ {M D : Type 0} {gm : media.Ghosts M} {gd : disks.Ghosts D} where
  -- a core that has what a lane has reached, and stands for all that was seen
  pub will_agree : (p : Phase) (who : ℕ) (c : Core M D gm gd) (ground : Option Ground) (seen : History) → Agrees p who c → ground ≡ Some (ground_in c) → Stands c seen → WillAgree gm gd p ground who seen
  will_agree lanes.Fresh who c ground seen agrees is stands d since same now others = tt
  will_agree lanes.Dead who c ground seen agrees is stands d since same now others = tt
  will_agree (lanes.In n) who c ground seen agrees is stands d since same now others =
      let stay = others_stay c d seen since who n (same_some _ _ (sym same ∙ is)) stands now others agrees.0 in
      (stay.0, stay.1 ∙ agrees.1)
  will_agree (lanes.Busy n j) who c ground seen agrees is stands d since same now others =
      let stay = others_stay c d seen since who n (same_some _ _ (sym same ∙ is)) stands now others agrees.owner in
      record { owner = stay.0; progress = agrees.progress; runs = stay.1 ∙ agrees.runs; way = agrees.way; come = agrees.come; few = agrees.few }

  pub later_ready : (who : ℕ) (ground : Option Ground) (seen : History) (l : Lane) (t : Turn) (n : Nexus) (a : Act) (s : Session) → Begins l t (want.Act n a) s → WillAgree gm gd l.phase ground who seen → WillBeReady gm gd s ground who seen
  later_ready who ground seen l t n a s begins will c since is stands others = ready_in who c l t n a s begins (will c since is stands others)

  -- the core stands for the entry that was made of an act
  pub stands_more : (a : Asked) (who : ℕ) (old new : Core M D gm gd) (work left : List ℕ) (out : Out) (seen : History) → Does a who old work out new left → Stands old seen → Stands new (seen ++ entry who (nexus_in a) (act_by a work) (outcome_by a out left) ∷ [])
  stands_more a who old new work left out seen does stands = extends_stands old new seen _ does.made (act_powered a work, tt) stands

  pub same_ground_after : (a : Asked) (who : ℕ) (old new : Core M D gm gd) (work left : List ℕ) (out : Out) → Does a who old work out new left → ground_in new ≡ ground_in old
  same_ground_after a who old new work left out does i = record { kept = does.made.opening i; blocks = does.made.blocks i }

  -- an act that was done in a turn and answered
  pub shares : (who : ℕ) (ground : Option Ground) (own own_now seen : History) (l : Lane) (t : Turn) (n : Nexus) (a : Act) (s1 s2 s3 : Session) (result : Out)
      → Begins l t (want.Act n a) s1 → ((what : Asked) → asked_in s1.state ≡ Some what → Publishes gm gd what who (work_of s1) result (work_of s2) ground own own_now seen) → s2.state ≡ s1.state → s2.deframer ≡ s1.deframer
      → HasTurned s3 (next_of s2 result) → Shares who own l t own_now (lane_of s3) (reply_of s3)
  shares who ground own own_now seen l Idle n a s1 s2 s3 result b did state stream turned = absurd (never_awaits l.phase _ n a b.0)
  shares who ground own own_now seen l (Silent next) n a s1 s2 s3 result b did state stream turned = absurd (never_dead n a b.0)
  shares who ground own own_now seen l (Asks m act next) n a s1 s2 s3 result b did state stream turned =
      let p : Publishes gm gd b.what who (work_of s1) result (work_of s2) ground own own_now seen = did b.what b.state in
      let out : entries.Out = outcome_by b.what result (work_of s2) in
      let then_is : next_of s2 result ≡ next out = next_is s1 s2 b.what result b.state state stream ∙ p.does.goes (held_of s1.deframer) (place_of s1.deframer) ∙ b.next out in
      record {
        entries = entry who m act out ∷ [];
        makes = (out, refl, turned.reply ∙ ap (λ (x : Turned). x.reply) then_is, turned.lane ∙ ap (λ (x : Turned). x.lane) then_is);
        published =
            subst (λ (x : Nexus). own_now ≡ own ++ entry who x act out ∷ []) b.nexus
            (subst (λ (x : entries.Act). own_now ≡ own ++ entry who (nexus_in b.what) x out ∷ []) b.act p.published);
      }

  -- a session that wants no act stays as it was, or has ended
  pub calm_agrees : (who : ℕ) (ground : Option Ground) (seen : History) (l : Lane) (t : Turn) (w : Want) (s : Session) → turn l ≡ t → Begins l t w s → ((n : Nexus) (a : Act) → w ≡ want.Act n a → ⊥) → WillAgree gm gd l.phase ground who seen → WillAgree gm gd (lane_of s).phase ground who seen
  calm_agrees who ground seen l Idle w s is b none will = subst (λ (m : Lane). WillAgree gm gd m.phase ground who seen) (sym b.1.lane) will
  calm_agrees who ground seen l (Silent next) w s is b none will =
      let dies : (lane_of s).phase ≡ lanes.Dead = ap (λ (m : Lane). m.phase) b.1.lane ∙ ap silent_phase (sym is) ∙ silent_dies l.phase l.bytes l.place in
      subst (λ (p : Phase). WillAgree gm gd p ground who seen) (sym dies) (λ c since same stands others. tt)
  calm_agrees who ground seen l (Asks n a next) w s is b none will = absurd (none _ _ b.want)

  -- what holds of each later core holds of the one in the turn
  pub holds_now : (ground ground_now : Option Ground) (who who_now : ℕ) (seen seen_now own own_now : History) (core given : Core M D gm gd) (Holds : Core M D gm gd → Type 0) → OnLater gm gd ground who seen Holds
      → IsPrefix seen seen_now → ground_now ≡ ground → who_now ≡ who → filter (λ (e : Entry). eqb e.who who) seen ≡ own → filter (λ (e : Entry). eqb e.who who_now) seen_now ≡ own_now → own_now ≡ own
      → ground_now ≡ Some (ground_in given) → Stands given seen_now → core ≡ given → Holds core
  holds_now ground ground_now who who_now seen seen_now own own_now core given Holds later begins same_ground same_who was now same is stands same_core =
      let since : History = begins.0 in
      let mine : filter (λ (e : Entry). eqb e.who who) (seen ++ since) ≡ filter (λ (e : Entry). eqb e.who who) seen =
      ap (filter (λ (e : Entry). eqb e.who who)) begins.1 ∙ ap (λ (w : ℕ). filter (λ (e : Entry). eqb e.who w) seen_now) (sym same_who) ∙ now ∙ same ∙ sym was in
      subst Holds (sym same_core) (later given since (sym same_ground ∙ is) (subst (Stands given) (sym begins.1) stands) (others_since who seen since mine))

  -- what was seen is right
  pub right_seen : (c : Core M D gm gd) (g : Ground) (ground : Option Ground) (seen : History) → ground ≡ Some g → ground ≡ Some (ground_in c) → Stands c seen → IsRightOn gm gd g seen
  right_seen c g ground seen is held stands = subst (λ (k : Ground). IsRightOn gm gd k seen) (sym (same_some g (ground_in c) (sym is ∙ held))) (stands_right c seen stands)

  -- the outcome is one that the act can have
  pub published_fits : (who : ℕ) (ground : Option Ground) (own own_now seen : History) (l : Lane) (t : Turn) (n : Nexus) (a : Act) (s1 s2 : Session) (result : Out)
      → Begins l t (want.Act n a) s1 → ((what : Asked) → asked_in s1.state ≡ Some what → Publishes gm gd what who (work_of s1) result (work_of s2) ground own own_now seen) → s2.state ≡ s1.state → (x : Asked) × (asked_in s2.state ≡ Some x) × Fits x result
  published_fits who ground own own_now seen l Idle n a s1 s2 result b did state = absurd (never_awaits l.phase _ n a b.0)
  published_fits who ground own own_now seen l (Silent next) n a s1 s2 result b did state = absurd (never_dead n a b.0)
  published_fits who ground own own_now seen l (Asks m act next) n a s1 s2 result b did state = (b.what, ap asked_in state ∙ b.state, (did b.what b.state).does.fits)

  -- each later core has what the lane has then reached
  pub agrees_later : (who : ℕ) (ground : Option Ground) (own own_now seen : History) (l : Lane) (t : Turn) (n : Nexus) (a : Act) (s1 s2 s3 : Session) (result : Out)
      → Begins l t (want.Act n a) s1 → ((what : Asked) → asked_in s1.state ≡ Some what → Publishes gm gd what who (work_of s1) result (work_of s2) ground own own_now seen) → s2.state ≡ s1.state → s2.deframer ≡ s1.deframer
      → HasTurned s3 (next_of s2 result) → WillAgree gm gd (lane_of s3).phase ground who seen
  agrees_later who ground own own_now seen l Idle n a s1 s2 s3 result b did state stream turned = absurd (never_awaits l.phase _ n a b.0)
  agrees_later who ground own own_now seen l (Silent next) n a s1 s2 s3 result b did state stream turned = absurd (never_dead n a b.0)
  agrees_later who ground own own_now seen l (Asks m act next) n a s1 s2 s3 result b did state stream turned =
      let p : Publishes gm gd b.what who (work_of s1) result (work_of s2) ground own own_now seen = did b.what b.state in
      let lane_is = turned.lane ∙ ap (λ (x : Turned). x.lane) (next_is s1 s2 b.what result b.state state stream) in
      will_agree (lane_of s3).phase who p.new ground seen (subst (λ (k : Lane). Agrees k.phase who p.new) (sym lane_is) (p.does.agrees (held_of s1.deframer) (place_of s1.deframer))) p.ground_is p.stands

  -- and of a task less is left
  pub goes_onward : (who : ℕ) (ground : Option Ground) (own own_now seen : History) (l : Lane) (t : Turn) (n : Nexus) (a : Act) (s1 s2 s3 : Session) (result : Out)
      → Begins l t (want.Act n a) s1 → ((what : Asked) → asked_in s1.state ≡ Some what → Publishes gm gd what who (work_of s1) result (work_of s2) ground own own_now seen) → s2.state ≡ s1.state → s2.deframer ≡ s1.deframer
      → HasTurned s3 (next_of s2 result) → LeavesLess l.phase (lane_of s3).phase
  goes_onward who ground own own_now seen l Idle n a s1 s2 s3 result b did state stream turned = absurd (never_awaits l.phase _ n a b.0)
  goes_onward who ground own own_now seen l (Silent next) n a s1 s2 s3 result b did state stream turned = absurd (never_dead n a b.0)
  goes_onward who ground own own_now seen l (Asks m act next) n a s1 s2 s3 result b did state stream turned =
      let p : Publishes gm gd b.what who (work_of s1) result (work_of s2) ground own own_now seen = did b.what b.state in
      let lane_is = turned.lane ∙ ap (λ (x : Turned). x.lane) (next_is s1 s2 b.what result b.state state stream) in
      subst (λ (k : Lane). LeavesLess l.phase k.phase) (sym lane_is) (leaves l.phase b.what (work_of s1) _ b.phase (p.does.onward (held_of s1.deframer) (place_of s1.deframer)))

pub asked_some : (o : Option Asked) → is_some o ≡ true → (a : Asked) × (o ≡ Some a)
asked_some None is = absurd (false≢true is)
asked_some (Some a) is = (a, refl)

same_asked : (a b : Asked) → Some a ≡ Some b → a ≡ b
same_asked a b e = cc

-- the entry of a step
step_made : (who : ℕ) (n : Nexus) (j : Job) (out : Out) (work now sent left : List ℕ) (len : ℕ) (made : Entry) → Fits (Step n j) out → sent ≡ drop j.start work → len ≡ carried_of j → left ≡ drop (block_place j) now
    → ((step : StepOut) → out ≡ outs.Step step → made ≡ entry who n (entries.Step (take len sent)) (step_out step (take BLOCK left))) → made ≡ entry who n (act_by (Step n j) work) (outcome_by (Step n j) out now)
step_made who n j (outs.Step step) work now sent left len made fits sent_is len_is left_is is =
    let carries : take len sent ≡ carried (job_of j work) = ap (λ (k : ℕ). take k sent) len_is ∙ ap (take (carried_of j)) sent_is ∙ carried_there j work in
    let block : take BLOCK left ≡ block_in j now = ap (take BLOCK) left_is ∙ block_behind (block_place j) now in
    is step refl ∙ ap (λ (b : List ℕ). entry who n (entries.Step b) (step_out step (take BLOCK left))) carries ∙ ap (λ (b : List ℕ). entry who n (entries.Step (carried (job_of j work))) (step_out step b)) block
step_made who n j (outs.Login code) work now sent left len made fits sent_is len_is left_is is = absurd fits
step_made who n j (outs.Command out) work now sent left len made fits sent_is len_is left_is is = absurd fits
step_made who n j outs.Logout work now sent left len made fits sent_is len_is left_is is = absurd fits

pub step_entry_is : (who : ℕ) (n : Nexus) (j : Job) (out : Out) (work now sent left : List ℕ) (len : ℕ) (made : Entry) (o : Option Asked) (a : Asked) → o ≡ Some (Step n j) → o ≡ Some a → (x : Asked) × (o ≡ Some x) × Fits x out → sent ≡ drop (sent_place a) work → len ≡ carried_of j → left ≡ drop (block_place j) now
    → ((step : StepOut) → out ≡ outs.Step step → made ≡ entry who n (entries.Step (take len sent)) (step_out step (take BLOCK left))) → made ≡ entry who (nexus_in a) (act_by a work) (outcome_by a out now)
step_entry_is who n j out work now sent left len made o a steps is answer sent_is len_is left_is made_is =
    let here : Step n j ≡ a = same_asked (Step n j) a (sym steps ∙ is) in
    let fits : Fits (Step n j) out = subst (λ (x : Asked). Fits x out) (same_asked answer.0 (Step n j) (sym answer.1 ∙ steps)) answer.2 in
    subst (λ (x : Asked). made ≡ entry who (nexus_in x) (act_by x work) (outcome_by x out now)) here
    (step_made who n j out work now sent left len made fits (sent_is ∙ ap (λ (x : Asked). drop (sent_place x) work) (sym here)) len_is left_is made_is)

-- which turn was begun, by what is wanted of a session that lives

pub idle_where : (l : Lane) (t : Turn) (k : ℕ) (s : Session) → Begins l t (want.Need k) s → t ≡ Idle
idle_where l Idle k s b = refl
idle_where l (Silent next) k s b = let e : want.Need k ≡ want.Dead = b.0 in absurd cc
idle_where l (Asks n a next) k s b = let e = b.want in absurd cc

-- and it stays as it was
pub idle_stays : (l : Lane) (t : Turn) (k : ℕ) (s : Session) → Begins l t (want.Need k) s → lane_of s ≡ l
idle_stays l Idle k s b = b.1.lane
idle_stays l (Silent next) k s b = let e : want.Need k ≡ want.Dead = b.0 in absurd cc
idle_stays l (Asks n a next) k s b = let e = b.want in absurd cc

dead_awaits : (p : Phase) (f : Front) → (p ≡ lanes.Dead → ⊥) → AwaitsAt p f want.Dead → ⊥
dead_awaits lanes.Dead f lives is = lives refl
dead_awaits lanes.Fresh (Lacking k) lives is = absurd cc
dead_awaits lanes.Fresh (Broken r) lives is = is
dead_awaits lanes.Fresh (Whole f rest) lives is = is
dead_awaits (lanes.In n) (Lacking k) lives is = absurd cc
dead_awaits (lanes.In n) (Broken r) lives is = is
dead_awaits (lanes.In n) (Whole f rest) lives is = is
dead_awaits (lanes.Busy n j) (Lacking k) lives is = absurd cc
dead_awaits (lanes.Busy n j) (Broken r) lives is = is
dead_awaits (lanes.Busy n j) (Whole f rest) lives is = is

pub made_silent : (l : Lane) (t : Turn) (s : Session) → (l.phase ≡ lanes.Dead → ⊥) → Begins l t want.Dead s → IsMade t
made_silent l Idle s lives b = absurd (dead_awaits l.phase (front Target l.bytes) lives b.0)
made_silent l (Silent next) s lives b = tt
made_silent l (Asks n a next) s lives b = tt

pub made_act : (l : Lane) (t : Turn) (n : Nexus) (a : Act) (s : Session) → Begins l t (want.Act n a) s → IsMade t
made_act l Idle n a s b = absurd (never_awaits l.phase _ n a b.0)
made_act l (Silent next) n a s b = tt
made_act l (Asks m act next) n a s b = tt

-- how a session that ended did so

pub ends_silent : (l : Lane) (t : Turn) (s : Session) → (l.phase ≡ lanes.Dead → ⊥) → Begins l t want.Dead s → EndsTurn (rejection_of s) t
ends_silent l Idle s lives b = absurd (dead_awaits l.phase (front Target l.bytes) lives b.0)
ends_silent l (Silent next) s lives b = by (rejection_of s) b.2
  where
    by : (r : Option Rejection) → IsRejection r next → EndsTurn r (Silent next)
    by None is = absurd is
    by (Some r) is = is
ends_silent l (Asks n a next) s lives b = let e = b.want in absurd cc

rejection_is : (st : State) (what : Asked) → asked_in st ≡ Some what → rejection_in st ≡ rejection_by what
rejection_is states.Fresh what is = absurd cc
rejection_is (states.In n) what is = absurd cc
rejection_is (states.Dead r) what is = absurd cc
rejection_is (states.Busy n j) what is = ap rejection_by (same_asked (Step n j) what is)
rejection_is (states.Asking a) what is = ap rejection_by (same_asked a what is)

login_lives : (n : Nexus) (b : Bool) → (cond b (lanes.In n) lanes.Fresh) ≡ lanes.Dead → ⊥
login_lives n true is = absurd cc
login_lives n false is = absurd cc

-- of a turn that ends a session, by what was asked for
ends_by : (what : Asked) (out : Out) (work left held : List ℕ) (place : ℕ) (m : Nexus) (act : entries.Act) (next : entries.Out → Turned) → Fits what out → act_by what work ≡ act → ((o : entries.Out) → next_by what work held place o ≡ next o)
    → (next_by what left held place (outcome_by what out left)).lane.phase ≡ lanes.Dead → EndsTurn (rejection_by what) (Asks m act next)
ends_by (Login head n version) (outs.Login code) work left held place m act next fits is follows dead = absurd (login_lives n (eqb code 0) dead)
ends_by (Login head n version) (outs.Command out) work left held place m act next fits is follows dead = absurd fits
ends_by (Login head n version) (outs.Step out) work left held place m act next fits is follows dead = absurd fits
ends_by (Login head n version) outs.Logout work left held place m act next fits is follows dead = absurd fits
ends_by (Command head n cdb sent) (outs.Command (answers.Ended s sense len)) work left held place m act next fits is follows dead = absurd cc
ends_by (Command head n cdb sent) (outs.Command (answers.Started way count)) work left held place m act next fits is follows dead = absurd cc
ends_by (Command head n cdb sent) (outs.Login code) work left held place m act next fits is follows dead = absurd fits
ends_by (Command head n cdb sent) (outs.Step out) work left held place m act next fits is follows dead = absurd fits
ends_by (Command head n cdb sent) outs.Logout work left held place m act next fits is follows dead = absurd fits
ends_by (Step n j) (outs.Step (steps.Wrote lba)) work left held place m act next fits is follows dead = absurd cc
ends_by (Step n j) (outs.Step (steps.Read lba)) work left held place m act next fits is follows dead = absurd cc
ends_by (Step n j) (outs.Step (steps.Fault code)) work left held place m act next fits is follows dead = absurd cc
ends_by (Step n j) (outs.Step steps.Done) work left held place m act next fits is follows dead = absurd cc
ends_by (Step n j) (outs.Step steps.Aborted) work left held place m act next fits is follows dead = absurd cc
ends_by (Step n j) (outs.Login code) work left held place m act next fits is follows dead = absurd fits
ends_by (Step n j) (outs.Command out) work left held place m act next fits is follows dead = absurd fits
ends_by (Step n j) outs.Logout work left held place m act next fits is follows dead = absurd fits
ends_by (Logout head n) out work left held place m act next fits is follows dead = (sym is, (frame_of head [], λ o. sym (follows o)))
ends_by (Reject n r) out work left held place m act next fits is follows dead = (sym is, λ o. sym (follows o))

module _ {M D : Type 0} {gm : media.Ghosts M} {gd : disks.Ghosts D} where
  pub ends_act : (who : ℕ) (ground : Option Ground) (own own_now seen : History) (l : Lane) (t : Turn) (n : Nexus) (a : Act) (s1 s2 s3 : Session) (result : Out)
      → Begins l t (want.Act n a) s1 → ((what : Asked) → asked_in s1.state ≡ Some what → Publishes gm gd what who (work_of s1) result (work_of s2) ground own own_now seen) → s2.state ≡ s1.state → s2.deframer ≡ s1.deframer
      → HasTurned s3 (next_of s2 result) → rejection_of s3 ≡ rejection_in s2.state → (lane_of s3).phase ≡ lanes.Dead → EndsTurn (rejection_of s3) t
  ends_act who ground own own_now seen l Idle n a s1 s2 s3 result b did state stream turned rejection dead = absurd (never_awaits l.phase _ n a b.0)
  ends_act who ground own own_now seen l (Silent next) n a s1 s2 s3 result b did state stream turned rejection dead = absurd (never_dead n a b.0)
  ends_act who ground own own_now seen l (Asks m act next) n a s1 s2 s3 result b did state stream turned rejection dead =
      let p : Publishes gm gd b.what who (work_of s1) result (work_of s2) ground own own_now seen = did b.what b.state in
      let lane_is = turned.lane ∙ ap (λ (x : Turned). x.lane) (next_is s1 s2 b.what result b.state state stream) in
      subst (λ (r : Option Rejection). EndsTurn r (Asks m act next)) (sym (rejection ∙ ap rejection_in state ∙ rejection_is s1.state b.what b.state))
      (ends_by b.what result (work_of s1) (work_of s2) (held_of s1.deframer) (place_of s1.deframer) m act next p.does.fits b.act b.next (ap (λ (k : Lane). k.phase) (sym lane_is) ∙ dead))
