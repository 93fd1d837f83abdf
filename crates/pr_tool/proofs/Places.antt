-- Lanes in their places.
use Rattle.std.proofs.Common.{◌≡◌, ℕ, zero, suc, ◌+◌, ◌<◌, ◌≤◌, List, [], ◌∷◌, ◌++◌, length, Some, refl, sym, ap, ◌∙◌, subst, arith, inl, inr}
use Rattle.std.specs.Prelude.{slice_get, slice_set, slice_index_or, option_map, replicate}
use Rattle.std.proofs.lemmas.Option.{slice_get_within, slice_get-map, slice_get-get_or, get_or_from_slice_get}
use Rattle.std.proofs.lemmas.List.{map-set, map-append, length-map, length-replicate, get_or-replicate, replicate-append-replicate}
use Rattle.std.proofs.lemmas.Bool.{cases_eq}
use Rattle.pr_io.specs.Told.{ToldSink}
use Rattle.pr_grammar.specs.Schedules.{Record, Arrival, Step_of, Close_of, Power_loss, IsRecord, lane_of}
use Rattle.pr_model.specs.Lanes.{Lane, Phase, Fresh, In, Busy, Dead, fresh}
use Rattle.pr_model.specs.Runs.{Deed, ActsOn}
use Rattle.pr_io.specs.declared.outside.Medium as media
use Rattle.pr_io.specs.declared.outside.Disk as disks
use Rattle.pr_core.specs.declared.target.Core.{Core}
use Rattle.pr_core.specs.View.{KeepsOthers}
use Rattle.pr_tool.specs.declared.lane.Lane as session
use Rattle.pr_tool.specs.Lanes.{lanes_of}
use Rattle.pr_tool.specs.Lanes as sess
use Rattle.pr_session.specs.Driving.{Agrees, AllAgree}
use Rattle.pr_tool.specs.Exits.{Ran}

get_set_same : {X : Type 0} (xs : List X) (i : ℕ) (y : X) → i < length xs → slice_get (slice_set xs i y) i ≡ Some y
get_set_same [] i y within = absurd (omega (arith, within))
get_set_same (x ∷ xs) zero y within = refl
get_set_same (x ∷ xs) (suc i) y within = get_set_same xs i y (omega (arith, within))

get_set_other : {X : Type 0} (xs : List X) (i j : ℕ) (y : X) → (j ≡ i → ⊥) → slice_get (slice_set xs i y) j ≡ slice_get xs j
get_set_other [] i j y other = refl
get_set_other (x ∷ xs) zero zero y other = absurd (other refl)
get_set_other (x ∷ xs) zero (suc j) y other = refl
get_set_other (x ∷ xs) (suc i) zero y other = refl
get_set_other (x ∷ xs) (suc i) (suc j) y other = get_set_other xs i j y (λ e. other (ap suc e))

some_is : {X : Type 0} (x y : X) → Some x ≡ Some y → x ≡ y
some_is x y is = cc

keeps_agrees : {M D : Type 0} {gm : media.Ghosts M} {gd : disks.Ghosts D} (who other : ℕ) (old new : Core M D gm gd) (p : Phase) → KeepsOthers who old new → (other ≡ who → ⊥) → Agrees p other old → Agrees p other new
keeps_agrees who other old new Fresh keeps apart agrees = tt
keeps_agrees who other old new (In n) keeps apart agrees = let kept = keeps other n apart agrees.0 in (kept.0, kept.1 ∙ agrees.1)
keeps_agrees who other old new (Busy n j) keeps apart agrees =
    let kept = keeps other n apart agrees.owner in
    record { owner = kept.0; progress = agrees.progress; runs = kept.1 ∙ agrees.runs; way = agrees.way; come = agrees.come; few = agrees.few }
keeps_agrees who other old new Dead keeps apart agrees = tt

-- a core that kept what the other nexuses have twice kept it
pub keeps_more : {M D : Type 0} {gm : media.Ghosts M} {gd : disks.Ghosts D} (who : ℕ) (a b c : Core M D gm gd) → KeepsOthers who a b → KeepsOthers who b c → KeepsOthers who a c
keeps_more who a b c first second other n apart is =
    let one = first other n apart is in
    let two = second other n apart one.0 in (two.0, two.1 ∙ one.1)

-- where one lane moved with the core, all agree as before
pub all_agree : {M D : Type 0} {gm : media.Ghosts M} {gd : disks.Ghosts D} (lanes : List Lane) (i : ℕ) (m : Lane) (old new : Core M D gm gd) → i < length lanes → AllAgree lanes old → KeepsOthers i old new → Agrees m.phase i new → AllAgree (slice_set lanes i m) new
all_agree lanes i m old new within agree keeps agrees place l is =
    elim (cases_eq place i) [
      | inl same ↦ (
          let this : m ≡ l = some_is m l (sym (get_set_same lanes i m within) ∙ ap (slice_get (slice_set lanes i m)) (sym same) ∙ is) in
          subst (λ (x : Lane). Agrees x.phase place new) this (subst (λ (k : ℕ). Agrees m.phase k new) (sym same) agrees)
          )
      | inr other ↦ keeps_agrees i place old new l.phase keeps other (agree place l (sym (get_set_other lanes i place m other) ∙ is))
    ]

-- what a lane did, it did among all
pub ran_on : {M D : Type 0} {gm : media.Ghosts M} {gd : disks.Ghosts D} (Acts : Record → Lane → Deed → Lane → Type 0) (r : Record) (lanes : List Lane) (l m : Lane) (old new : Core M D gm gd) (a b : ToldSink)
    → slice_get lanes (lane_of r) ≡ Some l → Ran (Acts r) a b old l new m → Ran (ActsOn Acts r) a b old lanes new (slice_set lanes (lane_of r) m)
ran_on Acts r lanes l m old new a b is ran =
    record { entries = ran.entries; output = ran.output; acts = (l, m, is, ran.acts, refl); extends = ran.extends; puts = ran.puts }

-- the same of sessions

pub below : (lanes : ℕ) (r : Record) → IsRecord lanes r → lane_of r < lanes
below lanes (Arrival lane bytes) valid = valid.0
below lanes (Step_of lane) valid = valid
below lanes (Close_of lane) valid = valid
below lanes Power_loss valid = valid

pub session_at : (sessions : List session.Lane) (i : ℕ) (d : session.Lane) → i < length sessions → slice_get (lanes_of sessions) i ≡ Some (sess.lane_of (slice_index_or sessions i d))
session_at sessions i d within = slice_get-map sess.lane_of sessions i ∙ ap (option_map sess.lane_of) (slice_get-get_or sessions i d within)

pub session_ran : {M D : Type 0} {gm : media.Ghosts M} {gd : disks.Ghosts D} (Acts : Record → Lane → Deed → Lane → Type 0) (r : Record) (sessions : List session.Lane) (i : ℕ) (d t : session.Lane) (old new : Core M D gm gd) (a b : ToldSink)
    → i ≡ lane_of r → i < length sessions → Ran (Acts r) a b old (sess.lane_of (slice_index_or sessions i d)) new (sess.lane_of t)
    → Ran (ActsOn Acts r) a b old (lanes_of sessions) new (lanes_of (slice_set sessions i t))
session_ran Acts r sessions i d t old new a b at within ran =
    let lanes : List Lane = lanes_of sessions in
    let found : slice_get lanes (lane_of r) ≡ Some (sess.lane_of (slice_index_or sessions i d)) = ap (slice_get lanes) (sym at) ∙ session_at sessions i d within in
    let same : lanes_of (slice_set sessions i t) ≡ slice_set lanes (lane_of r) (sess.lane_of t) = map-set sess.lane_of sessions i t ∙ ap (λ (k : ℕ). slice_set lanes k (sess.lane_of t)) at in
    subst (λ (last : List Lane). Ran (ActsOn Acts r) a b old lanes new last) (sym same) (ran_on Acts r lanes (sess.lane_of (slice_index_or sessions i d)) (sess.lane_of t) old new a b found ran)

pub session_cut : {M D : Type 0} {gm : media.Ghosts M} {gd : disks.Ghosts D} (Acts : Record → Lane → Deed → Lane → Type 0) (r : Record) (sessions : List session.Lane) (i : ℕ) (d : session.Lane) (old new : Core M D gm gd) (a b : ToldSink)
    → i ≡ lane_of r → i < length sessions → ((m : Lane) × Ran (Acts r) a b old (sess.lane_of (slice_index_or sessions i d)) new m)
    → (last : List Lane) × Ran (ActsOn Acts r) a b old (lanes_of sessions) new last
session_cut Acts r sessions i d old new a b at within cut =
    let lanes : List Lane = lanes_of sessions in
    let found : slice_get lanes (lane_of r) ≡ Some (sess.lane_of (slice_index_or sessions i d)) = ap (slice_get lanes) (sym at) ∙ session_at sessions i d within in
    (slice_set lanes (lane_of r) cut.0, ran_on Acts r lanes (sess.lane_of (slice_index_or sessions i d)) cut.0 old new a b found cut.1)

pub session_agrees : {M D : Type 0} {gm : media.Ghosts M} {gd : disks.Ghosts D} (sessions : List session.Lane) (i : ℕ) (d : session.Lane) (c : Core M D gm gd) → i < length sessions → AllAgree (lanes_of sessions) c → Agrees (sess.lane_of (slice_index_or sessions i d)).phase i c
session_agrees sessions i d c within agree = agree i (sess.lane_of (slice_index_or sessions i d)) (session_at sessions i d within)

pub sessions_agree : {M D : Type 0} {gm : media.Ghosts M} {gd : disks.Ghosts D} (sessions : List session.Lane) (i : ℕ) (t : session.Lane) (old new : Core M D gm gd) → i < length sessions
    → AllAgree (lanes_of sessions) old → KeepsOthers i old new → Agrees (sess.lane_of t).phase i new → AllAgree (lanes_of (slice_set sessions i t)) new
sessions_agree sessions i t old new within agree keeps agrees =
    subst (λ (lanes : List Lane). AllAgree lanes new) (sym (map-set sess.lane_of sessions i t))
    (all_agree (lanes_of sessions) i (sess.lane_of t) old new (omega (arith, length-map sessions sess.lane_of, within)) agree keeps agrees)

-- new connections

get_replicate : {X : Type 0} (n i : ℕ) (x y : X) → slice_get (replicate n x) i ≡ Some y → y ≡ x
get_replicate n i x y is =
    let within : i < n = omega (arith, slice_get_within (replicate n x) i y is, length-replicate n x) in
    sym (get_or_from_slice_get (replicate n x) i y x is) ∙ get_or-replicate n i x x within

pub fresh_agree : {M D : Type 0} {gm : media.Ghosts M} {gd : disks.Ghosts D} (n : ℕ) (lanes : List Lane) (c : Core M D gm gd) → lanes ≡ replicate n fresh → AllAgree lanes c
fresh_agree n lanes c is place l found =
    let this : l ≡ fresh = get_replicate n place fresh l (ap (λ (w : List Lane). slice_get w place) (sym is) ∙ found) in
    subst (λ (x : Lane). Agrees x.phase place c) (sym this) tt

pub fresh_more : (sessions : List session.Lane) (n : ℕ) (s : session.Lane) → lanes_of sessions ≡ replicate n fresh → sess.lane_of s ≡ fresh → lanes_of (sessions ++ s ∷ []) ≡ replicate (n + 1) fresh
fresh_more sessions n s all is =
    map-append sess.lane_of sessions (s ∷ []) ∙ ap (λ (w : List Lane). w ++ sess.lane_of s ∷ []) all ∙ ap (λ (l : Lane). replicate n fresh ++ l ∷ []) is ∙ replicate-append-replicate n 1 fresh

-- the lanes of the first connections, as many as this, are new ones
abbrev pub renewed_below : ℕ → List Lane → List Lane
renewed_below zero lanes = lanes
renewed_below (suc k) [] = []
renewed_below (suc k) (l ∷ lanes) = fresh ∷ renewed_below k lanes

one_more : (lanes : List Lane) (k : ℕ) → k < length lanes → slice_set (renewed_below k lanes) k fresh ≡ renewed_below (suc k) lanes
one_more [] k lt = absurd (omega (arith, lt))
one_more (l ∷ lanes) zero lt = refl
one_more (l ∷ lanes) (suc k) lt = ap (λ (ls : List Lane). fresh ∷ ls) (one_more lanes k (omega (arith, lt)))

as_long : (lanes : List Lane) (k : ℕ) → length (renewed_below k lanes) ≡ length lanes
as_long lanes zero = refl
as_long [] (suc k) = refl
as_long (l ∷ lanes) (suc k) = ap suc (as_long lanes k)

all_renewed : (lanes : List Lane) (k : ℕ) → length lanes ≤ k → renewed_below k lanes ≡ replicate (length lanes) fresh
all_renewed [] zero le = refl
all_renewed [] (suc k) le = refl
all_renewed (l ∷ lanes) zero le = absurd (omega (arith, le))
all_renewed (l ∷ lanes) (suc k) le = ap (λ (ls : List Lane). fresh ∷ ls) (all_renewed lanes k (omega (arith, le)))

pub renewed_long : (old now : List session.Lane) (k : ℕ) → lanes_of now ≡ renewed_below k (lanes_of old) → length now ≡ length old
renewed_long old now k is = sym (length-map now sess.lane_of) ∙ ap length is ∙ as_long (lanes_of old) k ∙ length-map old sess.lane_of

pub renewed_step : (old now : List session.Lane) (k : ℕ) (t : session.Lane) → lanes_of now ≡ renewed_below k (lanes_of old) → k < length old → sess.lane_of t ≡ fresh → lanes_of (slice_set now k t) ≡ renewed_below (k + 1) (lanes_of old)
renewed_step old now k t is lt new =
    let next : suc k ≡ k + 1 = omega arith in
    let within : k < length (lanes_of old) = omega (arith, lt, length-map old sess.lane_of) in
    map-set sess.lane_of now k t ∙ ap (λ (l : Lane). slice_set (lanes_of now) k l) new ∙ ap (λ (ls : List Lane). slice_set ls k fresh) is ∙ one_more (lanes_of old) k within ∙ ap (λ (m : ℕ). renewed_below m (lanes_of old)) next

pub renewed_all : (old : List session.Lane) (k : ℕ) → length old ≤ k → renewed_below k (lanes_of old) ≡ replicate (length old) fresh
renewed_all old k past =
    let long : length (lanes_of old) ≤ k = omega (arith, past, length-map old sess.lane_of) in
    all_renewed (lanes_of old) k long ∙ ap (λ (n : ℕ). replicate n fresh) (length-map old sess.lane_of)

pub as_many : (sessions : List session.Lane) → length (lanes_of sessions) ≡ length sessions
as_many sessions = length-map sessions sess.lane_of
