-- A run of off on devices that serve the agent doesn't stop, unless a count rose.
use Rattle.std.proofs.Common.{◌≡◌, ◌+◌, ◌≤◌, ◌==◌, ℕ, zero, suc, Bool, true, false, List, [], ◌∷◌, ◌++◌, map, Some, refl, sym, ap, ◌∙◌, subst, append-nil, arith}
use Rattle.std.specs.Prelude.{slice_get, if◌then◌else◌}
use Rattle.std.specs.List.{AllByRecursion, filter}
use Rattle.std.specs.String.{string_bytes}
use Rattle.std.specs.declared.string.String.{String}
use Rattle.pr_words.specs.declared.nexus.Key.{Key}
use Rattle.pr_words.specs.declared.nexus.Nexus.{Nexus}
use Rattle.pr_model.specs.Entries.{History}
use Rattle.pr_model.specs.Histories.{IsLegalFrom, after, failures_in, moved}
use Rattle.pr_model.specs.Lanes.{Lane}
use Rattle.pr_model.specs.Runs.{closing}
use Rattle.pr_model.specs.Saving.{tells_failure}
use Rattle.pr_model.specs.Worlds.{World}
use Rattle.pr_model.proofs.HistoryLaws.{after-append}
use Rattle.pr_io.specs.Causes.{Rose, next_fault}
use Rattle.pr_io.specs.declared.recorded.Recorded.{Recorded}
use Rattle.pr_io.specs.Devices.{AllCome, DeviceComes}
use Rattle.pr_io.specs.Lines.{Exchange, Line}
use Rattle.pr_io.specs.Recordings.{AreNamed, addresses_of, exchange_of, told_of}
use Rattle.pr_io.specs.Talks.{Connection}
use Rattle.pr_core.specs.Counting.{faults_after}
use Rattle.pr_session.specs.Peers.{AskedInTurn, peer_number}
use Rattle.pr_rig.proofs.Conversing.{Rests}
use Rattle.pr_rig.proofs.Owning.{AreKeys}
use Rattle.pr_rig.proofs.Stopping.{Calmly, RestsBehind, resting}
use Rattle.pr_rig.proofs.Turning.{AllFollow}

-- Faults

-- a disk that failed shows it
rises : (k count : ℕ) → next_fault count ≤ faults_after k (next_fault count)
rises zero count = omega arith
rises (suc k) count = let more = rises k (next_fault count) in omega (arith, more)

pub none_failed : (k count now : ℕ) → now ≡ faults_after k count → (Rose count now → ⊥) → k ≡ 0
none_failed zero count now is calm = refl
none_failed (suc k) count now is calm = absurd (calm (subst (λ (x : ℕ). next_fault count ≤ x) (sym is) (rises k count)))

abbrev pub AllCalm : World → History → Type 0
AllCalm w [] = Unit {0}
AllCalm w (e ∷ h) = Calmly w e × AllCalm (moved w e) h

-- legal entries without a save that failed
pub calm_entries : (w : World) (h : History) → IsLegalFrom w h → failures_in h ≡ 0 → AllCalm w h
calm_entries w [] legal none = tt
calm_entries w (e ∷ h) legal none = (
  (legal.0, by (tells_failure e.out) refl none),
  calm_entries (moved w e) h legal.1 (omega (arith, none)),
)
  where
    by : (b : Bool) → tells_failure e.out ≡ b → (if b then 1 else 0) + failures_in h ≡ 0 → tells_failure e.out ≡ false
    by true is no_fault = absurd (omega (arith, no_fault))
    by false is no_fault = is

pub calm_first : (w : World) (xs ys : History) → AllCalm w (xs ++ ys) → AllCalm w xs
calm_first w [] ys calm = tt
calm_first w (e ∷ xs) ys calm = (calm.0, calm_first (moved w e) xs ys calm.1)

pub calm_behind : (w : World) (xs ys : History) → AllCalm w (xs ++ ys) → AllCalm (after w xs) ys
calm_behind w [] ys calm = calm
calm_behind w (e ∷ xs) ys calm = calm_behind (moved w e) xs ys calm.1

module _ (own victim : Key) (n : Nexus) (k : AreKeys own victim n) where
  follow_calm : (w : World) (h : History) → AllCalm w h → AllFollow (resting own victim n k).claim w h
  follow_calm w [] calm = tt
  follow_calm w (e ∷ h) calm = (calm.0, follow_calm (moved w e) h calm.1)

  -- a connection that was whole, as a device has heard and said it
  abbrev pub IsWhole : Exchange → Type 0
  IsWhole x = RestsBehind own victim n k (record { address = []; sent = x.heard; received = x.said; ended = x.quiet })

  -- behind connections that were whole the device serves the agent again
  pub rests_after : (xs : List Exchange) (w : World) (h : History) → AllByRecursion IsWhole xs → AskedInTurn xs h → Rests own victim n k w → AllCalm w h → Rests own victim n k (after w h)
  rests_after [] w h whole asked rests calm = subst (λ (x : History). Rests own victim n k (after w x)) (sym asked) rests
  rests_after (x ∷ xs) w h whole (first, rest, lost, cut, quiet, others, all) rests calm =
      let right : AllCalm w (first ++ rest) = subst (AllCalm w) all calm in
      let part : AllCalm w (cut.asked ++ closing peer_number cut.last.phase) = subst (AllCalm w) cut.ends (calm_first w first rest right) in
      let both = whole.0 w lost rests cut.asks.turns cut.asked cut.last cut.asks.taken (follow_calm w cut.asked (calm_first w cut.asked (closing peer_number cut.last.phase) part)) in
      let none : first ≡ cut.asked = cut.ends ∙ ap (λ (l : Lane). cut.asked ++ closing peer_number l.phase) both.1 ∙ append-nil cut.asked in
      let here : Rests own victim n k (after w first) = subst (λ (x : History). Rests own victim n k (after w x)) (sym none) both.0 in
      subst (λ (x : History). Rests own victim n k (after w x)) (sym all)
      (subst (Rests own victim n k) (sym (after-append w first rest)) (rests_after xs (after w first) rest whole.1 others here (calm_behind w first rest right)))

-- Lists

pub cancel : {A : Type 0} (xs ys zs : List A) → xs ++ ys ≡ xs ++ zs → ys ≡ zs
cancel [] ys zs is = is
cancel (x ∷ xs) ys zs is = cancel xs ys zs (cc)

-- a property of what is told of connections, for those to one device
pub each_exchange : (Q : Exchange → Type 0) (i : ℕ) (rs : List Recorded) → AllByRecursion (λ (r : Recorded). Q (exchange_of r)) rs → AllByRecursion Q (map exchange_of (filter (λ (r : Recorded). r.device == i) rs))
each_exchange Q i [] all = tt
each_exchange Q i (r ∷ rs) all = by (r.device == i) (each_exchange Q i rs all.1)
  where
    by : (b : Bool) → AllByRecursion Q (map exchange_of (filter (λ (x : Recorded). x.device == i) rs))
        → AllByRecursion Q (map exchange_of (if b then r ∷ filter (λ (x : Recorded). x.device == i) rs else filter (λ (x : Recorded). x.device == i) rs))
    by true rest = (all.0, rest)
    by false rest = rest

-- connections that are told alike lead to the same devices, where these have addresses of their own
module _ (addresses : List (List ℕ)) (apart : (i j : ℕ) (a : List ℕ) → slice_get addresses i ≡ Some a → slice_get addresses j ≡ Some a → i ≡ j) where
  pub aligned : (i : ℕ) (rs ss : List Recorded) → map told_of rs ≡ map told_of ss → AreNamed addresses rs → AreNamed addresses ss
      → map exchange_of (filter (λ (r : Recorded). r.device == i) rs) ≡ map exchange_of (filter (λ (r : Recorded). r.device == i) ss)
  aligned i [] [] same one two = refl
  aligned i [] (s ∷ ss) same one two = absurd cc
  aligned i (r ∷ rs) [] same one two = absurd cc
  aligned i (r ∷ rs) (s ∷ ss) same one two = by (r.device == i) (s.device == i) (ap (λ (d : ℕ). d == i) device) (aligned i rs ss (cc) (cc) (cc))
    where
      told : told_of r ≡ told_of s
      told = cc

      first : slice_get addresses r.device ≡ Some (string_bytes r.address)
      first = cc

      second : slice_get addresses s.device ≡ Some (string_bytes s.address)
      second = cc

      device : r.device ≡ s.device
      device = apart r.device s.device (string_bytes s.address) (first ∙ ap (λ (c : Connection). Some c.address) told) second

      exchange : exchange_of r ≡ exchange_of s
      exchange = ap (λ (c : Connection). record { heard = c.sent; said = c.received; quiet = c.ended }) told

      by : (b c : Bool) → b ≡ c → map exchange_of (filter (λ (x : Recorded). x.device == i) rs) ≡ map exchange_of (filter (λ (x : Recorded). x.device == i) ss)
          → map exchange_of (if b then r ∷ filter (λ (x : Recorded). x.device == i) rs else filter (λ (x : Recorded). x.device == i) rs) ≡ map exchange_of (if c then s ∷ filter (λ (x : Recorded). x.device == i) ss else filter (λ (x : Recorded). x.device == i) ss)
      by true true is rest = ap (λ (x : Exchange). x ∷ map exchange_of (filter (λ (y : Recorded). y.device == i) rs)) exchange ∙ ap (λ (l : List Exchange). exchange_of s ∷ l) rest
      by false false is rest = rest
      by true false is rest = absurd cc
      by false true is rest = absurd cc

-- the device of a place before a run, of the one there now
pub record Came {X : Type 0} (comes : X → Line → X → Line → Type 0) (ds : List X) (i : ℕ) (lines new : ℕ → Line) (e : X) : Type 0 where
  pub device : X
  pub there : slice_get ds i ≡ Some device
  pub came : comes device (lines i) e (new i)

pub came_at : {X : Type 0} (comes : X → Line → X → Line → Type 0) (ds es : List X) (lines new : ℕ → Line) (i : ℕ) (e : X) → slice_get es i ≡ Some e → AllCome comes ds lines es new → Came comes ds i lines new e
came_at comes [] [] lines new i e is all = absurd cc
came_at comes [] (x ∷ es) lines new i e is all = absurd all
came_at comes (d ∷ ds) [] lines new i e is all = absurd all
came_at comes (d ∷ ds) (x ∷ es) lines new zero e is all = let same : x ≡ e = cc in record { device = d; there = refl; came = subst (λ y. comes d (lines 0) y (new 0)) same all.0 }
came_at comes (d ∷ ds) (x ∷ es) lines new (suc i) e is all =
    let rest = came_at comes ds es (λ j. lines (suc j)) (λ j. new (suc j)) i e is all.1 in
    record { device = rest.device; there = rest.there; came = rest.came }

pub all_at : {X : Type 0} (Q : X → Type 0) (ds : List X) (i : ℕ) (d : X) → slice_get ds i ≡ Some d → AllByRecursion Q ds → Q d
all_at Q [] i d is all = absurd cc
all_at Q (x ∷ ds) zero d is all = let same : x ≡ d = cc in subst Q same all.0
all_at Q (x ∷ ds) (suc i) d is all = all_at Q ds i d is all.1

pub same_addresses : {Z P : Type 0} (comes : P → Line → P → Line → Type 0) (ds es : List (String Z × P)) (lines new : ℕ → Line) → AllCome (DeviceComes comes) ds lines es new → addresses_of es ≡ addresses_of ds
same_addresses comes [] [] lines new all = refl
same_addresses comes [] (x ∷ es) lines new all = absurd all
same_addresses comes (d ∷ ds) [] lines new all = absurd all
same_addresses comes (d ∷ ds) (x ∷ es) lines new all =
    ap (λ (s : String _). string_bytes s ∷ addresses_of es) all.0.0 ∙ ap (λ (l : List (List ℕ)). string_bytes d.0 ∷ l) (same_addresses comes ds es (λ j. lines (suc j)) (λ j. new (suc j)) all.1)
