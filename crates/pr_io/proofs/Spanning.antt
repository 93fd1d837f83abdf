-- What a write leaves, and then a sync.
use Rattle.std.proofs.Common.{◌≡◌, ◌⊎◌, inl, inr, ⊎_elim, ℕ, ◌≤◌, List, length, Option, Some, None, Result, Ok, Err, OnOk, IsErr, refl, sym, ◌∙◌, subst, arith}
use Rattle.std.proofs.lemmas.Result.{MatchResult-at_ok, MatchResult-from_err}
use Rattle.pr_io.specs.Images.{Image, Story, Within, Written, Wrote, Moves, Writes, Syncs}
use Rattle.pr_io.specs.Spans.{Goes, Admits, Torn, Has, Settles}

-- the law of a disk that an image since a moment is one since each before it
abbrev pub Since : Story → Type 0
Since s = (t u : ℕ) (c : Image) → t ≤ u → s.may u c → s.may t c

-- what is told now came from what was told
pub from_told : (step : Image → Image → Type 0) (old new : Option Image) (c : Image) → Moves step old new → new ≡ Some c → (d : Image) × (old ≡ Some d) × step d c
from_told step None None c moves is = cc
from_told step None (Some n) c moves is = cc
from_told step (Some d) None c moves is = absurd moves
from_told step (Some d) (Some n) c moves is = let same : n ≡ c = cc in (d, refl, subst (λ (x : Image). step d x) same moves)

pub wrote_within : {T E : Type 0} (r : Result T E) (at : ℕ) (bytes : List ℕ) (d c : Image) → Wrote r at bytes d c → Within at (length bytes) d c
wrote_within (Ok x) at bytes d c wrote = wrote.1
wrote_within (Err e) at bytes d c wrote = wrote

module _ (s0 s1 : Story) (at : ℕ) (bytes : List ℕ) where
  -- the images since the start
  pub torn_each : {T E : Type 0} (r : Result T E) → Writes r at bytes s0 s1 → (c : Image) → s1.may s0.moment c → Torn s0 at (length bytes) c
  torn_each r w c may = let torn = w.torn c may in (torn.0, inr torn.1, torn.2)

  pub torn_since : {T E : Type 0} (r : Result T E) → Writes r at bytes s0 s1 → (t : ℕ) (c : Image) → t ≤ s0.moment → s1.may t c → s0.may t c ⊎ Torn s0 at (length bytes) c
  torn_since r w t c le may = ⊎_elim (λ was. inl was) (λ later. inr (torn_each r w c later)) (w.before t c le may)

  -- a write leaves what was, with any bytes in its range
  pub write_left : {T E : Type 0} (r : Result T E) → Writes r at bytes s0 s1 → Since s1 → (c : Image) → Admits s1 c → Torn s0 at (length bytes) c
  write_left r w since c (inl now) =
      let from = from_told (Wrote r at bytes) s0.now s1.now c w.now now in
      (from.0, inl from.1, wrote_within r at bytes from.0 c from.2)
  write_left r w since c (inr may) = torn_each r w c (since s0.moment s1.moment c w.later may)

  pub failed_write : {T E : Type 0} (r : Result T E) → Writes r at bytes s0 s1 → Goes s0 s1 (Torn s0 at (length bytes))
  failed_write r w = record { later = w.later; each = torn_each r w; before = torn_since r w }

-- a sync that changes nothing keeps what was left
pub sync_left : (s1 s2 : Story) {T E : Type 0} (r : Result T E) → Syncs r s1 s2 → Since s2 → (c : Image) → Admits s2 c → Admits s1 c
sync_left s1 s2 r s since c (inl now) = inl (sym s.stays.now ∙ now)
sync_left s1 s2 r s since c (inr may) = inr (s.stays.may s1.moment c (omega arith) (since s1.moment s2.moment c s.stays.later may))

pub then_sync : (s0 s1 s2 : Story) (During : Image → Type 0) {T E : Type 0} (r : Result T E) → Goes s0 s1 During → Syncs r s1 s2 → Goes s0 s2 During
then_sync s0 s1 s2 During r goes s = record {
  later = omega (arith, goes.later, s.stays.later);
  each = λ c may. goes.each c (s.stays.may s0.moment c goes.later may);
  before = λ t c le may. goes.before t c le (s.stays.may t c (omega (arith, goes.later)) may);
}

-- after a write and a sync that succeeded the disk has the bytes
pub has_bytes : (s0 s1 s2 : Story) (at : ℕ) (bytes : List ℕ) {T E U F : Type 0} (x : T) (w : Result T E) (r : Result U F) → w ≡ Ok x → Writes w at bytes s0 s1 → Syncs r s1 s2 → OnOk r ((c : Image) → Admits s2 c → Has s0 at bytes c)
has_bytes s0 s1 s2 at bytes x w (Err e) is writes s = tt
has_bytes s0 s1 s2 at bytes x w (Ok y) is writes s = λ c admitted.
    let now : s2.now ≡ Some c = ⊎_elim (λ is. is) (λ may. s.kept c may) admitted in
    let from = from_told (Wrote w at bytes) s0.now s1.now c writes.now (sym s.stays.now ∙ now) in
    (from.0, inl from.1, MatchResult-at_ok (λ _. Written at bytes from.0 c) (λ _. Within at (length bytes) from.0 c) x is from.2)

moves_weaker : (P Q : Image → Image → Type 0) (a b : Option Image) → ((d c : Image) → P d c → Q d c) → Moves P a b → Moves Q a b
moves_weaker P Q None b weaker moves = moves
moves_weaker P Q (Some d) None weaker moves = moves
moves_weaker P Q (Some d) (Some c) weaker moves = weaker d c moves

pub now_failed : {T E U F : Type 0} (w : Result T E) (r : Result U F) (at : ℕ) (bytes : List ℕ) (a b : Option Image) → IsErr r → Moves (Wrote w at bytes) a b → Moves (Wrote r at bytes) a b
now_failed w r at bytes a b err = moves_weaker _ _ a b (λ d c wrote. MatchResult-from_err r _ _ err (λ e. wrote_within w at bytes d c wrote))

pub now_synced : {T E U F : Type 0} (w : Result T E) (x : T) (r : Result U F) (at : ℕ) (bytes : List ℕ) (a b c : Option Image) → w ≡ Ok x → Moves (Wrote w at bytes) a b → c ≡ b → Moves (Wrote r at bytes) a c
now_synced w x r at bytes a b c ok moves same = subst (Moves (Wrote r at bytes) a) (sym same) (moves_weaker _ _ a b (λ d e wrote. either r d e wrote) moves)
  where
    either : {U F : Type 0} (r : Result U F) (d e : Image) → Wrote w at bytes d e → Wrote r at bytes d e
    either (Ok y) d e wrote = MatchResult-at_ok (λ _. Written at bytes d e) (λ _. Within at (length bytes) d e) x ok wrote
    either (Err y) d e wrote = wrote_within w at bytes d e wrote

-- a sync alone
pub settled : (s0 s1 : Story) {T E : Type 0} (r : Result T E) → Syncs r s0 s1 → Since s1 → Settles r s0 s1
settled s0 s1 r s since = record {
  goes = record {
    later = s.stays.later;
    each = λ c may. inr (s.stays.may s0.moment c (omega arith) may);
    before = λ t c le may. inl (s.stays.may t c le may);
  };
  left = sync_left s0 s1 r s since;
  done = s.kept;
  now = s.stays.now;
}
