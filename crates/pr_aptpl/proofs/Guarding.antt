-- A part of a file behind a gate: what its images restore while the gate is closed, the part written, and the gate opened.
use Rattle.std.proofs.Common.{◌≡◌, ◌⊎◌, inl, inr, ⊎_elim, ℕ, ◌+◌, ◌<◌, ◌≤◌, Bool, true, false, List, [], ◌∷◌, ◌++◌, length, Result, Ok, refl, sym, ◌∙◌, ap, subst, arith}
use Rattle.std.proofs.lemmas.Bool.{cases_eq}
use Rattle.std.proofs.lemmas.Result.{IfOk-at_ok}
use Rattle.pr_grammar.specs.Standings.{Kept}
use Rattle.pr_grammar.specs.Files.{Restoration, Keeps}
use Rattle.pr_io.specs.Images.{Image, Story, Within, Written}
use Rattle.pr_io.specs.Spans.{Goes, Admits, Torn, Puts}
use Rattle.pr_model.specs.Stamps.{IsOneOf}
use Rattle.pr_aptpl.specs.Gates.{Guards, Guarded, Closes}
use Rattle.pr_aptpl.proofs.Slots.{in_first, in_last}

pub goes_as : (old new : Story) (P Q : Image → Type 0) → Goes old new P → ((c : Image) → P c → Q c) → Goes old new Q
goes_as old new P Q goes as_ = record {
  later = goes.later;
  each = λ c may. as_ c (goes.each c may);
  before = λ t c le may. ⊎_elim (λ was. inl was) (λ p. inr (as_ c p)) (goes.before t c le may);
}

pub goes_on : (a b c : Story) (P : Image → Type 0) → Goes a b P → Goes b c P → Goes a c P
goes_on a b c P first second = record {
  later = omega (arith, first.later, second.later);
  each = λ x may. ⊎_elim (λ was. first.each x was) (λ p. p) (second.before a.moment x first.later may);
  before = λ t x le may. ⊎_elim (first.before t x le) (λ p. inr p) (second.before t x (omega (arith, le, first.later)) may);
}

-- the same outside a part
abbrev pub Inside : (ℕ → Bool) → Image → Image → Type 0
Inside part c d = (i : ℕ) → part i ≡ false → d i ≡ c i

-- a range lies in a part
abbrev pub Covers : (ℕ → Bool) → ℕ → ℕ → Type 0
Covers part at n = (i : ℕ) → at ≤ i → i < at + n → part i ≡ true

inside_from : (part : ℕ → Bool) (at n : ℕ) (c d : Image) → Covers part at n → Within at n c d → Inside part c d
inside_from part at n c d covers within i out = within i (⊎_elim (λ low. ⊎_elim (λ high. absurd (clash (covers i low high))) (λ above. inr above) (cases_lt i (at + n))) (λ below. inl below) (cases_le at i))
  where
    clash : part i ≡ true → ⊥
    clash is_in = let e : true ≡ false = sym is_in ∙ out in cc

    cases_lt : (m n : ℕ) → (m < n) ⊎ (n ≤ m)
    cases_lt m n = grind arith

    cases_le : (m n : ℕ) → (m ≤ n) ⊎ (n < m)
    cases_le m n = grind arith

pub within_trans : (at n : ℕ) (c d e : Image) → Within at n c d → Within at n d e → Within at n c e
within_trans at n c d e first second i out = second i out ∙ first i out

-- `Facts` are of places outside the part, and say what is restored while the gate isn't open
module _ (restored : Image → Restoration) (gate : ℕ) (part : ℕ → Bool) (Facts : List Kept → Image → Type 0)
    (gate_in : Covers part gate 1)
    (stay : (ks : List Kept) (c d : Image) → Facts ks c → Inside part c d → Facts ks d)
    (shut : (ks : List Kept) (c : Image) → Facts ks c → (c gate ≡ 0xA5 → ⊥) → IsOneOf ks (restored c))
    (more : (ks : List Kept) (k : Kept) (c : Image) → Facts ks c → Facts (ks ++ k ∷ []) c) where
  abbrev Restores : List Kept → Image → Type 0
  Restores ks c = IsOneOf ks (restored c)

  -- once the gate is open, this is restored
  abbrev pub IsReady : Kept → Image → Type 0
  IsReady k c = (d : Image) → Within gate 1 c d → d gate ≡ 0xA5 → restored d ≡ Keeps k

  pub guards_restores : (o : Bool) (ks : List Kept) (c : Image) → Guards restored gate Facts o ks c → IsOneOf ks (restored c)
  guards_restores true ks c g = g.gate_is c (λ i out. refl)
  guards_restores false ks c g = shut ks c g.facts g.gate_is

  pub guards_more : (o : Bool) (ks : List Kept) (k : Kept) (c : Image) → Guards restored gate Facts o ks c → Guards restored gate Facts o (ks ++ k ∷ []) c
  guards_more true ks k c g = record { facts = more ks k c g.facts; gate_is = λ d within. in_first ks k (restored d) (g.gate_is d within) }
  guards_more false ks k c g = record { facts = more ks k c g.facts; gate_is = g.gate_is }

  close_torn : (ks : List Kept) (d c : Image) → Guards restored gate Facts true ks d → Within gate 1 d c → Guards restored gate Facts true ks c
  close_torn ks d c g within = record { facts = stay ks d c g.facts (inside_from part gate 1 d c gate_in within); gate_is = λ e again. g.gate_is e (within_trans gate 1 d c e within again) }

  close_done : (ks : List Kept) (d c : Image) → Guards restored gate Facts true ks d → Written gate (0 ∷ []) d c → Guards restored gate Facts false ks c
  close_done ks d c g written = record {
    facts = stay ks d c g.facts (inside_from part gate 1 d c gate_in written.1);
    gate_is = λ is_open. let same : gate ≡ gate + 0 = omega arith in absurd (omega (arith, sym is_open ∙ ap c same ∙ written.0 0 (omega arith)));
  }

  -- bytes in the part that aren't the gate
  fill_torn : (ks : List Kept) (at n : ℕ) (d c : Image) → Covers part at n → (gate < at) ⊎ (at + n ≤ gate) → Guards restored gate Facts false ks d → Within at n d c → Guards restored gate Facts false ks c
  fill_torn ks at n d c covers aside g within = record {
    facts = stay ks d c g.facts (inside_from part at n d c covers within);
    gate_is = λ is_open. g.gate_is (sym (within gate aside) ∙ is_open);
  }

  open_torn : (ks : List Kept) (k : Kept) (d c : Image) → Guards restored gate Facts false ks d → IsReady k d → Within gate 1 d c → Guards restored gate Facts true (ks ++ k ∷ []) c
  open_torn ks k d c g ready within = record {
    facts = more ks k c (stay ks d c g.facts (inside_from part gate 1 d c gate_in within));
    gate_is = λ e again. any e (within_trans gate 1 d c e within again);
  }
    where
      any : (e : Image) → Within gate 1 d e → IsOneOf (ks ++ k ∷ []) (restored e)
      any e into = ⊎_elim
          (λ is_open. subst (IsOneOf (ks ++ k ∷ [])) (sym (ready e into is_open)) (in_last ks k))
          (λ closed. in_first ks k (restored e) (shut ks e (stay ks d e g.facts (inside_from part gate 1 d e gate_in into)) closed))
          (cases_eq (e gate) 0xA5)

  module _ (s0 s1 : Story) (ks : List Kept) where
    -- a gate is closed, whether it was written or not
    pub closing : {T E : Type 0} (r : Result T E) (was now : Bool) → Closes r gate was now s0 s1 → Guarded restored gate Facts was s0 ks
        → Guarded restored gate Facts was s1 ks × Goes s0 s1 (Restores ks)
    closing r true now closes guarded =
        let each : (c : Image) → Torn s0 gate 1 c → Guards restored gate Facts true ks c = λ c torn. close_torn ks torn.0 c (guarded torn.0 torn.1) torn.2 in
        (λ c admitted. each c (closes.call.left c admitted), goes_as s0 s1 _ _ closes.call.goes (λ c torn. guards_restores true ks c (each c torn)))
    closing r false now closes guarded =
        (λ c admitted. guarded c (closes.call.left c admitted), goes_as s0 s1 _ _ closes.call.goes (λ c admitted. guards_restores false ks c (guarded c admitted)))

    pub closed : {T E : Type 0} (r : Result T E) (x : T) (was now : Bool) → r ≡ Ok x → Closes r gate was now s0 s1 → Guarded restored gate Facts was s0 ks → Guarded restored gate Facts false s1 ks
    closed r x true now ok closes guarded = let done = IfOk-at_ok _ ok closes.call.done in λ c admitted. let has = done c admitted in close_done ks has.0 c (guarded has.0 has.1) has.2
    closed r x false now ok closes guarded = λ c admitted. guarded c (closes.call.left c admitted)

    -- bytes of the part that aren't the gate are put
    pub filling : {T E : Type 0} (r : Result T E) (at : ℕ) (bytes : List ℕ) → Covers part at (length bytes) → (gate < at) ⊎ (at + length bytes ≤ gate) → Puts r at bytes s0 s1 → Guarded restored gate Facts false s0 ks
        → Guarded restored gate Facts false s1 ks × Goes s0 s1 (Restores ks)
    filling r at bytes covers aside puts guarded =
        let each : (c : Image) → Torn s0 at (length bytes) c → Guards restored gate Facts false ks c = λ c torn. fill_torn ks at (length bytes) torn.0 c covers aside (guarded torn.0 torn.1) torn.2 in
        (λ c admitted. each c (puts.left c admitted), goes_as s0 s1 _ _ puts.goes (λ c torn. guards_restores false ks c (each c torn)))

    -- the gate is opened, whether it succeeded or not
    pub opening : {T E : Type 0} (r : Result T E) (k : Kept) → Puts r gate (0xA5 ∷ []) s0 s1 → Guarded restored gate Facts false s0 ks → ((c : Image) → Admits s0 c → IsReady k c)
        → Guarded restored gate Facts true s1 (ks ++ k ∷ []) × Goes s0 s1 (Restores (ks ++ k ∷ []))
    opening r k puts guarded ready =
        let each : (c : Image) → Torn s0 gate 1 c → Guards restored gate Facts true (ks ++ k ∷ []) c = λ c torn. open_torn ks k torn.0 c (guarded torn.0 torn.1) (ready torn.0 torn.1) torn.2 in
        (λ c admitted. each c (puts.left c admitted), goes_as s0 s1 _ _ puts.goes (λ c torn. guards_restores true (ks ++ k ∷ []) c (each c torn)))
