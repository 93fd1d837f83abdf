-- An image that was read, and what a keeper may rest on.
use Rattle.std.proofs.Common.{◌≡◌, inl, inr, ⊎_elim, ℕ, ◌+◌, ◌<◌, ◌==◌, nat_lt, Bool, true, false, not, if◌then◌else◌, List, [], ◌∷◌, length, drop, slice_index, Option, Some, None, Ok, Err, refl, sym, ◌∙◌, ap, subst, arith}
use Rattle.std.proofs.lemmas.Bool.{cases_eq, ltb-false, eq-eqb}
use Rattle.pr_words.specs.Fields.{number16_at}
use Rattle.pr_grammar.specs.Standings.{Kept}
use Rattle.pr_grammar.specs.Files.{cut, slot, opened, field_fault, unless_broken, filled, listed, Listed, Good, Wrong, Slot, Closed, Open, Keeps, Bad, both, part, after_head, restores, slot_at, place_of, first_wrong, slot_size}
use Rattle.pr_grammar.specs.declared.file.FileLayout.{FileLayout}
use Rattle.pr_io.specs.Images.{Image, Story, Within, Stays}
use Rattle.pr_io.specs.Spans.{Admits}
use Rattle.pr_io.proofs.Spanning.{Since}
use Rattle.pr_model.specs.Stamps.{IsOneOf}
use Rattle.pr_aptpl.specs.Gates.{Guards}
use Rattle.pr_aptpl.specs.Slots.{IsCurrent, SlotFacts, IsApart}
use Rattle.pr_aptpl.specs.Opens.{IsOther, IsTarget, Joins, first_of, first_diff, OpensAt, HeadSays, FailsAt}
use Rattle.pr_aptpl.specs.declared.aim.Aim.{Aim}
use Rattle.pr_aptpl.specs.declared.fault.OpenFault.{OpenFault}
use Rattle.pr_aptpl.specs.declared.fault.OpenFault.TheVariants.{BadFile, DiskFault, OutOfMemory}
use Rattle.pr_aptpl.proofs.Slots.{joined}
use Rattle.pr_aptpl.proofs.SlotParts.{other_same, head_same, gate_within, from_slots, closed_restores, current_same, open_gate, gate_same}
use Rattle.pr_aptpl.proofs.ReadBack.{wrong_diff}

filled_open : (b : Bool) (turn kind holder : ℕ) (l : Listed) → filled turn b kind holder l ≡ Closed → ⊥
filled_open b turn kind holder (Good ps) is = cc
filled_open b turn kind holder (Wrong p) is = cc

unless_open : (o : Option ℕ) (at : ℕ) (s : Slot) → (s ≡ Closed → ⊥) → unless_broken o at s ≡ Closed → ⊥
unless_open None at s no_close is = no_close is
unless_open (Some p) at s no_close is = cc

-- a slot whose gate is open isn't closed
pub closed_gate : (limit at : ℕ) (c : Image) → slot limit at (cut c at (slot_size limit)) ≡ Closed → c at ≡ 0xA5 → ⊥
unfolding cut slot
closed_gate limit at c is is_open =
    let bytes = cut c at (slot_size limit) in
    let opens : opened limit at bytes ≡ Closed = ap (λ (b : Bool). if b then opened limit at bytes else Closed) (sym (eq-eqb (c at) 0xA5 is_open)) ∙ is in
    unless_open (field_fault limit (slice_index bytes 1) (slice_index bytes 2) (slice_index bytes 3) (number16_at bytes 4) (number16_at bytes 6)) at _
    (filled_open (slice_index bytes 2 == 1) (slice_index bytes 1) (slice_index bytes 3) (number16_at bytes 6) (listed (number16_at bytes 4) None (at + 16) (drop 16 bytes))) opens

not_first : (b : Bool) (p : ℕ) (rest : Option ℕ) (at : ℕ) (s : Slot) (t : ℕ) (k : Kept) → unless_broken (if b then Some p else rest) at s ≡ Open t k → b ≡ false
not_first true p rest at s t k is = cc
not_first false p rest at s t k is = refl

unless_is : (o : Option ℕ) (at : ℕ) (s : Slot) (t : ℕ) (k : Kept) → unless_broken o at s ≡ Open t k → s ≡ Open t k
unless_is None at s t k is = is
unless_is (Some p) at s t k is = cc

filled_turn : (b : Bool) (turn kind holder : ℕ) (l : Listed) (t : ℕ) (k : Kept) → filled turn b kind holder l ≡ Open t k → turn ≡ t
filled_turn b turn kind holder (Good ps) t k is = cc
filled_turn b turn kind holder (Wrong p) t k is = cc

small_fields : (limit turn kept kind n holder at : ℕ) (l : Listed) (t : ℕ) (k : Kept) → unless_broken (field_fault limit turn kept kind n holder) at (filled turn (kept == 1) kind holder l) ≡ Open t k → t < 3
small_fields limit turn kept kind n holder at l t k is =
    let small = ltb-false 2 turn (not_first (nat_lt 2 turn) 1 _ at _ t k is) in
    let same : turn ≡ t = filled_turn (kept == 1) turn kind holder l t k (unless_is _ at _ t k is) in
    omega (arith, small, same)

closed_or_open : (b : Bool) (s : Slot) (t : ℕ) (k : Kept) → (if b then s else Closed) ≡ Open t k → s ≡ Open t k
closed_or_open true s t k is = is
closed_or_open false s t k is = cc

pub small_turn : (limit at : ℕ) (bytes : List ℕ) (t : ℕ) (k : Kept) → slot limit at bytes ≡ Open t k → t < 3
unfolding slot
small_turn limit at bytes t k is =
    small_fields limit (slice_index bytes 1) (slice_index bytes 2) (slice_index bytes 3) (number16_at bytes 4) (number16_at bytes 6) at (listed (number16_at bytes 4) None (at + 16) (drop 16 bytes)) t k
    (closed_or_open (slice_index bytes 0 == 0xA5) (opened limit at bytes) t k is)

-- after a sync that succeeded, and calls that change nothing, all that the disk may hold is what was read
pub opened_at : (head : List ℕ) (l : FileLayout) (s0 s1 s3 : Story) (aim : Aim) (k : Kept) → Stays s0 s1 → ((c : Image) → s1.may s1.moment c → s1.now ≡ Some c) → Stays s1 s3 → Since s3
    → ((image : Image) → s0.now ≡ Some image → (restores head l image ≡ Keeps k) × Guards (restores head l) (place_of l aim.target) (SlotFacts head l aim.target aim.turn) aim.may_be_open (k ∷ []) image)
    → OpensAt head l s0 s3 aim k
opened_at head l s0 s1 s3 aim k first kept then_ since facts = record {
  read = λ image now. (facts image now).0;
  stands = λ c admitted. (facts c (was c admitted)).1;
  at_end = λ c admitted. (facts c (was c admitted)).0;
  since_sync = (s1.moment, first.later, then_.later, λ c may. (facts c (sym first.now ∙ kept c (then_.may s1.moment c (omega arith) may))).0);
}
  where
    was : (c : Image) → Admits s3 c → s0.now ≡ Some c
    was c (inl now) = sym first.now ∙ sym then_.now ∙ now
    was c (inr may) = sym first.now ∙ kept c (then_.may s1.moment c (omega arith) (since s1.moment s3.moment c then_.later may))

pub stays_on : (a b c : Story) → Stays a b → Stays b c → Stays a c
stays_on a b c first second = record {
  now = second.now ∙ first.now;
  later = omega (arith, first.later, second.later);
  may = λ t x le may. first.may t x le (second.may t x (omega (arith, le, first.later)) may);
}

module _ (head : List ℕ) (l : FileLayout) (apart : IsApart head l) where
  pick : (t : Bool) (c : Image) → first_of t (slot_at l false c) (slot_at l true c) ≡ slot_at l t c
  pick false c = refl
  pick true c = refl

  other_is : (turn : Option ℕ) (k : Kept) (t : Bool) (c : Image) → IsOther turn k (slot_at l t c) → IsCurrent turn (k ∷ []) (c (place_of l t)) (slot_at l t c)
  other_is None k t c is = subst (IsCurrent None (k ∷ []) (c (place_of l t))) (sym is.0) (inl is.1, closed_gate l.limit (place_of l t) c is.0)
  other_is (Some v) k t c is = subst (IsCurrent (Some v) (k ∷ []) (c (place_of l t))) (sym is) (refl, small_turn l.limit (place_of l t) _ v k is, inl refl)

  module _ (t : Bool) (turn : Option ℕ) (k : Kept) (c : Image) (facts : SlotFacts head l t turn (k ∷ []) c) (gives : restores head l c ≡ Keeps k) where
    -- whatever stands at the gate of a slot that is open, the same is kept
    any_gate : (v : ℕ) (x : Kept) → slot_at l t c ≡ Open v x → (d : Image) → Within (place_of l t) 1 c d → IsOneOf (k ∷ []) (restores head l d)
    any_gate v x is d within = ⊎_elim opens shut (cases_eq (d (place_of l t)) 0xA5)
      where
        d_facts : SlotFacts head l t turn (k ∷ []) d
        d_facts = record {
          whole = head_same head l apart t c d (gate_within head l apart t c d within) ∙ facts.whole;
          other = current_same head l apart t turn (k ∷ []) c d (gate_within head l apart t c d within) facts.other;
        }

        shut : (d (place_of l t) ≡ 0xA5 → ⊥) → IsOneOf (k ∷ []) (restores head l d)
        shut closed = closed_restores head l apart t turn (k ∷ []) d d_facts closed

        opens : d (place_of l t) ≡ 0xA5 → IsOneOf (k ∷ []) (restores head l d)
        opens is_open =
            let was : c (place_of l t) ≡ 0xA5 = open_gate head l apart t c v x is in
            let same : slot_at l t d ≡ slot_at l t c = gate_same head l apart t c d within (is_open ∙ sym was) in
            let other : slot_at l (not t) d ≡ slot_at l (not t) c = other_same head l apart t c d (gate_within head l apart t c d within) in
            subst (IsOneOf (k ∷ []))
            (sym (from_slots head l apart t d d_facts.whole ∙ ap (λ (s : Slot). joined (l.slot1 + 1) t s (slot_at l (not t) d)) same ∙ ap (λ (s : Slot). joined (l.slot1 + 1) t (slot_at l t c) s) other
            ∙ sym (from_slots head l apart t c facts.whole) ∙ gives))
            (inl refl)

    guards_read : (o : Bool) → IsTarget o (slot_at l t c) → Guards (restores head l) (place_of l t) (SlotFacts head l t turn) o (k ∷ []) c
    guards_read true is = record { facts = facts; gate_is = any_gate is.0 is.1 is.2 }
    guards_read false is = record { facts = facts; gate_is = closed_gate l.limit (place_of l t) c is }

  -- what was read of an image, and what follows of it
  pub joined_fits : (r : Aim × Kept) (c : Image) (a b : Slot) → first_diff head (cut c 0 (length head)) 0 ≡ None → a ≡ slot_at l false c → b ≡ slot_at l true c → Joins (l.slot1 + 1) (Ok r) a b
      → (restores head l c ≡ Keeps r.1) × Guards (restores head l) (place_of l r.0.target) (SlotFacts head l r.0.target r.0.turn) r.0.may_be_open (r.1 ∷ []) c
  joined_fits r c a b head_is first second joins = (gives, guards_read r.0.target r.0.turn r.1 c (record { whole = whole; other = other_is r.0.turn r.1 (not r.0.target) c other }) gives r.0.may_be_open target)
    where
      whole : first_wrong head 0 c ≡ None
      whole = wrong_diff head 0 c ∙ head_is

      gives : restores head l c ≡ Keeps r.1
      gives = ap (λ (o : Option ℕ). after_head o (part l c)) whole ∙ ap (λ (s : Slot). both (l.slot1 + 1) s (slot_at l true c)) (sym first) ∙ ap (λ (s : Slot). both (l.slot1 + 1) a s) (sym second) ∙ joins.0

      other : IsOther r.0.turn r.1 (slot_at l (not r.0.target) c)
      other = subst (IsOther r.0.turn r.1) (ap (λ (s : Slot). first_of (not r.0.target) s b) first ∙ ap (λ (s : Slot). first_of (not r.0.target) (slot_at l false c) s) second ∙ pick (not r.0.target) c) joins.1

      target : IsTarget r.0.may_be_open (slot_at l r.0.target c)
      target = subst (IsTarget r.0.may_be_open) (ap (λ (s : Slot). first_of r.0.target s b) first ∙ ap (λ (s : Slot). first_of r.0.target (slot_at l false c) s) second ∙ pick r.0.target c) joins.2

  pub broken_gives : (c : Image) (place : ℕ) (a b : Slot) → first_diff head (cut c 0 (length head)) 0 ≡ None → a ≡ slot_at l false c → b ≡ slot_at l true c → both (l.slot1 + 1) a b ≡ Bad place → restores head l c ≡ Bad place
  broken_gives c place a b head_is first second bad =
      ap (λ (o : Option ℕ). after_head o (part l c)) (wrong_diff head 0 c ∙ head_is)
      ∙ ap (λ (s : Slot). both (l.slot1 + 1) s (slot_at l true c)) (sym first) ∙ ap (λ (s : Slot). both (l.slot1 + 1) a s) (sym second) ∙ bad

  pub head_fails : (T : Type 0) (fault : OpenFault) (s0 s1 : Story) → s1.now ≡ s0.now → ((image : Image) → s1.now ≡ Some image → HeadSays {T = T} (Err fault) (first_diff head (cut image 0 (length head)) 0)) → FailsAt head l fault s0
  head_fails T (BadFile place) s0 s1 same says = λ image now. ap (λ (o : Option ℕ). after_head o (part l image)) (wrong_diff head 0 image ∙ says image (same ∙ now))
  head_fails T DiskFault s0 s1 same says = tt
  head_fails T OutOfMemory s0 s1 same says = tt
