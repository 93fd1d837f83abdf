-- A slot as a part behind its gate.
use Rattle.std.proofs.Common.{◌≡◌, ◌⊎◌, inl, inr, ⊎_elim, ℕ, ◌+◌, ◌*◌, ◌≤◌, nat_le, nat_lt, ◌&&◌, Bool, true, false, not, List, [], ◌∷◌, ◌++◌, Option, Some, None, is_some, MatchBool, Result, Ok, refl, sym, ◌∙◌, ap, subst, arith}
use Rattle.std.proofs.lemmas.Bool.{cases_eq, and_left, and_right, and_from, lt-leb, le-ltb, le-leb, lt-ltb}
use Rattle.std.proofs.lemmas.Result.{IfOk-at_ok}
use Rattle.pr_grammar.specs.Standings.{Kept}
use Rattle.pr_grammar.specs.Files.{cut, Slot, Closed, Open, Keeps, slot, restores, part, after_head, slot_at, place_of, first_wrong, slot_size}
use Rattle.pr_grammar.specs.declared.file.FileLayout.{FileLayout}
use Rattle.pr_io.specs.Images.{Image, Story, Within, Written}
use Rattle.pr_io.specs.Spans.{Admits, Puts}
use Rattle.pr_model.specs.Stamps.{IsOneOf}
use Rattle.pr_aptpl.specs.Gates.{Guards}
use Rattle.pr_aptpl.specs.Slots.{IsCurrent, turn_after, SlotFacts, IsApart, IsFilled, Stands}
use Rattle.pr_aptpl.proofs.Slots.{cut_same, wrong_same, joined, part_joined, joined_closed, joined_newer, joined_alone, closed_slot, not_not, turn_after_small, within_more, current_more, current_none, current_some}
use Rattle.pr_aptpl.proofs.Guarding.{Inside, Covers}

-- the places of a slot
abbrev pub is_in : FileLayout → Bool → ℕ → Bool
is_in l t i = nat_le (place_of l t) i && nat_lt i (place_of l t + slot_size l.limit)

pub covers_slot : (l : FileLayout) (t : Bool) (at n : ℕ) → place_of l t ≤ at → at + n ≤ place_of l t + slot_size l.limit → Covers (is_in l t) at n
covers_slot l t at n low high i from to = and_from _ _ (le-leb (place_of l t) i (omega arith)) (lt-ltb i (place_of l t + slot_size l.limit) (omega arith))

pub inside_slot : (l : FileLayout) (t : Bool) (c d : Image) → Inside (is_in l t) c d → Within (place_of l t) (slot_size l.limit) c d
inside_slot l t c d inside i (inl below) = inside i (and_left _ _ (lt-leb (place_of l t) i below))
inside_slot l t c d inside i (inr above) = inside i (and_right (nat_le (place_of l t) i) _ (le-ltb i (place_of l t + slot_size l.limit) above))

module _ (head : List ℕ) (l : FileLayout) (apart : IsApart head l) where
  -- a change within one slot leaves the other and the head
  pub other_same : (t : Bool) (c d : Image) → Within (place_of l t) (slot_size l.limit) c d → slot_at l (not t) d ≡ slot_at l (not t) c
  other_same false c d within = ap (slot l.limit l.slot1) (cut_same (slot_size l.limit) l.slot1 d c (λ i low high. within i (inr (omega (arith, apart.slots, low)))))
  other_same true c d within = ap (slot l.limit l.slot0) (cut_same (slot_size l.limit) l.slot0 d c (λ i low high. within i (inl (omega (arith, apart.slots, high)))))

  other_gate_same : (t : Bool) (c d : Image) → Within (place_of l t) (slot_size l.limit) c d → d (place_of l (not t)) ≡ c (place_of l (not t))
  other_gate_same false c d within = within l.slot1 (inr (omega (arith, apart.slots)))
  other_gate_same true c d within = within l.slot0 (inl (omega (arith, apart.slots)))

  pub head_same : (t : Bool) (c d : Image) → Within (place_of l t) (slot_size l.limit) c d → first_wrong head 0 d ≡ first_wrong head 0 c
  head_same false c d within = wrong_same head 0 d c (λ i lt. within i (inl (omega (arith, apart.first))))
  head_same true c d within = wrong_same head 0 d c (λ i lt. within i (inl (omega (arith, apart.first, apart.slots))))

  -- the same facts of the other slot
  pub current_same : (t : Bool) (turn : Option ℕ) (ks : List Kept) (c d : Image) → Within (place_of l t) (slot_size l.limit) c d
      → IsCurrent turn ks (c (place_of l (not t))) (slot_at l (not t) c) → IsCurrent turn ks (d (place_of l (not t))) (slot_at l (not t) d)
  current_same t turn ks c d within is =
      subst (λ (g : ℕ). IsCurrent turn ks g (slot_at l (not t) d)) (sym (other_gate_same t c d within))
      (subst (λ (s : Slot). IsCurrent turn ks (c (place_of l (not t))) s) (sym (other_same t c d within)) is)

  pub gate_within : (t : Bool) (c d : Image) → Within (place_of l t) 1 c d → Within (place_of l t) (slot_size l.limit) c d
  gate_within t c d = within_more (place_of l t) 1 (place_of l t) (slot_size l.limit) c d (omega arith) (omega arith)

  pub from_slots : (t : Bool) (c : Image) → first_wrong head 0 c ≡ None → restores head l c ≡ joined (l.slot1 + 1) t (slot_at l t c) (slot_at l (not t) c)
  from_slots t c whole = ap (λ (o : Option ℕ). after_head o (part l c)) whole ∙ part_joined l t c

  -- the laws of the part
  pub gate_covered : (t : Bool) → Covers (is_in l t) (place_of l t) 1
  gate_covered t = covers_slot l t (place_of l t) 1 (omega arith) (omega arith)

  pub facts_stay : (t : Bool) (turn : Option ℕ) (ks : List Kept) (c d : Image) → SlotFacts head l t turn ks c → Inside (is_in l t) c d → SlotFacts head l t turn ks d
  facts_stay t turn ks c d f inside =
      let within = inside_slot l t c d inside in
      record { whole = head_same t c d within ∙ f.whole; other = current_same t turn ks c d within f.other }

  -- with its gate not open the current slot counts
  pub closed_restores : (t : Bool) (turn : Option ℕ) (ks : List Kept) (c : Image) → SlotFacts head l t turn ks c → (c (place_of l t) ≡ 0xA5 → ⊥) → IsOneOf ks (restores head l c)
  closed_restores t turn ks c f shut =
      let gone : restores head l c ≡ joined (l.slot1 + 1) t Closed (slot_at l (not t) c) =
      from_slots t c f.whole ∙ ap (λ (s : Slot). joined (l.slot1 + 1) t s (slot_at l (not t) c)) (closed_slot l.limit (place_of l t) c shut) in
      subst (IsOneOf ks) (sym gone) (joined_closed (l.slot1 + 1) t turn ks (c (place_of l (not t))) (slot_at l (not t) c) f.other)

  pub facts_more : (t : Bool) (turn : Option ℕ) (ks : List Kept) (k : Kept) (c : Image) → SlotFacts head l t turn ks c → SlotFacts head l t turn (ks ++ k ∷ []) c
  facts_more t turn ks k c f = record { whole = f.whole; other = current_more turn ks k (c (place_of l (not t))) (slot_at l (not t) c) f.other }

  -- an image whose gate is open has the filled slot
  filled_slot : (t : Bool) (turn : Option ℕ) (k : Kept) (d e : Image) → IsFilled l t turn k d → Within (place_of l t) 1 d e → e (place_of l t) ≡ 0xA5 → slot_at l t e ≡ Open (turn_after turn) k
  unfolding cut
  filled_slot t turn k d e filled within is_open =
      let rest : cut e (place_of l t + 1) (15 + 18 * l.limit) ≡ cut d (place_of l t + 1) (15 + 18 * l.limit) =
      cut_same (15 + 18 * l.limit) (place_of l t + 1) e d (λ i low high. within i (inr low)) in
      ap (λ (bs : List ℕ). slot l.limit (place_of l t) bs) (ap (λ (b : ℕ). b ∷ cut e (place_of l t + 1) (15 + 18 * l.limit)) is_open ∙ ap (λ (bs : List ℕ). 0xA5 ∷ bs) rest) ∙ filled

  -- a filled slot is ready
  pub filled_ready : (t : Bool) (turn : Option ℕ) (ks : List Kept) (k : Kept) (d : Image) → SlotFacts head l t turn ks d → IsFilled l t turn k d
      → (e : Image) → Within (place_of l t) 1 d e → e (place_of l t) ≡ 0xA5 → restores head l e ≡ Keeps k
  filled_ready t turn ks k d f filled e into is_open =
      let whole : first_wrong head 0 e ≡ None = head_same t d e (gate_within t d e into) ∙ f.whole in
      let current : IsCurrent turn ks (e (place_of l (not t))) (slot_at l (not t) e) = current_same t turn ks d e (gate_within t d e into) f.other in
      from_slots t e whole ∙ ap (λ (s : Slot). joined (l.slot1 + 1) t s (slot_at l (not t) e)) (filled_slot t turn k d e filled into is_open)
      ∙ joined_newer (l.slot1 + 1) t turn ks k (e (place_of l (not t))) (slot_at l (not t) e) current

  -- a slot that is open has an open gate
  pub open_gate : (t : Bool) (c : Image) (u : ℕ) (k : Kept) → slot_at l t c ≡ Open u k → c (place_of l t) ≡ 0xA5
  open_gate t c u k is = ⊎_elim (λ is_open. is_open)
      (λ shut. let closed : slot_at l t c ≡ Closed = closed_slot l.limit (place_of l t) c shut in let clash : Open u k ≡ Closed = sym is ∙ closed in cc)
      (cases_eq (c (place_of l t)) 0xA5)

  -- two images that agree but at a gate that is open in both
  pub gate_same : (t : Bool) (c e : Image) → Within (place_of l t) 1 c e → e (place_of l t) ≡ c (place_of l t) → slot_at l t e ≡ slot_at l t c
  gate_same t c e within same = ap (slot l.limit (place_of l t)) (cut_same (slot_size l.limit) (place_of l t) e c (λ i low high. ⊎_elim (λ at. ap e at ∙ same ∙ ap c (sym at)) (λ past. within i (inr (omega (arith, low, past)))) (here i low)))
    where
      here : (i : ℕ) → place_of l t ≤ i → (i ≡ place_of l t) ⊎ (i ≡ place_of l t → ⊥)
      here i low = cases_eq i (place_of l t)

  -- once the gate is open the slots change their parts
  open_done : (t : Bool) (turn : Option ℕ) (ks : List Kept) (k : Kept) (d c : Image) → SlotFacts head l t turn ks d → IsFilled l t turn k d → Written (place_of l t) (0xA5 ∷ []) d c
      → Guards (restores head l) (place_of l (not t)) (SlotFacts head l (not t) (Some (turn_after turn))) (is_some turn) (k ∷ []) c
  open_done t turn ks k d c f filled written = record {
    facts = record {
      whole = whole;
      other = subst (λ (b : Bool). IsCurrent (Some (turn_after turn)) (k ∷ []) (c (place_of l b)) (slot_at l b c)) (sym (not_not t))
          (subst (IsCurrent (Some (turn_after turn)) (k ∷ []) (c (place_of l t))) (sym is_new) (refl, turn_after_small turn, inl refl));
    };
    gate_is = gate turn refl;
  }
    where
      whole : first_wrong head 0 c ≡ None
      whole = head_same t d c (gate_within t d c written.1) ∙ f.whole

      is_open : c (place_of l t) ≡ 0xA5
      is_open = let same : place_of l t ≡ place_of l t + 0 = omega arith in ap c same ∙ written.0 0 (omega arith)

      is_new : slot_at l t c ≡ Open (turn_after turn) k
      is_new = filled_slot t turn k d c filled written.1 is_open

      current : IsCurrent turn ks (c (place_of l (not t))) (slot_at l (not t) c)
      current = current_same t turn ks d c (gate_within t d c written.1) f.other

      old_restores : (v : ℕ) → turn ≡ Some v → (e : Image) → Within (place_of l (not t)) 1 c e → IsOneOf (k ∷ []) (restores head l e)
      old_restores v some e within = ⊎_elim opened shut (cases_eq (e (place_of l (not t))) 0xA5)
        where
          e_whole : first_wrong head 0 e ≡ None
          e_whole = head_same (not t) c e (gate_within (not t) c e within) ∙ whole

          still_new : slot_at l t e ≡ Open (turn_after turn) k
          still_new = subst (λ (b : Bool). slot_at l b e ≡ slot_at l b c) (not_not t) (other_same (not t) c e (gate_within (not t) c e within)) ∙ is_new

          by_slots : restores head l e ≡ joined (l.slot1 + 1) t (Open (turn_after turn) k) (slot_at l (not t) e)
          by_slots = from_slots t e e_whole ∙ ap (λ (s : Slot). joined (l.slot1 + 1) t s (slot_at l (not t) e)) still_new

          shut : (e (place_of l (not t)) ≡ 0xA5 → ⊥) → IsOneOf (k ∷ []) (restores head l e)
          shut no_gate = subst (IsOneOf (k ∷ []))
              (sym (by_slots ∙ ap (joined (l.slot1 + 1) t (Open (turn_after turn) k)) (closed_slot l.limit (place_of l (not t)) e no_gate) ∙ joined_alone (l.slot1 + 1) t (turn_after turn) k))
              (inl refl)

          opened : e (place_of l (not t)) ≡ 0xA5 → IsOneOf (k ∷ []) (restores head l e)
          opened gate_open =
              let stood = current_some v ks (c (place_of l (not t))) (slot_at l (not t) c) (subst (λ (o : Option ℕ). IsCurrent o ks (c (place_of l (not t))) (slot_at l (not t) c)) some current) in
              let was_open : c (place_of l (not t)) ≡ 0xA5 = open_gate (not t) c stood.0 stood.1 stood.2 in
              let same : slot_at l (not t) e ≡ slot_at l (not t) c = gate_same (not t) c e within (gate_open ∙ sym was_open) in
              subst (IsOneOf (k ∷ []))
              (sym (by_slots ∙ ap (joined (l.slot1 + 1) t (Open (turn_after turn) k)) same ∙ joined_newer (l.slot1 + 1) t turn ks k (c (place_of l (not t))) (slot_at l (not t) c) current))
              (inl refl)

      gate : (o : Option ℕ) → turn ≡ o → MatchBool (is_some o) ((e : Image) → Within (place_of l (not t)) 1 c e → IsOneOf (k ∷ []) (restores head l e)) (c (place_of l (not t)) ≡ 0xA5 → ⊥)
      gate (Some v) is = old_restores v is
      gate None is = current_none ks (c (place_of l (not t))) (slot_at l (not t) c) (subst (λ (o : Option ℕ). IsCurrent o ks (c (place_of l (not t))) (slot_at l (not t) c)) is current)

  pub swapped : (t : Bool) (turn : Option ℕ) (ks : List Kept) (k : Kept) (s0 s1 : Story) {T E : Type 0} (r : Result T E) (x : T) → r ≡ Ok x → Puts r (place_of l t) (0xA5 ∷ []) s0 s1
      → Stands head l t turn false s0 ks → ((c : Image) → Admits s0 c → IsFilled l t turn k c) → Stands head l (not t) (Some (turn_after turn)) (is_some turn) s1 (k ∷ [])
  swapped t turn ks k s0 s1 r x ok puts stands filled =
      let done = IfOk-at_ok _ ok puts.done in
      λ c admitted. let has = done c admitted in open_done t turn ks k has.0 c (stands has.0 has.1).facts (filled has.0 has.1) has.2
