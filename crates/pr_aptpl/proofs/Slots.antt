-- What changes of an image do to what it restores.
use Rattle.std.proofs.Common.{◌≡◌, inl, inr, ℕ, zero, suc, ◌+◌, ◌<◌, ◌≤◌, Bool, true, false, not, if◌then◌else◌, List, [], ◌∷◌, ◌++◌, length, Option, Some, None, refl, sym, ◌∙◌, ap, arith}
use Rattle.std.proofs.lemmas.Bool.{ne_eqb}
use Rattle.pr_io.specs.Images.{Image, Within}
use Rattle.pr_grammar.specs.Standings.{Kept, Nothing}
use Rattle.pr_grammar.specs.Files.{cut, Slot, Closed, Open, Broken, Restoration, Keeps, Bad, slot, opened, both, next_turn, part, slot_at, first_wrong, slot_size}
use Rattle.pr_model.specs.Keeping.{IsIn}
use Rattle.pr_model.specs.Stamps.{IsOneOf}
use Rattle.pr_aptpl.specs.Slots.{IsCurrent, turn_after}
use Rattle.pr_grammar.specs.declared.file.FileLayout.{FileLayout}

pub cut_same : (n at : ℕ) (c d : Image) → ((i : ℕ) → at ≤ i → i < at + n → c i ≡ d i) → cut c at n ≡ cut d at n
unfolding cut
cut_same zero at c d same = refl
cut_same (suc n) at c d same =
    let here : c at ≡ d at = same at (omega arith) (omega arith) in
    let rest : cut c (at + 1) n ≡ cut d (at + 1) n = cut_same n (at + 1) c d (λ i low high. same i (omega arith) (omega arith)) in
    cc

pub wrong_same : (head : List ℕ) (at : ℕ) (c d : Image) → ((i : ℕ) → i < at + length head → c i ≡ d i) → first_wrong head at c ≡ first_wrong head at d
wrong_same [] at c d same = refl
wrong_same (b ∷ bs) at c d same =
    let here : c at ≡ d at = same at (omega arith) in
    let rest : first_wrong bs (at + 1) c ≡ first_wrong bs (at + 1) d = wrong_same bs (at + 1) c d (λ i lt. same i (omega arith)) in
    cc

-- the slot that is written next, and then the other
abbrev pub joined : ℕ → Bool → Slot → Slot → Restoration
joined place false a b = both place a b
joined place true a b = both place b a

pub part_joined : (l : FileLayout) (t : Bool) (c : Image) → part l c ≡ joined (l.slot1 + 1) t (slot_at l t c) (slot_at l (not t) c)
part_joined l false c = refl
part_joined l true c = refl

-- with the next slot closed the current one counts
pub joined_closed : (place : ℕ) (t : Bool) (turn : Option ℕ) (ks : List Kept) (g : ℕ) (s : Slot) → IsCurrent turn ks g s → IsOneOf ks (joined place t Closed s)
joined_closed place false None ks g Closed is = is.0
joined_closed place true None ks g Closed is = is.0
joined_closed place t None ks g (Open u k) is = absurd is
joined_closed place t None ks g (Broken p) is = absurd is
joined_closed place t (Some v) ks g Closed is = absurd is
joined_closed place false (Some v) ks g (Open u k) is = is.2
joined_closed place true (Some v) ks g (Open u k) is = is.2
joined_closed place t (Some v) ks g (Broken p) is = absurd is

newer_first : (place u : ℕ) (k l : Kept) → u < 3 → both place (Open (next_turn u) k) (Open u l) ≡ Keeps k
newer_first place zero k l lt = refl
newer_first place (suc zero) k l lt = refl
newer_first place (suc (suc zero)) k l lt = refl
newer_first place (suc (suc (suc n))) k l lt = absurd (omega arith)

newer_second : (place u : ℕ) (k l : Kept) → u < 3 → both place (Open u l) (Open (next_turn u) k) ≡ Keeps k
newer_second place zero k l lt = refl
newer_second place (suc zero) k l lt = refl
newer_second place (suc (suc zero)) k l lt = refl
newer_second place (suc (suc (suc n))) k l lt = absurd (omega arith)

-- with the next slot open, with the turn after the current one's, it counts
pub joined_newer : (place : ℕ) (t : Bool) (turn : Option ℕ) (ks : List Kept) (k : Kept) (g : ℕ) (s : Slot) → IsCurrent turn ks g s → joined place t (Open (turn_after turn) k) s ≡ Keeps k
joined_newer place false None ks k g Closed is = refl
joined_newer place true None ks k g Closed is = refl
joined_newer place t None ks k g (Open u l) is = absurd is
joined_newer place t None ks k g (Broken p) is = absurd is
joined_newer place t (Some v) ks k g Closed is = absurd is
joined_newer place false (Some v) ks k g (Open u l) is = ap (λ (n : ℕ). both place (Open (next_turn n) k) (Open u l)) (sym is.0) ∙ newer_first place u k l is.1
joined_newer place true (Some v) ks k g (Open u l) is = ap (λ (n : ℕ). both place (Open u l) (Open (next_turn n) k)) (sym is.0) ∙ newer_second place u k l is.1
joined_newer place t (Some v) ks k g (Broken p) is = absurd is

-- a gate that isn't open
pub closed_slot : (limit at : ℕ) (c : Image) → (c at ≡ 0xA5 → ⊥) → slot limit at (cut c at (slot_size limit)) ≡ Closed
unfolding cut slot
closed_slot limit at c shut = ap (λ (b : Bool). if b then opened limit at (cut c at (slot_size limit)) else Closed) (ne_eqb (c at) 0xA5 shut)

pub joined_alone : (place : ℕ) (t : Bool) (u : ℕ) (k : Kept) → joined place t (Open u k) Closed ≡ Keeps k
joined_alone place false u k = refl
joined_alone place true u k = refl

pub joined_not : (place : ℕ) (t : Bool) (a b : Slot) → joined place (not t) a b ≡ joined place t b a
joined_not place false a b = refl
joined_not place true a b = refl

pub not_not : (t : Bool) → not (not t) ≡ t
not_not false = refl
not_not true = refl

pub turn_after_small : (turn : Option ℕ) → turn_after turn < 3
turn_after_small None = omega arith
turn_after_small (Some zero) = omega arith
turn_after_small (Some (suc zero)) = omega arith
turn_after_small (Some (suc (suc n))) = omega arith

pub within_more : (at n place m : ℕ) (c d : Image) → place ≤ at → at + n ≤ place + m → Within at n c d → Within place m c d
within_more at n place m c d low high within i (inl below) = within i (inl (omega arith))
within_more at n place m c d low high within i (inr above) = within i (inr (omega arith))

pub in_first : (ks : List Kept) (k : Kept) (r : Restoration) → IsOneOf ks r → IsOneOf (ks ++ k ∷ []) r
in_first ks k (Bad p) is = absurd is
in_first ks k (Keeps x) is = more ks is
  where
    more : (ks : List Kept) → IsIn ks x → IsIn (ks ++ k ∷ []) x
    more [] is = absurd is
    more (y ∷ ys) (inl here) = inl here
    more (y ∷ ys) (inr there) = inr (more ys there)

pub in_last : (ks : List Kept) (k : Kept) → IsIn (ks ++ k ∷ []) k
in_last [] k = inl refl
in_last (y ∷ ys) k = inr (in_last ys k)

pub current_more : (turn : Option ℕ) (ks : List Kept) (k : Kept) (g : ℕ) (s : Slot) → IsCurrent turn ks g s → IsCurrent turn (ks ++ k ∷ []) g s
current_more None ks k g Closed is = (in_first ks k (Keeps Nothing) is.0, is.1)
current_more None ks k g (Open u x) is = absurd is
current_more None ks k g (Broken p) is = absurd is
current_more (Some v) ks k g Closed is = absurd is
current_more (Some v) ks k g (Open u x) is = (is.0, is.1, in_first ks k (Keeps x) is.2)
current_more (Some v) ks k g (Broken p) is = absurd is

pub current_none : (ks : List Kept) (g : ℕ) (s : Slot) → IsCurrent None ks g s → g ≡ 0xA5 → ⊥
current_none ks g Closed is = is.1
current_none ks g (Open u x) is = absurd is
current_none ks g (Broken p) is = absurd is

pub current_some : (v : ℕ) (ks : List Kept) (g : ℕ) (s : Slot) → IsCurrent (Some v) ks g s → (u : ℕ) × (x : Kept) × (s ≡ Open u x)
current_some v ks g Closed is = absurd is
current_some v ks g (Open u x) is = (u, x, refl)
current_some v ks g (Broken p) is = absurd is
