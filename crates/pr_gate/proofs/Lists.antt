-- Sums over the views, beginnings of lists, and the entries that name a number.
use Rattle.std.proofs.Common.{◌≡◌, ℕ, zero, suc, ◌+◌, ◌<◌, ◌≤◌, Bool, true, false, eqb, ltb, ltb-true, List, [], ◌∷◌, ◌++◌, length, set, sym, refl, ap, ◌∙◌, subst, arith, cond, ◌⊎◌, inl, inr, ⊎_elim}
use mathlib.Core.Option.{some, some-injective, some-ne-none}
use mathlib.Core.List.{IsPrefix}
use lib.ListN.{get_elem?}
use Rattle.std.proofs.lemmas.List.{append-nil, append_assoc, length-append}
use Rattle.std.proofs.lemmas.Bool.{eq-eqb, ne_eqb}
use Rattle.std.proofs.lemmas.List.Elements.{filter-append, All-nil, All-cons, All-head, All-tail, All-push, All-weaker}
use Rattle.pr_gate.specs.declared.view.View.{View}
use Rattle.pr_gate.specs.Entries.{own, NamesBelow, longer}
use Rattle.pr_gate.specs.Rules.{permit, permits, one_if, passes}

module _ {E G : Type 0} where
  pub permits-set : (l : List (View E G)) (i : ℕ) (v w : View E G) → get_elem? l i ≡ some v → permits (set l i w) + permit v.stage ≡ permits l + permit w.stage
  permits-set [] i v w e = absurd (some-ne-none v (sym e))
  permits-set (x ∷ xs) zero v w e = let is : permit x.stage ≡ permit v.stage = ap (λ (m : View E G). permit m.stage) (some-injective x v e) in omega arith
  permits-set (x ∷ xs) (suc i) v w e = let r = permits-set xs i v w e in omega arith

  pub passes-set : (l : List (View E G)) (i : ℕ) (v w : View E G) → get_elem? l i ≡ some v → passes (set l i w) + one_if v.number ≡ passes l + one_if w.number
  passes-set [] i v w e = absurd (some-ne-none v (sym e))
  passes-set (x ∷ xs) zero v w e = let is : one_if x.number ≡ one_if v.number = ap (λ (m : View E G). one_if m.number) (some-injective x v e) in omega arith
  passes-set (x ∷ xs) (suc i) v w e = let r = passes-set xs i v w e in omega arith

  pub permits-snoc : (l : List (View E G)) (w : View E G) → permits (l ++ w ∷ []) ≡ permits l + permit w.stage
  permits-snoc [] w = omega arith
  permits-snoc (x ∷ xs) w = let r = permits-snoc xs w in omega arith

  pub passes-snoc : (l : List (View E G)) (w : View E G) → passes (l ++ w ∷ []) ≡ passes l + one_if w.number
  passes-snoc [] w = omega arith
  passes-snoc (x ∷ xs) w = let r = passes-snoc xs w in omega arith

module _ {E : Type 0} where
  nil_of : (xs : List E) → length xs ≡ 0 → xs ≡ []
  nil_of [] e = refl
  nil_of (x ∷ xs) e = absurd (omega arith)

  abbrev tail_of : List E → List E
  tail_of [] = []
  tail_of (x ∷ xs) = xs

  abbrev head_of : E → List E → E
  head_of d [] = d
  head_of d (x ∷ xs) = x

  pub prefix-refl : (xs : List E) → IsPrefix xs xs
  prefix-refl xs = ([], append-nil xs)

  pub prefix-longer : (xs ys zs : List E) → IsPrefix xs ys → IsPrefix xs (ys ++ zs)
  prefix-longer xs ys zs p = (p.0 ++ zs, sym (append_assoc xs p.0 zs) ∙ ap (λ w. w ++ zs) p.1)

  pub prefix_length : (xs ys : List E) → IsPrefix xs ys → length xs ≤ length ys
  prefix_length xs ys p = let l = ap length p.1 in omega (arith, length-append xs p.0)

  -- of two beginnings of one list the shorter begins the longer
  pub prefix_both : (xs ys zs : List E) → IsPrefix xs zs → IsPrefix ys zs → length xs ≤ length ys → IsPrefix xs ys
  prefix_both [] ys zs p q le = (ys, refl)
  prefix_both (x ∷ xs) [] zs p q le = absurd (omega arith)
  prefix_both (x ∷ xs) (y ∷ ys) [] p q le = let l = ap length p.1 in absurd (omega arith)
  prefix_both (x ∷ xs) (y ∷ ys) (z ∷ zs) p q le =
      let r = prefix_both xs ys zs (p.0, ap tail_of p.1) (q.0, ap tail_of q.1) (omega arith) in
      let same : x ≡ y = ap (head_of x) p.1 ∙ sym (ap (head_of x) q.1) in
      (r.0, λ i. same i ∷ r.1 i)

  longer_by : (xs ys : List E) (b : Bool) → ltb (length xs) (length ys) ≡ b → length (cond b ys xs) ≡ length xs → cond b ys xs ≡ xs
  longer_by xs ys true is e = let lt = ltb-true _ _ is in absurd (omega arith)
  longer_by xs ys false is e = refl

  -- the longer of two lists is the first, where it is no longer than that
  pub longer_same : (xs ys : List E) → length (longer xs ys) ≡ length xs → longer xs ys ≡ xs
  longer_same xs ys e = longer_by xs ys (ltb (length xs) (length ys)) refl e

  module _ (number : E → ℕ) where
    pub own-append : (n : ℕ) (xs ys : List E) → own number n (xs ++ ys) ≡ own number n xs ++ own number n ys
    own-append n xs ys = filter-append (λ e. eqb (number e) n) xs ys

    pub own-other : (n : ℕ) (xs : List E) (e : E) → (number e ≡ n → ⊥) → own number n (xs ++ e ∷ []) ≡ own number n xs
    own-other n xs e ne = own-append n xs (e ∷ []) ∙ (ap (λ b. own number n xs ++ cond b (e ∷ []) []) (ne_eqb (number e) n ne) ∙ append-nil (own number n xs))

    pub own-mine : (n : ℕ) (xs : List E) (e : E) → number e ≡ n → own number n (xs ++ e ∷ []) ≡ own number n xs ++ e ∷ []
    own-mine n xs e is = own-append n xs (e ∷ []) ∙ ap (λ b. own number n xs ++ cond b (e ∷ []) []) (eq-eqb (number e) n is)

    pub below-more : (a b : ℕ) (xs : List E) → a ≤ b → NamesBelow number a xs → NamesBelow number b xs
    below-more a b xs le h = All-weaker (λ e. number e < a) (λ e. number e < b) (λ e lt. omega arith) xs h

    pub below-front : (a : ℕ) (xs ys : List E) → NamesBelow number a (xs ++ ys) → NamesBelow number a xs
    below-front a [] ys h = All-nil (λ e. number e < a)
    below-front a (x ∷ xs) ys h = All-cons (λ e. number e < a) x xs (All-head (λ e. number e < a) x (xs ++ ys) h) (below-front a xs ys (All-tail (λ e. number e < a) x (xs ++ ys) h))

    pub below-prefix : (a : ℕ) (xs ys : List E) → IsPrefix xs ys → NamesBelow number a ys → NamesBelow number a xs
    below-prefix a xs ys p h = below-front a xs p.0 (subst (NamesBelow number a) (sym p.1) h)

    pub below-snoc : (a : ℕ) (xs : List E) (e : E) → number e < a → NamesBelow number a xs → NamesBelow number a (xs ++ e ∷ [])
    below-snoc a xs e lt h = All-push (λ e. number e < a) xs e h lt

    -- a number that is not given yet has no entry
    pub own-none : (n : ℕ) (xs : List E) → NamesBelow number n xs → own number n xs ≡ []
    own-none n [] h = refl
    own-none n (x ∷ xs) h = let lt : number x < n = All-head (λ e. number e < n) x xs h in rw (ne_eqb (number x) n (λ e. omega arith)) (own-none n xs (All-tail (λ e. number e < n) x xs h))

    pub own-between : (n : ℕ) (xs ys zs mine : List E) → IsPrefix xs ys → IsPrefix ys zs → own number n xs ≡ mine → own number n zs ≡ mine → own number n ys ≡ mine
    own-between n xs ys zs mine p q front whole =
        let a : own number n xs ++ own number n p.0 ≡ own number n ys = sym (own-append n xs p.0) ∙ ap (own number n) p.1 in
        let b : own number n ys ++ own number n q.0 ≡ own number n zs = sym (own-append n ys q.0) ∙ ap (own number n) q.1 in
        let same : own number n zs ≡ own number n xs = whole ∙ sym front in
        let la = length-append (own number n xs) (own number n p.0) in
        let lb = length-append (own number n ys) (own number n q.0) in
        let a' = ap length a in let b' = ap length b in let c' = ap length same in
        let none_more : own number n q.0 ≡ [] = nil_of (own number n q.0) (omega arith) in
        sym (append-nil (own number n ys)) ∙ (ap (λ z. own number n ys ++ z) (sym none_more) ∙ (b ∙ whole))

module _ {A : Type 0} where
  pub at_snoc_place : (l : List A) (a b : A) (j : ℕ) → get_elem? (l ++ a ∷ []) j ≡ some b → (get_elem? l j ≡ some b) ⊎ ((j ≡ length l) × (a ≡ b))
  at_snoc_place [] a b zero e = inr (refl, some-injective a b e)
  at_snoc_place [] a b (suc j) e = absurd (some-ne-none b (sym e))
  at_snoc_place (x ∷ xs) a b zero e = inl e
  at_snoc_place (x ∷ xs) a b (suc j) e = ⊎_elim inl (λ t. inr (ap suc t.0, t.1)) (at_snoc_place xs a b j e)
