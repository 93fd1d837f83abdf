-- Registrations that are read one after another.
use Rattle.std.proofs.Common.{◌≡◌, ℕ, zero, suc, ◌+◌, ◌-◌, ◌<◌, ◌≤◌, ◌==◌, Bool, true, false, not, if◌then◌else◌, List, [], ◌∷◌, ◌++◌, drop, Option, Some, refl, sym, ◌∙◌, ap, arith}
use Rattle.std.proofs.lemmas.List.{append-nil}
use Rattle.pr_grammar.specs.Standings.{is_port}
use Rattle.pr_grammar.specs.Files.{listed, checked, first_pair, Listed, Good, Wrong, put_first, is_after}
use Rattle.pr_words.specs.declared.nexus.Nexus.{Nexus}
use Rattle.pr_words.specs.declared.nexus.Pair.{Pair}

-- registrations that were read, before what follows
abbrev pub prefixed : List Pair → Listed → Listed
prefixed [] rest = rest
prefixed (p ∷ ps) rest = put_first p (prefixed ps rest)

pub listed_step : (left : ℕ) (before : Option Nexus) (at : ℕ) (bytes : List ℕ) → 0 < left
    → listed left before at bytes ≡ checked before at (first_pair bytes) (listed (left - 1) (Some (first_pair bytes).nexus) (at + 18) (drop 18 bytes))
listed_step zero before at bytes lt = absurd (omega arith)
listed_step (suc n) before at bytes lt =
    let less : n ≡ suc n - 1 = omega arith in
    ap (λ (m : ℕ). checked before at (first_pair bytes) (listed m (Some (first_pair bytes).nexus) (at + 18) (drop 18 bytes))) less

pub prefixed_wrong : (ps : List Pair) (place : ℕ) → prefixed ps (Wrong place) ≡ Wrong place
prefixed_wrong [] place = refl
prefixed_wrong (p ∷ ps) place = ap (put_first p) (prefixed_wrong ps place)

pub prefixed_good : (ps qs : List Pair) → prefixed ps (Good qs) ≡ Good (ps ++ qs)
prefixed_good [] qs = refl
prefixed_good (p ∷ ps) qs = ap (put_first p) (prefixed_good ps qs)

pub prefixed_push : (ps : List Pair) (p : Pair) (rest : Listed) → prefixed (ps ++ p ∷ []) rest ≡ prefixed ps (put_first p rest)
prefixed_push [] p rest = refl
prefixed_push (q ∷ ps) p rest = ap (put_first q) (prefixed_push ps p rest)

abbrev by_tests : Bool → Bool → Bool → ℕ → Listed → Listed
by_tests port no_key after at good = if not port then Wrong (at + 8) else if no_key then Wrong (at + 10) else if not after then Wrong at else good

module _ (all : Listed) (ps : List Pair) (left : ℕ) (before : Option Nexus) (at : ℕ) (bytes : List ℕ) (lt : 0 < left) (reads : all ≡ prefixed ps (listed left before at bytes)) where
  abbrev tail : Listed
  tail = put_first (first_pair bytes) (listed (left - 1) (Some (first_pair bytes).nexus) (at + 18) (drop 18 bytes))

  to_tests : all ≡ prefixed ps (by_tests (is_port (first_pair bytes).nexus.port) ((first_pair bytes).key.0 == 0) (is_after before (first_pair bytes).nexus) at tail)
  to_tests = reads ∙ ap (prefixed ps) (listed_step left before at bytes lt)

  pub bad_port : is_port (first_pair bytes).nexus.port ≡ false → Wrong (at + 8) ≡ all
  bad_port e = sym (to_tests ∙ ap (λ (b : Bool). prefixed ps (by_tests b ((first_pair bytes).key.0 == 0) (is_after before (first_pair bytes).nexus) at tail)) e ∙ prefixed_wrong ps (at + 8))

  pub bad_key : is_port (first_pair bytes).nexus.port ≡ true → ((first_pair bytes).key.0 == 0) ≡ true → Wrong (at + 10) ≡ all
  bad_key p e = sym (to_tests ∙ ap (λ (b : Bool). prefixed ps (by_tests b ((first_pair bytes).key.0 == 0) (is_after before (first_pair bytes).nexus) at tail)) p
      ∙ ap (λ (b : Bool). prefixed ps (by_tests true b (is_after before (first_pair bytes).nexus) at tail)) e ∙ prefixed_wrong ps (at + 10))

  pub bad_order : is_port (first_pair bytes).nexus.port ≡ true → ((first_pair bytes).key.0 == 0) ≡ false → is_after before (first_pair bytes).nexus ≡ false → Wrong at ≡ all
  bad_order p k e = sym (to_tests ∙ ap (λ (b : Bool). prefixed ps (by_tests b ((first_pair bytes).key.0 == 0) (is_after before (first_pair bytes).nexus) at tail)) p
      ∙ ap (λ (b : Bool). prefixed ps (by_tests true b (is_after before (first_pair bytes).nexus) at tail)) k
      ∙ ap (λ (b : Bool). prefixed ps (by_tests true false b at tail)) e ∙ prefixed_wrong ps at)

  pub good_pair : is_port (first_pair bytes).nexus.port ≡ true → ((first_pair bytes).key.0 == 0) ≡ false → is_after before (first_pair bytes).nexus ≡ true
      → all ≡ prefixed (ps ++ first_pair bytes ∷ []) (listed (left - 1) (Some (first_pair bytes).nexus) (at + 18) (drop 18 bytes))
  good_pair p k e = to_tests ∙ ap (λ (b : Bool). prefixed ps (by_tests b ((first_pair bytes).key.0 == 0) (is_after before (first_pair bytes).nexus) at tail)) p
      ∙ ap (λ (b : Bool). prefixed ps (by_tests true b (is_after before (first_pair bytes).nexus) at tail)) k
      ∙ ap (λ (b : Bool). prefixed ps (by_tests true false b at tail)) e ∙ sym (prefixed_push ps (first_pair bytes) (listed (left - 1) (Some (first_pair bytes).nexus) (at + 18) (drop 18 bytes)))

  pub good_pair_as : (q : Pair) (items : List Pair) (rest : List ℕ) → q ≡ first_pair bytes → items ≡ ps ++ q ∷ [] → rest ≡ drop 18 bytes
      → is_port (first_pair bytes).nexus.port ≡ true → ((first_pair bytes).key.0 == 0) ≡ false → is_after before (first_pair bytes).nexus ≡ true
      → all ≡ prefixed items (listed (left - 1) (Some q.nexus) (at + 18) rest)
  good_pair_as q items rest is pushed behind p k e =
      good_pair p k e
      ∙ ap (λ (x : Pair). prefixed (ps ++ x ∷ []) (listed (left - 1) (Some x.nexus) (at + 18) (drop 18 bytes))) (sym is)
      ∙ ap (λ (l : List Pair). prefixed l (listed (left - 1) (Some q.nexus) (at + 18) (drop 18 bytes))) (sym pushed)
      ∙ ap (λ (l : List ℕ). prefixed items (listed (left - 1) (Some q.nexus) (at + 18) l)) (sym behind)

pub all_read : (all : Listed) (ps : List Pair) (left : ℕ) (before : Option Nexus) (at : ℕ) (bytes : List ℕ) → left ≤ 0 → all ≡ prefixed ps (listed left before at bytes) → Good ps ≡ all
all_read all ps zero before at bytes le reads = sym (reads ∙ prefixed_good ps [] ∙ ap (λ (l : List Pair). Good l) (append-nil ps))
all_read all ps (suc n) before at bytes le reads = absurd (omega arith)
