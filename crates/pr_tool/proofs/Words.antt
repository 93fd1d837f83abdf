-- Words of a command line.
use Rattle.std.proofs.Common.{◌≡◌, ◌≤◌, ◌<◌, ℕ, List, [], ◌∷◌, length, map, sym, ap, ◌∙◌, arith}
use Rattle.std.specs.Prelude.{slice_index_or}
use Rattle.std.specs.Borrow.{Bor}

pub two_words : (words : List (Bor (List ℕ))) (d e : Bor (List ℕ)) (first second : List ℕ) → 2 ≤ length words → length words < 3
    → (slice_index_or words 0 d).now ≡ first → second ≡ (slice_index_or words 1 e).now → map (λ (w : Bor (List ℕ)). w.now) words ≡ first ∷ second ∷ []
two_words [] d e first second some few is was = absurd (omega (arith, some))
two_words (v ∷ []) d e first second some few is was = absurd (omega (arith, some))
two_words (v ∷ w ∷ []) d e first second some few is was = ap (λ (x : List ℕ). x ∷ w.now ∷ []) is ∙ ap (λ (x : List ℕ). first ∷ x ∷ []) (sym was)
two_words (v ∷ w ∷ x ∷ words) d e first second some few is was = absurd (omega (arith, few))

pub second_word : (a b c d : List ℕ) → a ∷ b ∷ [] ≡ c ∷ d ∷ [] → b ≡ d
second_word a b c d is = cc
