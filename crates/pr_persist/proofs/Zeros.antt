-- Digits without the zeros before them.
use Rattle.std.proofs.Common.{◌≡◌, ◌∙◌, ◌+◌, ◌<◌, ◌==◌, ℕ, suc, true, false, List, [], ◌∷◌, length, drop, get_or, ap, sym, refl, arith, add-one}
use Rattle.std.proofs.Math.Seq.{drop-cons}
use Rattle.std.proofs.lemmas.List.{drop_all}
use Rattle.pr_persist.specs.Texts.{without_zeros}

pub at_zero : (d e : ℕ) (rest : List ℕ) → (d == 48) ≡ true → without_zeros (e ∷ rest) ≡ without_zeros (d ∷ e ∷ rest)
at_zero d e rest is = rw is refl

-- a zero that isn't the last digit goes
pub skipped : (ds : List ℕ) (at : ℕ) → at + 1 < length ds → (get_or ds at 0 == 48) ≡ true → without_zeros (drop (at + 1) ds) ≡ without_zeros (drop at ds)
skipped ds at more zero =
    let two : drop at ds ≡ get_or ds at 0 ∷ drop (suc at) ds = drop-cons ds at 0 (omega arith) in
    let one : drop (suc at) ds ≡ get_or ds (suc at) 0 ∷ drop (suc (suc at)) ds = drop-cons ds (suc at) 0 (omega arith) in
    ap (λ (n : ℕ). without_zeros (drop n ds)) (add-one at) ∙ ap without_zeros one ∙ at_zero (get_or ds at 0) (get_or ds (suc at) 0) (drop (suc (suc at)) ds) zero
    ∙ ap (λ (w : List ℕ). without_zeros (get_or ds at 0 ∷ w)) (sym one) ∙ ap without_zeros (sym two)

at_digit : (d : ℕ) (rest : List ℕ) → (d == 48) ≡ false → d ∷ rest ≡ without_zeros (d ∷ rest)
at_digit d [] is = refl
at_digit d (e ∷ rest) is = rw is refl

-- another digit stays
pub stays : (ds : List ℕ) (at : ℕ) → at < length ds → (get_or ds at 0 == 48) ≡ false → drop at ds ≡ without_zeros (drop at ds)
stays ds at less other =
    let two : drop at ds ≡ get_or ds at 0 ∷ drop (suc at) ds = drop-cons ds at 0 less in
    two ∙ at_digit (get_or ds at 0) (drop (suc at) ds) other ∙ ap without_zeros (sym two)

-- and so does the last
pub last_stays : (ds : List ℕ) (at : ℕ) → at + 1 ≡ length ds → drop at ds ≡ without_zeros (drop at ds)
last_stays ds at last =
    let two : drop at ds ≡ get_or ds at 0 ∷ drop (suc at) ds = drop-cons ds at 0 (omega (arith, last)) in
    let none : drop (suc at) ds ≡ [] = drop_all (suc at) ds (omega (arith, last)) in
    two ∙ ap (λ (w : List ℕ). get_or ds at 0 ∷ w) none ∙ ap without_zeros (ap (λ (w : List ℕ). get_or ds at 0 ∷ w) (sym none) ∙ sym two)
