-- A queue in the front of a list: one more at its end, one less at its front.
use Rattle.std.proofs.Common.{◌≡◌, ℕ, zero, suc, ◌+◌, ◌-◌, ◌≤◌, List, ◌++◌, length, take, drop, refl, sym, ◌∙◌, arith}
use Rattle.std.proofs.lemmas.List.{take-append-le, drop-take, length-drop}

moved_up : {X : Type 0} (xs : List X) (m : ℕ) → suc m ≤ length xs → take m (drop 1 xs ++ take 1 xs) ≡ drop 1 (take (1 + m) xs)
moved_up xs m le = take-append-le m (drop 1 xs) (take 1 xs) (omega (arith, length-drop 1 xs)) ∙ sym (drop-take 1 m xs)

pub one_less : {X : Type 0} (xs : List X) (n : ℕ) → (n ≡ 0 → ⊥) → n ≤ length xs → take (n - 1) (drop 1 xs ++ take 1 xs) ≡ drop 1 (take n xs)
one_less xs zero some le = absurd (some refl)
one_less xs (suc m) some le =
    let e : suc m - 1 ≡ m = omega arith in
    let f : suc m ≡ 1 + m = omega arith in
    rw (e, f) (moved_up xs m le)
