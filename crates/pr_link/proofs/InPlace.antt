-- A frame that is written before data which stands in the buffer already.
use Rattle.std.proofs.Common.{◌≡◌, ℕ, ◌+◌, ◌≤◌, List, ◌++◌, length, take, drop, sym, ap, ◌∙◌, arith, append_assoc}
use Rattle.std.proofs.lemmas.List.{take_at, length-append, length-take, take-append-drop}

-- a head and the first bytes behind it, which make a frame, are the first bytes of the buffer
pub in_place : (head tail made : List ℕ) (n len : ℕ) → head ++ take len tail ≡ made → len ≤ length tail → n ≡ length head + len → take n (head ++ tail) ≡ made
in_place head tail made n len is within size =
    let more : List ℕ = drop len tail in
    let parts : head ++ tail ≡ made ++ more =
    ap (λ (w : List ℕ). head ++ w) (sym (take-append-drop len tail)) ∙ sym (append_assoc head (take len tail) more) ∙ ap (λ (w : List ℕ). w ++ more) is in
    let count : n ≡ length made = omega (arith, size, ap length is, length-append head (take len tail), length-take len tail, within) in
    ap (λ (w : List ℕ). take n w) parts ∙ take_at made more n (sym count)
