-- Bytes of a reader that are read ahead and then given.
use Rattle.std.proofs.Common.{◌≡◌, ◌≤◌, ℕ, ◌+◌, ◌-◌, List, [], ◌++◌, length, take, drop, Option, Some, None, Result, Ok, Err, refl, sym, ap, ◌∙◌, append_assoc, arith, slice_range}
use Rattle.std.specs.Io.KnownBytes.{Consumes, Keeps, ReadConsumes, prepend_known}
use Rattle.std.specs.Prelude.{IsErr}
use Rattle.std.proofs.lemmas.List.{take_at, length-take, length-drop, take-append-drop, drop-take, drop-drop}
use Rattle.pr_io.specs.Ahead.{left_of}
use Rattle.pr_io.specs.declared.outside.Failed.{Failed}

-- what is held is given, and the reader stays
pub given : (r : Option (List ℕ)) (a b p : List ℕ) → a ≡ p ++ b → Consumes (prepend_known a r) (prepend_known b r) p
given None a b p e = tt
given (Some r) a b p e = ap (λ (w : List ℕ). w ++ r) e ∙ append_assoc p b r

-- what was read ahead is given
pub given_ahead : (r s : Option (List ℕ)) (a b p : List ℕ) → Consumes r s a → a ≡ p ++ b → Consumes (prepend_known [] r) (prepend_known b s) p
given_ahead None s a b p c e = tt
given_ahead (Some r) None a b p c e = absurd c
given_ahead (Some r) (Some s) a b p c e = c ∙ ap (λ (w : List ℕ). w ++ s) e ∙ append_assoc p b s

-- nothing stands between a place and an earlier one
pub none_between : (xs : List ℕ) (i j : ℕ) → j ≤ i → slice_range xs i j ≡ []
none_between xs i j le =
    let none : j - i ≡ 0 = omega (arith, le) in
    ap (λ (w : ℕ). take w (drop i xs)) none

none_held : (xs : List ℕ) (i j : ℕ) (r : Option (List ℕ)) → j ≤ i → left_of xs i j r ≡ r
none_held xs i j None le = refl
none_held xs i j (Some r) le = ap (λ (w : List ℕ). Some (w ++ r)) (none_between xs i j le)

-- a read straight into the caller's buffer
pub direct : (xs : List ℕ) (i j : ℕ) (r s : Option (List ℕ)) (result : Result ℕ Failed) (buf : List ℕ) → j ≤ i → ReadConsumes r s result buf → ReadConsumes (left_of xs i j r) (left_of xs i j s) result buf
direct xs i j r s result buf le h = rw (none_held xs i j r le, none_held xs i j s le) h

-- a read ahead that failed
pub failed : (xs ys : List ℕ) (i j k l : ℕ) (r s : Option (List ℕ)) (result : Result ℕ Failed) (buf : List ℕ) → IsErr result → j ≤ i → l ≤ k → Keeps r s → ReadConsumes (left_of xs i j r) (left_of ys k l s) result buf
failed xs ys i j k l r s (Ok n) buf e le le2 h = absurd cc
failed xs ys i j k l r s (Err x) buf e le le2 h = rw (none_held xs i j r le, none_held ys k l s le2) h

-- a front of what is held is copied into a buffer, and the rest stays held
pub held_copied : (b : List ℕ) (at to n : ℕ) (x y : List ℕ) → at ≤ to → to ≤ length b → n ≤ to - at → x ≡ take n (take (to - at) (drop at b)) → slice_range b at to ≡ take n (x ++ y) ++ slice_range b (at + n) to
held_copied b at to n x y within stop le e =
    let held : List ℕ = take (to - at) (drop at b) in
    let size : length x ≡ n = omega (arith, ap length e, length-take n (take (to - at) (drop at b)), length-take (to - at) (drop at b), length-drop at b, within, stop, le) in
    let sum : to - at ≡ n + (to - (at + n)) = omega (arith, within, le) in
    let rest : drop n held ≡ slice_range b (at + n) to =
    ap (λ (w : ℕ). drop n (take w (drop at b))) sum ∙ drop-take n (to - (at + n)) (drop at b) ∙ ap (λ (w : List ℕ). take (to - (at + n)) w) (drop-drop n at b) in
    rw (take_at x y n size, e) (sym (ap (λ (w : List ℕ). take n held ++ w) (sym rest) ∙ take-append-drop n held))
