-- A frame that is read in parts is the frame at the front.
use Rattle.std.proofs.Common.{◌≡◌, ℕ, ◌+◌, ◌-◌, ◌≤◌, List, ◌++◌, length, drop, take, sym, ap, ◌∙◌, arith, subst, Result}
use Rattle.std.proofs.Math.Seq.{take-add}
use Rattle.std.proofs.lemmas.List.{take_at, length-take, length-drop, drop-drop}
use Rattle.pr_words.specs.declared.nexus.Side.{Side}
use Rattle.pr_grammar.specs.Frames.{checked}
use Rattle.pr_link.specs.declared.frame.Frame.{Frame}
use Rattle.pr_link.specs.Streams.{Checks}

pub in_parts : (side : Side) (xs : List ℕ) (len k : ℕ) (head body tail left : List ℕ) (found : Result Frame ℕ) → k ≡ len - 8 → 8 ≤ len → 4 + len ≤ length xs
    → head ≡ take 8 (drop 4 xs) → body ≡ take k (drop 8 (drop 4 xs)) → left ≡ drop k (drop 8 (drop 4 xs))
    → ((rest : List ℕ) → Checks side (checked side (head ++ take (len - 8) (body ++ tail)) rest) found rest (body ++ tail))
    → Checks side (checked side (take len (drop 4 xs)) (drop (4 + len) xs)) found left (body ++ tail)
in_parts side xs len k head body tail left found same long whole is_head is_body is_left checks =
    let ys : List ℕ = drop 4 xs in
    let size : length (drop 8 ys) ≡ length xs - 12 = omega (arith, length-drop 8 ys, length-drop 4 xs) in
    let body_size : length body ≡ len - 8 = omega (arith, ap length is_body, length-take k (drop 8 ys), size, same) in
    let sum : len ≡ 8 + k = omega arith in
    let content : take len ys ≡ head ++ take (len - 8) (body ++ tail) =
    ap (λ (n : ℕ). take n ys) sum ∙ take-add 8 k ys ∙ ap (λ (w : List ℕ). w ++ take k (drop 8 ys)) (sym is_head) ∙ ap (λ (w : List ℕ). head ++ w) (sym is_body ∙ sym (take_at body tail (len - 8) body_size)) in
    let rest : left ≡ drop (4 + len) xs =
    is_left ∙ drop-drop k 8 ys ∙ drop-drop (8 + k) 4 xs ∙ ap (λ (n : ℕ). drop (4 + n) xs) (sym sum) in
    let P : List ℕ → List ℕ → Type 0 = λ c r. Checks side (checked side c r) found left (body ++ tail) in
    let at_left : P (head ++ take (len - 8) (body ++ tail)) left = checks left in
    subst (λ (r : List ℕ). P (take len ys) r) rest (subst (λ (c : List ℕ). P c left) (sym content) at_left)
