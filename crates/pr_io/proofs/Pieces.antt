-- Bytes that move in several pieces.
use Rattle.std.proofs.Common.{◌≡◌, ◌≤◌, ℕ, ◌+◌, ◌-◌, List, ◌++◌, [], length, take, drop, Option, Some, None, refl, sym, ap, ◌∙◌, append_assoc, arith, subst}
use Rattle.std.proofs.Math.Seq.{take-add}
use Rattle.std.proofs.lemmas.List.{take_at, drop_at, take_all, append-nil, take-append-drop, drop-drop, length-take, length-drop, length-append, take-append-le}
use borrow.Rule.Slice.PartMut.{put_mid, post_of}
use Rattle.pr_io.specs.Streams.{Put, Took}

pub put_nothing : (a : Option (List ℕ)) → Put a a []
put_nothing None = refl
put_nothing (Some a) = sym (append-nil a)

pub took_nothing : (a : Option (List ℕ)) → Took a a []
took_nothing None = refl
took_nothing (Some a) = refl

pub put_more : (a b c : Option (List ℕ)) (xs ys : List ℕ) → Put a b xs → Put b c ys → Put a c (xs ++ ys)
put_more None None c xs ys p q = q
put_more None (Some b) c xs ys p q = absurd cc
put_more (Some a) None c xs ys p q = absurd p
put_more (Some a) (Some b) None xs ys p q = absurd q
put_more (Some a) (Some b) (Some c) xs ys p q = q ∙ ap (λ (w : List ℕ). w ++ ys) p ∙ append_assoc a xs ys

pub took_more : (a b c : Option (List ℕ)) (xs ys : List ℕ) → Took a b xs → Took b c ys → Took a c (xs ++ ys)
took_more None None c xs ys p q = q
took_more None (Some b) c xs ys p q = absurd cc
took_more (Some a) None c xs ys p q = absurd p
took_more (Some a) (Some b) None xs ys p q = absurd q
took_more (Some a) (Some b) (Some c) xs ys p q = p ∙ ap (λ (w : List ℕ). xs ++ w) q ∙ sym (append_assoc xs ys c)

-- a front of what is left was copied into a buffer, and the rest stays
pub took_copied : (b : List ℕ) (at n len : ℕ) (x y : List ℕ) → at ≤ length b → n ≤ len - at → len ≡ length b → x ≡ take n (take (len - at) (drop at b)) → drop at b ≡ take n (x ++ y) ++ drop (at + n) b
took_copied b at n len x y within le same e =
    let whole : take (len - at) (drop at b) ≡ drop at b = take_all (len - at) (drop at b) (omega (arith, length-drop at b)) in
    let front : x ≡ take n (drop at b) = e ∙ ap (λ (w : List ℕ). take n w) whole in
    let size : length x ≡ n = omega (arith, ap length front, length-take n (drop at b), length-drop at b) in
    rw (take_at x y n size, front) (sym (ap (λ (w : List ℕ). take n (drop at b) ++ w) (sym (drop-drop n at b)) ∙ take-append-drop n (drop at b)))

-- the next n bytes after a front
pub put_front : (a b c : Option (List ℕ)) (xs : List ℕ) (at n : ℕ) → Put a b (take at xs) → Put b c (take n (take (length xs - at) (drop at xs))) → at ≤ length xs → Put a c (take (at + n) xs)
put_front a b c xs at n p q le =
    let whole : take (length xs - at) (drop at xs) ≡ drop at xs = take_all (length xs - at) (drop at xs) (omega (arith, length-drop at xs)) in
    rw take-add (put_more a b c (take at xs) (take n (drop at xs)) p (subst (λ (w : List ℕ). Put b c (take n w)) whole q))

-- a buffer whose first bytes stay, while the next are written
pub took_front : (a b c : Option (List ℕ)) (old piece : List ℕ) (at n : ℕ) → Took a b (take at old) → Took b c (take n piece) → at ≤ length old → Took a c (take (at + n) (take at old ++ piece))
took_front a b c old piece at n p q le =
    let size : length (take at old) ≡ at = omega (arith, length-take at old) in
    let parts : take (at + n) (take at old ++ piece) ≡ take at old ++ take n piece =
    take-add at n (take at old ++ piece) ∙ ap (λ (w : List ℕ). w ++ take n (drop at (take at old ++ piece))) (take_at (take at old) piece at size) ∙ ap (λ (w : List ℕ). take at old ++ take n w) (drop_at (take at old) piece at size) in
    subst (λ (w : List ℕ). Took a c w) (sym parts) (took_more a b c (take at old) (take n piece) p q)

-- the invariant of a read in pieces, after one more piece
pub took_next : (a b c : Option (List ℕ)) (xs ys : List ℕ) (at n : ℕ) → Took a b (take at xs) → Took b c (take n ys) → at ≤ length xs
    → n ≤ length (take (length xs - at) (drop at xs)) → length ys ≡ length (take (length xs - at) (drop at xs))
    → record { within : at + n ≤ length (put_mid at (length xs - at) xs ys); took : Took a c (take (at + n) (put_mid at (length xs - at) xs ys)) }
took_next a b c xs ys at n p q le count same =
    let size : length (take at xs) ≡ at = omega (arith, length-take at xs) in
    let room : length ys ≡ length xs - at = omega (arith, same, length-take (length xs - at) (drop at xs), length-drop at xs) in
    let less : n ≤ length ys = omega (arith, same, count) in
    let post : List ℕ = post_of at (length xs - at) xs in
    let some : take n (ys ++ post) ≡ take n ys = take-append-le n ys post less in
    record {
      within = omega (arith, length-append (take at xs) (ys ++ post), length-append ys post, size, less);
      took = took_front a b c xs (ys ++ post) at n p (subst (λ (w : List ℕ). Took b c w) (sym some) q) le;
    }
