-- What stands at the front of bytes, by the frame that is cut out of them.
use Rattle.std.proofs.Common.{◌≡◌, ℕ, ◌+◌, ◌-◌, ◌≤◌, false, ltb, List, length, take, drop, refl, sym, ap, ◌∙◌, subst, arith}
use Rattle.std.proofs.lemmas.Bool.{le-ltb}
use Rattle.std.proofs.lemmas.List.{length-take-le, length-drop, drop-drop, drop-take}
use Rattle.pr_words.specs.Fields.{number32_at}
use Rattle.pr_words.specs.declared.nexus.Side.{Side}
use Rattle.pr_words.specs.declared.limits.TheConstants.{FRAME_LENGTH}
use Rattle.pr_grammar.specs.Frames as grammar
use Rattle.pr_grammar.specs.Frames.{Lacking, Broken, Whole, front, sized, checked, is_kind, is_body}
use Rattle.pr_link.specs.declared.front.Front.{Front}
use Rattle.pr_link.specs.declared.front.Front.TheVariants as fronts
use Rattle.pr_link.specs.Streams.{frame_of}
use Rattle.pr_link.specs.Fronts.{IsFront, IsChecked, body_in}

-- a frame that is whole is looked at by its content
front_whole : (side : Side) (bytes : List ℕ) (len : ℕ) → number32_at bytes 0 ≡ len → 4 ≤ length bytes → 8 ≤ len → len ≤ FRAME_LENGTH → 4 + len ≤ length bytes
    → front side bytes ≡ checked side (take len (drop 4 bytes)) (drop (4 + len) bytes)
unfolding front
front_whole side bytes len is four least most whole =
    let some : ltb (length bytes) 4 ≡ false = le-ltb _ _ four in
    let low : ltb len 8 ≡ false = le-ltb _ _ least in
    let high : ltb FRAME_LENGTH len ≡ false = le-ltb _ _ most in
    let all : ltb (length bytes) (4 + len) ≡ false = le-ltb _ _ whole in
    rw (some, is, low, high, all) refl

by_content : (side : Side) (bytes : List ℕ) (len : ℕ) (k : grammar.Front) (r : Front) → number32_at bytes 0 ≡ len → 8 ≤ len → len ≤ FRAME_LENGTH → 4 + len ≤ length bytes
    → IsChecked side k r (take len (drop 4 bytes)) (drop (4 + len) bytes) → IsFront side k r bytes
by_content side bytes len (Broken a) (fronts.Bad b) number least most whole is = is
by_content side bytes len (Whole f tail) (fronts.Whole g) number least most whole is =
    let size : length (take len (drop 4 bytes)) ≡ len = length-take-le len (drop 4 bytes) (omega (arith, length-drop 4 bytes, whole)) in
    let body : g.body ≡ len - 8 = omega (arith, is.2, size) in
    let sum : len ≡ 8 + (len - 8) = omega (arith, least) in
    let same : drop 8 (take len (drop 4 bytes)) ≡ body_in g.body bytes =
    ap (λ (n : ℕ). drop 8 (take n (drop 4 bytes))) sum ∙ drop-take 8 (len - 8) (drop 4 bytes) ∙ ap (λ (n : ℕ). take n (drop 8 (drop 4 bytes))) (sym body) ∙ ap (take g.body) (drop-drop 8 4 bytes) in
    let behind : 4 + len ≡ 12 + g.body = omega (arith, body, least) in
    (is.0 ∙ ap (frame_of g) same, is.1 ∙ ap (λ (n : ℕ). drop n bytes) behind, omega (arith, body, most, least), omega (arith, behind, whole), is.3, ap (is_body side g.kind) (sym same) ∙ is.4, omega (arith, is.2, size, number))
by_content side bytes len (Broken a) (fronts.Need n) number least most whole is = absurd is
by_content side bytes len (Broken a) (fronts.Whole g) number least most whole is = absurd is
by_content side bytes len (Whole f tail) (fronts.Need n) number least most whole is = absurd is
by_content side bytes len (Whole f tail) (fronts.Bad b) number least most whole is = absurd is
by_content side bytes len (Lacking k) (fronts.Need n) number least most whole is = absurd is
by_content side bytes len (Lacking k) (fronts.Bad n) number least most whole is = absurd is
by_content side bytes len (Lacking k) (fronts.Whole g) number least most whole is = absurd is

pub to_front : (side : Side) (bytes content : List ℕ) (len : ℕ) (r : Front) → number32_at bytes 0 ≡ len → 4 ≤ length bytes → 8 ≤ len → len ≤ FRAME_LENGTH → 4 + len ≤ length bytes
    → content ≡ take len (drop 4 bytes) → ((rest : List ℕ) → IsChecked side (checked side content rest) r content rest) → IsFront side (front side bytes) r bytes
to_front side bytes content len r is four least most whole cut checks =
    let rest : List ℕ = drop (4 + len) bytes in
    let found : IsChecked side (checked side (take len (drop 4 bytes)) rest) r (take len (drop 4 bytes)) rest = subst (λ (w : List ℕ). IsChecked side (checked side w rest) r w rest) cut (checks rest) in
    subst (λ (k : grammar.Front). IsFront side k r bytes) (sym (front_whole side bytes len is four least most whole)) (by_content side bytes len _ r is least most whole found)
