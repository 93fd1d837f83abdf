-- Bytes that were read, and the image that they were read from.
use Rattle.std.proofs.Common.{◌≡◌, ℕ, zero, suc, ◌+◌, ◌==◌, if◌then◌else◌, List, [], ◌∷◌, ◌++◌, length, Option, Some, None, refl, sym, ◌∙◌, ap, subst, arith}
use Rattle.std.proofs.lemmas.List.{append-nil}
use Rattle.pr_grammar.specs.Files.{cut, first_wrong}
use Rattle.pr_io.specs.Images.{Image, Reads, Holds}
use Rattle.pr_aptpl.specs.Opens.{first_diff}

-- bytes that an image has stand in its cut
pub cut_holds : (body : List ℕ) (at n m : ℕ) (c : Image) → Holds at body c → n ≡ length body + m → cut c at n ≡ body ++ cut c (at + length body) m
unfolding cut
cut_holds [] at n m c holds is = let same : n ≡ m = omega arith in let place : at ≡ at + 0 = omega arith in ap (cut c at) same ∙ ap (λ (p : ℕ). cut c p m) place
cut_holds (b ∷ bs) at zero m c holds is = absurd (omega arith)
cut_holds (b ∷ bs) at (suc n) m c holds is =
    let here : c at ≡ b = let same : at ≡ at + 0 = omega arith in ap c same ∙ holds 0 (omega arith) in
    let rest : cut c (at + 1) n ≡ bs ++ cut c (at + 1 + length bs) m = cut_holds bs (at + 1) n m c (λ i lt. let same : at + 1 + i ≡ at + suc i = omega arith in ap c same ∙ holds (suc i) (omega arith)) (omega arith) in
    let place : at + 1 + length bs ≡ at + suc (length bs) = omega arith in
    ap (λ (x : ℕ). x ∷ cut c (at + 1) n) here ∙ ap (λ (l : List ℕ). b ∷ l) (rest ∙ ap (λ (p : ℕ). bs ++ cut c p m) place)

pub cut_read : (now : Option Image) (image : Image) (at n : ℕ) (bytes : List ℕ) → Reads now at bytes → now ≡ Some image → length bytes ≡ n → bytes ≡ cut image at n
unfolding cut
cut_read None image at n bytes reads is long = cc
cut_read (Some x) image at n bytes reads is long =
    let same : x ≡ image = cc in
    sym (cut_holds bytes at n 0 image (subst (Holds at bytes) same reads) (omega (arith, long)) ∙ append-nil bytes)

-- a head that is read byte by byte
pub wrong_diff : (head : List ℕ) (at : ℕ) (image : Image) → first_wrong head at image ≡ first_diff head (cut image at (length head)) at
unfolding cut
wrong_diff [] at image = refl
wrong_diff (b ∷ bs) at image = ap (λ (o : Option ℕ). if image at == b then o else Some at) (wrong_diff bs (at + 1) image)
