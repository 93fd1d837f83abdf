-- Fields laid one behind the other.
use Rattle.std.proofs.Common.{◌≡◌, ℕ, ◌+◌, ◌-◌, ◌<◌, ◌≤◌, min, List, [], ◌∷◌, ◌++◌, length, take, drop, ap, sym, ◌∙◌, arith}
use Rattle.std.proofs.lemmas.List.{take_min, drop_min, length-append, length-take, length-drop}
use Rattle.std.proofs.lemmas.Grind.{common_steps}
use borrow.Rule.Slice.PartMut.{put_mid}
use Rattle.pr_param.specs.Laid.{laid}

-- the part of a field that the buffer has room for, written behind what stands there
pub put_behind : (before field buffer : List ℕ) (k : ℕ) → length before ≤ length buffer → length before + k ≡ min (length before + length field) (length buffer) → put_mid (length before) k (laid before buffer) (take k field) ≡ laid (before ++ field) buffer
put_behind [] field buffer k le e =
    let f : k ≡ min (length buffer) (length field) = omega (arith, e) in
    let b : k ≡ min (length field) (length buffer) = omega (arith, e) in
    let g : take k field ≡ take (length buffer) field = ap (λ n. take n field) f ∙ take_min (length buffer) field in
    let h : drop k buffer ≡ drop (length field) buffer = ap (λ n. drop n buffer) b ∙ drop_min (length field) buffer in
    grind (arith, common_steps, g, h)
put_behind (b ∷ bs) field [] k le e = absurd (omega (arith, le))
put_behind (b ∷ bs) field (c ∷ cs) k le e = ap (λ xs. b ∷ xs) (put_behind bs field cs k (omega (arith, le)) (omega (arith, e)))

pub length_laid : (before buffer : List ℕ) → length (laid before buffer) ≡ length buffer
length_laid before buffer = simp (length-append, length-take, length-drop) (omega arith)

pub put_next : (before buffer field out part : List ℕ) (at m k : ℕ) → length before ≡ at → out ≡ laid before buffer → at < length out → m ≡ min (length field) (length out - at) → k ≡ m → part ≡ take m field → put_mid at k out part ≡ laid (before ++ field) buffer
put_next before buffer field out part at m k a e lt me ke pe =
    let len : length out ≡ length buffer = ap length e ∙ length_laid before buffer in
    let le : length before ≤ length buffer = omega (arith, a, lt, len) in
    let sum : length before + m ≡ min (length before + length field) (length buffer) = omega (arith, a, me, len, lt) in
    ap (λ n. put_mid n k out part) (sym a) ∙ ap (λ n. put_mid (length before) n out part) ke
    ∙ ap (λ xs. put_mid (length before) m xs part) e ∙ ap (λ xs. put_mid (length before) m (laid before buffer) xs) pe
    ∙ put_behind before field buffer m le sum
