-- Frames of a stream whose bytes come piece by piece.
use Rattle.std.proofs.Common.{◌≡◌, ℕ, ◌+◌, ◌-◌, ◌≤◌, ◌<◌, ◌⊎◌, Bool, true, false, cond, ltb, ◌||◌, List, [], ◌∷◌, ◌++◌, length, take, drop, refl, sym, ap, ◌∙◌, arith, inl, inr, subst, lit<}
use Rattle.std.specs.Int.{w32, from_be_bytes}
use Rattle.std.proofs.Math.Seq.{take-append-add}
use Rattle.std.proofs.lemmas.List.Sums.{sum_by-cons, sum_by_push}
use Rattle.std.proofs.lemmas.Bool.{le-ltb, lt-ltb, ltb-false, ltb-true, or_parts, cases_lt}
use Rattle.std.proofs.lemmas.List.{take-append-le, drop-append-le, length-append, length-take-le, length-drop, drop_all}
use Rattle.pr_words.specs.Fields.{number32_at}
use Rattle.pr_words.specs.declared.nexus.Side.{Side}
use Rattle.pr_words.specs.declared.limits.TheConstants.{FRAME_LENGTH, HELD}
use Rattle.pr_grammar.specs.Frames.{Frame, Front, Lacking, Broken, Whole, front, sized, checked, frame_size}
use Rattle.pr_grammar.specs.Shows.{AreFrames, HasBroken, JustBroken, size_of_all}
use Rattle.pr_grammar.proofs.Fronts.{grown, IsThere, checked_more, checked_there}
use Rattle.pr_grammar.proofs.Spellings.{Found, found}

-- where nothing lacks at the front, bytes that come behind don't change it

sized_settled : (side : Side) (b : Bool) (xs ys : List ℕ) (len : ℕ) → (ltb len 8 || ltb FRAME_LENGTH len) ≡ b → 4 ≤ length xs → IsThere (sized side len xs) → sized side len (xs ++ ys) ≡ grown (sized side len xs) ys
sized_settled side true xs ys len is four there = rw is refl
sized_settled side false xs ys len is four there =
    elim (cases_lt (length xs) (4 + len)) [
      | inl less ↦ (
          let short : ltb (length xs) (4 + len) ≡ true = lt-ltb _ _ less in
          absurd (rw (is, short) at there)
          )
      | inr long ↦ (
          let one : ltb (length xs) (4 + len) ≡ false = le-ltb _ _ long in
          let two : ltb (length (xs ++ ys)) (4 + len) ≡ false = le-ltb _ _ (omega (arith, length-append xs ys)) in
          let content : take len (drop 4 (xs ++ ys)) ≡ take len (drop 4 xs) = ap (take len) (drop-append-le 4 xs ys four) ∙ take-append-le len (drop 4 xs) ys (omega (arith, length-drop 4 xs)) in
          let rest : drop (4 + len) (xs ++ ys) ≡ drop (4 + len) xs ++ ys = drop-append-le (4 + len) xs ys long in
          rw (is, one, two, content, rest) (checked_more side (take len (drop 4 xs)) (drop (4 + len) xs) ys)
          )
    ]

same_number : (xs ys : List ℕ) → 4 ≤ length xs → number32_at (xs ++ ys) 0 ≡ number32_at xs 0
same_number xs ys four = ap (from_be_bytes w32) (take-append-le 4 xs ys four)

settled : (side : Side) (xs ys : List ℕ) → IsThere (front side xs) → front side (xs ++ ys) ≡ grown (front side xs) ys
unfolding front
settled side xs ys there =
    elim (cases_lt (length xs) 4) [
      | inl few ↦ (
          let short : ltb (length xs) 4 ≡ true = lt-ltb _ _ few in
          absurd (rw short at there)
          )
      | inr four ↦ (
          let one : ltb (length xs) 4 ≡ false = le-ltb _ _ four in
          let two : ltb (length (xs ++ ys)) 4 ≡ false = le-ltb _ _ (omega (arith, length-append xs ys)) in
          let held : IsThere (sized side (number32_at xs 0) xs) = rw one at there in
          rw (one, two, same_number xs ys four) (sized_settled side _ xs ys (number32_at xs 0) refl four held)
          )
    ]

pub whole_more : (side : Side) (xs ys : List ℕ) (f : Frame) (rest : List ℕ) → front side xs ≡ Whole f rest → front side (xs ++ ys) ≡ Whole f (rest ++ ys)
whole_more side xs ys f rest e = settled side xs ys (rw e tt) ∙ ap (λ (x : Front). grown x ys) e

pub broken_more : (side : Side) (xs ys : List ℕ) (r : ℕ) → front side xs ≡ Broken r → front side (xs ++ ys) ≡ Broken r
broken_more side xs ys r e = settled side xs ys (rw e tt) ∙ ap (λ (x : Front). grown x ys) e

-- what is known where bytes lack: the length isn't there yet, or it is and the frame isn't
abbrev Lacks : List ℕ → ℕ → Type 0
Lacks xs k =
    ((length xs < 4) × (k ≡ 4 - length xs))
    ⊎ ((4 ≤ length xs) × (8 ≤ number32_at xs 0) × (number32_at xs 0 ≤ FRAME_LENGTH) × (length xs < 4 + number32_at xs 0) × (k ≡ 4 + number32_at xs 0 - length xs))

short_pass : (a b : Bool) (r n k : ℕ) (there : Front) → IsThere there → cond a (Broken r) (cond b (Lacking n) there) ≡ Lacking k → (a ≡ false) × (b ≡ true) × (k ≡ n)
short_pass true b r n k there is e = absurd cc
short_pass false true r n k there is e = (refl, refl, cc)
short_pass false false r n k there is e = absurd (subst IsThere e is)

lacks : (side : Side) (xs : List ℕ) (k : ℕ) → front side xs ≡ Lacking k → Lacks xs k
unfolding front
lacks side xs k e =
    elim (cases_lt (length xs) 4) [
      | inl few ↦ (
          let short : ltb (length xs) 4 ≡ true = lt-ltb _ _ few in
          let is : Lacking (4 - length xs) ≡ Lacking k = rw short at e in
          inl (few, cc)
          )
      | inr four ↦ (
          let one : ltb (length xs) 4 ≡ false = le-ltb _ _ four in
          let len : ℕ = number32_at xs 0 in
          let is : sized side len xs ≡ Lacking k = rw one at e in
          let parts = short_pass (ltb len 8 || ltb FRAME_LENGTH len) (ltb (length xs) (4 + len)) 1 (4 + len - length xs) k (checked side (take len (drop 4 xs)) (drop (4 + len) xs)) (checked_there side (take len (drop 4 xs)) (drop (4 + len) xs)) is in
          let range = or_parts _ _ parts.0 in
          inr (four, ltb-false len 8 range.0, ltb-false FRAME_LENGTH len range.1, ltb-true _ _ parts.1, parts.2)
          )
    ]

short_few : (side : Side) (xs : List ℕ) → length xs < 4 → front side xs ≡ Lacking (4 - length xs)
unfolding front
short_few side xs few = let short : ltb (length xs) 4 ≡ true = lt-ltb _ _ few in rw short refl

short_sized : (side : Side) (xs : List ℕ) (len : ℕ) → len ≡ number32_at xs 0 → 4 ≤ length xs → 8 ≤ len → len ≤ FRAME_LENGTH → length xs < 4 + len → front side xs ≡ Lacking (4 + len - length xs)
unfolding front
short_sized side xs len is four low high less =
    let one : ltb (length xs) 4 ≡ false = le-ltb _ _ four in
    let two : ltb len 8 ≡ false = le-ltb _ _ low in
    let three : ltb FRAME_LENGTH len ≡ false = le-ltb _ _ high in
    let short : ltb (length xs) (4 + len) ≡ true = lt-ltb _ _ less in
    rw (one, ← is, two, three, short) refl

pub front_none : (side : Side) → front side [] ≡ Lacking 4
front_none side = short_few side [] (lit< tt)

-- where so many bytes lack, fewer leave the rest of them lacking
pub short_more : (side : Side) (xs ys : List ℕ) (k : ℕ) → front side xs ≡ Lacking k → length ys < k → front side (xs ++ ys) ≡ Lacking (k - length ys)
short_more side xs ys k e less =
    elim (lacks side xs k e) [
      | inl few ↦ (
          let left : 4 - length (xs ++ ys) ≡ k - length ys = omega (arith, length-append xs ys, few.0, few.1) in
          short_few side (xs ++ ys) (omega (arith, length-append xs ys, few.0, few.1)) ∙ ap Lacking left
          )
      | inr sized ↦ (
          let len : ℕ = number32_at xs 0 in
          let left : 4 + len - length (xs ++ ys) ≡ k - length ys = omega (arith, length-append xs ys, sized.3, sized.4) in
          short_sized side (xs ++ ys) len (sym (same_number xs ys sized.0)) (omega (arith, length-append xs ys, sized.0)) sized.1 sized.2 (omega (arith, length-append xs ys, sized.3, sized.4)) ∙ ap Lacking left
          )
    ]

-- where so many bytes lack, no more of them make a frame with nothing behind it
pub whole_tight : (side : Side) (xs ys : List ℕ) (k : ℕ) (f : Frame) (rest : List ℕ) → front side xs ≡ Lacking k → length ys ≤ k → front side (xs ++ ys) ≡ Whole f rest → rest ≡ []
whole_tight side xs ys k f rest e few whole =
    let here : Found side (xs ++ ys) f rest = found side (xs ++ ys) f rest whole in
    elim (lacks side xs k e) [
      | inl head ↦ absurd (omega (arith, length-append xs ys, head.0, head.1, here.least, here.whole))
      | inr sized ↦ here.left ∙ drop_all (4 + number32_at (xs ++ ys) 0) (xs ++ ys) (omega (arith, length-append xs ys, same_number xs ys sized.0, sized.3, sized.4))
    ]

pub short_some : (side : Side) (xs : List ℕ) (k : ℕ) → front side xs ≡ Lacking k → 0 < k
short_some side xs k e = elim (lacks side xs k e) [ inl few ↦ omega (arith, few.0, few.1) | inr sized ↦ omega (arith, sized.3, sized.4) ]

pub short_most : (side : Side) (xs : List ℕ) (k : ℕ) → front side xs ≡ Lacking k → length xs + k ≤ HELD
short_most side xs k e = elim (lacks side xs k e) [ inl few ↦ omega (arith, few.0, few.1) | inr sized ↦ omega (arith, sized.2, sized.3, sized.4) ]

whole_size : (side : Side) (xs : List ℕ) (f : Frame) (rest : List ℕ) → front side xs ≡ Whole f rest → length xs ≡ frame_size f + length rest
whole_size side xs f rest e =
    let here : Found side xs f rest = found side xs f rest e in
    let len : ℕ = number32_at xs 0 in
    let content : List ℕ = take len (drop 4 xs) in
    let size : length content ≡ len = length-take-le len (drop 4 xs) (omega (arith, length-drop 4 xs, here.whole)) in
    let body : length f.body ≡ len - 8 = ap (λ (g : Frame). length g.body) here.first ∙ omega (arith, length-drop 8 content, size) in
    omega (arith, body, here.least, here.whole, ap length here.left, length-drop (4 + len) xs)

-- frames, and more bytes behind them
pub frames_more : (side : Side) (bytes ys : List ℕ) (fs : List Frame) (tail : List ℕ) → AreFrames side bytes fs tail → AreFrames side (bytes ++ ys) fs (tail ++ ys)
frames_more side bytes ys [] tail are = ap (λ (w : List ℕ). w ++ ys) are
frames_more side bytes ys (f ∷ fs) tail are = (are.0 ++ ys, whole_more side bytes ys f are.0 are.1, frames_more side are.0 ys fs tail are.2)

-- frames, and one more behind them
pub frames_one : (side : Side) (bytes : List ℕ) (fs : List Frame) (tail : List ℕ) (f : Frame) (rest : List ℕ) → AreFrames side bytes fs tail → front side tail ≡ Whole f rest → AreFrames side bytes (fs ++ f ∷ []) rest
frames_one side bytes [] tail f rest are whole = (rest, ap (front side) are ∙ whole, refl)
frames_one side bytes (g ∷ fs) tail f rest are whole = (are.0, are.1, frames_one side are.0 fs tail f rest are.2 whole)

pub frames_size : (side : Side) (bytes : List ℕ) (fs : List Frame) (tail : List ℕ) → AreFrames side bytes fs tail → length bytes ≡ size_of_all fs + length tail
frames_size side bytes [] tail are = omega (arith, ap length are)
frames_size side bytes (f ∷ fs) tail are =
    let sum_is : size_of_all (f ∷ fs) ≡ frame_size f + size_of_all fs = sum_by-cons frame_size f fs in
    omega (arith, whole_size side bytes f are.0 are.1, frames_size side are.0 fs tail are.2)

pub size_one : (fs : List Frame) (f : Frame) → size_of_all (fs ++ f ∷ []) ≡ size_of_all fs + frame_size f
size_one fs f = sum_by_push frame_size fs f

-- bytes that lack more have no broken frame
by_frames : (side : Side) (bytes : List ℕ) (fs gs : List Frame) (tail other : List ℕ) (k r : ℕ) → AreFrames side bytes fs tail → front side tail ≡ Lacking k → AreFrames side bytes gs other → front side other ≡ Broken r → ⊥
by_frames side bytes [] [] tail other k r a short b broken = let no : Lacking k ≡ Broken r = sym short ∙ ap (front side) (sym a ∙ b) ∙ broken in cc
by_frames side bytes [] (g ∷ gs) tail other k r a short b broken = let no : Lacking k ≡ Whole g b.0 = sym short ∙ ap (front side) (sym a) ∙ b.1 in cc
by_frames side bytes (f ∷ fs) [] tail other k r a short b broken = let no : Whole f a.0 ≡ Broken r = sym a.1 ∙ ap (front side) b ∙ broken in cc
by_frames side bytes (f ∷ fs) (g ∷ gs) tail other k r a short b broken =
    let same : Whole f a.0 ≡ Whole g b.0 = sym a.1 ∙ b.1 in
    let left : b.0 ≡ a.0 = cc in
    by_frames side a.0 fs gs tail other k r a.2 short (subst (λ (w : List ℕ). AreFrames side w gs other) left b.2) broken

pub none_broken : (side : Side) (bytes : List ℕ) (fs : List Frame) (tail : List ℕ) (k : ℕ) → AreFrames side bytes fs tail → front side tail ≡ Lacking k → HasBroken side bytes → ⊥
none_broken side bytes fs tail k are short bad = by_frames side bytes fs bad.0 tail bad.1 k bad.2 are short bad.3 bad.4

pub broken_behind : (side : Side) (bytes ys : List ℕ) → HasBroken side bytes → HasBroken side (bytes ++ ys)
broken_behind side bytes ys bad = (bad.0, bad.1 ++ ys, bad.2, frames_more side bytes ys bad.0 bad.1 bad.3, broken_more side bad.1 ys bad.2 bad.4)

-- where no more bytes came than lacked, the last of them shows the broken frame
pub just_broken : (side : Side) (bytes piece : List ℕ) (fs : List Frame) (tail : List ℕ) (k : ℕ) → AreFrames side bytes fs tail → front side tail ≡ Lacking k → length piece ≤ k → 0 < length piece
    → HasBroken side (bytes ++ piece) → JustBroken side (bytes ++ piece)
just_broken side bytes piece fs tail k are short most some bad =
    record {
      broken = bad;
      last =
          λ before after is behind shown.
          let n : ℕ = length piece - 1 in
          let m : ℕ = length bytes + n in
          let front_part : List ℕ = take n piece in
          let size : length front_part ≡ n = length-take-le n piece (omega arith) in
          let sum_is : m ≡ length before + (m - length before) = omega (arith, ap length is, length-append bytes piece, length-append before after) in
          let one : take m (bytes ++ piece) ≡ bytes ++ front_part = take-append-add bytes piece n in
          let two : take m (bytes ++ piece) ≡ before ++ take (m - length before) after =
          ap (take m) is ∙ ap (λ (j : ℕ). take j (before ++ after)) sum_is ∙ take-append-add before after (m - length before) in
          let all : HasBroken side (bytes ++ front_part) = subst (HasBroken side) (sym two ∙ one) (broken_behind side before (take (m - length before) after) shown) in
          none_broken side (bytes ++ front_part) fs (tail ++ front_part) (k - length front_part) (frames_more side bytes front_part fs tail are) (short_more side tail front_part k short (omega (arith, size))) all;
    }
