-- Bytes behind a full buffer don't change what stands at the front, and at the front of a full buffer nothing lacks.
use Rattle.std.proofs.Common.{◌≡◌, ℕ, ◌+◌, ◌≤◌, Bool, true, false, cond, ltb, ◌||◌, List, ◌++◌, length, take, drop, refl, ap, ◌∙◌, arith, subst}
use Rattle.std.specs.Int.{w32, from_be_bytes}
use Rattle.std.proofs.lemmas.Bool.{le-ltb, ltb-false}
use Rattle.std.proofs.lemmas.List.{take-append-le, drop-append-le, length-append, length-drop}
use Rattle.pr_words.specs.Fields.{number32_at}
use Rattle.pr_words.specs.declared.nexus.Side.{Side}
use Rattle.pr_words.specs.declared.limits.TheConstants.{FRAME_LENGTH, HELD}
use Rattle.pr_grammar.specs.Frames.{Front, Lacking, Broken, Whole, front, sized, checked, Frame}

-- the front with more bytes behind it
abbrev pub grown : Front → List ℕ → Front
grown (Lacking k) ys = Lacking k
grown (Broken r) ys = Broken r
grown (Whole f rest) ys = Whole f (rest ++ ys)

pub second : (a b : Bool) → (a || b) ≡ false → b ≡ false
second true b e = absurd cc
second false b e = e

by_tests : (a b c : Bool) (f : Frame) (rest ys : List ℕ) → cond a (Broken 2) (cond b (Broken 3) (cond c (Broken 4) (Whole f (rest ++ ys)))) ≡ grown (cond a (Broken 2) (cond b (Broken 3) (cond c (Broken 4) (Whole f rest)))) ys
by_tests true b c f rest ys = refl
by_tests false true c f rest ys = refl
by_tests false false true f rest ys = refl
by_tests false false false f rest ys = refl

pub checked_more : (side : Side) (content rest ys : List ℕ) → checked side content (rest ++ ys) ≡ grown (checked side content rest) ys
checked_more side content rest ys = by_tests _ _ _ _ rest ys

sized_in : (side : Side) (b : Bool) (xs ys : List ℕ) (len : ℕ) → (ltb len 8 || ltb FRAME_LENGTH len) ≡ b → HELD ≤ length xs → sized side len (xs ++ ys) ≡ grown (sized side len xs) ys
sized_in side true xs ys len is long = rw is refl
sized_in side false xs ys len is long =
    let small : len ≤ FRAME_LENGTH = ltb-false FRAME_LENGTH len (second _ _ is) in
    let one : ltb (length xs) (4 + len) ≡ false = le-ltb _ _ (omega arith) in
    let two : ltb (length (xs ++ ys)) (4 + len) ≡ false = le-ltb _ _ (omega (arith, length-append xs ys)) in
    let content : take len (drop 4 (xs ++ ys)) ≡ take len (drop 4 xs) = ap (take len) (drop-append-le 4 xs ys (omega arith)) ∙ take-append-le len (drop 4 xs) ys (omega (arith, length-drop 4 xs)) in
    let rest : drop (4 + len) (xs ++ ys) ≡ drop (4 + len) xs ++ ys = drop-append-le (4 + len) xs ys (omega arith) in
    rw (is, one, two, content, rest) (checked_more side (take len (drop 4 xs)) (drop (4 + len) xs) ys)

pub front_more : (side : Side) (xs ys : List ℕ) → HELD ≤ length xs → front side (xs ++ ys) ≡ grown (front side xs) ys
unfolding front
front_more side xs ys long =
    let one : ltb (length xs) 4 ≡ false = le-ltb _ _ (omega arith) in
    let two : ltb (length (xs ++ ys)) 4 ≡ false = le-ltb _ _ (omega (arith, length-append xs ys)) in
    let number : number32_at (xs ++ ys) 0 ≡ number32_at xs 0 = ap (from_be_bytes w32) (take-append-le 4 xs ys (omega arith)) in
    rw (one, two, number) (sized_in side _ xs ys (number32_at xs 0) refl long)

-- a front that lacks nothing
abbrev pub IsThere : Front → Type 0
IsThere (Lacking k) = ⊥
IsThere (Broken r) = Unit {0}
IsThere (Whole f rest) = Unit {0}

tests_there : (a b c : Bool) (f : Frame) (rest : List ℕ) → IsThere (cond a (Broken 2) (cond b (Broken 3) (cond c (Broken 4) (Whole f rest))))
tests_there true b c f rest = tt
tests_there false true c f rest = tt
tests_there false false true f rest = tt
tests_there false false false f rest = tt

pub checked_there : (side : Side) (content rest : List ℕ) → IsThere (checked side content rest)
checked_there side content rest = tests_there _ _ _ _ rest

sized_there : (side : Side) (b : Bool) (xs : List ℕ) (len : ℕ) → (ltb len 8 || ltb FRAME_LENGTH len) ≡ b → HELD ≤ length xs → IsThere (sized side len xs)
sized_there side true xs len is long = rw is tt
sized_there side false xs len is long =
    let small : len ≤ FRAME_LENGTH = ltb-false FRAME_LENGTH len (second _ _ is) in
    let one : ltb (length xs) (4 + len) ≡ false = le-ltb _ _ (omega arith) in
    rw (is, one) (checked_there side (take len (drop 4 xs)) (drop (4 + len) xs))

front_there : (side : Side) (xs : List ℕ) → HELD ≤ length xs → IsThere (front side xs)
unfolding front
front_there side xs long =
    let one : ltb (length xs) 4 ≡ false = le-ltb _ _ (omega arith) in
    rw one (sized_there side _ xs (number32_at xs 0) refl long)

pub full_front : (side : Side) (xs : List ℕ) → HELD ≤ length xs → (k : ℕ) → front side xs ≡ Lacking k → ⊥
full_front side xs long k e = subst IsThere e (front_there side xs long)
