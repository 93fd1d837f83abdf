-- What stands at the front of bytes that come in two parts.
use Rattle.std.proofs.Common.{◌≡◌, ℕ, ◌+◌, ◌-◌, ◌≤◌, ◌<◌, Bool, true, false, cond, ltb, ◌||◌, List, [], ◌++◌, length, take, drop, refl, sym, ap, ◌∙◌, arith}
use Rattle.std.proofs.Math.Seq.{take-add}
use Rattle.std.proofs.lemmas.Bool.{le-ltb, lt-ltb}
use Rattle.std.proofs.lemmas.List.{take_at, drop_at, take_all, drop_all, length-append, length-take, length-take-le, drop-take}
use borrow.Rule.Slice.PartMut.{put_mid, post_of}
use Rattle.std.specs.Int.{w32, from_be_bytes}
use Rattle.pr_words.specs.Fields.{number32_at}
use Rattle.pr_words.specs.declared.nexus.Side.{Side}
use Rattle.pr_words.specs.declared.nexus.Side.TheVariants.{Initiator}
use Rattle.pr_words.specs.declared.limits.TheConstants.{BODY, FRAME_LENGTH}
use Rattle.pr_grammar.specs.Frames as grammar
use Rattle.pr_grammar.specs.Frames.{Lacking, Broken, Whole, front, is_body, sized}
use Rattle.pr_link.specs.declared.frame.Frame.{Frame}
use Rattle.pr_link.specs.declared.front.Front.TheVariants as fronts
use Rattle.pr_link.specs.Streams.{frame_of}
use Rattle.pr_link.specs.Fronts.{IsFront, body_in}

-- fewer than four bytes
pub short_lacks : (xs : List ℕ) → length xs < 4 → front Initiator xs ≡ Lacking (4 - length xs)
unfolding front
short_lacks xs few = rw (lt-ltb (length xs) 4 few) refl

never_broken : (b : Bool) (k r : ℕ) (other : grammar.Front) → cond b (Broken r) other ≡ Lacking k → b ≡ false
never_broken true k r other same = absurd cc
never_broken false k r other same = refl

unbroken : (xs : List ℕ) (k : ℕ) → length xs ≡ 4 → front Initiator xs ≡ Lacking k → (ltb (number32_at xs 0) 8 || ltb FRAME_LENGTH (number32_at xs 0)) ≡ false
unfolding front
unbroken xs k four lacks =
    let some : ltb (length xs) 4 ≡ false = le-ltb _ _ (omega (arith, four)) in
    never_broken _ k 1 _ (rw some at lacks)

-- the number in the first four bytes
pub number_same : (xs ys : List ℕ) → length xs ≡ 4 → number32_at (xs ++ ys) 0 ≡ number32_at xs 0
number_same xs ys four = ap (λ (w : List ℕ). from_be_bytes w32 w) (take_at xs ys 4 four ∙ sym (take_all 4 xs (omega (arith, four))))

-- four bytes, and fewer behind them than the frame has
pub rest_lacks : (xs ys : List ℕ) (k : ℕ) → length xs ≡ 4 → front Initiator xs ≡ Lacking k → number32_at xs 0 ≡ k → length ys < k → front Initiator (xs ++ ys) ≡ Lacking (4 + k - length (xs ++ ys))
unfolding front
rest_lacks xs ys k four lacks number few =
    let same : number32_at (xs ++ ys) 0 ≡ number32_at xs 0 = number_same xs ys four in
    let some : ltb (length (xs ++ ys)) 4 ≡ false = le-ltb _ _ (omega (arith, length-append xs ys, four)) in
    let short : ltb (length (xs ++ ys)) (4 + k) ≡ true = lt-ltb _ _ (omega (arith, length-append xs ys, four, few)) in
    let calm : (ltb k 8 || ltb FRAME_LENGTH k) ≡ false = rw number at (unbroken xs k four lacks) in
    rw (some, same, number, calm, short) refl

-- a frame that is whole, with nothing behind it
pub record Just (side : Side) (g : Frame) (work : List ℕ) (n : ℕ) : Type 0 where
  pub size : n ≡ 12 + g.body
  pub bound : g.body ≤ BODY
  pub formed : is_body side g.kind (body_in g.body work) ≡ true
  pub whole : front side (take (12 + g.body) work) ≡ Whole (frame_of g (body_in g.body work)) []

just_by : (side : Side) (g : Frame) (work : List ℕ) (n : ℕ) (k : grammar.Front) → k ≡ front side (take n work) → n ≤ length work → number32_at (take n work) 0 + 4 ≡ n → IsFront side k (fronts.Whole g) (take n work) → Just side g work n
just_by side g work n (Whole f rest) is within number found =
    let size : n ≡ 12 + g.body = omega (arith, found.6, number) in
    let all : length (take n work) ≡ n = length-take-le n work within in
    let cut : body_in g.body (take n work) ≡ body_in g.body work =
    ap (λ (m : ℕ). take g.body (drop 12 (take m work))) size ∙ ap (take g.body) (drop-take 12 g.body work) ∙ take_all g.body (take g.body (drop 12 work)) (omega (arith, length-take g.body (drop 12 work))) in
    let none : rest ≡ [] = found.1 ∙ drop_all (12 + g.body) (take n work) (omega (arith, all, size)) in
    record {
      size = size;
      bound = found.2;
      formed = ap (is_body side g.kind) (sym cut) ∙ found.5;
      whole = ap (λ (m : ℕ). front side (take m work)) (sym size) ∙ sym is ∙ ap (λ (h : grammar.Frame). Whole h rest) (found.0 ∙ ap (frame_of g) cut) ∙ ap (Whole (frame_of g (body_in g.body work))) none;
    }
just_by side g work n (Lacking k) is within number found = absurd found
just_by side g work n (Broken r) is within number found = absurd found

pub just : (side : Side) (g : Frame) (work : List ℕ) (n : ℕ) → n ≤ length work → number32_at (take n work) 0 + 4 ≡ n → IsFront side (front side (take n work)) (fronts.Whole g) (take n work) → Just side g work n
just side g work n within number found = just_by side g work n (front side (take n work)) refl within number found

bad_by : (side : Side) (r : ℕ) (bytes : List ℕ) (k : grammar.Front) → IsFront side k (fronts.Bad r) bytes → k ≡ Broken r
bad_by side r bytes (Broken b) found = ap Broken (sym found)
bad_by side r bytes (Lacking k) found = absurd found
bad_by side r bytes (Whole f rest) found = absurd found

pub bad : (side : Side) (r : ℕ) (bytes : List ℕ) → IsFront side (front side bytes) (fronts.Bad r) bytes → front side bytes ≡ Broken r
bad side r bytes found = bad_by side r bytes (front side bytes) found

-- a buffer of which four bytes stay, and some behind them are written
pub joined : (work piece : List ℕ) (k : ℕ) → 4 + k ≤ length work → length piece ≡ k → take (4 + k) (put_mid 4 (4 + k - 4) work piece) ≡ take 4 work ++ piece
joined work piece k within size =
    let front_size : length (take 4 work) ≡ 4 = length-take-le 4 work (omega (arith, within)) in
    let post : List ℕ = post_of 4 (4 + k - 4) work in
    take-add 4 k (put_mid 4 (4 + k - 4) work piece)
    ∙ ap (λ (w : List ℕ). w ++ take k (drop 4 (put_mid 4 (4 + k - 4) work piece))) (take_at (take 4 work) (piece ++ post) 4 front_size)
    ∙ ap (λ (w : List ℕ). take 4 work ++ take k w) (drop_at (take 4 work) (piece ++ post) 4 front_size) ∙ ap (λ (w : List ℕ). take 4 work ++ w) (take_at piece post k size)
