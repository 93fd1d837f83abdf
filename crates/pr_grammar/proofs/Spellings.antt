-- What is written is read back, and what is read is what was written.
use Rattle.std.proofs.Common.{◌≡◌, ℕ, ◌+◌, ◌-◌, ◌≤◌, ◌<◌, ◌^◌, Bool, true, false, cond, ltb, ◌||◌, List, [], ◌∷◌, ◌++◌, length, take, drop, slice_index, get_or, All, refl, sym, ap, ◌∙◌, arith, inl, inr, lit<}
use Rattle.std.specs.Int.{w16, w32, from_be_bytes, to_be_bytes}
use Rattle.std.proofs.Math.Seq.{take-add}
use Rattle.std.proofs.lemmas.Bool.{le-ltb, ltb-false, not-false, or_parts, eqb-true, cases_lt}
use Rattle.std.proofs.lemmas.List.{take_at, drop_at, get_or_past, length-append, length-take-le, length-drop, drop-drop, take-append-drop}
use Rattle.std.proofs.lemmas.List.Elements.{All-take, All-drop, All-get_or}
use Rattle.std.proofs.lemmas.Nat.{from_be_bytes-to_be_bytes_2, from_be_bytes-to_be_bytes_4, be_bytes_2, be_bytes_4}
use Rattle.pr_words.specs.Fields.{number32_at, number16_at}
use Rattle.pr_words.specs.declared.nexus.Side.{Side}
use Rattle.pr_words.specs.declared.limits.TheConstants.{BODY, FRAME_LENGTH}
use Rattle.pr_grammar.specs.Frames.{Front, Lacking, Broken, Whole, front, sized, checked, is_kind, is_body, frame, Frame, spelled}

-- what follows the length of the frame at the front
abbrev pub content_of : List ℕ → List ℕ
content_of bytes = take (number32_at bytes 0) (drop 4 bytes)

-- what is known of a whole frame at the front
pub record Found (side : Side) (bytes : List ℕ) (f : Frame) (rest : List ℕ) : Type 0 where
  pub least : 8 ≤ number32_at bytes 0
  pub most : number32_at bytes 0 ≤ FRAME_LENGTH
  pub whole : 4 + number32_at bytes 0 ≤ length bytes
  pub kind : is_kind side f.kind ≡ true
  pub flags : slice_index (content_of bytes) 1 ≡ 0
  pub body : is_body side f.kind f.body ≡ true
  pub first : f ≡ frame (slice_index (content_of bytes) 0) (number16_at (content_of bytes) 2) (number32_at (content_of bytes) 4) (drop 8 (content_of bytes))
  pub left : rest ≡ drop (4 + number32_at bytes 0) bytes

-- writing, then reading

checked_whole : (side : Side) (k l0 l1 t0 t1 t2 t3 : ℕ) (body rest : List ℕ) → is_kind side k ≡ true → is_body side k body ≡ true
    → checked side (k ∷ 0 ∷ l0 ∷ l1 ∷ t0 ∷ t1 ∷ t2 ∷ t3 ∷ body) rest ≡ Whole (frame k (from_be_bytes w16 (l0 ∷ l1 ∷ [])) (from_be_bytes w32 (t0 ∷ t1 ∷ t2 ∷ t3 ∷ [])) body) rest
checked_whole side k l0 l1 t0 t1 t2 t3 body rest received formed = rw (received, formed) refl

front_whole : (side : Side) (s0 s1 s2 s3 k l0 l1 t0 t1 t2 t3 : ℕ) (body rest : List ℕ) → from_be_bytes w32 (s0 ∷ s1 ∷ s2 ∷ s3 ∷ []) ≡ 8 + length body
    → length body ≤ BODY → is_kind side k ≡ true → is_body side k body ≡ true
    → front side (s0 ∷ s1 ∷ s2 ∷ s3 ∷ k ∷ 0 ∷ l0 ∷ l1 ∷ t0 ∷ t1 ∷ t2 ∷ t3 ∷ (body ++ rest)) ≡ Whole (frame k (from_be_bytes w16 (l0 ∷ l1 ∷ [])) (from_be_bytes w32 (t0 ∷ t1 ∷ t2 ∷ t3 ∷ [])) body) rest
unfolding front
front_whole side s0 s1 s2 s3 k l0 l1 t0 t1 t2 t3 body rest size bound received formed =
    let n : ℕ = length body in
    let inner : List ℕ = k ∷ 0 ∷ l0 ∷ l1 ∷ t0 ∷ t1 ∷ t2 ∷ t3 ∷ (body ++ rest) in
    let bytes : List ℕ = s0 ∷ s1 ∷ s2 ∷ s3 ∷ inner in
    let count : length bytes ≡ 12 + (length body + length rest) = omega (arith, length-append body rest) in
    let four : ltb (length bytes) 4 ≡ false = le-ltb _ _ (omega (arith, count)) in
    let low : ltb (8 + n) 8 ≡ false = le-ltb _ _ (omega arith) in
    let high : ltb FRAME_LENGTH (8 + n) ≡ false = le-ltb _ _ (omega arith) in
    let there : ltb (length bytes) (4 + (8 + n)) ≡ false = le-ltb _ _ (omega (arith, count)) in
    let content : take (8 + n) inner ≡ k ∷ 0 ∷ l0 ∷ l1 ∷ t0 ∷ t1 ∷ t2 ∷ t3 ∷ body =
    take-add 8 n inner ∙ ap (λ (w : List ℕ). k ∷ 0 ∷ l0 ∷ l1 ∷ t0 ∷ t1 ∷ t2 ∷ t3 ∷ w) (take_at body rest n refl) in
    let left : drop (4 + (8 + n)) bytes ≡ rest =
    sym (drop-drop (8 + n) 4 bytes) ∙ sym (drop-drop n 8 inner) ∙ drop_at body rest n refl in
    rw (four, size, low, high, there, content, left) (checked_whole side k l0 l1 t0 t1 t2 t3 body rest received formed)

named : (k l m t u : ℕ) (body rest : List ℕ) → l ≡ m → t ≡ u → Whole (frame k l t body) rest ≡ Whole (frame k m u body) rest
named k l m t u body rest a b = rw (a, b) refl

-- a frame that is written and then read, with anything behind it
pub read_back : (side : Side) (f : Frame) (rest : List ℕ) → is_kind side f.kind ≡ true → is_body side f.kind f.body ≡ true → f.lun < 2 ^ 16 → f.tag < 2 ^ 32 → length f.body ≤ BODY
    → front side (spelled f ++ rest) ≡ Whole f rest
read_back side f rest received formed lun tag bound =
    front_whole side _ _ _ _ f.kind _ _ _ _ _ _ f.body rest (from_be_bytes-to_be_bytes_4 (8 + length f.body) (omega arith)) bound received formed
    ∙ named f.kind _ _ _ _ f.body rest (from_be_bytes-to_be_bytes_2 f.lun lun) (from_be_bytes-to_be_bytes_4 f.tag tag)

-- reading, then writing

record Tests (a b c : Bool) (g f : Frame) (tail rest : List ℕ) : Type 0 where
  pub kind : a ≡ false
  pub flags : b ≡ false
  pub body : c ≡ false
  pub first : f ≡ g
  pub left : rest ≡ tail

tests_pass : (a b c : Bool) (g f : Frame) (tail rest : List ℕ) → cond a (Broken 2) (cond b (Broken 3) (cond c (Broken 4) (Whole g tail))) ≡ Whole f rest → Tests a b c g f tail rest
tests_pass true b c g f tail rest e = absurd cc
tests_pass false true c g f tail rest e = absurd cc
tests_pass false false true g f tail rest e = absurd cc
tests_pass false false false g f tail rest e = record { kind = refl; flags = refl; body = refl; first = cc; left = cc }

record Sizes (a b : Bool) (there whole : Front) : Type 0 where
  pub range : a ≡ false
  pub count : b ≡ false
  pub same : there ≡ whole

sizes_pass : (a b : Bool) (r k : ℕ) (there : Front) (f : Frame) (rest : List ℕ) → cond a (Broken r) (cond b (Lacking k) there) ≡ Whole f rest → Sizes a b there (Whole f rest)
sizes_pass true b r k there f rest e = absurd cc
sizes_pass false true r k there f rest e = absurd cc
sizes_pass false false r k there f rest e = record { range = refl; count = refl; same = e }

four_held : (a : Bool) (k : ℕ) (there : Front) (f : Frame) (rest : List ℕ) → cond a (Lacking k) there ≡ Whole f rest → there ≡ Whole f rest
four_held true k there f rest e = absurd cc
four_held false k there f rest e = e

found_sized : (side : Side) (bytes : List ℕ) (f : Frame) (rest : List ℕ) → sized side (number32_at bytes 0) bytes ≡ Whole f rest → Found side bytes f rest
found_sized side bytes f rest e =
    let len : ℕ = number32_at bytes 0 in
    let sizes : Sizes (ltb len 8 || ltb FRAME_LENGTH len) (ltb (length bytes) (4 + len)) (checked side (take len (drop 4 bytes)) (drop (4 + len) bytes)) (Whole f rest) = sizes_pass _ _ _ _ _ f rest e in
    let tests : Tests _ _ _ _ f _ rest = tests_pass _ _ _ _ f _ rest sizes.same in
    let kind : is_kind side (slice_index (content_of bytes) 0) ≡ true = not-false _ tests.kind in
    let body : is_body side (slice_index (content_of bytes) 0) (drop 8 (content_of bytes)) ≡ true = not-false _ tests.body in
    record {
      least = ltb-false len 8 (or_parts _ _ sizes.range).0;
      most = ltb-false FRAME_LENGTH len (or_parts _ _ sizes.range).1;
      whole = ltb-false (length bytes) (4 + len) sizes.count;
      kind = rw tests.first kind;
      flags = eqb-true _ _ (not-false _ tests.flags);
      body = rw tests.first body;
      first = tests.first;
      left = tests.left;
    }

-- a whole frame at the front keeps all rules, and is the front's bytes
pub found : (side : Side) (bytes : List ℕ) (f : Frame) (rest : List ℕ) → front side bytes ≡ Whole f rest → Found side bytes f rest
unfolding front
found side bytes f rest e = found_sized side bytes f rest (four_held _ _ _ f rest e)

-- a byte's value
abbrev pub IsByte : ℕ → Type 0
IsByte b = b < 256

pub part_small : (n m : ℕ) (xs : List ℕ) → All IsByte xs → All IsByte (take n (drop m xs))
part_small n m xs small = All-take IsByte n (drop m xs) (All-drop IsByte m xs small)

pub small_at : (xs : List ℕ) → All IsByte xs → (i : ℕ) → get_or xs i 0 < 256
small_at xs small i = elim (cases_lt i (length xs)) [ inl h ↦ All-get_or IsByte xs i 0 h small | inr h ↦ rw (get_or_past xs i 0 h) (lit< tt) ]

pub two_bytes : (a b : ℕ) → All IsByte (a ∷ b ∷ []) → to_be_bytes w16 (from_be_bytes w16 (a ∷ b ∷ [])) ≡ a ∷ b ∷ []
two_bytes a b small = be_bytes_2 (a ∷ b ∷ []) _ refl (small_at (a ∷ b ∷ []) small) refl

four_bytes : (a b c d : ℕ) → All IsByte (a ∷ b ∷ c ∷ d ∷ []) → to_be_bytes w32 (from_be_bytes w32 (a ∷ b ∷ c ∷ d ∷ [])) ≡ a ∷ b ∷ c ∷ d ∷ []
four_bytes a b c d small = be_bytes_4 (a ∷ b ∷ c ∷ d ∷ []) _ refl (small_at (a ∷ b ∷ c ∷ d ∷ []) small) refl

spelled_content : (content : List ℕ) → 8 ≤ length content → All IsByte content → slice_index content 1 ≡ 0
    → content ≡ (slice_index content 0 ∷ 0 ∷ []) ++ to_be_bytes w16 (number16_at content 2) ++ to_be_bytes w32 (number32_at content 4) ++ drop 8 content
spelled_content [] long small flags = absurd (omega arith)
spelled_content (k ∷ []) long small flags = absurd (omega arith)
spelled_content (k ∷ z ∷ []) long small flags = absurd (omega arith)
spelled_content (k ∷ z ∷ l0 ∷ []) long small flags = absurd (omega arith)
spelled_content (k ∷ z ∷ l0 ∷ l1 ∷ []) long small flags = absurd (omega arith)
spelled_content (k ∷ z ∷ l0 ∷ l1 ∷ t0 ∷ []) long small flags = absurd (omega arith)
spelled_content (k ∷ z ∷ l0 ∷ l1 ∷ t0 ∷ t1 ∷ []) long small flags = absurd (omega arith)
spelled_content (k ∷ z ∷ l0 ∷ l1 ∷ t0 ∷ t1 ∷ t2 ∷ []) long small flags = absurd (omega arith)
spelled_content (k ∷ z ∷ l0 ∷ l1 ∷ t0 ∷ t1 ∷ t2 ∷ t3 ∷ body) long small flags =
    let xs : List ℕ = k ∷ z ∷ l0 ∷ l1 ∷ t0 ∷ t1 ∷ t2 ∷ t3 ∷ body in
    let two : to_be_bytes w16 (from_be_bytes w16 (l0 ∷ l1 ∷ [])) ≡ l0 ∷ l1 ∷ [] = two_bytes l0 l1 (part_small 2 2 xs small) in
    let four : to_be_bytes w32 (from_be_bytes w32 (t0 ∷ t1 ∷ t2 ∷ t3 ∷ [])) ≡ t0 ∷ t1 ∷ t2 ∷ t3 ∷ [] = four_bytes t0 t1 t2 t3 (part_small 4 4 xs small) in
    ap (λ (n : ℕ). k ∷ n ∷ l0 ∷ l1 ∷ t0 ∷ t1 ∷ t2 ∷ t3 ∷ body) flags
    ∙ ap (λ (w : List ℕ). (k ∷ 0 ∷ []) ++ w ++ (t0 ∷ t1 ∷ t2 ∷ t3 ∷ []) ++ body) (sym two)
    ∙ ap (λ (w : List ℕ). (k ∷ 0 ∷ []) ++ to_be_bytes w16 (from_be_bytes w16 (l0 ∷ l1 ∷ [])) ++ w ++ body) (sym four)

spelled_length : (bytes : List ℕ) → 4 ≤ length bytes → All IsByte bytes → take 4 bytes ≡ to_be_bytes w32 (number32_at bytes 0)
spelled_length [] long small = absurd (omega arith)
spelled_length (a ∷ []) long small = absurd (omega arith)
spelled_length (a ∷ b ∷ []) long small = absurd (omega arith)
spelled_length (a ∷ b ∷ c ∷ []) long small = absurd (omega arith)
spelled_length (a ∷ b ∷ c ∷ d ∷ xs) long small = sym (four_bytes a b c d (part_small 4 0 (a ∷ b ∷ c ∷ d ∷ xs) small))

-- what is read is what was written, and what is left is behind it
pub written_out : (side : Side) (bytes : List ℕ) (f : Frame) (rest : List ℕ) → All IsByte bytes → front side bytes ≡ Whole f rest → bytes ≡ spelled f ++ rest
written_out side bytes f rest small e =
    let here : Found side bytes f rest = found side bytes f rest e in
    let len : ℕ = number32_at bytes 0 in
    let content : List ℕ = content_of bytes in
    let size : length content ≡ len = length-take-le len (drop 4 bytes) (omega (arith, length-drop 4 bytes, here.whole)) in
    let body : length (drop 8 content) ≡ len - 8 = omega (arith, length-drop 8 content, size) in
    let sum : len ≡ 8 + length (drop 8 content) = omega (arith, body, here.least) in
    let kind : ℕ = slice_index content 0 in
    let lun : ℕ = number16_at content 2 in
    let tag : ℕ = number32_at content 4 in
    let spelling : List ℕ = (kind ∷ 0 ∷ []) ++ to_be_bytes w16 lun ++ to_be_bytes w32 tag ++ drop 8 content in
    let inner : content ≡ spelling = spelled_content content (omega (arith, size, here.least)) (part_small len 4 bytes small) here.flags in
    sym (take-append-drop 4 bytes)
    ∙ ap (λ (w : List ℕ). w ++ drop 4 bytes) (spelled_length bytes (omega (arith, here.whole)) small)
    ∙ ap (λ (w : List ℕ). to_be_bytes w32 len ++ w) (sym (take-append-drop len (drop 4 bytes)))
    ∙ ap (λ (w : List ℕ). to_be_bytes w32 len ++ (content ++ w)) (drop-drop len 4 bytes ∙ sym here.left)
    ∙ ap (λ (w : List ℕ). to_be_bytes w32 len ++ (w ++ rest)) inner
    ∙ ap (λ (n : ℕ). to_be_bytes w32 n ++ (spelling ++ rest)) sum
    ∙ ap (λ (g : Frame). spelled g ++ rest) (sym here.first)
