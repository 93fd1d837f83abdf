-- What stands at the front of bytes that are looked at in place (this project's own).
use Rattle.std.specs.Prelude.{◌≡◌, ℕ, ◌+◌, ◌<◌, ◌≤◌, true, List, length, drop, take}
use Rattle.pr_words.specs.Fields.{number32_at}
use Rattle.pr_words.specs.declared.limits.TheConstants.{BODY, HELD, FRAME_HEAD}
use Rattle.pr_words.specs.declared.nexus.Side.{Side}
use Rattle.pr_grammar.specs.Frames as grammar
use Rattle.pr_grammar.specs.Frames.{Lacking, Broken, Whole, is_kind, is_body}
use Rattle.pr_link.specs.declared.front.Front.{Front}
use Rattle.pr_link.specs.declared.front.Front.TheVariants as front
use Rattle.pr_link.specs.Streams.{frame_of}

-- the body of a frame that stands at the front of bytes
abbrev pub body_in : ℕ → List ℕ → List ℕ
body_in size bytes = take size (drop FRAME_HEAD bytes)

-- with so many bytes more, the length of a frame is there, or else the frame
abbrev pub IsWanted : ℕ → List ℕ → Type 0
IsWanted n bytes = (length bytes < 4 → length bytes + n ≡ 4) × (4 ≤ length bytes → length bytes + n ≡ 4 + number32_at bytes 0)

-- what is found is what stands at the front: bytes that lack, so many that the longest frame has room; or a broken rule; or
-- a frame, whose body stands behind its head
abbrev pub IsFront : Side → grammar.Front → Front → List ℕ → Type 0
IsFront side (Lacking k) (front.Need n) bytes = (n ≡ k) × (length bytes + n ≤ HELD) × (1 ≤ n) × IsWanted n bytes
IsFront side (Broken r) (front.Bad reason) bytes = reason ≡ r
IsFront side (Whole f rest) (front.Whole g) bytes =
    (f ≡ frame_of g (body_in g.body bytes)) × (rest ≡ drop (FRAME_HEAD + g.body) bytes) × (g.body ≤ BODY) × (FRAME_HEAD + g.body ≤ length bytes)
    × (is_kind side g.kind ≡ true) × (is_body side g.kind (body_in g.body bytes) ≡ true) × (8 + g.body ≡ number32_at bytes 0)
IsFront side _ _ bytes = ⊥

-- a whole content is a frame or breaks a rule
abbrev pub IsChecked : Side → grammar.Front → Front → List ℕ → List ℕ → Type 0
IsChecked side (Broken r) (front.Bad reason) content rest = reason ≡ r
IsChecked side (Whole f tail) (front.Whole g) content rest =
    (f ≡ frame_of g (drop 8 content)) × (tail ≡ rest) × (8 + g.body ≡ length content) × (is_kind side g.kind ≡ true) × (is_body side g.kind (drop 8 content) ≡ true)
IsChecked side _ _ content rest = ⊥
