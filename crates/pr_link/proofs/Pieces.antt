-- A frame that stands whole in the first of two pieces.
use Rattle.std.proofs.Common.{◌≡◌, ℕ, ◌+◌, ◌-◌, List, ◌++◌, length, take, drop, slice_range, sym, ap, ◌∙◌, arith}
use Rattle.std.proofs.lemmas.List.{take_at, length-append, length-take-le, length-drop, drop-append-le}
use Rattle.pr_words.specs.declared.nexus.Side.{Side}
use Rattle.pr_grammar.specs.Frames as grammar
use Rattle.pr_grammar.specs.Frames.{Lacking, Broken, Whole, front, is_body}
use Rattle.pr_grammar.proofs.Framings.{whole_more}
use Rattle.pr_link.specs.declared.frame.Frame.{Frame}
use Rattle.pr_link.specs.declared.front.Front.TheVariants as fronts
use Rattle.pr_link.specs.Streams.{IsFormed, frame_of}
use Rattle.pr_link.specs.Fronts.{IsFront, body_in}

-- it stands at the front of both, where its body was copied and its bytes were dropped
pub whole_piece : (side : Side) (k : grammar.Front) (piece more held left buf tail : List ℕ) (g : Frame) → front side piece ≡ k → IsFront side k (fronts.Whole g) piece
    → piece ++ more ≡ held → buf ≡ slice_range piece 12 (12 + g.body) ++ tail → left ≡ drop (length held - (length held - (12 + g.body))) held
    → (front side held ≡ Whole (frame_of g (take g.body buf)) left) × IsFormed side g buf
whole_piece side (Whole f rest) piece more held left buf tail g at is pieces written kept =
    let body : List ℕ = body_in g.body piece in
    let cut : 12 + g.body - 12 ≡ g.body = omega arith in
    let copied : slice_range piece 12 (12 + g.body) ≡ body = ap (λ (n : ℕ). take n (drop 12 piece)) cut in
    let long : length body ≡ g.body = length-take-le g.body (drop 12 piece) (omega (arith, length-drop 12 piece, is.3)) in
    let same : take g.body buf ≡ body = ap (take g.body) (written ∙ ap (λ (w : List ℕ). w ++ tail) copied) ∙ take_at body tail g.body long in
    let count : length held - (length held - (12 + g.body)) ≡ 12 + g.body = omega (arith, ap length pieces, length-append piece more, is.3) in
    let left_is : left ≡ rest ++ more =
    kept ∙ ap (λ (n : ℕ). drop n held) count ∙ ap (drop (12 + g.body)) (sym pieces) ∙ drop-append-le (12 + g.body) piece more is.3 ∙ ap (λ (w : List ℕ). w ++ more) (sym is.1) in
    let found : front side held ≡ Whole f (rest ++ more) = ap (front side) (sym pieces) ∙ whole_more side piece more f rest at in
    let frame_is : f ≡ frame_of g (take g.body buf) = is.0 ∙ ap (frame_of g) (sym same) in
    let whole : front side held ≡ Whole (frame_of g (take g.body buf)) left =
    found ∙ ap (λ (x : grammar.Frame). Whole x (rest ++ more)) frame_is ∙ ap (λ (w : List ℕ). Whole (frame_of g (take g.body buf)) w) (sym left_is) in
    (whole, (is.2, ap (is_body side g.kind) same ∙ is.5, is.4))
whole_piece side (Lacking k) piece more held left buf tail g at is pieces written kept = absurd is
whole_piece side (Broken r) piece more held left buf tail g at is pieces written kept = absurd is
