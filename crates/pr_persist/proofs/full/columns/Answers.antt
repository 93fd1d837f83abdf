use Rattle.std.proofs.Common.{◌≡◌, ◌∙◌, ◌+◌, ◌<◌, ℕ, List, [], ◌∷◌, ◌++◌, length, map, take, drop, set, get_or, ap, ap₂, sym, arith, add-one}
use Rattle.std.proofs.Math.Seq.{take-suc, take-suc-set}
use Rattle.std.proofs.Math.ListN.{length-set}
use Rattle.std.proofs.lemmas.List.{get_or-drop, map-append, take_all, length-drop}
use Rattle.pr_persist.specs.Texts.{shown_byte}
use Rattle.pr_persist.proofs.full.columns.Goals as goal

-- one byte more is shown
shown_more : (columns bytes : List ℕ) (i v : ℕ) → i < length columns → 8 + i < length bytes → v ≡ shown_byte (get_or bytes (8 + i) 0) → take i columns ≡ map shown_byte (take i (drop 8 bytes))
    → take (i + 1) (set columns i v) ≡ map shown_byte (take (i + 1) (drop 8 bytes))
shown_more columns bytes i v less room is before =
    let rest : List ℕ = drop 8 bytes in
    let byte : v ≡ shown_byte (get_or rest i 0) = is ∙ ap shown_byte (sym (get_or-drop 8 bytes i 0)) in
    ap (λ (n : ℕ). take n (set columns i v)) (add-one i) ∙ take-suc-set columns i v less ∙ ap₂ (λ (a : List ℕ) (b : ℕ). a ++ b ∷ []) before byte ∙ sym (map-append shown_byte (take i rest) (get_or rest i 0 ∷ []))
    ∙ sym (ap (map shown_byte) (take-suc rest i 0 (omega (arith, length-drop 8 bytes, room)))) ∙ ap (λ (n : ℕ). map shown_byte (take n rest)) (sym (add-one i))

pub loop-i-preserved : goal.loop-i-preserved
loop-i-preserved c =
    record {
      size = length-set c.loop-i.columns c.loop-i.i c.shown.result ∙ c.loop-i.invariant.size;
      shown = shown_more c.loop-i.columns c.args.bytes.now c.loop-i.i c.shown.result (omega (arith, c.loop-i-test.true, c.loop-i.invariant.size)) (omega (arith, c.loop-i-test.true, c.requires)) c.shown.ensures c.loop-i.invariant.shown;
    }

pub returns : goal.returns
returns c =
    let last : c.loop-i.i ≡ 28 = omega (arith, c.loop-i-test.false, c.loop-i.auto.i-end) in
    let all : take 28 c.loop-i.columns ≡ c.loop-i.columns = take_all 28 c.loop-i.columns (omega (arith, c.loop-i.invariant.size)) in
    sym all ∙ ap (λ (n : ℕ). take n c.loop-i.columns) (sym last) ∙ c.loop-i.invariant.shown ∙ ap (λ (n : ℕ). map shown_byte (take n (drop 8 c.args.bytes.now))) last
