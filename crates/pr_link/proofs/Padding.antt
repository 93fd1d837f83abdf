-- The zeros behind a CDB, up to its 16 bytes.
use Rattle.std.proofs.Common.{◌≡◌, ℕ, ◌+◌, ◌-◌, ◌≤◌, ◌==◌, Bool, true, false, ◌&&◌, not, ltb, List, [], ◌∷◌, ◌++◌, length, take, drop, slice_range, replicate, refl, sym, ap, ◌∙◌, subst, arith, inl, inr}
use Rattle.std.specs.List.{list_all}
use Rattle.std.specs.Int.{w64, to_be_bytes, from_be_bytes}
use Rattle.std.proofs.Math.Seq.{take-add}
use Rattle.std.proofs.lemmas.Bool.{eqb-true, and_parts, ltb-true, ltb-false}
use Rattle.std.proofs.lemmas.Bool.Decides.{eqb_tells}
use Rattle.std.proofs.lemmas.List.{drop-drop, drop-take, take-take, length-take-le, length-drop}
use Rattle.std.proofs.lemmas.List.Folds.{list_all-append}
use Rattle.pr_grammar.specs.Bodies.{is_zero, announced_cdb, command_cdb, is_command_body}

all_zeros : (xs : List ℕ) → list_all is_zero xs ≡ true → xs ≡ replicate (length xs) 0
all_zeros [] are = refl
all_zeros (x ∷ xs) are =
    let parts = and_parts (is_zero x) (list_all is_zero xs) are in
    ap (λ (n : ℕ). n ∷ xs) (eqb-true x 0 parts.0) ∙ ap (λ (ys : List ℕ). 0 ∷ ys) (all_zeros xs parts.1)

-- a number is zero where its bytes are
pub zero_word : (word : List ℕ) (n : ℕ) → length word ≡ 8 → n ≡ from_be_bytes w64 word → to_be_bytes w64 n ≡ word → list_all is_zero word ≡ (n == 0)
zero_word word n size number spelled =
    elim (eqb_tells n 0) [
      | inl (same, zero) ↦ ap (list_all is_zero) (sym spelled ∙ ap (to_be_bytes w64) zero) ∙ sym same
      | inr (other, some) ↦ by some (list_all is_zero word) refl ∙ sym other
    ]
  where
    by : (n ≡ 0 → ⊥) → (b : Bool) → list_all is_zero word ≡ b → list_all is_zero word ≡ false
    by some false are = are
    by some true are = absurd (some (number ∙ ap (from_be_bytes w64) (all_zeros word are ∙ ap (λ (k : ℕ). replicate k 0) size)))

-- the zeros behind a short CDB are looked at in two parts, the last of which has eight bytes
pub zeros_in_parts : (body : List ℕ) (size : ℕ) → size ≤ 8 → list_all is_zero (slice_range body (4 + size) 20) ≡ (list_all is_zero (slice_range body (4 + size) 12) && list_all is_zero (slice_range body 12 20))
zeros_in_parts body size few =
    let front : List ℕ = slice_range body (4 + size) 12 in
    let sum : 20 - (4 + size) ≡ 12 - (4 + size) + 8 = omega (arith, few) in
    let place : 4 + size + (12 - (4 + size)) ≡ 12 = omega (arith, few) in
    let behind : drop (12 - (4 + size)) (drop (4 + size) body) ≡ drop 12 body = drop-drop (12 - (4 + size)) (4 + size) body ∙ ap (λ (k : ℕ). drop k body) place in
    let parts : slice_range body (4 + size) 20 ≡ front ++ take 8 (drop 12 body) =
    ap (λ (k : ℕ). take k (drop (4 + size) body)) sum ∙ take-add (12 - (4 + size)) 8 (drop (4 + size) body) ∙ ap (λ (w : List ℕ). front ++ take 8 w) behind in
    ap (list_all is_zero) parts ∙ list_all-append is_zero front (take 8 (drop 12 body))

-- what stands in a Command's body is a CDB with its zeros
pub record Carried (body bytes : List ℕ) : Type 0 where
  pub some : 1 ≤ announced_cdb body
  pub few : announced_cdb body ≤ 16
  pub room : length bytes ≡ 16
  pub zeros : drop (announced_cdb body) bytes ≡ replicate (16 - announced_cdb body) 0
  pub cdb : take (announced_cdb body) bytes ≡ command_cdb body

in_body : (body : List ℕ) → is_command_body body ≡ true → Carried body (slice_range body 4 20)
in_body body is =
    let size : ℕ = announced_cdb body in
    let all : Bool = not (ltb (length body) 20) in
    let middle : Bool = list_all is_zero (slice_range body 1 4) in
    let last : ((all && ltb 0 size && ltb size 17 && middle) ≡ true) × (list_all is_zero (slice_range body (4 + size) 20) ≡ true) = and_parts _ _ is in
    let third : ((all && ltb 0 size && ltb size 17) ≡ true) × (middle ≡ true) = and_parts _ _ last.0 in
    let second : ((all && ltb 0 size) ≡ true) × (ltb size 17 ≡ true) = and_parts _ _ third.0 in
    let first : (all ≡ true) × (ltb 0 size ≡ true) = and_parts _ _ second.0 in
    let some : 1 ≤ size = omega (arith, ltb-true 0 size first.1) in
    let few : size ≤ 16 = omega (arith, ltb-true size 17 second.1) in
    let long : 20 ≤ length body = long_by (ltb (length body) 20) refl first.0 in
    let bytes : List ℕ = slice_range body 4 20 in
    let tail : drop size bytes ≡ slice_range body (4 + size) 20 = tail_is size few in
    let count : length (drop size bytes) ≡ 16 - size = omega (arith, length-drop size bytes, length-take-le 16 (drop 4 body) (omega (arith, length-drop 4 body, long))) in
    record {
      some = some;
      few = few;
      room = length-take-le 16 (drop 4 body) (omega (arith, length-drop 4 body, long));
      zeros = all_zeros (drop size bytes) (ap (list_all is_zero) tail ∙ last.1) ∙ ap (λ (k : ℕ). replicate k 0) count;
      cdb = front_is size few;
    }
  where
    long_by : (b : Bool) → ltb (length body) 20 ≡ b → not b ≡ true → 20 ≤ length body
    long_by true is short = absurd cc
    long_by false is short = omega (arith, ltb-false (length body) 20 is)

    tail_is : (size : ℕ) → size ≤ 16 → drop size (slice_range body 4 20) ≡ slice_range body (4 + size) 20
    tail_is size few =
        let sum : 16 ≡ size + (16 - size) = omega arith in
        let left : 16 - size ≡ 20 - (4 + size) = omega arith in
        ap (λ (k : ℕ). drop size (take k (drop 4 body))) sum ∙ drop-take size (16 - size) (drop 4 body) ∙ ap (take (16 - size)) (drop-drop size 4 body)
        ∙ ap (λ (k : ℕ). take k (drop (4 + size) body)) left

    front_is : (size : ℕ) → size ≤ 16 → take size (slice_range body 4 20) ≡ slice_range body 4 (4 + size)
    front_is size few =
        let least : size ≡ 4 + size - 4 = omega arith in
        take-take size 16 (drop 4 body) few ∙ ap (λ (k : ℕ). take k (drop 4 body)) least

pub carried : (body bytes : List ℕ) → is_command_body body ≡ true → bytes ≡ slice_range body 4 20 → Carried body bytes
carried body bytes is cut = subst (Carried body) (sym cut) (in_body body is)
