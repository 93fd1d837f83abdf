-- Unit attention conditions that wait are at most four.
use Rattle.std.proofs.Common.{◌≡◌, ◌<◌, Bool, true, false, List, [], ◌∷◌, ◌++◌, ◌||◌, length, refl, ap, ◌∙◌, arith}
use Rattle.std.specs.Prelude.{drop}
use Rattle.std.specs.List.{list_any, All, AllByRecursion, IsDistinct}
use Rattle.std.specs.Cmp.{IsEquivalence}
use Rattle.std.proofs.lemmas.Bool.{false≢true, true≢false, and_parts, eqb-true}
use Rattle.std.proofs.lemmas.List.Elements.{All-head, All-tail, All-cons, All-append}
use Rattle.std.proofs.lemmas.Map.Keys.{IsDistinct-cons, IsDistinct-tail, IsDistinct-head}
use Rattle.std.proofs.lemmas.Map.Made.{length-le_from_is_member}
use Rattle.std.proofs.lemmas.Grind.{common_steps}
use Rattle.pr_words.specs.declared.code.Code.{Code}
use Rattle.pr_words.specs.declared.code.TheConstants.Code.{POWER_ON}
use Rattle.pr_model.specs.Attentions.{same_code, attention_codes, is_attention, AreAttentions}

code_equiv : IsEquivalence same_code
code_equiv = record { refl = λ x. grind (arith, common_steps); symm = λ x y. grind (arith, common_steps); congr = λ x y z e. grind (arith, common_steps, and_parts, eqb-true) }

same_code_is : (a b : Code) → same_code a b ≡ true → a ≡ b
same_code_is a b e = grind (arith, common_steps, and_parts, eqb-true)

apart : (c : Code) (cs : List Code) → list_any (same_code c) cs ≡ false → AllByRecursion (λ y. same_code c y ≡ false) cs
apart c [] e = tt
apart c (x ∷ xs) e = by (same_code c x) refl e (apart c xs)
  where
    by : (b : Bool) → same_code c x ≡ b → (b || list_any (same_code c) xs) ≡ false → (list_any (same_code c) xs ≡ false → AllByRecursion (λ y. same_code c y ≡ false) xs) → AllByRecursion (λ y. same_code c y ≡ false) (x ∷ xs)
    by true f e rest = absurd (true≢false e)
    by false f e rest = (f, rest e)

-- a code apart from each of a list is apart from it at its end
pushed : (x c : Code) (cs : List Code) → AllByRecursion (λ y. same_code x y ≡ false) cs → same_code x c ≡ false → AllByRecursion (λ y. same_code x y ≡ false) (cs ++ c ∷ [])
pushed x c [] all e = (e, tt)
pushed x c (y ∷ ys) all e = (all.0, pushed x c ys all.1 e)

distinct_more : (c : Code) (cs : List Code) → IsDistinct same_code cs → list_any (same_code c) cs ≡ false → IsDistinct same_code (cs ++ c ∷ [])
distinct_more c [] d e = IsDistinct-cons same_code c [] tt d
distinct_more c (x ∷ xs) d e = by (same_code c x) refl e (distinct_more c xs (IsDistinct-tail same_code x xs d))
  where
    by : (b : Bool) → same_code c x ≡ b → (b || list_any (same_code c) xs) ≡ false → (list_any (same_code c) xs ≡ false → IsDistinct same_code (xs ++ c ∷ [])) → IsDistinct same_code (x ∷ (xs ++ c ∷ []))
    by true f e rest = absurd (true≢false e)
    by false f e rest = IsDistinct-cons same_code x (xs ++ c ∷ []) (pushed x c xs (IsDistinct-head same_code x xs d) (code_equiv.symm x c ∙ f)) (rest e)

-- who is in a list of attentions is one of the four
known_of : (q : Code) (cs : List Code) → All (λ c. is_attention c ≡ true) cs → list_any (same_code q) cs ≡ true → is_attention q ≡ true
known_of q [] all e = absurd (false≢true e)
known_of q (x ∷ xs) all e = by (same_code q x) refl e (known_of q xs (All-tail (λ c. is_attention c ≡ true) x xs all))
  where
    by : (b : Bool) → same_code q x ≡ b → (b || list_any (same_code q) xs) ≡ true → (list_any (same_code q) xs ≡ true → is_attention q ≡ true) → is_attention q ≡ true
    by true f e rest = ap is_attention (same_code_is q x f) ∙ All-head (λ c. is_attention c ≡ true) x xs all
    by false f e rest = rest e

-- where one of the four doesn't wait, there is room for it
pub room_for : (c : Code) (cs : List Code) → AreAttentions cs → is_attention c ≡ true → list_any (same_code c) cs ≡ false → length cs < 4
room_for c cs are known e =
    length-le_from_is_member code_equiv (c ∷ cs) attention_codes (IsDistinct-cons same_code c cs (apart c cs e) are.distinct)
    (λ q f. known_of q (c ∷ cs) (All-cons (λ d. is_attention d ≡ true) c cs known are.known) f)

pub more_attentions : (c : Code) (cs : List Code) → AreAttentions cs → is_attention c ≡ true → list_any (same_code c) cs ≡ false → AreAttentions (cs ++ c ∷ [])
more_attentions c cs are known e =
    record {
      distinct = distinct_more c cs are.distinct e;
      known = All-append (λ d. is_attention d ≡ true) cs (c ∷ []) are.known (All-cons (λ d. is_attention d ≡ true) c [] known (λ k d lt. absurd (omega arith)));
    }

pub fewer_attentions : (cs : List Code) → AreAttentions cs → AreAttentions (drop 1 cs)
fewer_attentions [] are = are
fewer_attentions (c ∷ cs) are = record { distinct = IsDistinct-tail same_code c cs are.distinct; known = All-tail (λ d. is_attention d ≡ true) c cs are.known }

none_distinct : IsDistinct same_code []
unfolding IsDistinct
none_distinct = tt

pub fresh_attentions : AreAttentions (POWER_ON ∷ [])
fresh_attentions =
    record {
      distinct = IsDistinct-cons same_code POWER_ON [] tt none_distinct;
      known = All-cons (λ d. is_attention d ≡ true) POWER_ON [] refl (λ k d lt. absurd (omega arith));
    }
