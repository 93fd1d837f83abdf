-- What is read of a parameter list is what a mask leaves of it.
use Rattle.std.proofs.Common.{◌≡◌, ℕ, Bool, true, false, cond, List, ◌∷◌, length, All, refl, ap, ◌∙◌, arith}
use Rattle.std.specs.Prelude.{Ok, Err, ◌==◌, not}
use Rattle.std.proofs.lemmas.Bool.{eqb-true, not-false}
use Rattle.pr_words.specs.declared.limits.TheConstants.{PARAMETER_LIST}
use Rattle.pr_grammar.specs.declared.param.OutList.{OutList}
use Rattle.pr_grammar.specs.declared.param.ParamFault.{ParamFault}
use Rattle.pr_grammar.specs.OutLists.{list_of, spelled_list}
use Rattle.pr_grammar.specs.Masks.{list_mask, ListsAreSpelled}
use Rattle.pr_grammar.proofs.Spellings.{IsByte, small_at}
use Rattle.pr_grammar.proofs.Maskings.{kept, masked_kept, list_bits, byte_then, number64_then}

right_length : (b : Bool) (fault : ParamFault) (there list : OutList) → cond b (Err fault) (Ok there) ≡ Ok list → (b ≡ false) × (there ≡ list)
right_length true fault there list e = absurd cc
right_length false fault there list e = (refl, cc)

list_kept : (bytes : List ℕ) → All IsByte bytes → length bytes ≡ PARAMETER_LIST → kept list_mask 0 bytes ≡ spelled_list (list_of bytes)
list_kept bytes small long =
    number64_then 0 bytes small (omega (arith, long)) (number64_then 8 bytes small (omega (arith, long))
    (ap (λ ys. 0 ∷ 0 ∷ 0 ∷ 0 ∷ ys) (byte_then (list_bits _ (small_at bytes small 20)) refl)))

pub lists_spelled : ListsAreSpelled
lists_spelled bytes list small e =
    let right : (not (length bytes == PARAMETER_LIST) ≡ false) × (list_of bytes ≡ list) = right_length _ _ (list_of bytes) list e in
    let long : length bytes ≡ PARAMETER_LIST = eqb-true (length bytes) PARAMETER_LIST (not-false _ right.0) in
    masked_kept list_mask bytes (omega (arith, long)) ∙ list_kept bytes small long ∙ ap spelled_list right.1
