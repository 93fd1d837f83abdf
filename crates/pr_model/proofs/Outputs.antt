-- A reply that fits one output record, and one of none.
use Rattle.std.proofs.Common.{◌≡◌, ℕ, zero, suc, ◌≤◌, ◌<◌, List, [], length, take, drop, refl, ap, ◌∙◌, arith, eqb, false, ◌-◌}
use Rattle.std.proofs.lemmas.List.{take_all, drop_all, append-nil}
use Rattle.std.proofs.lemmas.Bool.{ne_eqb}
use Rattle.pr_words.specs.declared.limits.TheConstants.{PIECE}
use Rattle.pr_grammar.specs.Outputs.{output_record, output_records, output_of}

pub output_of-nil : (who : ℕ) → output_of who [] ≡ []
unfolding output_of
output_of-nil who = refl

no_records : (n who : ℕ) → output_records n who [] ≡ []
no_records zero who = refl
no_records (suc n) who = refl

one_record : (n who : ℕ) (bytes : List ℕ) → length bytes ≡ suc n → length bytes ≤ PIECE → output_records (suc n) who bytes ≡ output_record who bytes
one_record n who bytes size short =
    let front : take PIECE bytes ≡ bytes = take_all PIECE bytes short in
    let rest : drop PIECE bytes ≡ [] = drop_all PIECE bytes short in
    let some : eqb (length bytes) 0 ≡ false = ne_eqb (length bytes) 0 (λ e. absurd (omega (arith, e, size))) in
    rw (some, front, rest, no_records n who) (append-nil (output_record who bytes))

pub output_of-short : (who : ℕ) (bytes : List ℕ) → 0 < length bytes → length bytes ≤ PIECE → output_of who bytes ≡ output_record who bytes
unfolding output_of
output_of-short who bytes some short =
    let size : length bytes ≡ suc (length bytes - 1) = omega arith in
    ap (λ (k : ℕ). output_records k who bytes) size ∙ one_record (length bytes - 1) who bytes size short
