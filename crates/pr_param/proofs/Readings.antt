-- Keys and descriptors, read one after the other.
use Rattle.std.proofs.Common.{◌≡◌, ◌≢◌, ℕ, zero, suc, ◌+◌, ◌*◌, ◌<◌, ◌≤◌, List, length, drop, refl, ap, ◌∙◌, arith, rules}
use Rattle.std.specs.Prelude.{slice_get, Some, None}
use Rattle.std.proofs.lemmas.List.{drop-drop}
use Rattle.pr_words.specs.Fields.{number32_at, number64_at}
use Rattle.pr_grammar.specs.InReplies.{keys_from, entries_from, entry_of, first_odd}
use Rattle.pr_grammar.specs.declared.param.ReplyFault.TheVariants.{BadLength}

pub length_keys : (n : ℕ) (bytes : List ℕ) → length (keys_from n bytes) ≡ n
length_keys zero bytes = refl
length_keys (suc n) bytes = ap suc (length_keys n (drop 8 bytes))

pub length_entries : (n : ℕ) (bytes : List ℕ) → length (entries_from n bytes) ≡ n
length_entries zero bytes = refl
length_entries (suc n) bytes = ap suc (length_entries n (drop 48 bytes))

pub key_in : (n i : ℕ) (bytes : List ℕ) → i < n → slice_get (keys_from n bytes) i ≡ Some (record { 0 = number64_at (drop (8 * i) bytes) 0 })
key_in zero i bytes lt = absurd (omega (arith, lt))
key_in (suc n) zero bytes lt = refl
key_in (suc n) (suc i) bytes lt =
    let past : drop (8 * i) (drop 8 bytes) ≡ drop (8 * suc i) bytes = drop-drop (8 * i) 8 bytes ∙ ap (λ m. drop m bytes) (omega arith) in
    key_in n i (drop 8 bytes) (omega (arith, lt)) ∙ ap (λ ys. Some (record { 0 = number64_at ys 0 })) past

pub entry_in : (n i : ℕ) (bytes : List ℕ) → i < n → slice_get (entries_from n bytes) i ≡ Some (entry_of (drop (48 * i) bytes))
entry_in zero i bytes lt = absurd (omega (arith, lt))
entry_in (suc n) zero bytes lt = refl
entry_in (suc n) (suc i) bytes lt =
    let past : drop (48 * i) (drop 48 bytes) ≡ drop (48 * suc i) bytes = drop-drop (48 * i) 48 bytes ∙ ap (λ m. drop m bytes) (omega arith) in
    entry_in n i (drop 48 bytes) (omega (arith, lt)) ∙ ap (λ ys. Some (entry_of ys)) past

pub odd_cut : (left more place : ℕ) (bytes : List ℕ) → left ≡ suc more → length bytes < place + 24 → first_odd left place bytes ≡ None
odd_cut left more place bytes e h = rw e (search (rules, h))

pub odd_here : (left more place : ℕ) (bytes : List ℕ) → left ≡ suc more → place + 24 ≤ length bytes → number32_at bytes (place + 20) ≢ 24 → first_odd left place bytes ≡ Some (BadLength (place + 20) (number32_at bytes (place + 20)))
odd_here left more place bytes e h ne = rw e (search (rules, h, ne))

pub odd_past : (left more place : ℕ) (bytes : List ℕ) → left ≡ suc more → place + 24 ≤ length bytes → number32_at bytes (place + 20) ≡ 24 → first_odd left place bytes ≡ first_odd more (place + 48) bytes
odd_past left more place bytes e h same = rw e (search (rules, h, same))
