-- What is kept of a medium's blocks stays true to it.
use Rattle.std.proofs.Common.{◌≡◌, inl, inr, ℕ, List, length, refl, sym, ap, ◌∙◌, arith, Some, None}
use Rattle.std.specs.Prelude.{◌≢◌, ◌/◌, Option, Result, Ok, replicate, slice_index_or}
use Rattle.std.proofs.lemmas.Bool.{cases_eq, cases_lt}
use Rattle.std.proofs.lemmas.List.{get_or-replicate, get_or_past, length-replicate}
use Rattle.pr_io.specs.declared.outside.Failed.{Failed}
use Rattle.pr_io.specs.BlocksAhead.{IsKept, IsTrueTo, piece_of, place_of, slot_of}
use Rattle.pr_io.specs.Contents.{OthersStay, ReadsBlock, WritesBlock, block_at}

some_alike : (a b : ℕ) → Some a ≡ Some b → a ≡ b
some_alike a b e = cc

held_alike : (f g : ℕ → List ℕ) → Some f ≡ Some g → f ≡ g
held_alike f g e = cc

-- blocks that are kept stand in different slots
apart : (pieces : List (Option ℕ)) (l lba : ℕ) → IsKept pieces l → IsKept pieces lba → l ≢ lba → slot_of l ≢ slot_of lba
apart pieces l lba kept this differs same =
    let places : place_of (piece_of l) ≡ place_of (piece_of lba) = omega (arith, same) in
    let both : Some (piece_of l) ≡ Some (piece_of lba) = sym kept ∙ ap (λ (p : ℕ). slice_index_or pieces p None) places ∙ this in
    let piece : l / 32 ≡ lba / 32 = some_alike (piece_of l) (piece_of lba) both in
    differs (omega (arith, same, places, piece))

-- a read of what is kept
pub reads_kept : (contents : Option (ℕ → List ℕ)) (lba : ℕ) (block : List ℕ) → ((held : ℕ → List ℕ) → contents ≡ Some held → block ≡ held lba) → ReadsBlock {T = Unit {0}} {E = Failed} contents lba (Ok (tt {0})) block
reads_kept None lba block told = tt
reads_kept (Some held) lba block told = told held refl

-- a block that is kept was written
pub wrote_kept : (before now : Option (ℕ → List ℕ)) (count : ℕ) (pieces : List (Option ℕ)) (old new : List ℕ) (lba : ℕ) (block : List ℕ) (written : Result (Unit {0}) Failed)
    → written ≡ Ok (tt {0}) → WritesBlock before now lba written block → IsKept pieces lba → block_at new (slot_of lba) ≡ block → OthersStay (block_at old) (block_at new) (slot_of lba)
    → IsTrueTo before count pieces old → IsTrueTo now count pieces new
wrote_kept None None count pieces old new lba block written done writes this put others alike held told l less kept = absurd cc
wrote_kept None (Some g) count pieces old new lba block written done writes this put others alike held told l less kept = absurd cc
wrote_kept (Some f) None count pieces old new lba block written done writes this put others alike held told l less kept = absurd writes
wrote_kept (Some f) (Some g) count pieces old new lba block written done writes this put others alike held told l less kept =
    let same : g ≡ held = held_alike g held told in
    elim (cases_eq l lba) [
      | inl is ↦ ap (λ (k : ℕ). block_at new (slot_of k)) is ∙ put ∙ sym (rw done at writes.0) ∙ ap g (sym is) ∙ ap (λ (h : ℕ → List ℕ). h l) same
      | inr differs ↦ others (slot_of l) (apart pieces l lba kept this differs) ∙ alike f refl l less kept ∙ sym (writes.1 l differs) ∙ ap (λ (h : ℕ → List ℕ). h l) same
    ]

none_or_some : (a : ℕ) (x : Option ℕ) → x ≡ None → x ≡ Some a → ⊥
none_or_some a x none some = cc

abbrev no_piece : Option ℕ
no_piece = None

-- no place among these has a piece
empty_at : (n place : ℕ) → slice_index_or (replicate n no_piece) place no_piece ≡ no_piece
empty_at n place =
    elim (cases_lt place n) [
      | inl less ↦ get_or-replicate n place no_piece no_piece less
      | inr past ↦ get_or_past (replicate n no_piece) place no_piece (omega (arith, past, length-replicate n no_piece))
    ]

-- of nothing all is true
pub nothing_is_true : (contents : Option (ℕ → List ℕ)) (count n : ℕ) (pieces : List (Option ℕ)) (bytes : List ℕ) → pieces ≡ replicate n None → IsTrueTo contents count pieces bytes
nothing_is_true contents count n pieces bytes nothing held told lba less kept =
    let place : ℕ = place_of (piece_of lba) in
    absurd (none_or_some (piece_of lba) (slice_index_or pieces place None) (ap (λ (p : List (Option ℕ)). slice_index_or p place None) nothing ∙ empty_at n place) kept)

pub places_of : (n : ℕ) (pieces : List (Option ℕ)) → pieces ≡ replicate n None → length pieces ≡ n
places_of n pieces nothing = ap length nothing ∙ length-replicate n no_piece
