-- What a medium holds, block by block, where that is told.
use Rattle.std.specs.Prelude.{◌≡◌, ◌≢◌, ℕ, ◌+◌, ◌*◌, ◌/◌, ◌<◌, List, length, slice_range, Option, Some, None, Result, OnOk}

-- the block with this address, among blocks of 512 bytes that stand one after another (SBC-3, logical block address)
abbrev pub block_at : List ℕ → ℕ → List ℕ
block_at bytes lba = slice_range bytes (lba * 512) (lba * 512 + 512)

-- each block but this one stands as it did (this project's own)
abbrev pub OthersStay : (ℕ → List ℕ) → (ℕ → List ℕ) → ℕ → Type 0
OthersStay before now lba = (other : ℕ) → other ≢ lba → now other ≡ before other

-- a read that succeeds gives what stands in the block (SBC-3, READ)
abbrev pub ReadsBlock : {T E : Type 0} → Option (ℕ → List ℕ) → ℕ → Result T E → List ℕ → Type 0
ReadsBlock None lba result block = Unit {0}
ReadsBlock (Some held) lba result block = OnOk result (block ≡ held lba)

-- a write that succeeds puts the bytes into the block (SBC-3, WRITE); what a write that fails leaves there isn't known, and no other block changes (this project's own)
abbrev pub WritesBlock : {T E : Type 0} → Option (ℕ → List ℕ) → Option (ℕ → List ℕ) → ℕ → Result T E → List ℕ → Type 0
WritesBlock None now lba result block = now ≡ None
WritesBlock (Some before) None lba result block = ⊥
WritesBlock (Some before) (Some now) lba result block = OnOk result (now lba ≡ block) × OthersStay before now lba

-- a read of blocks that follow one another, where it succeeds, gives what stands in each (SBC-3, READ)
abbrev pub ReadsBlocks : {T E : Type 0} → Option (ℕ → List ℕ) → ℕ → Result T E → List ℕ → Type 0
ReadsBlocks None lba result bytes = Unit {0}
ReadsBlocks (Some held) lba result bytes = OnOk result ((i : ℕ) → i < length bytes / 512 → block_at bytes i ≡ held (lba + i))
