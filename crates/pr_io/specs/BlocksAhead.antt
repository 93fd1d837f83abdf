-- Blocks that are kept from a read ahead, in pieces of 32 (this project's own).
use Rattle.std.specs.Prelude.{◌≡◌, ℕ, ◌+◌, ◌*◌, ◌/◌, ◌%◌, ◌<◌, List, slice_index_or, Option, Some, None}
use Rattle.pr_io.specs.Contents.{block_at}
use Rattle.pr_io.specs.declared.read_ahead.TheConstants.{PIECE, PLACES}

-- the piece in which a block lies (this project's own)
abbrev pub piece_of : ℕ → ℕ
piece_of lba = lba / PIECE

-- the one of 32 places in which a piece is kept; pieces that follow one another have places of their own, and so have, mostly, those that lie a power of two apart (this project's own)
abbrev pub place_of : ℕ → ℕ
place_of piece = (piece + piece / PLACES + piece / (PLACES * PLACES)) % PLACES

-- the place of a block among those that are kept (this project's own)
abbrev pub slot_of : ℕ → ℕ
slot_of lba = place_of (piece_of lba) * PIECE + lba % PIECE

-- the block's piece is kept, where each place tells which piece it has, if any (this project's own)
abbrev pub IsKept : List (Option ℕ) → ℕ → Type 0
IsKept pieces lba = slice_index_or pieces (place_of (piece_of lba)) None ≡ Some (piece_of lba)

-- what is kept of a medium is what stands there, where that is told (this project's own)
abbrev pub IsTrueTo : Option (ℕ → List ℕ) → ℕ → List (Option ℕ) → List ℕ → Type 0
IsTrueTo contents count pieces bytes = (held : ℕ → List ℕ) → contents ≡ Some held → (lba : ℕ) → lba < count → IsKept pieces lba → block_at bytes (slot_of lba) ≡ held lba
