-- Big-endian fields of a list of bytes (SPC-4: the most significant byte first).
use Rattle.std.specs.Prelude.{ℕ, ◌+◌, List, ◌++◌, take, drop}
use Rattle.std.specs.Int.{w16, w32, w64, from_be_bytes, to_be_bytes}

-- the number in the bytes from a place on
abbrev pub number16_at : List ℕ → ℕ → ℕ
number16_at bytes at = from_be_bytes w16 (take 2 (drop at bytes))

abbrev pub number32_at : List ℕ → ℕ → ℕ
number32_at bytes at = from_be_bytes w32 (take 4 (drop at bytes))

abbrev pub number64_at : List ℕ → ℕ → ℕ
number64_at bytes at = from_be_bytes w64 (take 8 (drop at bytes))

-- the bytes with a number written from a place on
abbrev pub with_number16 : List ℕ → ℕ → ℕ → List ℕ
with_number16 bytes at n = take at bytes ++ to_be_bytes w16 n ++ drop (at + 2) bytes

abbrev pub with_number32 : List ℕ → ℕ → ℕ → List ℕ
with_number32 bytes at n = take at bytes ++ to_be_bytes w32 n ++ drop (at + 4) bytes

abbrev pub with_number64 : List ℕ → ℕ → ℕ → List ℕ
with_number64 bytes at n = take at bytes ++ to_be_bytes w64 n ++ drop (at + 8) bytes
