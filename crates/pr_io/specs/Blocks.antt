-- Sizes of what is kept in blocks.
use Rattle.std.specs.Prelude.{◌≡◌, ℕ, ◌*◌, ◌/◌, ◌^◌, ◌≤◌}

-- whole blocks of 512 bytes, at least one and at most 2^40 (SBC-3, logical blocks; the limit is this project's own)
pub record AreBlocks (size : ℕ) : Type 0 where
  pub whole : 512 * (size / 512) ≡ size
  pub some : 1 ≤ size / 512
  pub most : size / 512 ≤ 2 ^ 40

-- the bytes of a registrations' file (this project's own)
abbrev pub disk_size : ℕ
disk_size = 262144
