-- The keys of a cluster's nodes (this project's own).
use Rattle.std.specs.Prelude.{ℕ, ◌+◌, ◌*◌, ◌/◌, ◌%◌, List, take}
use Rattle.std.specs.Int.{w16, from_be_bytes}
use Rattle.md5.specs.Md5.{md5}
use Rattle.pr_words.specs.declared.nexus.Key.{Key}

-- four decimal digits, read as hexadecimal ones
abbrev pub read_as_hexadecimal : ℕ → ℕ
read_as_hexadecimal n = n / 1000 * 0x1000 + n / 100 % 10 * 0x100 + n / 10 % 10 * 0x10 + n % 10

-- as one hexadecimal number: the first four digits of the MD5 of the cluster's name, which are its first two bytes, and
-- then the node in four decimal digits
abbrev pub key_of : List ℕ → ℕ → Key
key_of cluster node = record { 0 = from_be_bytes w16 (take 2 (md5 cluster)) * 0x10000 + read_as_hexadecimal node }
