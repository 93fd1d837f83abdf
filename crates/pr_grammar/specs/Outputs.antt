-- What a replayed schedule writes (this project's own): records of a lane, a zero byte, a length in 2 bytes, and so many bytes.
use Rattle.std.specs.Prelude.{ℕ, zero, suc, ◌==◌, List, [], ◌∷◌, ◌++◌, length, take, drop, if◌then◌else◌}
use Rattle.std.specs.Int.{w16, to_be_bytes}
use Rattle.pr_words.specs.declared.limits.TheConstants.{PIECE}

abbrev pub output_record : ℕ → List ℕ → List ℕ
output_record lane bytes = (lane ∷ 0 ∷ []) ++ to_be_bytes w16 (length bytes) ++ bytes

-- as many records as are needed, each of the most bytes that one holds but the last
abbrev pub output_records : ℕ → ℕ → List ℕ → List ℕ
output_records zero lane bytes = []
output_records (suc most) lane bytes =
    if length bytes == 0 then [] else output_record lane (take PIECE bytes) ++ output_records most lane (drop PIECE bytes)

-- a lane's reply as it is written
unfoldable pub output_of : ℕ → List ℕ → List ℕ
output_of lane bytes = output_records (length bytes) lane bytes
