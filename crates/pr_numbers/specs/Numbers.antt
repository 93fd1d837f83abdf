-- Numbers among the words (this project's own).
use Rattle.std.specs.Prelude.{ℕ, ◌-◌, ◌^◌, ◌==◌, ◌&&◌, ◌||◌, nat_lt, not, Bool, List, ◌++◌, length, drop, replicate, slice_index, Option, Some, None, Result, Ok, Err, if◌then◌else◌}
use Rattle.std.specs.List.{list_all}
use Rattle.std.specs.Int.{w64, from_be_bytes}
use Rattle.std.specs.Str.Parse.{digits_value}
use Rattle.std.specs.Char.{digit_value}
use Rattle.hex.specs.Hex.{decode_sized}
use Rattle.hex.specs.declared.error.FromHexError.{FromHexError}

-- what stands behind a lower-case `0x`, or all
abbrev pub digits_of : List ℕ → List ℕ
digits_of text = if nat_lt 1 (length text) && (slice_index text 0 == 48 && slice_index text 1 == 120) then drop 2 text else text

abbrev pub number_by : Result (List ℕ) FromHexError → Option ℕ
number_by (Ok bytes) = Some (from_be_bytes w64 bytes)
number_by (Err e) = None

-- at least one and at most so many hexadecimal digits, of both cases, and `0x` before them or not
abbrev pub hex_in : ℕ → List ℕ → Option ℕ
hex_in most text =
    if length (digits_of text) == 0 || nat_lt most (length (digits_of text)) then None else
    number_by (decode_sized (replicate (16 - length (digits_of text)) 48 ++ digits_of text) 8)

abbrev pub is_decimal_digit : ℕ → Bool
is_decimal_digit c = nat_lt (digit_value c) 10

-- no sign stands first, and no zero unless it is the only digit
abbrev pub is_bare_text : List ℕ → Bool
is_bare_text text =
    nat_lt 0 (length text) && (not (slice_index text 0 == 43) && (not (slice_index text 0 == 48) || length text == 1))

-- a number below 65,536, by its decimal digits alone
abbrev pub decimal_in : List ℕ → Option ℕ
decimal_in text =
    if is_bare_text text && (list_all is_decimal_digit text && nat_lt (digits_value 10 text) (2 ^ 16)) then Some (digits_value 10 text) else None
