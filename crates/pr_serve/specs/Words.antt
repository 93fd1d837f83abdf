-- Which words ask for a target that serves: `serve ADDRESS REGISTRATIONS BLOCKS`, and behind them maybe `--accept N` (this
-- project's own).
use Rattle.std.specs.Prelude.{ℕ, ◌&&◌, ◌^◌, nat_lt, nat_le, Bool, List, [], ◌∷◌, length, slice_index, Option, Some, None, codes, if◌then◌else◌}
use Rattle.std.specs.Str.{bytes_eq}
use Rattle.std.specs.List.{list_all}
use Rattle.std.specs.Char.{digit_value}
use Rattle.std.specs.Str.Parse.{digits_value}

abbrev pub Text : Type 0
Text = List ℕ

-- what is asked for: where connections come in, both files, and how many connections are taken, where that is said
pub record Asked : Type 0 where
  pub address : Text
  pub registrations : Text
  pub blocks : Text
  pub accept : Option ℕ

abbrev pub is_decimal_digit : ℕ → Bool
is_decimal_digit c = nat_lt (digit_value c) 10

-- no sign stands first, and no zero
abbrev pub is_bare_text : Text → Bool
is_bare_text text = nat_lt 0 (length text) && (nat_le 49 (slice_index text 0) && nat_le (slice_index text 0) 57)

-- a number from 1 to 2^64 - 1, by its decimal digits alone
abbrev pub number_in : Text → Option ℕ
number_in text =
    if is_bare_text text && (list_all is_decimal_digit text && nat_lt (digits_value 10 text) (2 ^ 64)) then Some (digits_value 10 text) else None

abbrev pub within_counts : Option ℕ → Option ℕ
within_counts None = None
within_counts (Some n) = if nat_le n 1000000 then Some n else None

-- so many connections, 1 to 1,000,000
abbrev pub count_in : Text → Option ℕ
count_in text = within_counts (number_in text)

abbrev pub said : Option ℕ → Option (Option ℕ)
said None = None
said (Some count) = Some (Some count)

-- behind the files: nothing, or `--accept` and so many connections
abbrev pub accept_in : List Text → Option (Option ℕ)
accept_in [] = Some None
accept_in (option ∷ []) = None
accept_in (option ∷ count ∷ []) = if bytes_eq option (codes "--accept") then said (count_in count) else None
accept_in (option ∷ count ∷ more ∷ rest) = None

abbrev pub asked_with : Text → Text → Text → Option (Option ℕ) → Option Asked
asked_with address registrations blocks None = None
asked_with address registrations blocks (Some accept) = Some (record { address = address; registrations = registrations; blocks = blocks; accept = accept })

-- what words ask for: nothing where they aren't those of `serve`
abbrev pub words_in : List Text → Option Asked
words_in (verb ∷ address ∷ registrations ∷ blocks ∷ rest) =
    if bytes_eq verb (codes "serve") then asked_with address registrations blocks (accept_in rest) else None
words_in _ = None
