-- The numbers of reservation types (SPC-4, persistent reservation type codes).
use Rattle.std.specs.Prelude.{ℕ, Option, Some, None, ◌==◌, if◌then◌else◌}
use Rattle.pr_words.specs.declared.reservation.Kind.{Kind}
use Rattle.pr_words.specs.declared.reservation.Kind.TheVariants.{WriteExclusive, ExclusiveAccess, WriteRegistrants, ExclusiveRegistrants, WriteAll, ExclusiveAll}

-- the type with a number
abbrev pub kind_at : ℕ → Option Kind
kind_at n =
    if n == 1 then Some WriteExclusive else
    if n == 3 then Some ExclusiveAccess else
    if n == 5 then Some WriteRegistrants else
    if n == 6 then Some ExclusiveRegistrants else
    if n == 7 then Some WriteAll else
    if n == 8 then Some ExclusiveAll else None

-- the number of a type
abbrev pub kind_code : Kind → ℕ
kind_code WriteExclusive = 1
kind_code ExclusiveAccess = 3
kind_code WriteRegistrants = 5
kind_code ExclusiveRegistrants = 6
kind_code WriteAll = 7
kind_code ExclusiveAll = 8
