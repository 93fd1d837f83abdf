-- What a reservation forbids (SPC-4, persistent reservations; SPC-4 and SBC-3, the tables of commands that conflict).
use Rattle.std.specs.Prelude.{Bool, true, false, Option, Some, None, if◌then◌else◌}
use Rattle.pr_words.specs.declared.nexus.Nexus.{Nexus}
use Rattle.pr_words.specs.declared.reservation.Kind.{Kind}
use Rattle.pr_words.specs.declared.reservation.Kind.TheVariants.{WriteExclusive, ExclusiveAccess, WriteRegistrants, ExclusiveRegistrants, WriteAll, ExclusiveAll}
use Rattle.pr_words.specs.declared.role.Role.{Role}
use Rattle.pr_words.specs.declared.role.Role.TheVariants.{Holder, Registered, Stranger}
use Rattle.pr_grammar.specs.declared.cdb.Class.{Class}
use Rattle.pr_grammar.specs.declared.cdb.Class.TheVariants.{Reads, Writes, Free}
use Rattle.pr_grammar.specs.Standings.{Standing, kind_of, is_holder, is_registered}

-- what a nexus is to the reservation
abbrev pub role_of : Standing → Nexus → Role
role_of s n = if is_holder s n then Holder else if is_registered s.pairs n then Registered else Stranger

-- no command, those that write, and those that read or write
abbrev pub none : Class → Bool
none class = false

abbrev pub writes : Class → Bool
writes Reads = false
writes Writes = true
writes Free = false

abbrev pub access : Class → Bool
access Reads = true
access Writes = true
access Free = false

-- a row for each type: what conflicts from a registered nexus that doesn't hold the reservation, and what
-- from one that isn't registered
abbrev pub row : Kind → (Class → Bool) × (Class → Bool)
row WriteExclusive = (writes, writes)
row ExclusiveAccess = (access, access)
row WriteRegistrants = (none, writes)
row ExclusiveRegistrants = (none, access)
row WriteAll = (none, writes)
row ExclusiveAll = (none, access)

-- whether a command of a class conflicts with a reservation of a type; nothing of a holder's does
abbrev pub conflicts : Kind → Role → Class → Bool
conflicts kind Holder class = false
conflicts kind Registered class = (row kind).0 class
conflicts kind Stranger class = (row kind).1 class

-- the same where one is held, or none, with which nothing conflicts
abbrev pub conflicts_in : Option Kind → Role → Class → Bool
conflicts_in None role class = false
conflicts_in (Some kind) role class = conflicts kind role class

-- whether a command of a class that comes from a nexus conflicts with the reservation
abbrev pub is_forbidden : Standing → Nexus → Class → Bool
is_forbidden s n class = conflicts_in (kind_of s.reservation) (role_of s n) class
