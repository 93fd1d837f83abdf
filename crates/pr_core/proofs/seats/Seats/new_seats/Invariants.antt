use Rattle.std.proofs.Common.{◌≡◌, ◌-◌, ◌≤◌, ◌++◌, drop, length, vec_len, vec_capacity}
use Rattle.pr_words.specs.declared.limits.TheConstants.{KNOWN}
use Rattle.pr_table.specs.Tables.{standing_of}
use Rattle.pr_core.proofs.Restoring.{seats_for}
use Rattle.pr_core.proofs.seats.Seats.new_seats.Given as goal

abbrev pub invariant-loop-seats : goal.invariant-loop-seats
invariant-loop-seats l = record {
  rest : seats_for (standing_of l.table).pairs ≡ l.seats.items ++ seats_for (drop (vec_len l.seats) (standing_of l.table).pairs);
  room : KNOWN ≤ vec_capacity l.seats;
  within : vec_len l.seats ≤ length (standing_of l.table).pairs;
}

abbrev pub decreases-loop-seats : goal.decreases-loop-seats
decreases-loop-seats l = length (standing_of l.table).pairs - vec_len l.seats
