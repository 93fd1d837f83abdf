use Rattle.std.proofs.Common.{◌≡◌, ◌+◌, ◌++◌, ◌∷◌, [], drop, vec_len, slice_get, Some, List, ap, sym, ◌∙◌, subst, arith, ℕ}
use Rattle.pr_words.specs.declared.nexus.Pair.{Pair}
use Rattle.pr_table.specs.Tables.{standing_of}
use Rattle.pr_core.specs.declared.seats.Seat.{Seat}
use Rattle.pr_core.specs.Places.{IsAscending}
use Rattle.pr_core.proofs.Restoring.{seats_for, one_more_seat, no_more_seats, seats_ascend}
use Rattle.pr_core.proofs.seats.Seats.new_seats.Goals as goal

pub loop-seats-preserved : goal.loop-seats-preserved
loop-seats-preserved c =
    let ps : List Pair = (standing_of c.args.table.now).pairs in
    let old = c.loop-seats.seats in
    let p : Pair = record { nexus = c.at.result.0; key = c.at.result.1 } in
    let here : slice_get ps (vec_len old) ≡ Some p = subst (λ (i : ℕ). slice_get ps i ≡ Some p) c.len-in-loop-seats.ensures c.at.ensures in
    let len : vec_len c.push.new.self ≡ vec_len old + 1 = c.in_ok-push.ensures.len in
    record {
      rest =
          one_more_seat ps old.items (vec_len old) p here c.loop-seats.invariant.rest
          ∙ ap (λ (s : Seat). (old.items ++ s ∷ []) ++ seats_for (drop (vec_len old + 1) ps)) (sym c.new.ensures)
          ∙ ap (λ (xs : List Seat). xs ++ seats_for (drop (vec_len old + 1) ps)) (sym c.in_ok-push.ensures.items)
          ∙ ap (λ (i : ℕ). c.push.new.self.items ++ seats_for (drop i ps)) (sym len);
      room = omega (arith, c.in_ok-push.ensures.capacity, c.loop-seats.invariant.room);
      within = omega (arith, len, c.len.ensures, c.count.ensures.count, c.loop-seats-test.true);
    }

pub returns-clause-order : goal.returns-clause-order
returns-clause-order c =
    let ps : List Pair = (standing_of c.args.table.now).pairs in
    let all = no_more_seats ps c.loop-seats.seats.items (vec_len c.loop-seats.seats) (omega (arith, c.len.ensures, c.count.ensures.count, c.loop-seats-test.false)) c.loop-seats.invariant.rest in
    subst IsAscending (sym all) (seats_ascend ps c.count.ensures.order)
