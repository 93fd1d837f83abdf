use Rattle.std.proofs.Common.{◌≡◌, map, take, drop, length, ◌++◌, refl, sym, ap, subst, ◌∙◌, List}
use Rattle.pr_table.specs.Tables.{removed_of}
use Rattle.pr_core.specs.declared.seats.Seat.{Seat}
use Rattle.pr_core.specs.Places.{seat_in, IsAscending}
use Rattle.pr_core.specs.Telling.{marked_seat}
use Rattle.pr_core.proofs.SeatLaws.{all_told, mapped, mapped_up}
use Rattle.pr_core.proofs.seats.Seats.mark.Goals as goal

pub invariant_of-self : goal.invariant_of-self
invariant_of-self c =
    let self = c.args.self.now in
    let seats = self.items.items in
    let new = c.mark_each.new.seats in
    let f = marked_seat c.args.change.now.abort (removed_of c.args.table.now) in
    let told : take self.items.len (new ++ drop (length new) seats) ≡ map f seats = all_told f seats new (drop (length new) seats) self.items.len self.items.ok.0 (c.mark_each.ensures ∙ ap (map f) c.as_mut_slice.ensures.value) in
    record {
      ascending = subst (λ (xs : List Seat). IsAscending xs) (sym told) (mapped_up f (λ s. refl) seats self.ascending);
      within = self.within;
      room = self.room;
    }

pub returns-clause-seat : goal.returns-clause-seat
returns-clause-seat c =
    let self = c.args.self.now in
    let seats = self.items.items in
    let new = c.mark_each.new.seats in
    let f = marked_seat c.args.change.now.abort (removed_of c.args.table.now) in
    let told : take self.items.len (new ++ drop (length new) seats) ≡ map f seats = all_told f seats new (drop (length new) seats) self.items.len self.items.ok.0 (c.mark_each.ensures ∙ ap (map f) c.as_mut_slice.ensures.value) in
    ap seat_in told ∙ mapped f (λ s. refl) seats
