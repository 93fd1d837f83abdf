use Rattle.std.proofs.Common.{◌≡◌, ◌<◌, ◌+◌, ◌∷◌, ◌++◌, true, cond, take, drop, is_ok, vec_len, vec_capacity, refl, sym, ap, subst, ◌∙◌, Some, None, List}
use Rattle.pr_words.specs.declared.limits.TheConstants.{KNOWN}
use Rattle.pr_model.specs.Worlds.{set_at}
use Rattle.pr_core.specs.declared.seats.Seat.{Seat}
use Rattle.pr_core.specs.Places.{seat_in, IsAscending}
use Rattle.pr_core.specs.Seats.{seat_of, logged_in}
use Rattle.pr_core.proofs.SeatLaws.{at_place, written, inserted, inserted_up, has_room, below_both, one_more, within_both}
use Rattle.pr_core.proofs.seats.Seats.log_in.Goals as goal

pub invariant_of-self-in-Err : goal.invariant_of-self-in-Err
invariant_of-self-in-Err c =
    let self = c.args.self.now in
    let seats = self.items.items in
    let t : Seat = record { nexus = c.args.nexus; owner = Some c.args.who; attentions = c.fresh.result; task = None } in
    let few : vec_len self.items < KNOWN = has_room (seat_in seats c.args.nexus) (vec_len self.items) KNOWN c.in-Err.ensures.seat c.requires in
    let done : is_ok c.insert.result ≡ true = c.insert.ensures.succeeds (below_both (vec_len self.items) KNOWN (vec_capacity self.items) few self.room) in
    let is : c.insert.new.self.items ≡ take c.in-Err.place seats ++ t ∷ drop c.in-Err.place seats = c.insert.ensures.items ∙ ap (λ b. cond b (take c.in-Err.place seats ++ t ∷ drop c.in-Err.place seats) seats) done in
    let len : vec_len c.insert.new.self ≡ vec_len self.items + 1 = c.insert.ensures.len ∙ ap (λ b. cond b (vec_len self.items + 1) (vec_len self.items)) done in
    record {
      ascending = subst (λ (xs : List Seat). IsAscending xs) (sym is) (inserted_up seats c.in-Err.place t c.in-Err.ensures self.ascending);
      within = one_more (vec_len c.insert.new.self) (vec_len self.items) KNOWN len few;
      room = within_both KNOWN (vec_capacity self.items) (vec_capacity c.insert.new.self) self.room c.insert.ensures.capacity;
    }

pub returns-in-Ok-clause-seat : goal.returns-in-Ok-clause-seat
returns-in-Ok-clause-seat c =
    let self = c.args.self.now in
    let s = c.index_mut.result.now in
    let at = at_place self.items.items c.args.nexus c.in-Ok.place s c.in-Ok.ensures c.index_mut.ensures.value in
    written self.items.items c.args.nexus c.in-Ok.place (logged_in c.args.who c.args.nexus (Some s)) c.in-Ok.ensures at.1
    ∙ ap (λ o. set_at (seat_of self) c.args.nexus (Some (logged_in c.args.who c.args.nexus o))) (sym at.0)

pub returns-in-Err-clause-seat : goal.returns-in-Err-clause-seat
returns-in-Err-clause-seat c =
    let self = c.args.self.now in
    let seats = self.items.items in
    let t : Seat = record { nexus = c.args.nexus; owner = Some c.args.who; attentions = c.fresh.result; task = None } in
    let few : vec_len self.items < KNOWN = has_room (seat_in seats c.args.nexus) (vec_len self.items) KNOWN c.in-Err.ensures.seat c.requires in
    let done : is_ok c.insert.result ≡ true = c.insert.ensures.succeeds (below_both (vec_len self.items) KNOWN (vec_capacity self.items) few self.room) in
    let is : c.insert.new.self.items ≡ take c.in-Err.place seats ++ t ∷ drop c.in-Err.place seats = c.insert.ensures.items ∙ ap (λ b. cond b (take c.in-Err.place seats ++ t ∷ drop c.in-Err.place seats) seats) done in
    ap seat_in is
    ∙ inserted seats c.args.nexus c.in-Err.place t c.in-Err.ensures refl
    ∙ ap (λ cs. set_at (seat_of self) c.args.nexus (Some (record { nexus = c.args.nexus; owner = Some c.args.who; attentions = cs; task = None }))) c.fresh.ensures
    ∙ ap (λ o. set_at (seat_of self) c.args.nexus (Some (logged_in c.args.who c.args.nexus o))) (sym c.in-Err.ensures.seat)
