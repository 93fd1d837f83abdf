use Rattle.std.proofs.Common.{◌≡◌, ◌∙◌, refl, sym, ap, subst, not, ℕ, ◌<◌, lit<}
use Rattle.pr_words.specs.declared.limits.TheConstants.{LIMIT}
use std.Path.{fun_ext}
use Rattle.pr_grammar.specs.Standings.{Standing}
use Rattle.pr_model.specs.Acts.{acted}
use Rattle.pr_model.specs.Keeping.{kept, same_kept}
use Rattle.pr_model.specs.Registrants.{IsWellFormed}
use Rattle.pr_table.specs.Told.{requested}
use Rattle.pr_model.proofs.Reaching.{acted_reaches}
use Rattle.pr_model.proofs.WellFormed.{well_formed}
use Rattle.pr_table.specs.Tables.{standing_of, removed_of}
use Rattle.pr_core.specs.Seats.{seat_of}
use Rattle.pr_core.proofs.Reserving.{Served, does_here, seated_still, tells_by, tells_some, tells_owner, tells_progress, tells_fit, reserves_good, reserves_unsaved, reserves_conflict, reserves_bad}
use Rattle.pr_core.proofs.Restoring.{formed_of, have_ports}
use Rattle.pr_core.proofs.Settled.{counts_saved, counts_unsaved}
use Rattle.pr_core.proofs.StateLaws.{same_ports}
use Rattle.pr_core.proofs.Owned.{same_owned}
use Rattle.pr_core.proofs.state.State.reserve_out.Goals as goal

pub save-requires-clause-formed : goal.save-requires-clause-formed
save-requires-clause-formed g c =
    let o = requested c.args.request.now c.args.list.now in
    let does = does_here c.args.self.now c.copy_from.new.self c.args.nexus c.args.request.now c.args.list.now _ _ _ (c.copy_from.ensures.limit ∙ c.args.self.now.same_limit) c.copy_from.ensures.standing c.in-Good.ensures.does in
    subst (IsWellFormed LIMIT) (sym does.standing) (well_formed LIMIT (standing_of c.args.self.now.table) c.args.nexus o (formed_of c.args.self.now))

pub save-requires-clause-ports : goal.save-requires-clause-ports
save-requires-clause-ports g c =
    let o = requested c.args.request.now c.args.list.now in
    let does = does_here c.args.self.now c.copy_from.new.self c.args.nexus c.args.request.now c.args.list.now _ _ _ (c.copy_from.ensures.limit ∙ c.args.self.now.same_limit) c.copy_from.ensures.standing c.in-Good.ensures.does in
    let served : Served c.args.self.now c.args.nexus o (standing_of c.serve.new.self) (removed_of c.serve.new.self) = record { standing_is = does.standing; gone_is = does.removed; caller = c.requires.known } in
    have_ports (standing_of c.serve.new.self).pairs (λ n is. c.args.self.now.ports n (seated_still c.args.self.now c.args.nexus o (standing_of c.serve.new.self) (removed_of c.serve.new.self) served n is))

pub tell-requires-clause-stay : goal.tell-requires-clause-stay
tell-requires-clause-stay g c =
    let o = requested c.args.request.now c.args.list.now in
    let does = does_here c.args.self.now c.copy_from.new.self c.args.nexus c.args.request.now c.args.list.now _ _ _ (c.copy_from.ensures.limit ∙ c.args.self.now.same_limit) c.copy_from.ensures.standing c.in-Good.ensures.does in
    λ code is. (acted_reaches LIMIT (standing_of c.args.self.now.table) c.args.nexus o).stay_code code (sym does.tells.3 ∙ is)

pub tell-requires-clause-gone : goal.tell-requires-clause-gone
tell-requires-clause-gone g c =
    let o = requested c.args.request.now c.args.list.now in
    let does = does_here c.args.self.now c.copy_from.new.self c.args.nexus c.args.request.now c.args.list.now _ _ _ (c.copy_from.ensures.limit ∙ c.args.self.now.same_limit) c.copy_from.ensures.standing c.in-Good.ensures.does in
    λ code is. (acted_reaches LIMIT (standing_of c.args.self.now.table) c.args.nexus o).removed_code code (sym does.tells.2 ∙ is)

pub invariant_of-self : goal.invariant_of-self
invariant_of-self g c =
    let o = requested c.args.request.now c.args.list.now in
    let does = does_here c.args.self.now c.copy_from.new.self c.args.nexus c.args.request.now c.args.list.now _ _ _ (c.copy_from.ensures.limit ∙ c.args.self.now.same_limit) c.copy_from.ensures.standing c.in-Good.ensures.does in
    let served : Served c.args.self.now c.args.nexus o (standing_of c.serve.new.self) (removed_of c.serve.new.self) = record { standing_is = does.standing; gone_is = does.removed; caller = c.requires.known } in
    let tells = tells_by c.args.self.now (seat_of c.tell.new.self) (seat_of c.mark.new.self) c.args.nexus o (standing_of c.serve.new.self) (removed_of c.serve.new.self) c.in-Good.change.stay_code c.in-Good.change.removed_code c.in-Good.change.abort served does.tells.3 does.tells.2 c.tell.ensures.seat c.mark.ensures.seat in
    let formed : IsWellFormed LIMIT (standing_of c.copy_from-in-Ok.new.self) =
    subst (IsWellFormed LIMIT) (sym (c.copy_from-in-Ok.ensures.standing ∙ does.standing)) (well_formed LIMIT (standing_of c.args.self.now.table) c.args.nexus o (formed_of c.args.self.now)) in
    record {
      limit = c.copy_from-in-Ok.ensures.limit ∙ c.args.self.now.limit;
      same_limit = c.serve.ensures.limit ∙ c.copy_from.ensures.limit ∙ c.args.self.now.same_limit;
      within = formed.within;
      ascending = formed.ascending;
      keys = formed.keys;
      sound = formed.sound;
      seated = λ n is.
          tells_some (seat_of c.args.self.now.seats) (seat_of c.mark.new.self) c.args.nexus (acted LIMIT (standing_of c.args.self.now.table) c.args.nexus o) tells n
          ∙ seated_still c.args.self.now c.args.nexus o (standing_of c.copy_from-in-Ok.new.self) (removed_of c.serve.new.self) (record { standing_is = c.copy_from-in-Ok.ensures.standing ∙ does.standing; gone_is = does.removed; caller = c.requires.known }) n is;
      ports = same_ports (seat_of c.args.self.now.seats) (seat_of c.mark.new.self) (tells_some (seat_of c.args.self.now.seats) (seat_of c.mark.new.self) c.args.nexus (acted LIMIT (standing_of c.args.self.now.table) c.args.nexus o) tells) c.args.self.now.ports;
      fits = tells_fit c.args.self.now.blocks (seat_of c.args.self.now.seats) (seat_of c.mark.new.self) c.args.nexus (acted LIMIT (standing_of c.args.self.now.table) c.args.nexus o) tells c.args.self.now.fits;
      owned =
          same_owned (seat_of c.args.self.now.seats) (seat_of c.mark.new.self) (tells_owner (seat_of c.args.self.now.seats) (seat_of c.mark.new.self) c.args.nexus (acted LIMIT (standing_of c.args.self.now.table) c.args.nexus o) tells)
          (tells_progress (seat_of c.args.self.now.seats) (seat_of c.mark.new.self) c.args.nexus (acted LIMIT (standing_of c.args.self.now.table) c.args.nexus o) tells) c.args.self.now.owned;
      some = c.args.self.now.some;
      most = c.args.self.now.most;
    }

pub returns-in-Ok-clause-reserves : goal.returns-in-Ok-clause-reserves
returns-in-Ok-clause-reserves g c =
    let o = requested c.args.request.now c.args.list.now in
    let does = does_here c.args.self.now c.copy_from.new.self c.args.nexus c.args.request.now c.args.list.now _ _ _ (c.copy_from.ensures.limit ∙ c.args.self.now.same_limit) c.copy_from.ensures.standing c.in-Good.ensures.does in
    let served : Served c.args.self.now c.args.nexus o (standing_of c.serve.new.self) (removed_of c.serve.new.self) = record { standing_is = does.standing; gone_is = does.removed; caller = c.requires.known } in
    let tells = tells_by c.args.self.now (seat_of c.tell.new.self) (seat_of c.mark.new.self) c.args.nexus o (standing_of c.serve.new.self) (removed_of c.serve.new.self) c.in-Good.change.stay_code c.in-Good.change.removed_code c.in-Good.change.abort served does.tells.3 does.tells.2 c.tell.ensures.seat c.mark.ensures.seat in
    let acts : not (same_kept (kept (standing_of c.args.self.now.table)) (kept (acted LIMIT (standing_of c.args.self.now.table) c.args.nexus o).standing)) ≡ c.in-Good.change.keeps =
    sym (c.in-Good.ensures.keeps ∙ ap (λ (s : Standing). not (same_kept (kept s) (kept (standing_of c.serve.new.self)))) c.copy_from.ensures.standing ∙ ap (λ (s : Standing). not (same_kept (kept (standing_of c.args.self.now.table)) (kept s))) does.standing) in
    reserves_good c.args.keeper.now c.save.new.keeper c.args.self.now c.args.nexus o _ c.save.result _ c.good.result (c.copy_from-in-Ok.ensures.standing ∙ does.standing) refl tells c.in-Good.ensures.abort (c.mark.ensures.count ∙ c.tell.ensures.count) does.tells.0 c.in-Ok.is
    (λ w v holds keeps none is. c.save.ensures.saves w v holds (keeps ∙ sym (ap kept does.standing)) none (sym acts ∙ is))
    (counts_saved c.args.keeper.now c.save.new.keeper c.good.result _ c.save.ensures.reference c.save.ensures.told c.in-Ok.ensures.cause.calm c.good.ensures) c.good.ensures

pub returns-in-Err-clause-reserves : goal.returns-in-Err-clause-reserves
returns-in-Err-clause-reserves g c =
    let o = requested c.args.request.now c.args.list.now in
    let does = does_here c.args.self.now c.copy_from.new.self c.args.nexus c.args.request.now c.args.list.now _ _ _ (c.copy_from.ensures.limit ∙ c.args.self.now.same_limit) c.copy_from.ensures.standing c.in-Good.ensures.does in
    let acts : not (same_kept (kept (standing_of c.args.self.now.table)) (kept (acted LIMIT (standing_of c.args.self.now.table) c.args.nexus o).standing)) ≡ c.in-Good.change.keeps =
    sym (c.in-Good.ensures.keeps ∙ ap (λ (s : Standing). not (same_kept (kept s) (kept (standing_of c.serve.new.self)))) c.copy_from.ensures.standing ∙ ap (λ (s : Standing). not (same_kept (kept (standing_of c.args.self.now.table)) (kept s))) does.standing) in
    reserves_unsaved c.args.keeper.now c.save.new.keeper c.args.self.now c.args.nexus o _ c.save.result _ c.checking.result refl refl refl does.tells.0 c.in-Err.is
    (λ w v holds keeps none is. c.save.ensures.saves w v holds (keeps ∙ sym (ap kept does.standing)) none (sym acts ∙ is))
    (counts_unsaved c.args.keeper.now c.save.new.keeper c.checking.result c.save.ensures.reference c.save.ensures.told c.in-Err.ensures.cause.once c.checking.ensures.out) c.checking.ensures.out

pub returns-in-Ok-clause-owner : goal.returns-in-Ok-clause-owner
returns-in-Ok-clause-owner g c =
    let o = requested c.args.request.now c.args.list.now in
    let does = does_here c.args.self.now c.copy_from.new.self c.args.nexus c.args.request.now c.args.list.now _ _ _ (c.copy_from.ensures.limit ∙ c.args.self.now.same_limit) c.copy_from.ensures.standing c.in-Good.ensures.does in
    let served : Served c.args.self.now c.args.nexus o (standing_of c.serve.new.self) (removed_of c.serve.new.self) = record { standing_is = does.standing; gone_is = does.removed; caller = c.requires.known } in
    let tells = tells_by c.args.self.now (seat_of c.tell.new.self) (seat_of c.mark.new.self) c.args.nexus o (standing_of c.serve.new.self) (removed_of c.serve.new.self) c.in-Good.change.stay_code c.in-Good.change.removed_code c.in-Good.change.abort served does.tells.3 does.tells.2 c.tell.ensures.seat c.mark.ensures.seat in
    fun_ext (tells_owner (seat_of c.args.self.now.seats) (seat_of c.mark.new.self) c.args.nexus (acted LIMIT (standing_of c.args.self.now.table) c.args.nexus o) tells)

pub returns-in-Ok-clause-progress : goal.returns-in-Ok-clause-progress
returns-in-Ok-clause-progress g c =
    let o = requested c.args.request.now c.args.list.now in
    let does = does_here c.args.self.now c.copy_from.new.self c.args.nexus c.args.request.now c.args.list.now _ _ _ (c.copy_from.ensures.limit ∙ c.args.self.now.same_limit) c.copy_from.ensures.standing c.in-Good.ensures.does in
    let served : Served c.args.self.now c.args.nexus o (standing_of c.serve.new.self) (removed_of c.serve.new.self) = record { standing_is = does.standing; gone_is = does.removed; caller = c.requires.known } in
    let tells = tells_by c.args.self.now (seat_of c.tell.new.self) (seat_of c.mark.new.self) c.args.nexus o (standing_of c.serve.new.self) (removed_of c.serve.new.self) c.in-Good.change.stay_code c.in-Good.change.removed_code c.in-Good.change.abort served does.tells.3 does.tells.2 c.tell.ensures.seat c.mark.ensures.seat in
    fun_ext (tells_progress (seat_of c.args.self.now.seats) (seat_of c.mark.new.self) c.args.nexus (acted LIMIT (standing_of c.args.self.now.table) c.args.nexus o) tells)

pub returns-in-Conflict-clause-reserves : goal.returns-in-Conflict-clause-reserves
returns-in-Conflict-clause-reserves g c =
    let o = requested c.args.request.now c.args.list.now in
    let does = does_here c.args.self.now c.copy_from.new.self c.args.nexus c.args.request.now c.args.list.now _ _ _ (c.copy_from.ensures.limit ∙ c.args.self.now.same_limit) c.copy_from.ensures.standing c.in-Conflict.ensures.does in
    reserves_conflict c.args.self.now _ c.args.keeper.now c.args.nexus o c.conflict.result refl refl refl does.tells c.conflict.ensures

pub returns-in-Bad-clause-reserves : goal.returns-in-Bad-clause-reserves
returns-in-Bad-clause-reserves g c =
    let o = requested c.args.request.now c.args.list.now in
    let does = does_here c.args.self.now c.copy_from.new.self c.args.nexus c.args.request.now c.args.list.now _ _ _ (c.copy_from.ensures.limit ∙ c.args.self.now.same_limit) c.copy_from.ensures.standing c.in-Bad.ensures.does in
    reserves_bad c.args.self.now _ c.args.keeper.now c.args.nexus o c.in-Bad.code _ refl refl refl does.tells c.checking-in-Bad.ensures.out

pub returns-in-Bad-clause-proper : goal.returns-in-Bad-clause-proper
returns-in-Bad-clause-proper g c =
    let does = does_here c.args.self.now c.copy_from.new.self c.args.nexus c.args.request.now c.args.list.now _ _ _ (c.copy_from.ensures.limit ∙ c.args.self.now.same_limit) c.copy_from.ensures.standing c.in-Bad.ensures.does in
    let five = (acted_reaches LIMIT (standing_of c.args.self.now.table) c.args.nexus (requested c.args.request.now c.args.list.now)).refusal c.in-Bad.code does.tells in
    c.checking-in-Bad.ensures.proper (subst (λ (k : ℕ). k < 16) (sym five) (lit< tt))
