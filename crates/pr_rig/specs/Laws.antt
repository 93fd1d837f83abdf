-- What the answers on which a fence agent rests tell of the target's world (SPC-4).
use Rattle.std.specs.Prelude.{◌≡◌, ℕ, ◌^◌, ◌<◌, ◌≤◌, true, false, List, length, Ok}
use Rattle.std.specs.List.{list_any}
use Rattle.pr_words.specs.declared.nexus.Key.{Key}
use Rattle.pr_words.specs.declared.nexus.Nexus.{Nexus}
use Rattle.pr_words.specs.declared.service.InService.TheVariants as ins
use Rattle.pr_words.specs.declared.service.OutService.TheVariants as outs
use Rattle.pr_grammar.specs.Cdbs.{spelled_cdb}
use Rattle.pr_grammar.specs.OutLists.{list_of}
use Rattle.pr_model.specs.Commands.{good}
use Rattle.pr_model.specs.Entries.{Command, Entry, entry}
use Rattle.pr_model.specs.Histories.{MayFollow, moved}
use Rattle.pr_words.specs.declared.limits.TheConstants.{LIMIT}
use Rattle.pr_model.specs.Registrants.{has_key}
use Rattle.pr_model.specs.Worlds.{World}
use Rattle.pr_initiator.specs.Commands.{Order, plain_cdb, reserve_in, reserve_out}
use Rattle.pr_fence.specs.Seeing.{held_in, listed_in}
use Rattle.pr_rig.specs.Rig.{IsReserved}

-- an order that was answered GOOD, with these data-in
abbrev pub answered_good : ℕ → Nexus → Order → List ℕ → List ℕ → Entry
answered_good who n order sent told = entry who n (Command 0 (spelled_cdb (plain_cdb order.command)) sent) (good told)

-- where READ KEYS is answered with data in which a key that fits its field isn't, nobody is registered with it, and the world stays
abbrev pub KeysTell : Type 0
KeysTell =
    (w : World) (who : ℕ) (n : Nexus) (sent told : List ℕ) (key : Key) → length w.standing.pairs ≤ LIMIT → key.0 < 2 ^ 64
    → MayFollow w (answered_good who n (reserve_in ins.ReadKeys) sent told) → Ok false ≡ listed_in key told
    → (moved w (answered_good who n (reserve_in ins.ReadKeys) sent told) ≡ w) × (list_any (has_key key.0) w.standing.pairs ≡ false)

-- where READ RESERVATION is answered with data that tell of one, it stands, and the world stays
abbrev pub ReservationTells : Type 0
ReservationTells =
    (w : World) (who : ℕ) (n : Nexus) (sent told : List ℕ)
    → MayFollow w (answered_good who n (reserve_in ins.ReadReservation) sent told) → Ok true ≡ held_in told
    → (moved w (answered_good who n (reserve_in ins.ReadReservation) sent told) ≡ w) × IsReserved w.standing

-- behind a RESERVE of type 5h that is GOOD a reservation stands
abbrev pub ReserveHolds : Type 0
ReserveHolds =
    (w : World) (who : ℕ) (n : Nexus) (sent told : List ℕ)
    → MayFollow w (answered_good who n (reserve_out outs.Reserve 5 (list_of sent)) sent told)
    → IsReserved (moved w (answered_good who n (reserve_out outs.Reserve 5 (list_of sent)) sent told)).standing

-- and where one stood, one stands behind a PREEMPT AND ABORT of another key than the caller's that is GOOD
abbrev pub PreemptKeeps : Type 0
PreemptKeeps =
    (w : World) (who : ℕ) (n : Nexus) (sent told : List ℕ) → ((list_of sent).key ≡ (list_of sent).action_key → ⊥) → IsReserved w.standing
    → MayFollow w (answered_good who n (reserve_out outs.PreemptAndAbort 5 (list_of sent)) sent told)
    → IsReserved (moved w (answered_good who n (reserve_out outs.PreemptAndAbort 5 (list_of sent)) sent told)).standing
