use Rattle.std.proofs.Common.{refl, ap, ◌∙◌}
use Rattle.pr_words.specs.declared.service.InService.TheVariants as ins
use Rattle.pr_initiator.specs.Commands.{HasAnswered, reserve_in}
use Rattle.pr_fence.specs.declared.asked.Asked.TheVariants as ask
use Rattle.pr_fence.specs.Steps.{Orders, Reads}
use Rattle.pr_fence.specs.Seeing.{held_in}
use Rattle.pr_fence.proofs.Stepping.{went, failed, judged}
use Rattle.pr_fence.proofs.orders.is_held.Goals as goal

pub returns-in-Ok-clause-step : goal.returns-in-Ok-clause-step
returns-in-Ok-clause-step g c = went (Orders ask.Reservation (reserve_in ins.ReadReservation)) (λ u. Reads held_in) _ _ _ c.judged.result tt _ (judged ask.Reservation (λ old new r. HasAnswered old new (reserve_in ins.ReadReservation) r) _ _ c.read_reservation.result c.judged.result c.read_reservation.ensures.answered c.judged.ensures) c.in-Ok.is (refl, c.held.ensures ∙ ap held_in c.received.ensures)

pub returns-in-Err-clause-step : goal.returns-in-Err-clause-step
returns-in-Err-clause-step g c = failed (Orders ask.Reservation (reserve_in ins.ReadReservation)) (λ u. Reads held_in) _ _ c.judged.result c.in-Err.fault (judged ask.Reservation (λ old new r. HasAnswered old new (reserve_in ins.ReadReservation) r) _ _ c.read_reservation.result c.judged.result c.read_reservation.ensures.answered c.judged.ensures) c.in-Err.is
