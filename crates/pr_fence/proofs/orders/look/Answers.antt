use Rattle.std.proofs.Common.{refl, ap, ◌∙◌}
use Rattle.pr_words.specs.declared.service.InService.TheVariants as ins
use Rattle.pr_initiator.specs.Commands.{HasAnswered, reserve_in}
use Rattle.pr_fence.specs.declared.asked.Asked.TheVariants as ask
use Rattle.pr_fence.specs.Steps.{Orders, Reads}
use Rattle.pr_fence.specs.Seeing.{seen_in}
use Rattle.pr_fence.proofs.Stepping.{went, failed, judged}
use Rattle.pr_fence.proofs.orders.look.Goals as goal

pub returns-in-Ok-clause-step : goal.returns-in-Ok-clause-step
returns-in-Ok-clause-step g c = went (Orders ask.FullStatus (reserve_in ins.ReadFullStatus)) (λ u. Reads (seen_in c.args.nexus c.args.own c.args.victim)) _ _ _ c.judged.result tt _ (judged ask.FullStatus (λ old new r. HasAnswered old new (reserve_in ins.ReadFullStatus) r) _ _ c.read_full.result c.judged.result c.read_full.ensures.answered c.judged.ensures) c.in-Ok.is (refl, c.seen.ensures ∙ ap (seen_in c.args.nexus c.args.own c.args.victim) c.received.ensures)

pub returns-in-Err-clause-step : goal.returns-in-Err-clause-step
returns-in-Err-clause-step g c = failed (Orders ask.FullStatus (reserve_in ins.ReadFullStatus)) (λ u. Reads (seen_in c.args.nexus c.args.own c.args.victim)) _ _ c.judged.result c.in-Err.fault (judged ask.FullStatus (λ old new r. HasAnswered old new (reserve_in ins.ReadFullStatus) r) _ _ c.read_full.result c.judged.result c.read_full.ensures.answered c.judged.ensures) c.in-Err.is
