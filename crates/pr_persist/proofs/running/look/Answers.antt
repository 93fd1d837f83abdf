use Rattle.std.proofs.Common.{ℕ, List, Bool, refl, sym, subst}
use Rattle.std.specs.Prelude.{Ok, Err}
use Rattle.pr_io.specs.Told.{told_sink}
use Rattle.pr_initiator.specs.Links.{link_of}
use Rattle.pr_persist.specs.declared.asked.Asked.TheVariants as ask
use Rattle.pr_persist.specs.Runs.{Inquires}
use Rattle.pr_persist.specs.Shows.{HasShown, inquiry_text}
use Rattle.pr_persist.specs.Whole.{at, Quiet, Showing, Looks}
use Rattle.pr_persist.proofs.Stepping.{ended, went, told}
use Rattle.pr_persist.proofs.running.look.Goals as goal

pub returns-in-Ok-clause-step : goal.returns-in-Ok-clause-step
returns-in-Ok-clause-step g c =
    let shown = subst (λ (bytes : List ℕ). HasShown ask.Inquiry (inquiry_text bytes) (told_sink g.K.Sink c.args.sink.now) (told_sink g.K.Sink c.show_inquiry.new.sink) c.show_inquiry.result) c.received.ensures c.show_inquiry.ensures in
    subst (λ (b : Bool). Looks b (at (link_of c.args.initiator.now) (told_sink g.K.Sink c.args.sink.now)) (at (link_of c.inquire.new.initiator) (told_sink g.K.Sink c.show_inquiry.new.sink)) c.show_inquiry.result) (sym c.if-not-inquires.false)
    (went (Quiet Inquires) (λ a. Showing ask.Inquiry inquiry_text) _ (at (link_of c.inquire.new.initiator) (told_sink g.K.Sink c.args.sink.now)) _ c.in-Ok.field-0 _ (told Inquires _ _ c.inquire.result (Ok c.in-Ok.field-0) c.in-Ok.is c.inquire.ensures.step, refl) (refl, shown))

pub returns-in-Err-clause-step : goal.returns-in-Err-clause-step
returns-in-Err-clause-step g c =
    subst (λ (b : Bool). Looks b (at (link_of c.args.initiator.now) (told_sink g.K.Sink c.args.sink.now)) (at (link_of c.inquire.new.initiator) (told_sink g.K.Sink c.args.sink.now)) (Err c.in-Err.exit)) (sym c.if-not-inquires.false)
    (ended (Quiet Inquires) (λ a. Showing ask.Inquiry inquiry_text) _ _ c.in-Err.exit (told Inquires _ _ c.inquire.result (Err c.in-Err.exit) c.in-Err.is c.inquire.ensures.step, refl))
