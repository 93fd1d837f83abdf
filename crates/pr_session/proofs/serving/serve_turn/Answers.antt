use Rattle.std.proofs.Common.{rules, sym, subst, ap, ◌∙◌}
use Rattle.pr_model.specs.Lanes.{Lane, turn}
use Rattle.pr_model.specs.Entries.{History}
use Rattle.pr_gate.specs.Passes.{number_of, own_of}
use Rattle.pr_session.specs.declared.session_end.SessionEnd.TheVariants.{SpentTicket}
use Rattle.pr_session.specs.Sessions.{lane_of, reply_of}
use Rattle.pr_session.specs.Ends.{IsMade, Over, replies_in}
use Rattle.pr_session.proofs.Servings.{since_turn, over_spent, on_ok, on_err}
use Rattle.pr_session.proofs.Counting.{on_both, frames_made, few_made}
use Rattle.pr_session.proofs.serving.serve_turn.Goals as goal

pub returns-in-Ok-true-clause-since : goal.returns-in-Ok-true-clause-since
returns-in-Ok-true-clause-since g c =
    let d = c.in-Ok-true.ensures in
    let made : IsMade (turn (lane_of c.args.session.now)) = search rules in
    on_ok c.reply.result (λ x is rest written own since. is (number_of c.args.pass.now) rest (g.S.Source.rest c.args.source.now) written own (own_of c.drive_shared.new.pass)
    (since_turn (number_of c.args.pass.now) rest written own (g.S.Source.rest c.args.source.now) (g.K.Sink.written c.args.sink.now) (own_of c.args.pass.now) (own_of c.drive_shared.new.pass) c.args.session.now c.drive_shared.new.session since c.requires.replied made d.shares d.ends)) c.reply.ensures.since

pub returns-in-Ok-true-clause-over : goal.returns-in-Ok-true-clause-over
returns-in-Ok-true-clause-over g c =
    let d = c.in-Ok-true.ensures in
    let made : IsMade (turn (lane_of c.args.session.now)) = search rules in
    on_err c.reply.result (λ end is rest written own since. is (number_of c.args.pass.now) rest (g.S.Source.rest c.args.source.now) written own (own_of c.drive_shared.new.pass)
    (since_turn (number_of c.args.pass.now) rest written own (g.S.Source.rest c.args.source.now) (g.K.Sink.written c.args.sink.now) (own_of c.args.pass.now) (own_of c.drive_shared.new.pass) c.args.session.now c.drive_shared.new.session since c.requires.replied made d.shares d.ends)) c.reply.ensures.over

pub returns-in-Err-clause-over : goal.returns-in-Err-clause-over
returns-in-Err-clause-over g c rest written own since =
    let who = number_of c.args.pass.now in
    subst (λ (h : History). Over (SpentTicket c.in-Err.field-0.ticket) who rest (g.S.Source.rest c.args.source.now) written (g.K.Sink.written c.args.sink.now) own h (lane_of c.drive_shared.new.session)) (sym c.in-Err.ensures.spent.1)
    (over_spent who rest written own c.in-Err.field-0.ticket (g.S.Source.rest c.args.source.now) (g.K.Sink.written c.args.sink.now) (own_of c.args.pass.now) c.args.session.now (lane_of c.drive_shared.new.session) since c.requires.replied)

pub returns-in-Ok-true-clause-frames : goal.returns-in-Ok-true-clause-frames
returns-in-Ok-true-clause-frames g c =
    let s = c.drive_shared.new.session in
    on_both c.reply.result (λ b said lives. frames_made (number_of c.args.pass.now) (own_of c.args.pass.now) (own_of c.drive_shared.new.pass) (lane_of c.args.session.now) (lane_of s) (reply_of s) b c.in-Ok-true.ensures.shares
    (λ dead. lives (ap (λ (m : Lane). m.phase) c.reply.ensures.lane ∙ dead)) said) c.reply.ensures.said c.reply.ensures.lives

pub returns-in-Ok-true-clause-last : goal.returns-in-Ok-true-clause-last
returns-in-Ok-true-clause-last g c =
    let s = c.drive_shared.new.session in
    on_err c.reply.result (λ end is. is (replies_in (own_of c.args.pass.now)) (replies_in (own_of c.drive_shared.new.pass))
    (few_made (number_of c.args.pass.now) (own_of c.args.pass.now) (own_of c.drive_shared.new.pass) (lane_of c.args.session.now) (lane_of s) (turn (lane_of c.args.session.now)) (reply_of s) c.in-Ok-true.ensures.shares)) c.reply.ensures.last
