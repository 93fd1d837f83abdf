use Rattle.std.proofs.Common.{sym, subst}
use Rattle.pr_model.specs.Lanes.{Lane}
use Rattle.pr_session.specs.declared.session_end.SessionEnd.{SessionEnd}
use Rattle.pr_session.specs.declared.session_end.SessionEnd.TheVariants.{WriteFault}
use Rattle.pr_session.specs.Sessions.{lane_of}
use Rattle.pr_session.specs.Ends.{Over, ComesOfEnd}
use Rattle.pr_session.proofs.Servings.{since_sent, over_dead, over_lost, after_comes}
use Rattle.pr_session.proofs.serving.reply.Goals as goal

pub returns-in-Ok-clause-over : goal.returns-in-Ok-clause-over
returns-in-Ok-clause-over g c who rest rest_now written own own_now since =
    let s = c.send_to.new.self in
    let before = g.K.Sink.written c.args.sink.now in
    let after = g.K.Sink.written c.send_to.new.sink in
    let sent = since_sent who rest written own rest_now before after own_now c.args.session.now s since c.in-Ok.ensures.all c.send_to.ensures.keeps c.in-Ok.ensures.sent in
    subst (λ (e : SessionEnd). Over e who rest rest_now written after own own_now (lane_of s)) (sym c.end_by.ensures)
    (over_dead who rest written own rest_now after own_now s c.rejected.result sent c.in-Ok.ensures.sent c.if-is_dead.ensures (sym c.rejected.ensures))

pub returns-in-Ok-2-clause-since : goal.returns-in-Ok-2-clause-since
returns-in-Ok-2-clause-since g c who rest rest_now written own own_now since =
    since_sent who rest written own rest_now (g.K.Sink.written c.args.sink.now) (g.K.Sink.written c.send_to.new.sink) own_now c.args.session.now c.send_to.new.self since c.in-Ok-2.ensures.all c.send_to.ensures.keeps c.in-Ok-2.ensures.sent

pub returns-in-Err-clause-over : goal.returns-in-Err-clause-over
returns-in-Err-clause-over g c who rest rest_now written own own_now since =
    let after = g.K.Sink.written c.send_to.new.sink in
    subst (λ (m : Lane). Over WriteFault who rest rest_now written after own own_now m) (sym c.send_to.ensures.keeps.1)
    (over_lost who rest written own rest_now (g.K.Sink.written c.args.sink.now) after own_now c.args.session.now since c.in-Err.ensures.some)

pub returns-in-Ok-clause-ended : goal.returns-in-Ok-clause-ended
returns-in-Ok-clause-ended g c rest =
    subst (λ (e : SessionEnd). ComesOfEnd e (lane_of c.send_to.new.self) rest) (sym c.end_by.ensures) (after_comes c.rejected.result (lane_of c.send_to.new.self) rest c.if-is_dead.ensures)
