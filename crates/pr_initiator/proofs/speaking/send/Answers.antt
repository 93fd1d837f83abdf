use Rattle.std.proofs.Common.{[], take, refl}
use Rattle.pr_io.proofs.Sent.{always_err}
use Rattle.pr_initiator.proofs.Going.{sent_whole, sent_part, nothing}
use Rattle.pr_initiator.proofs.speaking.send.Goals as goal

pub returns-clause-goes : goal.returns-clause-goes
returns-clause-goes g c =
    sent_whole c.send-2.result _ _ _ (take c.write_head-size.result c.write_head-size.new.out) c.args.sent.now _ (rw c.in_ok-send.was at c.send.ensures.talk) c.send-2.ensures.talk (c.write_head-size.ensures.head c.args.sent.now c.requires.sent)

pub returns-clause-went : goal.returns-clause-went
returns-clause-went g c =
    sent_part c.send-2.result _ _ _ (take c.write_head-size.result c.write_head-size.new.out) c.args.sent.now _ (rw c.in_ok-send.was at c.send.ensures.talk) c.send-2.ensures.talk (c.write_head-size.ensures.head c.args.sent.now c.requires.sent)

pub returns-in_err-send-clause-went : goal.returns-in_err-send-clause-went
returns-in_err-send-clause-went g c = always_err c.from_residual.result ([], _, refl, nothing _ _ (rw c.in_err-send.was at c.send.ensures.talk))
