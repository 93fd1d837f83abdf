use Rattle.pr_session.proofs.Peers.{said_stands, said_comes, answered}
use Rattle.pr_session.proofs.lane_peer.LanePeerPeer.say.Goals as goal

pub returns-clause-stands : goal.returns-clause-stands
returns-clause-stands g c l =
    said_stands c.args.self.now _ l c.take_turns.new.session c.say_some.result _ c.say_some.new.buf c.take_turns.ensures.takes
    (record { bytes = c.say_some.ensures.bytes; left = c.say_some.ensures.reply; lane = c.say_some.ensures.keeps.1; count = c.say_some.ensures.count; rests = c.take_turns.ensures.rests })

pub returns-clause-comes : goal.returns-clause-comes
returns-clause-comes g c l was =
    said_comes c.args.self.now _ l c.take_turns.new.session c.say_some.result _ c.say_some.new.buf c.take_turns.ensures.takes
    (record { bytes = c.say_some.ensures.bytes; left = c.say_some.ensures.reply; lane = c.say_some.ensures.keeps.1; count = c.say_some.ensures.count; rests = c.take_turns.ensures.rests })

pub returns-clause-all : goal.returns-clause-all
returns-clause-all g c none some l h =
    answered _ l c.take_turns.new.session c.say_some.result _ c.say_some.new.buf h
    (record { bytes = c.say_some.ensures.bytes; left = c.say_some.ensures.reply; lane = c.say_some.ensures.keeps.1; count = c.say_some.ensures.count; rests = c.take_turns.ensures.rests }) none some
