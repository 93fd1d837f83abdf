use Rattle.pr_session.specs.Sessions.{lane_of}
use Rattle.pr_session.proofs.Peers.{heard_lane, heard_stands, heard_comes}
use Rattle.pr_session.proofs.lane_peer.LanePeerPeer.hear.Goals as goal
use Rattle.std.proofs.Common.{refl}

pub returns-clause-stands : goal.returns-clause-stands
returns-clause-stands g c l =
    let old = c.args.self.now.session in
    heard_stands c.args.self.now _ l c.args.bytes.now refl (heard_lane (lane_of old) (lane_of c.feed.new.self) c.args.bytes.now c.feed.result c.feed.ensures.count c.requires c.feed.ensures.lane) c.feed.ensures.keeps.1

pub returns-clause-comes : goal.returns-clause-comes
returns-clause-comes g c l was =
    let old = c.args.self.now.session in
    heard_comes c.args.self.now _ l c.args.bytes.now refl (heard_lane (lane_of old) (lane_of c.feed.new.self) c.args.bytes.now c.feed.result c.feed.ensures.count c.requires c.feed.ensures.lane) c.feed.ensures.keeps.1
