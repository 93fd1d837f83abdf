use Rattle.pr_session.proofs.Peers.{hung_stands, hung_comes}
use Rattle.pr_session.proofs.lane_peer.LanePeerPeer.hang_up.Goals as goal

pub returns-clause-stands : goal.returns-clause-stands
returns-clause-stands g c l = hung_stands c.args.self.now _ l c.close.ensures.entries c.close.ensures.new

pub returns-clause-comes : goal.returns-clause-comes
returns-clause-comes g c l was = hung_comes c.args.self.now _ l c.close.ensures.entries c.close.ensures.new
