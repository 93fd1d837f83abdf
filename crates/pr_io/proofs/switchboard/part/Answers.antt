use Rattle.std.proofs.Common.{refl, sym, ap, None}
use Rattle.pr_io.specs.Recordings.{line_of}
use Rattle.pr_io.proofs.Remaining.{remains}
use Rattle.pr_io.proofs.switchboard.part.Goals as goal

pub returns-in_default-clause-come : goal.returns-in_default-clause-come
returns-in_default-clause-come g c =
    remains g.P.Peer.stands g.P.Peer.comes g.met.P.Peer.comes_at_once c.args.devices.now.items c.args.devices.now.items (line_of c.args.earlier.now.items c.args.current) (line_of c.args.earlier.now.items None) refl
    (λ j. ap (λ x. line_of c.args.earlier.now.items x j) (sym c.in_default.is))
