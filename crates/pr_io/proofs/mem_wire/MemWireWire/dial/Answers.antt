use Rattle.std.proofs.Common.{refl, ap, None, Some}
use Rattle.pr_io.specs.Recordings.{line_of}
use Rattle.pr_io.proofs.Remaining.{remains, line_begun, goes_on_to}
use Rattle.pr_io.specs.Devices.{DeviceStands, DeviceComes}
use Rattle.pr_io.proofs.mem_wire.MemWireWire.dial.Goals as goal

pub returns-then-next_fails-clause-comes : goal.returns-then-next_fails-clause-comes
returns-then-next_fails-clause-comes g c =
    remains g.P.Peer.stands g.P.Peer.comes g.met.P.Peer.comes_at_once c.args.self.now.devices.items c.args.self.now.devices.items (line_of c.args.self.now.earlier.items c.args.self.now.current) (line_of c.args.self.now.earlier.items c.args.self.now.current) refl (λ j. refl)

pub returns-in_default-clause-comes : goal.returns-in_default-clause-comes
returns-in_default-clause-comes g c =
    remains g.P.Peer.stands g.P.Peer.comes g.met.P.Peer.comes_at_once c.args.self.now.devices.items c.args.self.now.devices.items (line_of c.args.self.now.earlier.items c.args.self.now.current) (line_of c.args.self.now.earlier.items c.args.self.now.current) refl (λ j. refl)

pub returns-in-Ok-clause-comes : goal.returns-in-Ok-clause-comes
returns-in-Ok-clause-comes g c =
    let gone = c.part.ensures.come in
    goes_on_to (DeviceStands g.P.Peer.stands) (DeviceComes g.P.Peer.comes) c.args.self.now.devices.items c.part.new.devices.items (line_of c.args.self.now.earlier.items c.args.self.now.current)
    (line_of c.part.new.earlier.items None) (line_of c.part.new.earlier.items (Some c.in-Ok.recorded))
    (line_begun c.part.new.earlier.items c.in-Ok.recorded c.args.address.now c.in-Ok.ensures.told) (rw (c.take-before.ensures.value, c.make_room.ensures.items) at gone)

pub returns-in-Err-clause-comes : goal.returns-in-Err-clause-comes
returns-in-Err-clause-comes g c =
    remains g.P.Peer.stands g.P.Peer.comes g.met.P.Peer.comes_at_once c.args.self.now.devices.items c.args.self.now.devices.items (line_of c.args.self.now.earlier.items c.args.self.now.current) (line_of c.make_room.new.earlier.items c.args.self.now.current) refl
    (λ j. ap (λ xs. line_of xs c.args.self.now.current j) c.make_room.ensures.items)
