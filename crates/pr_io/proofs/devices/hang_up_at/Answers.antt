use Rattle.std.proofs.Common.{ℕ, refl}
use Rattle.pr_io.specs.Lines.{Line, hung_up}
use Rattle.pr_io.specs.Devices.{DeviceStands, DeviceComes, changed_at}
use Rattle.pr_io.proofs.Settings.{stand_set, come_set, at_place, elsewhere, addresses_set}
use Rattle.pr_io.proofs.devices.hang_up_at.Goals as goal

pub returns-clause-stand : goal.returns-clause-stand
returns-clause-stand g c lines all =
    let i : ℕ = c.args.i in
    let change : Line → Line = hung_up in
    stand_set (DeviceStands g.P.Peer.stands) c.args.devices.now.items lines (changed_at i change lines) i c.index_mut.result.now (c.index_mut.result.now.0, c.hang_up.new.self) change
    c.requires.within c.index_mut.ensures.value c.hang_up.ensures.stands (at_place i change lines) (elsewhere i change lines) all

pub returns-clause-come : goal.returns-clause-come
returns-clause-come g c lines all =
    let i : ℕ = c.args.i in
    let change : Line → Line = hung_up in
    come_set (DeviceStands g.P.Peer.stands) (DeviceComes g.P.Peer.comes) (λ d l. (refl, g.met.P.Peer.comes_at_once d.1 l)) c.args.devices.now.items lines (changed_at i change lines) i
    c.index_mut.result.now (c.index_mut.result.now.0, c.hang_up.new.self) change c.requires.within c.index_mut.ensures.value (λ l stands. (refl, c.hang_up.ensures.comes l stands)) (at_place i change lines)
    (elsewhere i change lines) all

pub returns-clause-same : goal.returns-clause-same
returns-clause-same g c =
    addresses_set c.args.devices.now.items c.args.i c.index_mut.result.now (c.index_mut.result.now.0, c.hang_up.new.self) c.requires.within c.index_mut.ensures.value refl
