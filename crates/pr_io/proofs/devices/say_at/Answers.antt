use Rattle.std.proofs.Common.{ℕ, refl, length}
use Rattle.pr_io.specs.Lines.{Line, saying}
use Rattle.pr_io.specs.Devices.{DeviceStands, DeviceComes, changed_at}
use Rattle.pr_io.proofs.Settings.{stand_set, come_set, at_place, elsewhere, addresses_set}
use Rattle.pr_io.proofs.devices.say_at.Goals as goal

pub returns-clause-stand : goal.returns-clause-stand
returns-clause-stand g c lines all =
    let i : ℕ = c.args.i in
    let change : Line → Line = λ l. saying l c.say.result (length c.say.new.buf) c.say.new.buf in
    stand_set (DeviceStands g.P.Peer.stands) c.args.devices.now.items lines (changed_at i change lines) i c.index_mut.result.now (c.index_mut.result.now.0, c.say.new.self) change
    c.requires.within c.index_mut.ensures.value c.say.ensures.stands (at_place i change lines) (elsewhere i change lines) all

pub returns-clause-come : goal.returns-clause-come
returns-clause-come g c lines all =
    let i : ℕ = c.args.i in
    let change : Line → Line = λ l. saying l c.say.result (length c.say.new.buf) c.say.new.buf in
    come_set (DeviceStands g.P.Peer.stands) (DeviceComes g.P.Peer.comes) (λ d l. (refl, g.met.P.Peer.comes_at_once d.1 l)) c.args.devices.now.items lines (changed_at i change lines) i
    c.index_mut.result.now (c.index_mut.result.now.0, c.say.new.self) change c.requires.within c.index_mut.ensures.value (λ l stands. (refl, c.say.ensures.comes l stands)) (at_place i change lines)
    (elsewhere i change lines) all

pub returns-clause-same : goal.returns-clause-same
returns-clause-same g c =
    addresses_set c.args.devices.now.items c.args.i c.index_mut.result.now (c.index_mut.result.now.0, c.say.new.self) c.requires.within c.index_mut.ensures.value refl
