-- Wires that come from earlier ones, as an initiator keeps them; the laws are those of its kind of wire.
use Rattle.std.proofs.Common.{◌∙◌, refl}
use Rattle.pr_io.specs.declared.wire.Wire as wires
use Rattle.pr_initiator.specs.declared.initiator.Initiator.{Initiator}
use Rattle.pr_initiator.specs.Links.{Comes}

pub comes_at_once : {W : Type 0} {of : wires.Ghosts W} (once : (a : W) → of.comes a a) (a : Initiator W of) → Comes a a
comes_at_once once a = (refl, once a.wire)

pub comes_later : {W : Type 0} {of : wires.Ghosts W} (later : (a b c : W) → of.comes a b → of.comes b c → of.comes a c) (a b c : Initiator W of) → Comes a b → Comes b c → Comes a c
comes_later later a b c p q = (q.0 ∙ p.0, later a.wire b.wire c.wire p.1 q.1)
