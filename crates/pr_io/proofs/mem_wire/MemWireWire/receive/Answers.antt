use Rattle.std.proofs.Common.{refl, sym, ap, ◌∙◌, Some, length}
use Rattle.pr_io.specs.Recordings.{line_of}
use Rattle.pr_io.specs.Talks.{received_on}
use Rattle.pr_io.proofs.Remaining.{remains, line_kept, continues}
use Rattle.pr_io.proofs.mem_wire.MemWireWire.receive.Goals as goal

pub returns-then-next_fails-clause-comes : goal.returns-then-next_fails-clause-comes
returns-then-next_fails-clause-comes g c =
    remains g.P.Peer.stands g.P.Peer.comes g.met.P.Peer.comes_at_once c.args.self.now.devices.items c.args.self.now.devices.items (line_of c.args.self.now.earlier.items c.args.self.now.current) (line_of c.args.self.now.earlier.items c.args.self.now.current) refl (λ j. refl)

pub returns-in_default-clause-comes : goal.returns-in_default-clause-comes
returns-in_default-clause-comes g c =
    remains g.P.Peer.stands g.P.Peer.comes g.met.P.Peer.comes_at_once c.args.self.now.devices.items c.args.self.now.devices.items (line_of c.args.self.now.earlier.items c.args.self.now.current) (line_of c.args.self.now.earlier.items c.take.new.self) refl
    (λ j. ap (λ x. line_of c.args.self.now.earlier.items x j) (c.take.ensures.after ∙ sym c.in_default.is ∙ c.take.ensures.value))

pub returns-in-Ok-clause-talk : goal.returns-in-Ok-clause-talk
returns-in-Ok-clause-talk g c =
    continues c.args.self.now.earlier.items c.args.self.now.current c.in-Some.recorded c.listen-passed.new.recorded (λ x. received_on x c.in-Ok.n (length c.listen-passed.new.buf) c.listen-passed.new.buf) (sym c.take.ensures.value ∙ c.in-Some.is) (rw c.in-Ok.is at c.listen-passed.ensures.received)

pub returns-in-Err-clause-comes : goal.returns-in-Err-clause-comes
returns-in-Err-clause-comes g c =
    remains g.P.Peer.stands g.P.Peer.comes g.met.P.Peer.comes_at_once c.args.self.now.devices.items c.listen-passed.new.devices.items (line_of c.args.self.now.earlier.items c.args.self.now.current) (line_of c.args.self.now.earlier.items (Some c.listen-passed.new.recorded)) (rw c.in-Err.is at c.listen-passed.ensures.kept)
    (λ j. line_kept c.args.self.now.earlier.items c.in-Some.recorded c.listen-passed.new.recorded (rw c.in-Err.is at c.listen-passed.ensures.none) j
    ∙ ap (λ x. line_of c.args.self.now.earlier.items x j) (sym (sym c.take.ensures.value ∙ c.in-Some.is)))
