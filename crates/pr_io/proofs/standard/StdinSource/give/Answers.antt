use Rattle.std.proofs.Common.{◌≡◌, ◌≤◌, ◌-◌, drop, sym, arith}
use Rattle.std.proofs.lemmas.List.{length-take}
use Rattle.pr_io.proofs.Ahead.{held_copied}
use Rattle.pr_io.proofs.standard.StdinSource.give.Goals as goal

pub returns-clause-held : goal.returns-clause-held
returns-clause-held g c =
    let same : c.deref.result.now ≡ c.args.self.now.ahead.items = c.deref.ensures.value in
    let n : c.min-n.result ≤ c.args.self.now.to - c.args.self.now.from = omega (arith, length-take (c.args.self.now.to - c.args.self.now.from) (drop c.args.self.now.from c.deref.result.now)) in
    rw (sym same) (held_copied c.deref.result.now c.args.self.now.from c.args.self.now.to c.min-n.result c.copy_from_slice.new.self (drop c.min-n.result c.args.buf.now) c.args.self.now.order (rw same c.args.self.now.within) n c.copy_from_slice.ensures.after)
