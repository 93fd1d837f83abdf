use Rattle.std.proofs.Common.{◌≡◌, ◌≤◌, ◌-◌, length, drop, refl, sym, arith}
use Rattle.std.proofs.lemmas.List.{length-take}
use Rattle.pr_io.proofs.Pieces.{took_copied}
use Rattle.pr_io.proofs.memory.MemSourceSource.take.Goals as goal

pub returns-clause-bytes : goal.returns-clause-bytes
returns-clause-bytes c =
    let same : c.deref.result.now ≡ c.args.self.now.bytes.items = c.deref.ensures.value in
    let n : c.min-n.result ≤ length c.deref.result.now - c.args.self.now.at = omega (arith, length-take (length c.deref.result.now - c.args.self.now.at) (drop c.args.self.now.at c.deref.result.now)) in
    rw (sym same) (took_copied c.deref.result.now c.args.self.now.at c.min-n.result (length c.deref.result.now) c.copy_from_slice.new.self (drop c.min-n.result c.args.buf.now) (rw same c.args.self.now.within) n refl c.copy_from_slice.ensures.after)
