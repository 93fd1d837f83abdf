use Rattle.std.proofs.Common.{◌-◌, ◌+◌, ◌*◌, ℕ, List, length, drop, take, ap, ◌∙◌, arith}
use Rattle.pr_io.specs.Contents.{block_at}
use Rattle.pr_io.proofs.Placing.{of_part}
use Rattle.pr_io.proofs.blocks.Blocks.read_many.Goals as goal

pub returns-clause-given : goal.returns-clause-given
returns-clause-given c i less =
    let at : ℕ = c.args.lba * 512 in
    let k : ℕ = at + length c.args.blocks.now - at in
    ap (λ (w : List ℕ). block_at w i) c.copy_from_slice.ensures.after
    ∙ ap (λ (w : List ℕ). block_at (take k (drop at w)) i) c.deref.ensures.value
    ∙ of_part c.args.self.now.bytes.items c.args.lba i k (omega (arith, less, c.copy_from_slice.ensures.len))
