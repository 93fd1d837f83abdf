use Rattle.std.proofs.Common.{◌≡◌, ℕ, sym, subst, refl, ap, ◌∙◌}
use Rattle.pr_io.specs.Contents.{OthersStay, block_at}
use Rattle.pr_io.specs.BlocksAhead.{slot_of}
use Rattle.pr_io.proofs.Following.{wrote_kept}
use Rattle.pr_io.proofs.read_ahead.follow.Goals as goal

pub returns-then-is_kept-clause-alike : goal.returns-then-is_kept-clause-alike
returns-then-is_kept-clause-alike c before now count writes alike =
    let put : block_at c.write.new.self.bytes.items (slot_of c.args.lba) ≡ c.args.block.now = ap (block_at c.write.new.self.bytes.items) (sym c.slot_for.ensures.slot) ∙ c.write.ensures.written in
    let others : OthersStay (block_at c.args.ahead.now.bytes.items) (block_at c.write.new.self.bytes.items) (slot_of c.args.lba) =
    subst (λ (s : ℕ). OthersStay (block_at c.args.ahead.now.bytes.items) (block_at c.write.new.self.bytes.items) s) c.slot_for.ensures.slot c.write.ensures.others in
    wrote_kept before now count c.args.pieces.now.items c.args.ahead.now.bytes.items c.write.new.self.bytes.items c.args.lba c.args.block.now c.args.written
    c.in-Ok.is writes (c.if-is_kept.ensures.0 refl) put others alike
