use Rattle.std.proofs.Common.{◌<◌, ℕ, sym, ap, ◌∙◌, subst}
use Rattle.pr_io.specs.Contents.{block_at}
use Rattle.pr_io.proofs.Following.{reads_kept}
use Rattle.pr_io.proofs.read_ahead.ReadAheadMedium.read_block.Goals as goal

pub returns-then-keep-clause-given : goal.returns-then-keep-clause-given
returns-then-keep-clause-given g c =
    reads_kept (g.M.Medium.contents c.args.self.now.medium) c.args.lba c.read.new.block (λ held told.
    c.read.ensures ∙ ap (block_at c.keep.new.ahead.bytes.items) c.slot_for.ensures.slot
    ∙ c.keep.ensures.alike held (c.keep.ensures.contents ∙ told) c.args.lba (subst (λ (n : ℕ). c.args.lba < n) (sym c.keep.ensures.count) c.requires) c.if-keep.ensures.kept)
