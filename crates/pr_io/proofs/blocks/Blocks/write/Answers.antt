use Rattle.std.proofs.Common.{◌≡◌, ◌≤◌, ◌-◌, ◌+◌, ◌*◌, ℕ, List, length, drop, ap, ◌∙◌, arith}
use Rattle.std.proofs.lemmas.List.{length-take, length-drop}
use borrow.Rule.Slice.PartMut.{put_mid, same_len_mid}
use Rattle.pr_io.specs.Contents.{block_at}
use Rattle.pr_io.proofs.Placing.{elsewhere, whole_again}
use Rattle.pr_io.proofs.blocks.Blocks.write.Goals as goal

pub returns-clause-others : goal.returns-clause-others
returns-clause-others c other differs =
    let items : List ℕ = c.args.self.now.bytes.items in
    let part : List ℕ = c.copy_from_slice.new.self in
    let at : ℕ = c.args.lba * 512 in
    let k : ℕ = at + 512 - at in
    let same : c.deref_mut.result.now ≡ items = c.deref_mut.ensures.value in
    let within : at + 512 ≤ length items = omega (arith, c.requires) in
    let room : k ≡ 512 = omega arith in
    let size : length part ≡ k = omega (arith, c.copy_from_slice.ensures.len, length-take k (drop at c.deref_mut.result.now), length-drop at c.deref_mut.result.now, ap length same, within) in
    let after : List ℕ = put_mid at k c.deref_mut.result.now part in
    let long : length after ≡ c.args.self.now.bytes.len = same_len_mid at k c.deref_mut.result.now part c.copy_from_slice.ensures.len ∙ c.deref_mut.ensures.len in
    ap (λ (w : List ℕ). block_at w other) (whole_again items after c.args.self.now.bytes.len long)
    ∙ ap (λ (w : List ℕ). block_at (put_mid at k w part) other) same
    ∙ elsewhere items part c.args.lba other k room size (omega (arith, within)) differs
