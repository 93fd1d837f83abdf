use Rattle.std.proofs.Common.{◌≡◌, ◌≤◌, ◌-◌, ◌+◌, ◌*◌, ℕ, List, ◌++◌, length, drop, take, ap, ◌∙◌, arith}
use Rattle.std.proofs.lemmas.List.{length-take, length-drop}
use borrow.Rule.Slice.PartMut.{put_mid, same_len_mid}
use Rattle.pr_io.specs.Contents.{block_at}
use Rattle.pr_io.proofs.Placing.{outside, read_into, whole_again}
use Rattle.pr_io.proofs.blocks.Blocks.read_from.Goals as goal

pub returns-clause-others : goal.returns-clause-others
returns-clause-others g c other side =
    let items : List ℕ = c.args.self.now.bytes.items in
    let part : List ℕ = c.read_blocks.new.blocks in
    let at : ℕ = c.args.slot * 512 in
    let k : ℕ = at + c.args.count * 512 - at in
    let same : c.deref_mut.result.now ≡ items = c.deref_mut.ensures.value in
    let within : at + c.args.count * 512 ≤ length items = omega (arith, c.requires.room) in
    let room : k ≡ c.args.count * 512 = omega arith in
    let size : length part ≡ k = omega (arith, c.read_blocks.ensures.size, length-take k (drop at c.deref_mut.result.now), length-drop at c.deref_mut.result.now, ap length same, within) in
    let after : List ℕ = put_mid at k c.deref_mut.result.now part in
    let long : length after ≡ c.args.self.now.bytes.len = same_len_mid at k c.deref_mut.result.now part c.read_blocks.ensures.size ∙ c.deref_mut.ensures.len in
    ap (λ (w : List ℕ). block_at w other) (whole_again items after c.args.self.now.bytes.len long)
    ∙ ap (λ (w : List ℕ). block_at (put_mid at k w part) other) same
    ∙ outside items part c.args.slot c.args.count other k room size (omega (arith, within)) side

pub returns-clause-given : goal.returns-clause-given
returns-clause-given g c held told =
    let items : List ℕ = c.args.self.now.bytes.items in
    let part : List ℕ = c.read_blocks.new.blocks in
    let at : ℕ = c.args.slot * 512 in
    let k : ℕ = at + c.args.count * 512 - at in
    let same : c.deref_mut.result.now ≡ items = c.deref_mut.ensures.value in
    let within : at + c.args.count * 512 ≤ length items = omega (arith, c.requires.room) in
    let room : k ≡ c.args.count * 512 = omega arith in
    let size : length part ≡ k = omega (arith, c.read_blocks.ensures.size, length-take k (drop at c.deref_mut.result.now), length-drop at c.deref_mut.result.now, ap length same, within) in
    let after : List ℕ = put_mid at k c.deref_mut.result.now part in
    let long : length after ≡ c.args.self.now.bytes.len = same_len_mid at k c.deref_mut.result.now part c.read_blocks.ensures.size ∙ c.deref_mut.ensures.len in
    let whole : List ℕ = take c.args.self.now.bytes.len (after ++ drop (length after) items) in
    let is : whole ≡ put_mid at k items part = whole_again items after c.args.self.now.bytes.len long ∙ ap (λ (w : List ℕ). put_mid at k w part) same in
    read_into whole items part c.args.slot c.args.count c.args.lba k held c.read_blocks.result is room size (omega (arith, within)) (rw told at c.read_blocks.ensures.given)
