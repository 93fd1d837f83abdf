use Rattle.std.proofs.Common.{◌≡◌, ◌+◌, vec_len, arith}
use Rattle.pr_tool.proofs.Places.{fresh_more}
use Rattle.pr_tool.proofs.replay.fresh_lanes.Goals as goal

pub loop-alloc-preserved : goal.loop-alloc-preserved
loop-alloc-preserved c =
    let old = c.loop-alloc.lanes in
    let items = c.in_ok-push.ensures.items in
    let len : vec_len c.push.new.self ≡ vec_len old + 1 = c.in_ok-push.ensures.len in
    record {
      fresh = rw (items, len) (fresh_more old.items (vec_len old) c.in_ok-new.field-0 c.loop-alloc.invariant.fresh c.in_ok-new.ensures);
      within = omega (arith, len, c.len.ensures, c.loop-alloc-test.true);
    }
