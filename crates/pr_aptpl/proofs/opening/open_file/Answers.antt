use Rattle.std.proofs.Common.{◌∙◌}
use Rattle.pr_grammar.specs.Files.{file_head, file_layout}
use Rattle.pr_aptpl.proofs.Apart.{apart}
use Rattle.pr_aptpl.proofs.Opened.{head_fails, opened_at, stays_on, joined_fits, broken_gives}
use Rattle.pr_aptpl.proofs.opening.open_file.Goals as goal

pub returns-in-Err-read_head-clause-fails : goal.returns-in-Err-read_head-clause-fails
returns-in-Err-read_head-clause-fails g c =
    head_fails file_head file_layout apart (Unit {0}) c.in-Err-read_head.fault (g.D.Disk.story c.args.disk.now) (g.D.Disk.story c.sync.new.self) c.sync.ensures.syncs.stays.now c.in-Err-read_head.ensures.says

pub returns-in-Ok-join-clause-opens : goal.returns-in-Ok-join-clause-opens
returns-in-Ok-join-clause-opens g c =
    opened_at file_head file_layout (g.D.Disk.story c.args.disk.now) (g.D.Disk.story c.sync.new.self) (g.D.Disk.story c.read_slots.new.disk) c.in-Ok-join.opened.0 _ c.sync.ensures.syncs.stays c.in-Ok.ensures.syncs.kept
    (stays_on _ _ _ c.read_head.ensures.stays c.read_slots.ensures.stays) (g.met.D.Disk.since c.read_slots.new.disk)
    (λ image now.
    let now1 = c.sync.ensures.syncs.stays.now ∙ now in
    let now2 = c.read_head.ensures.stays.now ∙ now1 in
    let slots = c.in-Ok-read_slots.ensures.slots image now2 in
    joined_fits file_head file_layout apart c.in-Ok-join.opened image _ _ (c.in-Ok-read_head.ensures.says image now1) slots.0 slots.1 c.in-Ok-join.ensures.joins)

pub returns-in-Err-join-clause-fails : goal.returns-in-Err-join-clause-fails
returns-in-Err-join-clause-fails g c image now =
    let now1 = c.sync.ensures.syncs.stays.now ∙ now in
    let now2 = c.read_head.ensures.stays.now ∙ now1 in
    let slots = c.in-Ok-read_slots.ensures.slots image now2 in
    broken_gives file_head file_layout apart image c.in-Err-join.place _ _ (c.in-Ok-read_head.ensures.says image now1) slots.0 slots.1 c.in-Err-join.ensures.joins
