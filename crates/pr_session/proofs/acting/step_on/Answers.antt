use Rattle.pr_session.proofs.Parts.{holds, step_entry, step_kept}
use Rattle.pr_session.proofs.acting.step_on.Goals as goal

pub returns-clause-entry : goal.returns-clause-entry
returns-clause-entry g c =
    let h = holds c.args.work.now c.split_at_mut-rest.result.0.now c.split_at_mut-rest.result.1.now c.split_at_mut-block.result.0.now c.split_at_mut-block.result.1.now c.step_block.new.block c.args.at
    c.split_at_mut-rest.ensures.front c.split_at_mut-rest.ensures.back c.split_at_mut-block.ensures.front c.split_at_mut-block.ensures.back c.requires.within c.step_block.ensures.size in
    step_entry _ _ c.args.who c.args.nexus c.args.work.now c.split_at_mut-rest.result.0.now c.split_at_mut-block.result.0.now c.split_at_mut-block.result.1.now c.step_block.new.block c.args.at c.step_block.result h c.step_block.ensures.entry

pub returns-clause-before : goal.returns-clause-before
returns-clause-before g c =
    (holds c.args.work.now c.split_at_mut-rest.result.0.now c.split_at_mut-rest.result.1.now c.split_at_mut-block.result.0.now c.split_at_mut-block.result.1.now c.step_block.new.block c.args.at
    c.split_at_mut-rest.ensures.front c.split_at_mut-rest.ensures.back c.split_at_mut-block.ensures.front c.split_at_mut-block.ensures.back c.requires.within c.step_block.ensures.size).before

pub returns-clause-kept : goal.returns-clause-kept
returns-clause-kept g c =
    let h = holds c.args.work.now c.split_at_mut-rest.result.0.now c.split_at_mut-rest.result.1.now c.split_at_mut-block.result.0.now c.split_at_mut-block.result.1.now c.step_block.new.block c.args.at
    c.split_at_mut-rest.ensures.front c.split_at_mut-rest.ensures.back c.split_at_mut-block.ensures.front c.split_at_mut-block.ensures.back c.requires.within c.step_block.ensures.size in
    step_kept c.step_block.result c.args.work.now c.split_at_mut-rest.result.0.now c.split_at_mut-block.result.0.now c.split_at_mut-block.result.1.now c.step_block.new.block c.args.at h c.step_block.ensures.kept
