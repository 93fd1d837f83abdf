use Rattle.pr_session.proofs.Parts.{command_entry, command_kept}
use Rattle.pr_session.proofs.acting.command_on.Goals as goal

pub returns-clause-entry : goal.returns-clause-entry
returns-clause-entry g c =
    command_entry _ _ c.args.who c.args.lun c.args.out_len c.args.nexus c.args.cdb.now c.args.work.now c.split_at_mut-data.result.0.now c.split_at_mut-data.result.1.now c.command.new.buf c.command.result
    c.split_at_mut-data.ensures.front c.split_at_mut-data.ensures.back c.requires.room c.command.ensures.entry

pub returns-clause-kept : goal.returns-clause-kept
returns-clause-kept g c =
    command_kept c.command.result c.args.work.now c.split_at_mut-data.result.0.now c.split_at_mut-data.result.1.now c.command.new.buf c.split_at_mut-data.ensures.front c.split_at_mut-data.ensures.back c.requires.room c.command.ensures.kept
