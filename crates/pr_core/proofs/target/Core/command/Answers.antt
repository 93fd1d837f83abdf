use Rattle.std.proofs.Common.{refl, take}
use Rattle.pr_model.specs.Entries.{Command}
use Rattle.pr_core.specs.Outs.{out_of}
use Rattle.pr_core.proofs.Entering.{extends_one, blocks_still, no_command, command_counted}
use Rattle.pr_core.proofs.Going.{others_keep}
use Rattle.pr_core.proofs.target.Core.command.Goals as goal

pub returns-clause-entry : goal.returns-clause-entry
returns-clause-entry g c =
    extends_one _ _ _ c.command.ensures.blocks refl refl (command_counted _ c.command.result c.command.new.buf) c.command.ensures.counts.reference (c.command.ensures.counts.faults c.command.new.buf) c.command.ensures.counts.told
    (record {
      by = λ w is.
          let sent = take c.args.out_len c.args.buf.now in
          let r = c.command.ensures.enters c.args.who c.requires.owner w is.0 is.2 in (
            r.0,
            r.1,
            blocks_still (g.M.Medium.contents c.args.self.now.medium) w c.args.who c.args.nexus (Command c.args.lun c.args.cdb.now sent) (out_of c.command.result c.command.new.buf) (no_command c.args.lun c.args.cdb.now sent) is.1,
            r.2,
          );
    })

pub returns-clause-others : goal.returns-clause-others
returns-clause-others g c = others_keep c.args.who c.args.nexus c.args.self.now.state c.command.new.self c.requires.owner c.command.ensures.owner c.command.ensures.others
