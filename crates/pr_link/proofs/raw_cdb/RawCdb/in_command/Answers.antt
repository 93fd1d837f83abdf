use Rattle.pr_link.proofs.Padding.{carried}
use Rattle.pr_link.proofs.raw_cdb.RawCdb.in_command.Goals as goal

pub invariant_of-result : goal.invariant_of-result
invariant_of-result c =
    let is = carried c.args.body.now _ c.requires c.copy_from_slice.ensures.after in
    (is.some, is.few, is.room, is.zeros)

pub returns : goal.returns
returns c = (carried c.args.body.now _ c.requires c.copy_from_slice.ensures.after).cdb
