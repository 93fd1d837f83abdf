use Rattle.pr_model.proofs.Moved.{only_steps_move}
use Rattle.pr_model.proofs.only_steps_change_blocks.Goals as goal

pub returns : goal.returns
returns c = only_steps_move
