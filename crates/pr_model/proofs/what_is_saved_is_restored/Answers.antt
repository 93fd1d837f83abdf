use Rattle.pr_model.proofs.Settling.{accepted_are_saved, restored_is_kept}
use Rattle.pr_model.proofs.what_is_saved_is_restored.Goals as goal

pub returns-clause-saved : goal.returns-clause-saved
returns-clause-saved c = accepted_are_saved

pub returns-clause-restored : goal.returns-clause-restored
returns-clause-restored c = restored_is_kept
