use Rattle.pr_rig.proofs.Answered as answered
use Rattle.pr_rig.proofs.laws.keys_tell.Goals as goal

pub returns : goal.returns
returns c w who n sent told key few fits may gone = answered.keys_tell w who n 0 sent told key few fits may gone
