use Rattle.pr_rig.proofs.Holding.{reservation_tells, reserve_holds, preempt_keeps}
use Rattle.pr_rig.proofs.laws.a_reservation_stands.Goals as goal

pub returns-clause-tells : goal.returns-clause-tells
returns-clause-tells c w who n sent told may there = reservation_tells w who n 0 sent told may there

pub returns-clause-holds : goal.returns-clause-holds
returns-clause-holds c w who n sent told may = reserve_holds w who n 0 sent told may

pub returns-clause-keeps : goal.returns-clause-keeps
returns-clause-keeps c w who n sent told other stands may = preempt_keeps w who n 0 sent told other stands may
