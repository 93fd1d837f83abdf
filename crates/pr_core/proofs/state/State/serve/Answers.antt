use Rattle.std.proofs.Common.{sym, subst, refl}
use Rattle.pr_core.specs.declared.admitted.Admitted.{Admitted}
use Rattle.pr_core.specs.declared.admitted.Admitted.TheVariants.{RequestSense}
use Rattle.pr_core.specs.declared.answers.CommandOut.{CommandOut}
use Rattle.pr_core.specs.Admits.{Serves}
use Rattle.pr_core.specs.States.{progress_at}
use Rattle.pr_core.specs.Outs.{Begins}
use Rattle.pr_core.proofs.Going.{ended_begins, ended_begun, same_kept, same_tasks, same_idle}
use Rattle.pr_core.proofs.Admitting.{serves_sense}
use Rattle.pr_core.proofs.state.State.serve.Goals as goal

pub returns-in-RequestSense-clause-serves : goal.returns-in-RequestSense-clause-serves
returns-in-RequestSense-clause-serves g c =
    subst (λ (a : Admitted). Serves c.args.self.now c.sense_code-code.new.self c.args.keeper.now c.args.keeper.now c.args.nexus c.args.lun a c.good-in-RequestSense.result c.write_sense.new.buf) (sym c.in-RequestSense.is)
    (subst (λ (r : CommandOut). Serves c.args.self.now c.sense_code-code.new.self c.args.keeper.now c.args.keeper.now c.args.nexus c.args.lun (RequestSense c.in-RequestSense.descriptor c.in-RequestSense.allocation) r c.write_sense.new.buf) (sym c.good-in-RequestSense.ensures)
    (serves_sense c.args.self.now c.sense_code-code.new.self c.args.nexus c.args.lun c.in-RequestSense.descriptor c.in-RequestSense.allocation c.write_sense.result c.write_sense.new.buf c.sense_code-code.result c.sense_code-code.ensures.senses c.write_sense.ensures.bytes, refl, tt))

pub returns-in-ReserveOut-clause-serves : goal.returns-in-ReserveOut-clause-serves
returns-in-ReserveOut-clause-serves g c =
    subst (λ (a : Admitted). Serves c.args.self.now c.reserve_out.new.self c.args.keeper.now c.reserve_out.new.keeper c.args.nexus c.args.lun a c.reserve_out.result c.args.buf.now) (sym c.in-ReserveOut.is) c.reserve_out.ensures.reserves

pub returns-in-Transfer-clause-serves : goal.returns-in-Transfer-clause-serves
returns-in-Transfer-clause-serves g c =
    subst (λ (a : Admitted). Serves c.args.self.now c.begin.new.self c.args.keeper.now c.args.keeper.now c.args.nexus c.args.lun a c.begin.result c.args.buf.now) (sym c.in-Transfer.is)
    (c.begin.ensures.serves c.args.lun c.args.buf.now, refl, c.begin.ensures.passed)

pub returns-in-RequestSense-clause-begins : goal.returns-in-RequestSense-clause-begins
returns-in-RequestSense-clause-begins g c =
    subst (λ (r : CommandOut). Begins r (progress_at c.sense_code-code.new.self c.args.nexus)) (sym c.good-in-RequestSense.ensures) (same_idle c.args.nexus c.args.self.now c.sense_code-code.new.self c.sense_code-code.ensures.progress c.requires.idle)

pub returns-in-RequestSense-clause-others : goal.returns-in-RequestSense-clause-others
returns-in-RequestSense-clause-others g c = same_tasks c.args.nexus c.args.self.now c.sense_code-code.new.self c.sense_code-code.ensures.progress

pub returns-in-ReserveOut-clause-begins : goal.returns-in-ReserveOut-clause-begins
returns-in-ReserveOut-clause-begins g c =
    ended_begins c.reserve_out.result _ c.reserve_out.ensures.ended (same_idle c.args.nexus c.args.self.now c.reserve_out.new.self c.reserve_out.ensures.progress c.requires.idle)

pub returns-in-ReserveOut-clause-others : goal.returns-in-ReserveOut-clause-others
returns-in-ReserveOut-clause-others g c = same_tasks c.args.nexus c.args.self.now c.reserve_out.new.self c.reserve_out.ensures.progress

pub returns-in-ReserveOut-clause-begun : goal.returns-in-ReserveOut-clause-begun
returns-in-ReserveOut-clause-begun g c = ended_begun c.reserve_out.result _ c.reserve_out.ensures.ended

pub returns-in-Transfer-clause-kept : goal.returns-in-Transfer-clause-kept
returns-in-Transfer-clause-kept g c = same_kept c.begin.result c.args.buf.now

pub returns-in-ReserveOut-clause-kept : goal.returns-in-ReserveOut-clause-kept
returns-in-ReserveOut-clause-kept g c = same_kept c.reserve_out.result c.args.buf.now
