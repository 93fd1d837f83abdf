use Rattle.std.proofs.Common.{ℕ, Option, is_some, take, ap, ◌∙◌, sym, subst}
use Rattle.pr_words.specs.declared.nexus.Nexus.{Nexus}
use Rattle.pr_model.specs.Histories.{failures_by}
use Rattle.pr_core.specs.declared.answers.CommandOut.{CommandOut}
use Rattle.pr_core.specs.States.{progress_at}
use Rattle.pr_core.specs.Outs.{out_of, Begins, IsFed}
use Rattle.pr_core.proofs.Admitting.{enters_unit, enters_conflict, enters_cdb, enters_served, counts_served}
use Rattle.pr_core.proofs.Settled.{counts_still, refusal_counts}
use Rattle.pr_core.proofs.Going.{ended_begins, ended_fed, same_kept, begun_fed, taken_long, same_tasks, same_idle, tasks_more}
use Rattle.pr_core.proofs.state.State.command.Goals as goal

pub returns-in-Err-clause-enters : goal.returns-in-Err-clause-enters
returns-in-Err-clause-enters g c who owns =
    enters_unit c.args.self.now c.check_unit.new.self c.args.keeper.now who c.args.nexus c.args.lun c.args.cdb.now (take c.args.out_len c.args.buf.now) c.in-Err.code _ owns c.requires.idle c.in-Err.ensures.passes (c.checking.ensures.out _)

pub returns-in-Err-clause-begins : goal.returns-in-Err-clause-begins
returns-in-Err-clause-begins g c = ended_begins _ _ c.checking.ensures.ended (same_idle c.args.nexus c.args.self.now c.check_unit.new.self c.check_unit.ensures.progress c.requires.idle)

pub returns-in-Err-clause-others : goal.returns-in-Err-clause-others
returns-in-Err-clause-others g c = same_tasks c.args.nexus c.args.self.now c.check_unit.new.self c.check_unit.ensures.progress

pub returns-then-is_forbidden-clause-enters : goal.returns-then-is_forbidden-clause-enters
returns-then-is_forbidden-clause-enters g c who owns =
    enters_conflict c.args.self.now c.check_unit.new.self c.args.keeper.now who c.args.nexus c.args.lun c.args.cdb.now (take c.args.out_len c.args.buf.now) c.in-Ok.operation _ owns c.requires.idle c.in-Ok.ensures.passes (sym c.is_forbidden.ensures ∙ c.if-is_forbidden.true)
    (ap (λ (r : CommandOut). out_of r c.args.buf.now) c.conflict.ensures)

pub returns-then-is_forbidden-clause-begins : goal.returns-then-is_forbidden-clause-begins
returns-then-is_forbidden-clause-begins g c =
    subst (λ (r : CommandOut). Begins r (progress_at c.check_unit.new.self c.args.nexus)) (sym c.conflict.ensures) (same_idle c.args.nexus c.args.self.now c.check_unit.new.self c.check_unit.ensures.progress c.requires.idle)

pub returns-then-is_forbidden-clause-others : goal.returns-then-is_forbidden-clause-others
returns-then-is_forbidden-clause-others g c = same_tasks c.args.nexus c.args.self.now c.check_unit.new.self c.check_unit.ensures.progress

pub serve-requires-clause-idle : goal.serve-requires-clause-idle
serve-requires-clause-idle g c = same_idle c.args.nexus c.args.self.now c.check_unit.new.self c.check_unit.ensures.progress c.requires.idle

pub serve-requires-clause-owned : goal.serve-requires-clause-owned
serve-requires-clause-owned g c = ap (λ (owner : Nexus → Option ℕ). is_some (owner c.args.nexus)) c.check_unit.ensures.owner ∙ c.requires.owned

pub returns-in-Ok-check_cdb-clause-enters : goal.returns-in-Ok-check_cdb-clause-enters
returns-in-Ok-check_cdb-clause-enters g c who owns =
    enters_served c.args.self.now c.check_unit.new.self c.serve.new.self c.args.keeper.now c.serve.new.keeper who c.args.nexus c.args.lun c.args.cdb.now (take c.args.out_len c.args.buf.now) c.in-Ok.operation c.in-Ok-check_cdb.admitted c.serve.result c.serve.new.buf owns c.requires.idle
    c.in-Ok.ensures.passes (sym c.is_forbidden.ensures ∙ c.if-is_forbidden.false) c.in-Ok-check_cdb.ensures c.serve.ensures.serves

pub returns-in-Ok-check_cdb-clause-others : goal.returns-in-Ok-check_cdb-clause-others
returns-in-Ok-check_cdb-clause-others g c = tasks_more c.args.nexus c.args.self.now c.check_unit.new.self c.serve.new.self c.check_unit.ensures.progress c.serve.ensures.others

pub returns-in-Err-check_cdb-clause-enters : goal.returns-in-Err-check_cdb-clause-enters
returns-in-Err-check_cdb-clause-enters g c who owns =
    enters_cdb c.args.self.now c.check_unit.new.self c.args.keeper.now who c.args.nexus c.args.lun c.args.cdb.now (take c.args.out_len c.args.buf.now) c.in-Ok.operation c.in-Err-check_cdb.code _ owns c.requires.idle c.in-Ok.ensures.passes
    (sym c.is_forbidden.ensures ∙ c.if-is_forbidden.false) c.in-Err-check_cdb.ensures (c.checking-in-Err-check_cdb.ensures.out _)

pub returns-in-Err-check_cdb-clause-begins : goal.returns-in-Err-check_cdb-clause-begins
returns-in-Err-check_cdb-clause-begins g c = ended_begins _ _ c.checking-in-Err-check_cdb.ensures.ended (same_idle c.args.nexus c.args.self.now c.check_unit.new.self c.check_unit.ensures.progress c.requires.idle)

pub returns-in-Err-check_cdb-clause-others : goal.returns-in-Err-check_cdb-clause-others
returns-in-Err-check_cdb-clause-others g c = same_tasks c.args.nexus c.args.self.now c.check_unit.new.self c.check_unit.ensures.progress

pub returns-in-Err-clause-fed : goal.returns-in-Err-clause-fed
returns-in-Err-clause-fed g c = ended_fed _ _ c.checking.ensures.ended

pub returns-then-is_forbidden-clause-fed : goal.returns-then-is_forbidden-clause-fed
returns-then-is_forbidden-clause-fed g c = subst (λ (r : CommandOut). IsFed r c.args.out_len) (sym c.conflict.ensures) tt

pub returns-in-Err-check_cdb-clause-fed : goal.returns-in-Err-check_cdb-clause-fed
returns-in-Err-check_cdb-clause-fed g c = ended_fed _ _ c.checking-in-Err-check_cdb.ensures.ended

pub returns-in-Ok-check_cdb-clause-fed : goal.returns-in-Ok-check_cdb-clause-fed
returns-in-Ok-check_cdb-clause-fed g c =
    begun_fed c.serve.result c.in-Ok-check_cdb.admitted (take c.args.out_len c.args.buf.now) c.args.out_len c.serve.ensures.begun c.in-Ok-check_cdb.ensures.3 (taken_long c.args.out_len c.args.buf.now c.requires.sent)

pub returns-in-Err-clause-kept : goal.returns-in-Err-clause-kept
returns-in-Err-clause-kept g c = same_kept _ _

pub returns-in-Err-check_cdb-clause-kept : goal.returns-in-Err-check_cdb-clause-kept
returns-in-Err-check_cdb-clause-kept g c = same_kept _ _

pub returns-then-is_forbidden-clause-kept : goal.returns-then-is_forbidden-clause-kept
returns-then-is_forbidden-clause-kept g c = same_kept _ _

pub returns-in-Err-clause-counts : goal.returns-in-Err-clause-counts
returns-in-Err-clause-counts g c = counts_still c.args.keeper.now _ (λ buf. ap failures_by (c.checking.ensures.out buf) ∙ refusal_counts c.in-Err.code c.in-Err.ensures.passes.0)

pub returns-then-is_forbidden-clause-counts : goal.returns-then-is_forbidden-clause-counts
returns-then-is_forbidden-clause-counts g c = counts_still c.args.keeper.now _ (λ buf. ap (λ (r : CommandOut). failures_by (out_of r buf)) c.conflict.ensures)

pub returns-in-Err-check_cdb-clause-counts : goal.returns-in-Err-check_cdb-clause-counts
returns-in-Err-check_cdb-clause-counts g c =
    counts_still c.args.keeper.now _ (λ buf. ap failures_by (c.checking-in-Err-check_cdb.ensures.out buf) ∙ refusal_counts c.in-Err-check_cdb.code c.in-Err-check_cdb.ensures.0)

pub returns-in-Ok-check_cdb-clause-counts : goal.returns-in-Ok-check_cdb-clause-counts
returns-in-Ok-check_cdb-clause-counts g c =
    counts_served c.check_unit.new.self c.serve.new.self c.args.keeper.now c.serve.new.keeper c.args.nexus c.args.lun c.in-Ok-check_cdb.admitted c.serve.result c.serve.new.buf c.serve.ensures.serves
