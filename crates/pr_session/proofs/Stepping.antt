-- Steps after which a task goes on.
use Rattle.std.proofs.Common.{◌≡◌, ℕ, ◌+◌, List, [], length, sym, subst}
use Rattle.pr_words.specs.declared.nexus.Nexus.{Nexus}
use Rattle.pr_words.specs.declared.limits.TheConstants.{BLOCK, HELD}
use Rattle.pr_model.specs.Lanes as lanes
use Rattle.pr_model.specs.Lanes.{turned, lane, after_step, with_bytes}
use Rattle.pr_tasks.specs.declared.step_out.StepOut.{StepOut}
use Rattle.pr_tasks.specs.declared.step_out.StepOut.TheVariants.{Wrote, Read}
use Rattle.pr_core.specs.Outs.{step_out}
use Rattle.pr_session.specs.declared.job.Job.{Job}
use Rattle.pr_session.specs.declared.session.Session.{Session}
use Rattle.pr_session.specs.Jobs.{job_of, block_in, FitsStep}
use Rattle.pr_session.specs.Sessions.{HasTurned}
use Rattle.pr_session.proofs.Jobs.{written_job, read_job}

-- one more block was written
pub wrote_turn : (n : Nexus) (j k : Job) (work held : List ℕ) (place : ℕ) (out : StepOut) (lba : ℕ) (s : Session) → out ≡ Wrote lba → FitsStep j (Wrote lba) → (k.lun ≡ j.lun) × (k.tag ≡ j.tag) × (k.way ≡ j.way) → (k.start ≡ j.start + BLOCK) × (k.stop ≡ j.stop)
    → HasTurned s (turned (lane held (lanes.Busy n (job_of k work)) place) []) → HasTurned s (after_step n (job_of j work) held place (step_out out (block_in j work)))
wrote_turn n j k work held place out lba s is fits head places made =
    subst (λ (o : StepOut). HasTurned s (after_step n (job_of j work) held place (step_out o (block_in j work)))) (sym is)
    (subst (λ (x : lanes.Job). HasTurned s (turned (lane held (lanes.Busy n x) place) [])) (written_job j k work head places fits.1) made)

-- one more block was read
pub read_turn : (n : Nexus) (j k : Job) (work held : List ℕ) (place : ℕ) (out : StepOut) (lba : ℕ) (s : Session) → length work ≡ HELD → out ≡ Read lba → FitsStep j (Read lba) → (k.lun ≡ j.lun) × (k.tag ≡ j.tag) × (k.way ≡ j.way) → (k.start ≡ j.start) × (k.stop ≡ j.stop + BLOCK)
    → HasTurned s (turned (lane held (lanes.Busy n (job_of k work)) place) []) → HasTurned s (after_step n (job_of j work) held place (step_out out (block_in j work)))
read_turn n j k work held place out lba s size is fits head places made =
    subst (λ (o : StepOut). HasTurned s (after_step n (job_of j work) held place (step_out o (block_in j work)))) (sym is)
    (subst (λ (x : lanes.Job). HasTurned s (turned (lane held (lanes.Busy n x) place) [])) (read_job j k work head places fits.0 fits.1 size) made)
