-- Acts that were asked for and that a core did.
use Rattle.std.proofs.Common.{◌≡◌, ℕ, ◌+◌, ◌-◌, ◌*◌, ◌≤◌, ◌<◌, List, [], ◌∷◌, ◌++◌, length, take, drop, slice_range, Bool, true, false, Option, Some, None, refl, sym, ap, ◌∙◌, subst, arith, eqb}
use Rattle.std.specs.Prelude.{if◌then◌else◌}
use Rattle.std.proofs.lemmas.Bool.{eqb-true}
use Rattle.std.proofs.lemmas.List.{length-take, length-drop, length-append}
use Rattle.pr_words.specs.declared.nexus.Nexus.{Nexus}
use Rattle.pr_words.specs.declared.task.Way.{Way}
use Rattle.pr_words.specs.declared.task.Way.TheVariants as ways
use Rattle.pr_words.specs.declared.limits.TheConstants.{HELD, DATA, TRANSFER, BLOCK, COMMAND_HEAD}
use Rattle.pr_model.specs.Entries as entries
use Rattle.pr_model.specs.Entries.{entry}
use Rattle.pr_model.specs.Lanes as lanes
use Rattle.pr_model.specs.Lanes.{after_step, carried, with_bytes}
use Rattle.pr_link.specs.declared.frame.Frame.{Frame}
use Rattle.pr_io.specs.declared.outside.Medium as media
use Rattle.pr_io.specs.declared.outside.Disk as disks
use Rattle.pr_tasks.specs.declared.step_out.StepOut.{StepOut}
use Rattle.pr_tasks.specs.declared.step_out.StepOut.TheVariants as steps
use Rattle.pr_tasks.specs.Steps.{LeavesBlock}
use Rattle.pr_core.specs.declared.target.Core.{Core}
use Rattle.pr_core.specs.declared.answers.CommandOut.{CommandOut}
use Rattle.pr_core.specs.declared.answers.CommandOut.TheVariants as answers
use Rattle.pr_core.specs.States.{Progress}
use Rattle.pr_core.specs.Outs.{out_of, step_out, IsProper, IsFed, IsCarried, Begins, Progresses, LeavesData}
use Rattle.pr_core.specs.View.{Extends, owner_of, progress_of}
use Rattle.pr_session.specs.declared.act.Out.TheVariants as outs
use Rattle.pr_session.specs.declared.asked.Asked.TheVariants.{Login, Command, Step, Logout, Reject}
use Rattle.pr_session.specs.declared.state.Rejection.{Rejection}
use Rattle.pr_session.specs.declared.job.Job.{Job}
use Rattle.pr_session.specs.Places.{data_in, block_from}
use Rattle.pr_session.specs.Jobs.{job_of, begun_by, block_place, FitsStep}
use Rattle.pr_session.specs.Coming.{IsIdleIn, HasCome, RunsTask, Agrees}
use Rattle.pr_session.specs.Driving.{Does, left_by, left_of}
use Rattle.pr_session.proofs.Blocks.{length_between, same_between}
use Rattle.pr_session.proofs.Jobs.{place_of_read, carries_block}

login_agrees : {M D : Type 0} {gm : media.Ghosts M} {gd : disks.Ghosts D} (who : ℕ) (new : Core M D gm gd) (n : Nexus) (accepted : Bool) → (accepted ≡ true → IsIdleIn new who n) → Agrees (if accepted then lanes.In n else lanes.Fresh) who new
login_agrees who new n true owns = owns refl
login_agrees who new n false owns = tt

pub does_login : {M D : Type 0} {gm : media.Ghosts M} {gd : disks.Ghosts D} (who : ℕ) (old new : Core M D gm gd) (head : Frame) (n : Nexus) (version code : ℕ) (work : List ℕ)
    → Extends old new (entry who n (entries.Login version) (entries.Login_code code) ∷ []) → (code ≡ 0 → owner_of new n ≡ Some who) → (code ≡ 0 → progress_of new n ≡ None) → Does (Login head n version) who old work (outs.Login code) new work
does_login who old new head n version code work made owns idle =
    record { made = made; fits = tt; goes = λ held place. refl; agrees = λ held place. login_agrees who new n (eqb code 0) (λ zero. (owns (eqb-true code 0 zero), idle (eqb-true code 0 zero))); onward = λ held place. tt }

pub does_logout : {M D : Type 0} {gm : media.Ghosts M} {gd : disks.Ghosts D} (who : ℕ) (old new : Core M D gm gd) (head : Frame) (n : Nexus) (work : List ℕ) → Extends old new (entry who n entries.Logout entries.Left ∷ []) → Does (Logout head n) who old work outs.Logout new work
does_logout who old new head n work made = record { made = made; fits = tt; goes = λ held place. refl; agrees = λ held place. tt; onward = λ held place. tt }

pub does_reject : {M D : Type 0} {gm : media.Ghosts M} {gd : disks.Ghosts D} (who : ℕ) (old new : Core M D gm gd) (n : Nexus) (r : Rejection) (work : List ℕ) → Extends old new (entry who n entries.Logout entries.Left ∷ []) → Does (Reject n r) who old work outs.Logout new work
does_reject who old new n r work made = record { made = made; fits = tt; goes = λ held place. refl; agrees = λ held place. tt; onward = λ held place. tt }

first_come : (way : Way) (count sent : ℕ) (bytes : List ℕ) → IsFed (answers.Started way count) sent → sent ≤ length bytes → HasCome way (record { way = way; count = count; done = 0 }) (length (lanes.first_bytes way (take sent bytes)))
first_come ways.Read count sent bytes fed within = (refl, omega arith)
first_come ways.Write count sent bytes fed within = omega (arith, fed, length-take sent bytes, within)

pub does_command : {M D : Type 0} {gm : media.Ghosts M} {gd : disks.Ghosts D} (who : ℕ) (old new : Core M D gm gd) (head : Frame) (n : Nexus) (cdb : List ℕ) (sent : ℕ) (out : CommandOut) (work left : List ℕ)
    → Extends old new (entry who n (entries.Command head.lun cdb (take sent (data_in work))) (out_of out (data_in left)) ∷ []) → owner_of new n ≡ Some who → Begins out (progress_of new n) → IsFed out sent → IsProper out → LeavesData out (data_in work) (data_in left)
    → sent ≤ length (data_in left) → Does (Command head n cdb sent) who old work (outs.Command out) new left
does_command who old new head n cdb sent (answers.Ended status sense len) work left made owns begins fed proper kept within =
    record { made = made; fits = (proper, fed); goes = λ held place. refl; agrees = λ held place. (owns, begins); onward = λ held place. tt }
does_command who old new head n cdb sent (answers.Started way count) work left made owns begins fed proper kept within =
    record {
      made = made;
      fits = (proper, fed);
      goes = λ held place. ap (λ (d : List ℕ). lanes.turned (lanes.lane held (lanes.Busy n (begun_by head way (take sent d))) place) []) kept;
      agrees = λ held place. record { owner = owns; progress = record { way = way; count = count; done = 0 }; runs = begins; way = refl; come = first_come way count sent (data_in left) fed within; few = proper.1 };
      onward = λ held place. tt;
    }

some_left : (way : Way) (size : ℕ) → 0 < left_by way size
some_left ways.Read size = omega arith
some_left ways.Write size = omega arith

-- what has come of a task after one more block

abbrev onward : Progress → Progress
onward p = record p { done = p.done + 1 }

wrote_come : (way : Way) (p : Progress) (size rest : ℕ) → way ≡ ways.Write → HasCome way p size → rest + BLOCK ≡ size → HasCome way (onward p) rest
wrote_come way p size rest is come less =
    subst (λ (w : Way). HasCome w (onward p) rest) (sym is) (let here : HasCome ways.Write p size = subst (λ (w : Way). HasCome w p size) is come in omega (arith, here, less))

read_come : (way : Way) (p : Progress) (size more : ℕ) → way ≡ ways.Read → p.done < p.count → HasCome way p size → more ≡ size + BLOCK → HasCome way (onward p) more
read_come way p size more is left come sum =
    subst (λ (w : Way). HasCome w (onward p) more) (sym is) (let here : HasCome ways.Read p size = subst (λ (w : Way). HasCome w p size) is come in (omega (arith, here.0, sum), omega (arith, left)))

-- a step of a task that runs
module _ {M D : Type 0} {gm : media.Ghosts M} {gd : disks.Ghosts D} (who : ℕ) (old new : Core M D gm gd) (n : Nexus) (j : Job) (work left : List ℕ) (size : length work ≡ HELD) (size_left : length left ≡ HELD) (owns : owner_of new n ≡ Some who) where
  abbrev MadeAt : ℕ → StepOut → Type 0
  MadeAt at out =
      (sent : List ℕ) → IsCarried out sent (block_from at work) → Extends old new (entry who n (entries.Step sent) (step_out out (block_from at left)) ∷ [])

  abbrev Made : StepOut → Type 0
  Made out = MadeAt (block_place j) out

  -- a step that moved no block ends its task
  ends : (out : StepOut) → Made out → ((sent : List ℕ) → IsCarried out sent (block_from (block_place j) work)) → FitsStep j out → progress_of new n ≡ None
      → ((held : List ℕ) (place : ℕ) → (after_step n (job_of j left) held place (step_out out (block_from (block_place j) left))).lane.phase ≡ lanes.In n)
      → ((held : List ℕ) (place : ℕ) → after_step n (job_of j left) held place (step_out out (block_from (block_place j) left)) ≡ after_step n (job_of j work) held place (step_out out (block_from (block_place j) left)))
      → Does (Step n j) who old work (outs.Step out) new left
  ends out made carried fits idle phase goes =
      record { made = made (lanes.carried (job_of j work)) (carried (lanes.carried (job_of j work))); fits = fits; goes = goes; agrees = λ held place. subst (λ (p : lanes.Phase). Agrees p who new) (sym (phase held place)) (owns, idle); onward = λ held place. subst (λ (p : lanes.Phase). left_of p < left_by j.way (length (job_of j work).bytes)) (sym (phase held place)) (some_left j.way (length (job_of j work).bytes)) }

  wrote : (lba : ℕ) → Made (steps.Wrote lba) → left ≡ work → (p : Progress) → p.way ≡ (job_of j work).way → HasCome j.way p (length (job_of j work).bytes) → p.count ≤ TRANSFER → Progresses (steps.Wrote lba) (Some p) (progress_of new n) → Does (Step n j) who old work (outs.Step (steps.Wrote lba)) new left
  wrote lba made kept p same come few goes =
      let way : j.way ≡ ways.Write = sym same ∙ goes.0 in
      let whole : length (slice_range work j.start j.stop) ≡ j.stop - j.start = length_between work j.start j.stop j.order (omega (arith, j.within, size)) in
      let come_here : length (slice_range work j.start j.stop) + BLOCK * p.done ≡ BLOCK * p.count = subst (λ (w : Way). HasCome w p (length (slice_range work j.start j.stop))) way come in
      let some : j.start + BLOCK ≤ j.stop = omega (arith, whole, come_here, goes.1, j.order) in
      let whole_left : length (slice_range left j.start j.stop) ≡ j.stop - j.start = length_between left j.start j.stop j.order (omega (arith, j.within, size_left)) in
      let rest : length (drop BLOCK (slice_range left j.start j.stop)) + BLOCK ≡ length (slice_range work j.start j.stop) = omega (arith, length-drop BLOCK (slice_range left j.start j.stop), whole_left, whole, some) in
      record {
        made = made (carried (job_of j work)) (carries_block j work way some j.within size);
        fits = (way, some);
        goes = λ held place. ap (λ (w : List ℕ). after_step n (job_of j w) held place entries.Wrote) kept;
        agrees = λ held place. record { owner = owns; progress = onward p; runs = goes.2; way = same; come = wrote_come j.way p (length (slice_range work j.start j.stop)) (length (drop BLOCK (slice_range left j.start j.stop))) way come rest; few = few };
        onward = λ held place. subst (λ (w : Way). left_by w (length (drop BLOCK (slice_range left j.start j.stop))) < left_by w (length (slice_range work j.start j.stop))) (sym way) (omega (arith, rest));
      }

  read : (lba : ℕ) → Made (steps.Read lba) → take (block_place j) left ≡ take (block_place j) work → (p : Progress) → p.way ≡ (job_of j work).way → HasCome j.way p (length (job_of j work).bytes) → p.count ≤ TRANSFER → Progresses (steps.Read lba) (Some p) (progress_of new n) → Does (Step n j) who old work (outs.Step (steps.Read lba)) new left
  read lba made before p same come few goes =
      let way : j.way ≡ ways.Read = sym same ∙ goes.0 in
      let whole : length (slice_range work j.start j.stop) ≡ j.stop - j.start = length_between work j.start j.stop j.order (omega (arith, j.within, size)) in
      let come_here : HasCome ways.Read p (length (slice_range work j.start j.stop)) = subst (λ (w : Way). HasCome w p (length (slice_range work j.start j.stop))) way come in
      let within : j.stop + BLOCK ≤ COMMAND_HEAD + DATA = omega (arith, whole, come_here.0, few, goes.1, j.order, j.read way) in
      let at : block_place j ≡ j.stop = place_of_read j way within in
      let same_bytes : slice_range left j.start j.stop ≡ slice_range work j.start j.stop = same_between work left j.start j.stop (subst (λ (k : ℕ). take k left ≡ take k work) at before) in
      let block : List ℕ = block_from (block_place j) left in
      let block_size : length block ≡ BLOCK = length_between left (block_place j) (block_place j + BLOCK) (omega arith) (omega (arith, at, within, size_left)) ∙ (let gap : (block_place j + BLOCK) - block_place j ≡ BLOCK = omega arith in gap) in
      let sum : length (slice_range left j.start j.stop ++ block) ≡ length (slice_range work j.start j.stop) + BLOCK = omega (arith, length-append (slice_range left j.start j.stop) block, ap length same_bytes, block_size) in
      record {
        made = made (carried (job_of j work)) tt;
        fits = (way, within);
        goes = λ held place. ap (λ (b : List ℕ). lanes.turned (lanes.lane held (lanes.Busy n (with_bytes (job_of j work) (b ++ block))) place) []) same_bytes;
        agrees = λ held place. record { owner = owns; progress = onward p; runs = goes.2; way = same; come = read_come j.way p (length (slice_range work j.start j.stop)) (length (slice_range left j.start j.stop ++ block)) way goes.1 come sum; few = few };
        onward = λ held place. subst (λ (w : Way). left_by w (length (slice_range left j.start j.stop ++ block)) < left_by w (length (slice_range work j.start j.stop))) (sym way) (omega (arith, sum, whole, within, j.read way, j.order));
      }

  by_progress : (out : StepOut) → Made out → take (block_place j) left ≡ take (block_place j) work → LeavesBlock out work left → (p : Progress) → p.way ≡ j.way → HasCome j.way p (length (job_of j work).bytes) → p.count ≤ TRANSFER
      → Progresses out (Some p) (progress_of new n) → Does (Step n j) who old work (outs.Step out) new left
  by_progress (steps.Wrote lba) made before kept p same come few goes = wrote lba made kept p same come few goes
  by_progress (steps.Read lba) made before kept p same come few goes = read lba made before p same come few goes
  by_progress (steps.Fault code) made before kept p same come few goes = ends (steps.Fault code) made (λ sent. tt) goes.0 goes.1 (λ held place. refl) (λ held place. refl)
  by_progress steps.Done made before kept p same come few goes =
      ends steps.Done made (λ sent. tt) tt goes.1 (λ held place. refl) (λ held place. ap (λ (w : List ℕ). after_step n (job_of j w) held place entries.Done) kept)
  by_progress steps.Aborted made before kept p same come few goes =
      ends steps.Aborted made (λ sent. tt) tt goes (λ held place. refl) (λ held place. refl)

  pub does_step : (at : ℕ) → at ≡ block_place j → (out : StepOut) → MadeAt at out → RunsTask old who n (job_of j work) → take at left ≡ take at work → LeavesBlock out work left → Progresses out (progress_of old n) (progress_of new n) → Does (Step n j) who old work (outs.Step out) new left
  does_step at is out made runs before kept goes =
      by_progress out (subst (λ (k : ℕ). MadeAt k out) is made) (subst (λ (k : ℕ). take k left ≡ take k work) is before) kept runs.progress runs.way runs.come runs.few (subst (λ (o : Option Progress). Progresses out o (progress_of new n)) runs.runs goes)
