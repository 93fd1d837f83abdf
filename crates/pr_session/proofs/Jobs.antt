-- Tasks as a session keeps them.
use Rattle.std.proofs.Common.{◌≡◌, ℕ, ◌+◌, ◌-◌, ◌≤◌, min, List, ◌++◌, length, take, drop, slice_range, refl, sym, ap, ◌∙◌, arith}
use Rattle.pr_words.specs.declared.task.Way.{Way}
use Rattle.pr_words.specs.declared.task.Way.TheVariants as ways
use Rattle.pr_words.specs.declared.limits.TheConstants.{BLOCK, COMMAND_HEAD, DATA, HELD}
use Rattle.pr_link.specs.declared.frame.Frame.{Frame}
use Rattle.pr_model.specs.Lanes as lanes
use Rattle.pr_model.specs.Lanes.{carried, carried_by, read_by, with_bytes}
use Rattle.pr_session.specs.declared.job.Job.{Job}
use Rattle.pr_session.specs.Places.{data_in, block_from}
use Rattle.pr_session.specs.Jobs.{job_of, begun_by, first_stop, next_place, block_place, data_in_by, carried_in, carried_of}
use Rattle.pr_session.proofs.Blocks.{first_between, rest_between, more_between, few_between}

begun_bytes : (way : Way) (sent : ℕ) (work : List ℕ) → slice_range work COMMAND_HEAD (first_stop way sent) ≡ lanes.first_bytes way (take sent (data_in work))
begun_bytes ways.Read sent work = refl
begun_bytes ways.Write sent work = let size : (COMMAND_HEAD + sent) - COMMAND_HEAD ≡ sent = omega arith in ap (λ (n : ℕ). take n (drop COMMAND_HEAD work)) size

abbrev with_parts : ℕ → ℕ → Way → List ℕ → lanes.Job
with_parts lun tag way bytes = record { lun = lun; tag = tag; way = way; bytes = bytes }

same_parts : (j : Job) (lun tag : ℕ) (way : Way) (work bytes : List ℕ) → (j.lun ≡ lun) × (j.tag ≡ tag) × (j.way ≡ way) → slice_range work j.start j.stop ≡ bytes → job_of j work ≡ with_parts lun tag way bytes
same_parts j lun tag way work bytes head same =
    ap (λ (n : ℕ). with_parts n j.tag j.way (slice_range work j.start j.stop)) head.0
    ∙ ap (λ (n : ℕ). with_parts lun n j.way (slice_range work j.start j.stop)) head.1
    ∙ ap (λ (w : Way). with_parts lun tag w (slice_range work j.start j.stop)) head.2
    ∙ ap (with_parts lun tag way) same

-- the task of a command stands for the one that the command began
pub begun_job : (j : Job) (head : Frame) (way : Way) (sent : ℕ) (work : List ℕ) → (j.lun ≡ head.lun) × (j.tag ≡ head.tag) × (j.way ≡ way) → (j.start ≡ COMMAND_HEAD) × (j.stop ≡ first_stop way sent) → job_of j work ≡ begun_by head way (take sent (data_in work))
begun_job j head way sent work is_head places =
    same_parts j head.lun head.tag way work (lanes.first_bytes way (take sent (data_in work))) is_head
    (ap (λ (n : ℕ). slice_range work n j.stop) places.0 ∙ ap (slice_range work COMMAND_HEAD) places.1 ∙ begun_bytes way sent work)

-- where the next block of a task stands, while there is room
pub place_of_write : (j : Job) → j.way ≡ ways.Write → j.start + BLOCK ≤ j.stop → j.stop ≤ COMMAND_HEAD + DATA → block_place j ≡ j.start
place_of_write j is some within =
    let here : min j.start 523808 ≡ j.start = omega (arith, some, within) in
    ap (λ (w : Way). min (next_place w j.start j.stop) 523808) is ∙ here

pub place_of_read : (j : Job) → j.way ≡ ways.Read → j.stop + BLOCK ≤ COMMAND_HEAD + DATA → block_place j ≡ j.stop
place_of_read j is within =
    let here : min j.stop 523808 ≡ j.stop = omega (arith, within) in
    ap (λ (w : Way). min (next_place w j.start j.stop) 523808) is ∙ here

-- a WRITE carries the block at its front
pub carries_block : (j : Job) (work : List ℕ) → j.way ≡ ways.Write → j.start + BLOCK ≤ j.stop → j.stop ≤ COMMAND_HEAD + DATA → length work ≡ HELD → lanes.carried (job_of j work) ≡ block_from (block_place j) work
carries_block j work is some within size =
    ap (λ (w : Way). carried_by w (slice_range work j.start j.stop)) is
    ∙ first_between work j.start BLOCK j.stop some (omega (arith, within, size))
    ∙ ap (λ (at : ℕ). block_from at work) (sym (place_of_write j is some within))

-- one block more was written, or read
pub written_job : (j k : Job) (work : List ℕ) → (k.lun ≡ j.lun) × (k.tag ≡ j.tag) × (k.way ≡ j.way) → (k.start ≡ j.start + BLOCK) × (k.stop ≡ j.stop) → j.start + BLOCK ≤ j.stop → job_of k work ≡ with_bytes (job_of j work) (drop BLOCK (job_of j work).bytes)
written_job j k work head places some =
    same_parts k j.lun j.tag j.way work (drop BLOCK (slice_range work j.start j.stop)) head
    (ap (λ (n : ℕ). slice_range work n k.stop) places.0 ∙ ap (slice_range work (j.start + BLOCK)) places.1 ∙ sym (rest_between work j.start BLOCK j.stop some))

pub read_job : (j k : Job) (work : List ℕ) → (k.lun ≡ j.lun) × (k.tag ≡ j.tag) × (k.way ≡ j.way) → (k.start ≡ j.start) × (k.stop ≡ j.stop + BLOCK) → j.way ≡ ways.Read → j.stop + BLOCK ≤ COMMAND_HEAD + DATA → length work ≡ HELD
    → job_of k work ≡ with_bytes (job_of j work) ((job_of j work).bytes ++ block_from (block_place j) work)
read_job j k work head places is within size =
    same_parts k j.lun j.tag j.way work (slice_range work j.start j.stop ++ block_from (block_place j) work) head
    (ap (λ (n : ℕ). slice_range work n k.stop) places.0 ∙ ap (slice_range work j.start) places.1
    ∙ sym (more_between work j.start j.stop BLOCK j.order (omega (arith, within, size)))
    ∙ ap (λ (at : ℕ). slice_range work j.start j.stop ++ block_from at work) (sym (place_of_read j is within)))

-- the data-in of a task that is done
pub data_in_is : (j : Job) (work : List ℕ) → (j.way ≡ ways.Read → j.start ≡ COMMAND_HEAD) → take (data_in_by j.way j.start j.stop) (data_in work) ≡ read_by j.way (job_of j work).bytes
data_in_is j work fronts = by j.way fronts
  where
    by : (way : Way) → (way ≡ ways.Read → j.start ≡ COMMAND_HEAD) → take (data_in_by way j.start j.stop) (data_in work) ≡ read_by way (slice_range work j.start j.stop)
    by ways.Read front = ap (λ (n : ℕ). take (j.stop - j.start) (drop n work)) (sym (front refl))
    by ways.Write front = refl

-- the bytes that a task's next step carries, at their place in the work buffer
pub carried_there : (j : Job) (work : List ℕ) → take (carried_of j) (drop j.start work) ≡ carried (job_of j work)
carried_there j work = by j.way
  where
    by : (way : Way) → take (carried_in way j.start j.stop) (drop j.start work) ≡ carried_by way (slice_range work j.start j.stop)
    by ways.Read = refl
    by ways.Write = few_between work j.start j.stop BLOCK
