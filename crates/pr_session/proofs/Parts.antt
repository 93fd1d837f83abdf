-- The parts of a work buffer.
use Rattle.std.proofs.Common.{◌≡◌, ℕ, ◌+◌, ◌-◌, ◌≤◌, ◌<◌, ◌⊎◌, inl, inr, true, false, leb, List, [], ◌∷◌, ◌++◌, length, take, drop, sym, ap, ◌∙◌, subst, arith}
use Rattle.std.proofs.lemmas.List.{drop_at, take_at, drop-take, take-append-drop, length-take, length-drop, drop_all}
use Rattle.std.proofs.lemmas.Bool.Decides.{leb_tells}
use Rattle.pr_words.specs.declared.nexus.Nexus.{Nexus}
use Rattle.pr_words.specs.declared.limits.TheConstants.{HELD, BLOCK, COMMAND_HEAD}
use Rattle.pr_grammar.specs.Bodies.{command_data}
use Rattle.pr_model.specs.Entries.{entry, Command, Step}
use Rattle.pr_io.specs.declared.outside.Medium as media
use Rattle.pr_io.specs.declared.outside.Disk as disks
use Rattle.pr_core.specs.declared.target.Core.{Core}
use Rattle.pr_core.specs.declared.answers.CommandOut.{CommandOut}
use Rattle.pr_core.specs.View.{Extends}
use Rattle.pr_core.specs.Outs.{out_of, step_out, IsCarried, LeavesData}
use Rattle.pr_tasks.specs.declared.step_out.StepOut.{StepOut}
use Rattle.pr_tasks.specs.declared.step_out.StepOut.TheVariants as steps
use Rattle.pr_tasks.specs.Steps.{LeavesBlock}
use Rattle.pr_session.specs.Places.{block_from}

-- a command that was run on the data of a buffer
pub command_entry : {M D : Type 0} {gm : media.Ghosts M} {gd : disks.Ghosts D} (old new : Core M D gm gd) (who lun sent : ℕ) (n : Nexus) (cdb work front data_out buf : List ℕ) (out : CommandOut)
    → front ≡ take COMMAND_HEAD work → data_out ≡ drop COMMAND_HEAD work → length work ≡ HELD
    → Extends old new (entry who n (Command lun cdb (take sent data_out)) (out_of out buf) ∷ [])
    → Extends old new (entry who n (Command lun cdb (take sent (drop COMMAND_HEAD work))) (out_of out (drop COMMAND_HEAD (front ++ buf))) ∷ [])
command_entry old new who lun sent n cdb work front data_out buf out is_front is_data size made =
    let twenty : length front ≡ COMMAND_HEAD = omega (arith, ap length is_front, length-take COMMAND_HEAD work, size) in
    let back : drop COMMAND_HEAD (front ++ buf) ≡ buf = drop_at front buf COMMAND_HEAD twenty in
    rw (sym is_data, back) made

pub command_kept : (out : CommandOut) (work front data_out buf : List ℕ) → front ≡ take COMMAND_HEAD work → data_out ≡ drop COMMAND_HEAD work → length work ≡ HELD → LeavesData out data_out buf → LeavesData out (drop COMMAND_HEAD work) (drop COMMAND_HEAD (front ++ buf))
command_kept out work front data_out buf is_front is_data size kept =
    let twenty : length front ≡ COMMAND_HEAD = omega (arith, ap length is_front, length-take COMMAND_HEAD work, size) in
    rw (sym is_data, drop_at front buf COMMAND_HEAD twenty) kept

cut_data : (work : List ℕ) (body : ℕ) → ((leb COMMAND_HEAD body ≡ true) × (COMMAND_HEAD ≤ body)) ⊎ ((leb COMMAND_HEAD body ≡ false) × (body < COMMAND_HEAD)) → take (body - COMMAND_HEAD) (drop COMMAND_HEAD work) ≡ command_data (take body work)
cut_data work body (inl long) =
    let e : COMMAND_HEAD + (body - COMMAND_HEAD) ≡ body = omega (arith, long.1) in
    sym (drop-take COMMAND_HEAD (body - COMMAND_HEAD) work) ∙ ap (λ (k : ℕ). drop COMMAND_HEAD (take k work)) e
cut_data work body (inr short) =
    let none : body - COMMAND_HEAD ≡ 0 = omega (arith, short.1) in
    ap (λ (k : ℕ). take k (drop COMMAND_HEAD work)) none ∙ sym (drop_all COMMAND_HEAD (take body work) (omega (arith, short.1, length-take body work)))

-- the data-out of a Command's body, in the buffer
pub data_out : (work : List ℕ) (body sent : ℕ) → body ≤ length work → sent ≡ length (command_data (take body work)) → take sent (drop COMMAND_HEAD work) ≡ command_data (take body work)
data_out work body sent within is =
    let size : sent ≡ body - COMMAND_HEAD = omega (arith, is, length-drop COMMAND_HEAD (take body work), length-take body work, within) in
    ap (λ (k : ℕ). take k (drop COMMAND_HEAD work)) size ∙ cut_data work body (leb_tells COMMAND_HEAD body)

-- a block in a buffer, and the buffer with another block in its place
pub record Holds (work front block tail left : List ℕ) (at : ℕ) : Type 0 where
  pub was : block_from at work ≡ block
  pub is : block_from at (front ++ (left ++ tail)) ≡ left
  pub before : take at (front ++ (left ++ tail)) ≡ take at work
  pub same : left ≡ block → front ++ (left ++ tail) ≡ work

pub holds : (work front rest block tail left : List ℕ) (at : ℕ) → front ≡ take at work → rest ≡ drop at work → block ≡ take BLOCK rest → tail ≡ drop BLOCK rest → at + BLOCK ≤ length work → length left ≡ BLOCK → Holds work front block tail left at
holds work front rest block tail left at is_front is_rest is_block is_tail within size =
    let gap : (at + BLOCK) - at ≡ BLOCK = omega arith in
    let long : length front ≡ at = omega (arith, ap length is_front, length-take at work, within) in
    record {
      was = ap (λ (n : ℕ). take n (drop at work)) gap ∙ ap (take BLOCK) (sym is_rest) ∙ sym is_block;
      is = ap (λ (n : ℕ). take n (drop at (front ++ (left ++ tail)))) gap ∙ ap (take BLOCK) (drop_at front (left ++ tail) at long) ∙ take_at left tail BLOCK size;
      before = take_at front (left ++ tail) at long ∙ is_front;
      same = λ kept. ap (λ (b : List ℕ). front ++ (b ++ tail)) (kept ∙ is_block) ∙ ap (λ (t : List ℕ). front ++ (take BLOCK rest ++ t)) is_tail ∙ ap (λ (r : List ℕ). front ++ r) (take-append-drop BLOCK rest ∙ is_rest) ∙ ap (λ (f : List ℕ). f ++ drop at work) is_front ∙ take-append-drop at work;
    }

-- a step on a block of a buffer
pub step_entry : {M D : Type 0} {gm : media.Ghosts M} {gd : disks.Ghosts D} (old new : Core M D gm gd) (who : ℕ) (n : Nexus) (work front block tail left : List ℕ) (at : ℕ) (out : StepOut) → Holds work front block tail left at
    → ((sent : List ℕ) → IsCarried out sent block → Extends old new (entry who n (Step sent) (step_out out left) ∷ []))
    → (sent : List ℕ) → IsCarried out sent (block_from at work) → Extends old new (entry who n (Step sent) (step_out out (block_from at (front ++ (left ++ tail)))) ∷ [])
step_entry old new who n work front block tail left at out h made sent carried =
    subst (λ (b : List ℕ). Extends old new (entry who n (Step sent) (step_out out b) ∷ [])) (sym h.is) (made sent (subst (IsCarried out sent) h.was carried))

pub step_kept : (out : StepOut) (work front block tail left : List ℕ) (at : ℕ) → Holds work front block tail left at → LeavesBlock out block left → LeavesBlock out work (front ++ (left ++ tail))
step_kept (steps.Wrote lba) work front block tail left at h kept = h.same kept
step_kept (steps.Read lba) work front block tail left at h kept = tt
step_kept (steps.Fault code) work front block tail left at h kept = tt
step_kept steps.Done work front block tail left at h kept = h.same kept
step_kept steps.Aborted work front block tail left at h kept = h.same kept
